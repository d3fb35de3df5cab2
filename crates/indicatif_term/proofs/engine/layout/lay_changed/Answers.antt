use Rattle.std.proofs.Common.{refl, sym, ap, subst, ◌≡◌, ◌∙◌, ◌+◌, take, arith}
use Rattle.std.proofs.lemmas.List.{get_or_default}
use Rattle.std.specs.Prelude.{string_bytes, ◌||◌}
use Rattle.indicatif_term.specs.Standing.{texts}
use Rattle.indicatif_term.specs.Inside.Layouts.{IsBeside}
use Rattle.indicatif_term.specs.Inside.Renewed.{IsNew, AreFitting, renewed}
use Rattle.indicatif_term.specs.declared.engine.beside.NewLine.{NewLine}
use Rattle.indicatif_term.proofs.RenewedLemmas.{new_fits, new_texts}
use Rattle.indicatif_term.proofs.LaidLemmas.{kept_on}
use Rattle.indicatif_term.proofs.engine.layout.lay_changed.Goals as goal

pub returns : goal.returns
returns c =
    let w = c.args.window.columns in
    let own = c.args.own.text.now in
    let on = c.args.standing.now in
    let l = c.args.laid.now in
    let r = c.requires.beside in
    let x = c.index-standing-laid.result in
    let b = subst (IsBeside c.args.window.rows on l c.args.own.bar) (sym r.1.line_is ∙ get_or_default on l.at r.0 x r.1.within ∙ sym c.index-standing-laid.is) r.1 in
    let sized = c.in_ok-turn.ensures.sized in
    let n : NewLine = record { at = l.at; text = c.in_ok-text.text; turn = c.in_ok-turn.turn } in
    let same : x.rows ≡ n.turn.rows = omega (arith, c.if-turn-line.false) in
    let is : IsNew w l.at x.rows (string_bytes x.text) own n = record {
      at_is = refl;
      text_is = c.in_ok-text.ensures.text;
      rows_are = same ∙ sized.rows_are;
      last_is = sized.last_is;
      narrow = sized.narrow;
      single = sized.single;
      turned = c.in_ok-turn.ensures.turned;
    } in
    let pushed = c.in_ok-push.ensures.items in
    let m = record l { changed = c.push.new.self; leaves_open = l.leaves_open || c.is_left_open.result } in
    record {
      laid = kept_on w c.args.window.rows c.args.own.bar n.turn.rows on own x l m c.go_on.new.laid c.requires.summed b sized.rows_are same sized.narrow
          refl refl refl refl c.go_on.ensures (λ fit. (
            subst (AreFitting w on (l.at + 1)) (sym pushed) (new_fits w on l.at x own l.changed.items b.within b.line_is fit n is),
            ap (λ ns. take (l.at + 1) (renewed (texts on) ns)) pushed ∙ new_texts w on l.at x own l.changed.items b.within b.line_is fit n is,
          ));
    }
