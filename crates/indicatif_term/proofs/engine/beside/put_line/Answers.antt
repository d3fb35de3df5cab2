use Rattle.std.proofs.Common.{◌<◌, refl, sym, ◌∙◌, ap, get_or, set, length, []}
use Rattle.std.specs.Prelude.{string_bytes}
use Rattle.std.proofs.lemmas.List.{map-set, get_or-map}
use Rattle.indicatif_term.specs.Standing.{texts}
use Rattle.indicatif_term.specs.declared.engine.remembered.StandingLine.{StandingLine}
use Rattle.indicatif_term.proofs.BesideLemmas.{counts_set}
use Rattle.indicatif_term.proofs.RenewedLemmas.{place_new, over_new}
use Rattle.indicatif_term.proofs.engine.beside.put_line.Goals as goal

pub returns : goal.returns
returns c =
    let ys = c.args.lines.now in
    let r = c.index-lines-at.result in
    let x = get_or ys c.args.line.at r in
    let same = ap (get_or ys c.args.line.at) (sym c.index-lines-at.is) in
    let bytes = λ (l : StandingLine). string_bytes l.text in
    let h : c.args.line.at < length ys = c.requires.within in
    let before = ap string_bytes c.replace-before.ensures.after ∙ ap string_bytes c.replace-old.ensures.value
    ∙ sym (get_or-map bytes ys c.args.line.at r [] h) in
    let text = ap string_bytes c.replace-old.ensures.after in
    record {
      texts = map-set bytes ys c.args.line.at _ ∙ ap (set (texts ys) c.args.line.at) text;
      counts = counts_set ys c.args.line.at x _ same refl;
      in_place = λ w on p f. place_new w on ys x _ c.args.line p f same refl text refl refl;
      over = λ w on p f stood. over_new w on ys _ c.args.line p f text refl (before ∙ stood);
    }
