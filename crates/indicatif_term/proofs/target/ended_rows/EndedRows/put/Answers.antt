use Rattle.std.proofs.Common.{◌∙◌, ◌++◌, [], Ok, Err, chars, refl, sym, ap, subst, append_assoc, append-nil}
use Rattle.std.specs.Prelude.{flat_map}
use Rattle.std.specs.List.{AllByRecursion}
use Rattle.indicatif_text.specs.Columns.{visible}
use Rattle.indicatif_text.specs.Pieces.{text_piece}
use Rattle.indicatif_text.specs.PieceLaws.{IsExact, run_text}
use Rattle.indicatif_text.proofs.PieceLawLemmas.{runs_are_visible, all_exact}
use Rattle.indicatif_term.specs.Inside.EndedRows.{Within, WithinIf, all_put, AreShown}
use Rattle.indicatif_term.proofs.EndedRowLemmas.{to_weaker, fall_fails, stands}
use Rattle.indicatif_term.proofs.EndedTextLemmas.{more, run_shown, all_put_more}
use Rattle.indicatif_term.proofs.target.ended_rows.EndedRows.put.Goals as goal

pub rest-init : goal.rest-init
rest-init g c = (
  [],
  ap (flat_map run_text) c.pieces-rest.ensures ∙ runs_are_visible (chars c.args.text.now),
  subst (AllByRecursion IsExact) (sym c.pieces-rest.ensures) (all_exact (chars c.args.text.now)).exact,
  stands g.T.TermLike.view refl (λ s m x. x),
)

pub returns-in_err-put_piece : goal.returns-in_err-put_piece
returns-in_err-put_piece g c =
    let view = g.T.TermLike.view in
    let inv = c.rest.invariant in
    let left = ap (λ ps. inv.0 ++ flat_map run_text ps) (sym c.in-Some.ensures.steps) ∙ inv.1 in
    let exact = subst (AllByRecursion IsExact) c.in-Some.ensures.steps inv.2 in
    fall_fails view c.from_residual.result c.from_residual.ensures.1
    (more view (Err c.in_err-put_piece.field-0.0) (λ all. (run_shown inv.0 (run_text (text_piece c.in-Some.piece)) _ (sym left) all, exact.0)) inv.3 c.in_err-put_piece.ensures)

pub rest-preserved : goal.rest-preserved
rest-preserved g c =
    let view = g.T.TermLike.view in
    let inv = c.rest.invariant in
    let run = run_text (text_piece c.in-Some.piece) in
    let X = AreShown (visible (chars c.args.text.now)) in
    let left = ap (λ ps. inv.0 ++ flat_map run_text ps) (sym c.in-Some.ensures.steps) ∙ inv.1 in
    let exact = subst (AllByRecursion IsExact) c.in-Some.ensures.steps inv.2 in (
      inv.0 ++ run,
      append_assoc inv.0 run (flat_map run_text c.next.new.self) ∙ left,
      exact.1,
      to_weaker view (Ok tt) (λ s m m' x y. subst (λ u. WithinIf view X c.put_piece.new.self u m') (sym (all_put_more inv.0 run s)) y)
          (more view (Ok tt) (λ all. (run_shown inv.0 run _ (sym left) all, exact.0)) inv.3 c.in_ok-put_piece.ensures),
    )

pub returns : goal.returns
returns g c =
    let view = g.T.TermLike.view in
    let inv = c.rest.invariant in
    let all = sym (append-nil inv.0) ∙ ap (λ ps. inv.0 ++ flat_map run_text ps) (sym c.in_default.ensures.steps.0) ∙ inv.1 in
    to_weaker view (Ok tt) (λ s m m' x y. subst (λ cs. Within view c.rest.self (all_put cs s) m') all y.0) inv.3
