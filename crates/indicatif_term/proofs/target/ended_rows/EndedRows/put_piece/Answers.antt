use Rattle.std.proofs.Common.{◌∙◌, Ok, chars, refl, sym}
use Rattle.indicatif_term.specs.Inside.EndedRows.{AreShown}
use Rattle.indicatif_term.proofs.EndedRowLemmas.{fall_fails, then_falls, from_weaker, adds}
use Rattle.indicatif_term.proofs.EndedTextLemmas.{one_text, colour_piece, return_piece, run_piece}
use Rattle.indicatif_term.proofs.target.ended_rows.EndedRows.put_piece.Goals as goal

pub returns-then-piece : goal.returns-then-piece
returns-then-piece g c = colour_piece g.T.TermLike.view c.args.piece c.put_colour.result c.if-piece.true c.put_colour.ensures

pub returns-then-eq : goal.returns-then-eq
returns-then-eq g c = return_piece g.T.TermLike.view c.args.piece c.go_to_front.result c.if-piece.false (one_text c.args.piece.text.now 0x0D (sym c.eq.ensures ∙ c.if-eq.true)) c.go_to_front.ensures

pub returns-in_err-leave_edge : goal.returns-in_err-leave_edge
returns-in_err-leave_edge g c =
    let view = g.T.TermLike.view in
    let r = c.from_residual.result in
    from_weaker view r refl (λ s m x. x.0) (fall_fails view r c.from_residual.ensures.1 c.in_err-leave_edge.ensures)

pub returns : goal.returns
returns g c =
    let view = g.T.TermLike.view in
    let r = c.put_run.result in
    run_piece view c.args.piece r c.if-piece.false
    (then_falls view r (adds view (AreShown (chars c.args.piece.text.now)) (Ok tt) c.in_ok-leave_edge.ensures) c.put_run.ensures)
