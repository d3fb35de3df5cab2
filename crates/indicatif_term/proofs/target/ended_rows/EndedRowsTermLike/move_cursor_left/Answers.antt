use Rattle.std.proofs.Common.{◌<◌, ◌^◌, refl, subst, arith}
use Rattle.indicatif_term.specs.EndedRows.{Together}
use Rattle.indicatif_term.specs.Inside.EndedRows.{Within}
use Rattle.indicatif_term.specs.Terminal.{after}
use Rattle.indicatif_term.specs.Shows.{resting}
use Rattle.indicatif_term.specs.Calls.{move_bytes}
use Rattle.indicatif_term.proofs.OwnRowsLemmas.{writes_quietly}
use Rattle.indicatif_term.proofs.EndedRowLemmas.{from_weaker, to_weaker, carry_weaker, fall_fails, then_falls}
use Rattle.indicatif_term.proofs.EndedTurnLemmas.{within_together}
use Rattle.indicatif_term.proofs.EndedTextLemmas.{draws_by, draws_not, left_there, left_fits_in}
use Rattle.indicatif_term.proofs.target.ended_rows.EndedRowsTermLike.move_cursor_left.Goals as goal

pub returns-in_err-begin : goal.returns-in_err-begin
returns-in_err-begin g c =
    let view = g.T.TermLike.view in
    let r = c.from_residual.result in
    record {
      writes = writes_quietly _ r (fall_fails view {Q' = Together view} {g = λ s. s} r c.from_residual.ensures.1 c.in_err-begin.ensures).carries.quiet;
      draws = draws_not view r _ c.from_residual.ensures.1 c.in_err-begin.ensures;
    }

pub returns : goal.returns
returns g c =
    let view = g.T.TermLike.view in
    let r = c.go_to.result in
    let small : c.args.n < 2 ^ 64 = omega (arith, c.ranges.n) in
    let moved = to_weaker view {Q' = Within view} {f' = λ s. (after (resting s) (move_bytes 0x44 c.args.n)).screen} r
    (λ s m m' x y. subst (λ u. Within view c.go_to.new.self u m') (left_there view c.args.n c.saturating_sub.ensures small x.0) y)
    (from_weaker view r refl (λ s m x. (x, left_fits_in view c.args.n c.saturating_sub.ensures x.0)) c.go_to.ensures) in
    let all = (then_falls view r c.in_ok-begin.ensures moved).carries in
    record {
      writes = writes_quietly _ r all.quiet;
      draws = draws_by view r (move_bytes 0x44 c.args.n) (carry_weaker view r (λ s m m' x y. within_together view y) all) (λ s m x. refl);
    }
