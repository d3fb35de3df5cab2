use Rattle.std.proofs.Common.{sym, ap}
use Rattle.indicatif_term.specs.EndedRows.{Together}
use Rattle.indicatif_term.specs.Calls.{clear_bytes}
use Rattle.indicatif_term.proofs.OwnRowsLemmas.{writes_quietly}
use Rattle.indicatif_term.proofs.EndedRowLemmas.{carry_weaker, fall_fails, then_falls}
use Rattle.indicatif_term.proofs.EndedTurnLemmas.{within_together}
use Rattle.indicatif_term.proofs.EndedTextLemmas.{draws_by, draws_not}
use Rattle.indicatif_term.proofs.EndedTextLemmas.{cleared_after}
use Rattle.indicatif_term.proofs.target.ended_rows.EndedRowsTermLike.clear_line.Goals as goal

pub returns-in_err-begin : goal.returns-in_err-begin
returns-in_err-begin g c =
    let view = g.T.TermLike.view in
    let r = c.from_residual.result in
    record {
      writes = writes_quietly _ r (fall_fails view {Q' = Together view} {g = λ s. s} r c.from_residual.ensures.1 c.in_err-begin.ensures).carries.quiet;
      draws = draws_not view r _ c.from_residual.ensures.1 c.in_err-begin.ensures;
    }

pub returns : goal.returns
returns g c =
    let view = g.T.TermLike.view in
    let r = c.empty_row.result in
    let all = (then_falls view r c.in_ok-begin.ensures c.empty_row.ensures).carries in
    record {
      writes = writes_quietly _ r all.quiet;
      draws = draws_by view r clear_bytes (carry_weaker view r (λ s m m' x y. within_together view y) all) (λ s m x. sym (ap (λ t. t.screen) (cleared_after s)));
    }
