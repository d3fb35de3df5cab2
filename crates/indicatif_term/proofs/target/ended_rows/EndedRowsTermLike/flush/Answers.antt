use Rattle.std.proofs.Common.{[]}
use Rattle.indicatif_term.specs.EndedRows.{Together}
use Rattle.indicatif_term.proofs.OwnRowsLemmas.{writes_quietly}
use Rattle.indicatif_term.proofs.EndedRowLemmas.{fall_fails, then_falls}
use Rattle.indicatif_term.proofs.EndedTurnLemmas.{handed_between, also_sent}
use Rattle.indicatif_term.proofs.EndedTextLemmas.{draws_by, draws_not, none_after}
use Rattle.indicatif_term.proofs.target.ended_rows.EndedRowsTermLike.flush.Goals as goal

pub returns-in_err-end : goal.returns-in_err-end
returns-in_err-end g c =
    let view = g.T.TermLike.view in
    let r = c.from_residual.result in
    record {
      writes = writes_quietly _ r (fall_fails view {Q' = Together view} {g = λ s. s} r c.from_residual.ensures.1 c.in_err-end.ensures).carries.quiet;
      draws = draws_not view r _ c.from_residual.ensures.1 c.in_err-end.ensures;
    }

pub returns : goal.returns
returns g c =
    let view = g.T.TermLike.view in
    let r = c.hand_on.result in
    let all = (then_falls view r c.in_ok-end.ensures (handed_between view r (also_sent c.end.new.self c.hand_on.new.self c.hand_on.ensures.same) c.hand_on.ensures.writes)).carries in
    record {
      writes = writes_quietly _ r all.quiet;
      draws = draws_by view r [] all (λ s m x. none_after s);
    }
