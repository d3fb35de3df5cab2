use Rattle.std.proofs.Common.{arith}
use Rattle.indicatif_term.proofs.EndedRowLemmas.{fall_fails}
use Rattle.indicatif_term.proofs.EndedTurnLemmas.{waits_there}
use Rattle.indicatif_term.proofs.target.ended_rows.EndedRows.leave.Goals as goal

pub returns-then-is_none : goal.returns-then-is_none
returns-then-is_none g c = c.rest.ensures (omega (arith, c.if-self-eq0.true))

pub returns-in_err-go_to_edge : goal.returns-in_err-go_to_edge
returns-in_err-go_to_edge g c = fall_fails g.T.TermLike.view c.from_residual.result c.from_residual.ensures.1 c.in_err-go_to_edge.ensures

pub returns : goal.returns
returns g c = waits_there g.T.TermLike.view c.in_ok-go_to_edge.ensures
