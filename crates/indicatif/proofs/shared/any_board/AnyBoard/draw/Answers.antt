use Rattle.std.proofs.Common.{subst, sym}
use Rattle.indicatif_board.specs.Calls.{call_of, answer_of}
use Rattle.indicatif.specs.Inside.SharedBoards.{SharedDraws}
use Rattle.indicatif.proofs.shared.any_board.AnyBoard.draw.Goals as goal

pub returns-clause-made : goal.returns-clause-made
returns-clause-made g c = (answer_of c.call.result, c.drawn_of.ensures, c.call.ensures.made)

pub returns-clause-can : goal.returns-clause-can
returns-clause-can g c = subst (SharedDraws _ (call_of c.args.call)) (sym c.drawn_of.ensures) c.call.ensures.can
