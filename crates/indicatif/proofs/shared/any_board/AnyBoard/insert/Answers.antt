use Rattle.indicatif_board.specs.Calls.{answer_of, entrant_of, place_at}
use Rattle.indicatif.proofs.AnswerLemmas.{turned_so}
use Rattle.indicatif.proofs.shared.any_board.AnyBoard.insert.Goals as goal

pub returns-clause-can : goal.returns-clause-can
returns-clause-can g c = turned_so (place_at c.args.at) (entrant_of c.args.candidate) (answer_of c.call.result) c.id_given.result c.id_given.ensures.err c.call.ensures.can
