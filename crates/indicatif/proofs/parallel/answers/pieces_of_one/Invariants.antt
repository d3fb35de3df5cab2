use Rattle.std.proofs.Common.{All}
use Rattle.std.specs.Fn.{FnReturnsAt}
use Rattle.indicatif.specs.Inside.PartAnswers.{AnswersPart}
use Rattle.indicatif.proofs.parallel.answers.pieces_of_one.Given as goal

abbrev pub invariant-loop : goal.invariant-loop
invariant-loop g l = All (AnswersPart (FnReturnsAt g.F.Fn l.fn.f) l.fn.items) l.pieces.items
