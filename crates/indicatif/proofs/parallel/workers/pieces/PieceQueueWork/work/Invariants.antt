use Rattle.std.proofs.Common.{All}
use Rattle.std.specs.Fn.{FnReturnsAt}
use Rattle.indicatif.specs.Inside.Pieces.{IsEnded}
use Rattle.indicatif.proofs.parallel.workers.pieces.PieceQueueWork.work.Given as goal

abbrev pub invariant-loop : goal.invariant-loop
invariant-loop g l = All (IsEnded (FnReturnsAt g.F.Fn l.self.f.now) l.self.pieces.now) l.made.items
