use Rattle.std.proofs.Common.{All}
use Rattle.std.specs.Fn.{FnReturnsAt}
use Rattle.std.specs.Vec.Iter.{into_iter_items}
use Rattle.indicatif.specs.Inside.Pieces.{IsEnded, IsGathered}
use Rattle.indicatif.proofs.parallel.workers.pieces.PieceQueue.in_order.Given as goal

abbrev pub invariant-loop-e : goal.invariant-loop-e
invariant-loop-e g l =
    IsGathered (FnReturnsAt g.F.Fn l.self.f.now) l.self.pieces.now l.all
    × All (IsEnded (FnReturnsAt g.F.Fn l.self.f.now) l.self.pieces.now) (into_iter_items l.e-iterator)
