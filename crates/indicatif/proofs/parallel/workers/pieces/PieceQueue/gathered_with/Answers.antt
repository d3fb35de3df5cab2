use Rattle.std.proofs.Common.{◌<◌, length, arith}
use Rattle.std.specs.Fn.{FnReturnsAt}
use Rattle.indicatif.proofs.WorkerLemmas.{gathered_more, gathered_without}
use Rattle.indicatif.proofs.parallel.workers.pieces.PieceQueue.gathered_with.Goals as goal

pub with-requires : goal.with-requires
with-requires g c = record { room = omega (arith, c.requires.ended.0, c.if-piece-before.false, c.requires.room) }

pub overflow_add-result : goal.overflow_add-result
overflow_add-result g c = omega (arith, c.requires.ended.0, c.if-piece-before.false, c.requires.room)

pub returns-in-Some : goal.returns-in-Some
returns-in-Some g c =
    gathered_more (FnReturnsAt g.F.Fn c.args.self.now.f.now) c.args.self.now.pieces.now c.args.ended _ _ _ _ c.in-Some.more _ _
    c.requires.ended c.if-piece-before.false c.in-Some.is c.requires.before.1 c.with.ensures.pieces c.with.ensures.met c.with.ensures.answers

pub returns-in-None : goal.returns-in-None
returns-in-None g c =
    let next : c.args.before.pieces < length c.args.self.now.pieces.now = omega (arith, c.requires.ended.0, c.if-piece-before.false) in
    gathered_without (FnReturnsAt g.F.Fn c.args.self.now.f.now) c.args.self.now.pieces.now c.args.before.pieces _ _ next c.requires.before.1
