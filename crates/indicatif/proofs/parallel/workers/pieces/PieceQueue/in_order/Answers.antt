use Rattle.std.proofs.Common.{rules, ◌≡◌, ◌∷◌, ◌≤◌, length, sym, arith}
use Rattle.std.specs.Fn.{FnReturnsAt}
use Rattle.std.specs.Vec.Iter.{into_iter_items}
use Rattle.std.proofs.lemmas.List.Elements.{All-head, All-rest, All-same}
use Rattle.std.proofs.lemmas.List.Sorted.{All-permutation}
use Rattle.indicatif.specs.Inside.Pieces.{IsEnded}
use Rattle.indicatif.proofs.WorkerLemmas.{none_gathered, all_gathered, some_missing}
use Rattle.indicatif.proofs.parallel.workers.pieces.PieceQueue.in_order.Goals as goal

pub loop-e-init : goal.loop-e-init
loop-e-init g c =
    let Q = IsEnded (FnReturnsAt g.F.Fn c.args.self.now.f.now) c.args.self.now.pieces.now in (
      none_gathered (FnReturnsAt g.F.Fn c.args.self.now.f.now) c.args.self.now.pieces.now _ c.requires.room,
      All-same Q _ _ (search rules) (All-permutation Q _ _ c.sort_unstable_by_key.ensures.permutation c.requires.ended),
    )

pub gathered_with-all-requires-clause-ended : goal.gathered_with-all-requires-clause-ended
gathered_with-all-requires-clause-ended g c =
    let Q = IsEnded (FnReturnsAt g.F.Fn c.args.self.now.f.now) c.args.self.now.pieces.now in
    let next : into_iter_items c.loop-e.e-iterator ≡ c.in-Some.e ∷ into_iter_items c.next.new.self = search rules in
    All-head Q _ _ (All-same Q _ _ (sym next) c.loop-e.invariant.1)

pub loop-e-preserved : goal.loop-e-preserved
loop-e-preserved g c =
    let Q = IsEnded (FnReturnsAt g.F.Fn c.args.self.now.f.now) c.args.self.now.pieces.now in
    let next : into_iter_items c.loop-e.e-iterator ≡ c.in-Some.e ∷ into_iter_items c.next.new.self = search rules in
    (c.gathered_with-all.ensures, All-rest Q _ _ _ next c.loop-e.invariant.1)

pub returns-then-all-count : goal.returns-then-all-count
returns-then-all-count g c = some_missing (FnReturnsAt g.F.Fn c.args.self.now.f.now) c.args.self.now.pieces.now _ _ _ c.loop-e.invariant.0.1

pub returns : goal.returns
returns g c =
    let end : length c.args.self.now.pieces.now ≤ c.loop-e.all.pieces = search rules in
    all_gathered (FnReturnsAt g.F.Fn c.args.self.now.f.now) c.args.self.now.pieces.now _ _ _ end c.loop-e.invariant.0.1
