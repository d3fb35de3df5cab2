use Rattle.std.proofs.Common.{rules, ◌≡◌, ◌∷◌, sym, arith}
use Rattle.std.specs.Fn.{FnReturnsAt}
use Rattle.std.specs.Vec.Iter.{into_iter_items}
use Rattle.std.proofs.lemmas.List.Elements.{All-head, All-rest, All-same}
use Rattle.std.proofs.lemmas.List.Sorted.{All-permutation}
use Rattle.indicatif.specs.Inside.PartAnswers.{AnswersPart}
use Rattle.indicatif.proofs.PartAnswerLemmas.{piece_behind, rest_behind}
use Rattle.indicatif.proofs.parallel.part_answers.in_order.Goals as goal

pub loop-piece-init : goal.loop-piece-init
loop-piece-init g c =
    let Q = AnswersPart (FnReturnsAt g.F.Fn c.args.f.now) c.args.items.now in (
      omega arith,
      rw c.requires.empty tt,
      All-same Q _ _ (search rules) (All-permutation Q _ _ c.sort_unstable_by_key.ensures.permutation c.requires.pieces),
    )

pub loop-piece-preserved : goal.loop-piece-preserved
loop-piece-preserved g c =
    let Q = AnswersPart (FnReturnsAt g.F.Fn c.args.f.now) c.args.items.now in
    let next : into_iter_items c.loop-piece.piece-iterator ≡ c.in-Some.piece ∷ into_iter_items c.next.new.self = search rules in
    let is : Q c.in-Some.piece = All-head Q _ _ (All-same Q _ _ (sym next) c.loop-piece.invariant.2) in
    let step = rw c.in_ok-place.was at c.put_behind.ensures in
    let more = piece_behind (FnReturnsAt g.F.Fn c.args.f.now) c.args.items.now c.in-Some.piece _ _ _ _ c.loop-piece.invariant.0 c.loop-piece.invariant.1 is step in (
      more.0,
      more.1,
      All-rest Q _ _ _ next c.loop-piece.invariant.2,
    )

pub returns : goal.returns
returns g c =
    let rest = rw c.in_ok-rest.was at c.answers_of.ensures in
    let whole = rw c.in_ok-append.was at c.append.ensures.items in
    rest_behind (FnReturnsAt g.F.Fn c.args.f.now) c.args.items.now c.loop-piece.place _ _ _ c.loop-piece.invariant.1 rest whole
