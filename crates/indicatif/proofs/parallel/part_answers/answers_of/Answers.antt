use Rattle.std.proofs.Common.{rules, ◌∷◌, [], length, refl, ap, arith}
use Rattle.std.specs.Fn.{FnReturnsAt}
use Rattle.std.proofs.lemmas.List.{length-append}
use Rattle.indicatif.proofs.WorkerLemmas.{zip_one}
use Rattle.indicatif.proofs.parallel.part_answers.answers_of.Goals as goal

pub loop-item-preserved : goal.loop-item-preserved
loop-item-preserved g c =
    let whole = c.push_reserved.ensures.items in
    let long = length-append c.loop-item.made.items (c.f.result ∷ []) in
    let answers = FnReturnsAt g.F.Fn c.args.f.now in
    let items = c.args.items.now in
    let answered : answers c.item-item.result c.f.result = record { shown = _; shows = refl; says = record { met = c.f.ensures } } in (
      omega (arith, c.push_reserved.ensures.capacity, c.loop-item.invariant.0),
      omega (arith, ap length whole, long, c.loop-item.invariant.1),
      zip_one answers items c.loop-item.item-index c.item-item.result c.f.result _ _ (search rules) (search rules) whole c.loop-item.invariant.2 answered,
    )
