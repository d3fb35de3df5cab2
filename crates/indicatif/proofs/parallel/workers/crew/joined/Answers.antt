use Rattle.std.proofs.Common.{rules, ◌≡◌, ◌∷◌, sym, subst, IfOk, All}
use Rattle.std.specs.Vec.Iter.{into_iter_items}
use Rattle.std.proofs.lemmas.List.Elements.{All-head, All-rest, All-same}
use Rattle.indicatif.proofs.PartAnswerLemmas.{all_together}
use Rattle.indicatif.proofs.parallel.workers.crew.joined.Goals as goal

pub loop-thread-preserved : goal.loop-thread-preserved
loop-thread-preserved g c =
    let next : into_iter_items c.loop-thread.thread-iterator ≡ c.in-Some.thread ∷ into_iter_items c.next.new.self = search rules in
    let is = All-head (λ h. h.promise.0.value ≡ c.args.work.now) _ _ (All-same (λ h. h.promise.0.value ≡ c.args.work.now) _ _ (sym next) c.loop-thread.invariant.1) in
    let theirs = subst (λ w. IfOk c.join.result (λ made. All (g.K.Work.gives w) made.items)) is c.join.ensures in (
      all_together (g.K.Work.gives c.args.work.now) _ _ _ c.loop-thread.invariant.0 theirs c.together-all.ensures,
      All-rest (λ h. h.promise.0.value ≡ c.args.work.now) _ _ _ next c.loop-thread.invariant.1,
    )
