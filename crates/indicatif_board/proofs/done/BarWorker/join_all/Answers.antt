use Rattle.std.proofs.Common.{rules, ◌≡◌, ◌+◌, ◌≤◌, ◌∷◌, sym, ap, ◌∙◌, subst, All, arith}
use Rattle.std.specs.Prelude.{max}
use Rattle.std.proofs.lemmas.List.Elements.{All-cons, All-head, All-rest, All-same}
use Rattle.std.specs.Vec.Iter.{into_iter_items}
use Rattle.indicatif_board.specs.Done.{shares_of, added_by}
use Rattle.indicatif_board.proofs.DividedLemmas.{shares_of-cons, added_by-cons}
use Rattle.indicatif_board.proofs.done.BarWorker.join_all.Goals as goal

pub loop-worker-init : goal.loop-worker-init
loop-worker-init c =
    let split : c.args.workers.items ≡ c.in_ok-all.all ∷ into_iter_items c.into_iter-worker-iterator.result = search rules in
    let all_of = All-same (λ w. w.adds_to ≡ c.args.done.now) _ _ (sym split) c.requires.of in (
      All-head (λ w. w.adds_to ≡ c.args.done.now) _ _ all_of,
      All-rest (λ w. w.adds_to ≡ c.args.done.now) _ _ _ split c.requires.of,
      omega (arith, ap shares_of split, shares_of-cons c.in_ok-all.all (into_iter_items c.into_iter-worker-iterator.result)),
      omega (arith, ap added_by split, added_by-cons c.in_ok-all.all (into_iter_items c.into_iter-worker-iterator.result)),
      λ most others own.
          subst (All (λ w. w.account.seen ≤ most)) (sym split) (All-cons (λ w. w.account.seen ≤ most) c.in_ok-all.all (into_iter_items c.into_iter-worker-iterator.result) own others),
    )

pub loop-worker-preserved : goal.loop-worker-preserved
loop-worker-preserved c =
    let split : into_iter_items c.loop-worker.worker-iterator ≡ c.in-Some.worker ∷ into_iter_items c.next-in-loop-worker.new.self = search rules in (
      ap (λ w. w.adds_to) c.join-all.ensures.joined ∙ c.loop-worker.invariant.0,
      All-rest (λ w. w.adds_to ≡ c.args.done.now) _ _ _ split c.loop-worker.invariant.1,
      omega (
        arith,
        ap shares_of split,
        shares_of-cons c.in-Some.worker (into_iter_items c.next-in-loop-worker.new.self),
        ap (λ w. w.account.parts) c.join-all.ensures.joined,
        c.loop-worker.invariant.2,
      ),
      omega (
        arith,
        ap added_by split,
        added_by-cons c.in-Some.worker (into_iter_items c.next-in-loop-worker.new.self),
        ap (λ w. w.account.added) c.join-all.ensures.joined,
        c.loop-worker.invariant.3,
      ),
      λ most others own.
          let both : max (max c.loop-worker.all.account.seen c.in-Some.worker.account.seen) (c.loop-worker.all.account.added + c.in-Some.worker.account.added) ≤ most =
          omega (arith, own, ap (λ w. w.account.seen) c.join-all.ensures.joined) in
          c.loop-worker.invariant.4 most
          (subst (All (λ w. w.account.seen ≤ most)) (sym split) (All-cons (λ w. w.account.seen ≤ most) c.in-Some.worker (into_iter_items c.next-in-loop-worker.new.self) (omega (arith, both)) others))
          (omega (arith, both)),
    )

pub join-all-requires-clause-other_of : goal.join-all-requires-clause-other_of
join-all-requires-clause-other_of c =
    let split : into_iter_items c.loop-worker.worker-iterator ≡ c.in-Some.worker ∷ into_iter_items c.next-in-loop-worker.new.self = search rules in
    All-head (λ w. w.adds_to ≡ c.args.done.now) _ _ (All-same (λ w. w.adds_to ≡ c.args.done.now) _ _ (sym split) c.loop-worker.invariant.1)
