use Rattle.std.proofs.Common.{◌≡◌, ◌<◌, ◌&&◌, not, ℕ, Bool, true, false, arith, subst, get_or, length}
use Rattle.std.specs.Prelude.{◌==◌}
use Rattle.std.proofs.lemmas.Bool.Decides.{nat_tests}
use Rattle.indicatif_term.specs.Inside.Rests.{AreShared}
use Rattle.indicatif_term.proofs.SharedLemmas.{shared_none, shared_next}
use Rattle.indicatif_term.proofs.engine.inks.are_plain.Goals as goal

seen : (same : Bool) (x y : ℕ) → ((same && (x == y)) && not (x == 0x1B)) ≡ true → (same ≡ true) × (x ≡ y) × ((x == 0x1B) ≡ false)
seen same x y e = grind (arith, nat_tests, e)

pub loop-at-init : goal.loop-at-init
loop-at-init c = record { same = λ _. shared_none c.args.a.now c.args.b.now }

pub loop-at-preserved : goal.loop-at-preserved
loop-at-preserved c =
    let a = c.args.a.now in
    let b = c.args.b.now in
    let at = c.loop-at.at in
    let within : at < length b = omega (arith, c.requires, c.loop-at-test.true) in
    record {
      same = λ yes.
          let parts = seen c.loop-at.same (get_or a at 0) (get_or b at 0) yes in shared_next at a b (c.loop-at.invariant.same parts.0) c.loop-at-test.true within parts.1 parts.2;
    }

pub returns : goal.returns
returns c = λ yes.
    let s : AreShared c.loop-at.at c.args.a.now c.args.b.now = c.loop-at.invariant.same yes in
    let all : c.loop-at.at ≡ length c.args.a.now = omega (arith, s.own, c.loop-at-test.false) in
    subst (λ n. AreShared n c.args.a.now c.args.b.now) all s
