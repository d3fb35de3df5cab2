-- Bytes that go on, read by read and write by write, are those that came.
use Rattle.std.proofs.Common.{◌≡◌, ℕ, List, [], ◌++◌, Option, Result, Ok, Err, Bool, true, false, sym, subst, append_assoc, append-nil}
use Rattle.std.specs.Io.KnownBytes.{Consumes, IsAtEnd}
use Rattle.std.proofs.KnownBytes.{Consumes-trans, Appends-trans}
use Rattle.meter_parts.specs.declared.passing.Broken.{Broken}
use Rattle.meter_parts.specs.declared.passing.Broken.TheVariants.{Input, Output}
use Rattle.meter_parts.specs.Passing.{Passes, PassedOr}
use Rattle.meter_parts.specs.Inside.Passing.{PassedSome}

-- what came went, and then what came after it, but for what waits
pub passes_on : (a b c u v w : Option (List ℕ)) (waiting : List ℕ) → Passes a b u v [] → Passes b c v w waiting → Passes a c u w waiting
passes_on a b c u v w waiting p q = record {
  handed_on = p.handed_on ++ q.handed_on;
  came = subst (λ l. Consumes a c l) (sym (append_assoc p.handed_on q.handed_on waiting))
      (Consumes-trans a b c p.handed_on (q.handed_on ++ waiting) (subst (λ l. Consumes a b l) (append-nil p.handed_on) p.came) q.came);
  went = Appends-trans u v w p.handed_on q.handed_on p.went q.went;
}

module _ (a b c u v w : Option (List ℕ)) (before : Passes a b u v []) where
  -- the same of what one read gave: the last
  pub passed_last : (r : Result Bool Broken) → PassedSome b c v w r → r ≡ Ok true → Passes a c u w [] × IsAtEnd c
  passed_last r some is =
      let now : PassedSome b c v w (Ok true) = subst (λ x. PassedSome b c v w x) is some in
      (passes_on a b c u v w [] before now.0, now.1)

  -- not the last
  pub passed_more : (r : Result Bool Broken) → PassedSome b c v w r → r ≡ Ok false → Passes a c u w []
  passed_more r some is = passes_on a b c u v w [] before (subst (λ x. PassedSome b c v w x) is some)

  later : (broken : Broken) → PassedOr b c v w broken → PassedOr a c u w broken
  later (Input kind) now = passes_on a b c u v w [] before now
  later (Output kind) now = (now.0, passes_on a b c u v w now.0 before now.1)

  -- or where it broke off
  pub passed_or : (broken : Broken) (r : Result Bool Broken) → PassedSome b c v w r → r ≡ Err broken → PassedOr a c u w broken
  passed_or broken r some is = later broken (subst (λ x. PassedSome b c v w x) is some)
