-- That a quotient rounded by its rest is the rounded quotient.
use Rattle.std.proofs.Common.{◌≡◌, ℕ, ◌+◌, ◌/◌, ◌%◌, Bool, ap, if◌then◌else◌}
use Rattle.std.specs.Prelude.{◌==◌}
use Rattle.indicatif_text.specs.Format.{rounds_up, round}

-- by the answer of the test
pub rounded_by : (a b : ℕ) (up : Bool) → up ≡ rounds_up (a / b % 2 == 1) (a % b) b → (if up then a / b + 1 else a / b) ≡ round a b
unfolding round
rounded_by a b up e = ap (λ t. if t then a / b + 1 else a / b) e
