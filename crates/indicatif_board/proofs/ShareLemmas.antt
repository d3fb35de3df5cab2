-- A share that was halved a number of times in a row still has parts, and each half can be halved as often as is left.
use Rattle.std.proofs.Common.{◌≡◌, ℕ, suc, ◌+◌, ◌-◌, ◌*◌, ◌/◌, ◌^◌, ◌<◌, ◌≤◌, ap, ◌∙◌, arith}
use Rattle.std.proofs.Math.Nat.{pow-succ'}
use Rattle.std.proofs.lemmas.Nat.{pow_pos}
use Rattle.indicatif_board.specs.Done.{least_parts}

pub least_parts-positive : (splits parts : ℕ) → least_parts splits ≤ parts → 0 < parts
unfolding least_parts
least_parts-positive splits parts least =
    let some_part : 0 < 2 ^ (18446744073709551616 - splits) = pow_pos (18446744073709551616 - splits) in
    omega (arith, some_part, least)

pub least_parts-halves : (splits next parts : ℕ) → next ≡ splits + 1 → next ≤ 18446744073709551616 → least_parts splits ≤ parts
    → (least_parts next ≤ parts - parts / 2) × (least_parts next ≤ parts / 2)
unfolding least_parts
least_parts-halves splits next parts is few least =
    let one_more : 18446744073709551616 - splits ≡ suc (18446744073709551616 - next) = omega (arith, is, few) in
    let twice : 2 ^ (18446744073709551616 - splits) ≡ 2 * 2 ^ (18446744073709551616 - next) = ap (λ k. 2 ^ k) one_more ∙ pow-succ' 2 (18446744073709551616 - next) in
    (omega (arith, twice, least), omega (arith, twice, least))
