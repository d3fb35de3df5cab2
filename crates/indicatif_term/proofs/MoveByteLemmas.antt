-- The bytes of a move, put together from its digits.
use Rattle.std.proofs.Common.{◌≡◌, ℕ, ◌+◌, ◌-◌, ◌<◌, ◌≤◌, List, [], ◌∷◌, ◌++◌, length, set, drop, refl, sym, ◌∙◌, ap, arith}
use Rattle.std.specs.Prelude.{decimal}
use Rattle.std.proofs.lemmas.Bool.{ne_eqb}
use Rattle.std.proofs.lemmas.List.{drop-set, length-set}
use Rattle.indicatif_term.specs.Calls.{move_bytes}

built_at : (bytes : List ℕ) (k n letter : ℕ) → 0 < n → k + 2 ≤ length bytes → drop (k + 2) bytes ≡ decimal n ++ letter ∷ [] →
    drop k (set (set bytes (k + 1) 0x5B) k 0x1B) ≡ move_bytes letter n
built_at bytes k n letter some h e =
    let test = ne_eqb n 0 (λ z. omega arith) in
    drop-set (set bytes (k + 1) 0x5B) k 0x1B (omega (arith, length-set bytes (k + 1) 0x5B))
    ∙ ap (λ xs. 0x1B ∷ xs) (drop-set bytes (k + 1) 0x5B (omega arith) ∙ ap (λ m. 0x5B ∷ drop m bytes) (let next : (k + 1) + 1 ≡ k + 2 = omega arith in next) ∙ ap (λ xs. 0x5B ∷ xs) e)
    ∙ rw test refl

pub built : (bytes : List ℕ) (start n letter : ℕ) → 0 < n → 2 ≤ start → start ≤ length bytes → drop start bytes ≡ decimal n ++ letter ∷ [] →
    drop (start - 2) (set (set bytes (start - 1) 0x5B) (start - 2) 0x1B) ≡ move_bytes letter n
built bytes start n letter some low high e =
    let k = start - 2 in
    let one : start - 1 ≡ k + 1 = omega arith in
    let two : start ≡ k + 2 = omega arith in
    ap (λ m. drop k (set (set bytes m 0x5B) k 0x1B)) one
    ∙ built_at bytes k n letter some (omega arith) (ap (λ m. drop m bytes) (sym two) ∙ e)
