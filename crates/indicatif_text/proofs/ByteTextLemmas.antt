-- Which prefix a number of bytes has, and that its text is put together as the definition says.
use Rattle.std.proofs.Common.{◌≡◌, ℕ, zero, suc, ◌+◌, ◌-◌, ◌*◌, ◌/◌, ◌^◌, ◌<◌, ◌≤◌, ◌⊎◌, inl, inr, List, [], ◌∷◌, ◌++◌, length, get_or, refl, sym, ap, ◌∙◌, subst, arith, eq-zero-or-pos, add-one, append_assoc, append-nil, take, drop-cons}
use Rattle.std.specs.Prelude.{codes, nat_le}
use Rattle.std.specs.Fmt.{decimal}
use Rattle.std.proofs.Math.Nat.{pow-le-pow_right, pow-suc, pow-zero, lt-div-mul-add}
use Rattle.std.proofs.lemmas.Nat.{mul-le}
use Rattle.std.proofs.lemmas.Bool.{le-leb, lt-leb, le-ltb, lt-ltb, cond_both}
use Rattle.indicatif_text.specs.Format.{round, last_digits, fixed_point, prefix_exponent, prefix_letter, bytes_text}

at_top : (base e k n : ℕ) → e ≡ suc k → (e ≡ 1) ⊎ (base ^ e ≤ n) → prefix_exponent base (suc k) n ≡ e
at_top base e zero n is (inl one) =
    cond_both (nat_le (base ^ (0 + 1)) n) (0 + 1) (prefix_exponent base 0 n) (λ x. x ≡ e) (λ reached. sym one) (λ missed. sym one)
at_top base e (suc k) n is (inl one) = absurd (omega arith)
at_top base e k n is (inr reached) =
    let same : e ≡ k + 1 = omega arith in
    rw (le-leb (base ^ (k + 1)) n (subst (λ x. base ^ x ≤ n) same reached)) (sym same)

-- the power that was reached, and past which none is reached, is the prefix's
pub exponent_found : (base e k n : ℕ) → 0 < base → 1 ≤ e → e ≤ k → ((e ≡ 1) ⊎ (base ^ e ≤ n)) → ((e ≡ k) ⊎ (n < base ^ (e + 1)))
    → prefix_exponent base k n ≡ e
exponent_found base e zero n some low high reached past = absurd (omega arith)
exponent_found base e (suc k) n some low high reached past = elim (eq-zero-or-pos (suc k - e)) [
  | inl none ↦ at_top base e k n (omega arith) reached
  | inr less ↦
      let below : n < base ^ (e + 1) = elim past [ inl is ↦ absurd (omega arith) | inr h ↦ h ] in
      let up : e + 1 ≤ k + 1 = omega arith in
      rw (lt-leb (base ^ (k + 1)) n (omega (arith, pow-le-pow_right some up))) (exponent_found base e k n some low (omega arith) reached (inr below))
]

pub power_one : (base : ℕ) → base ≡ base ^ 1
power_one base = omega (arith, pow-suc base 0, ap (λ x. x * base) (pow-zero base))

-- a power of at least the base
pub power_low : (base e : ℕ) → 0 < base → 1 ≤ e → base ≤ base ^ e
power_low base e some low = omega (arith, power_one base, pow-le-pow_right some low)

-- where the next power is not reached
pub past_power : (base n size e : ℕ) → 0 < base → size ≡ base ^ e → n / base < size → n < base ^ (e + 1)
past_power base n size e some size_is few =
    let next : base ^ (e + 1) ≡ size * base = rw (add-one, pow-suc base e, size_is) refl in
    let product : (n / base + 1) * base ≤ size * base = mul-le (n / base + 1) base size base (omega arith) (omega arith) in
    omega (arith, next, product, lt-div-mul-add {a = n} some)

letter_at : (k : ℕ) (letters : List ℕ) → k - 1 < length letters → prefix_letter k letters ≡ get_or letters (k - 1) 0 ∷ []
letter_at k letters inside = ap (take 1) (drop-cons letters (k - 1) 0 inside)

-- the pieces of the text, from its end
pub prefixed : (letters tail : List ℕ) (base n k h size : ℕ) → base ≤ n → k ≡ prefix_exponent base 6 n → size ≡ base ^ k → h ≡ round (n * 100) size
    → k - 1 < length letters
    → decimal (h / 100) ++ (0x2E ∷ (last_digits 2 h ++ (0x20 ∷ get_or letters (k - 1) 0 ∷ (tail ++ [])))) ≡ bytes_text base letters tail n
unfolding bytes_text fixed_point
prefixed letters tail base n k h size enough k_is size_is h_is inside =
    let shape : ℕ → List ℕ = λ k. fixed_point n (base ^ k) 2 ++ codes " " ++ prefix_letter k letters ++ tail in
    let here : decimal (h / 100) ++ (0x2E ∷ (last_digits 2 h ++ (0x20 ∷ get_or letters (k - 1) 0 ∷ (tail ++ [])))) ≡ shape k =
    rw (h_is, size_is, letter_at k letters inside) (simp (append_assoc, append-nil)) in
    rw (le-ltb n base enough) (here ∙ ap shape k_is)

-- below the base
pub unprefixed : (letters tail : List ℕ) (base n : ℕ) → n < base → decimal n ++ codes " B" ≡ bytes_text base letters tail n
unfolding bytes_text
unprefixed letters tail base n few = rw (lt-ltb n base few) refl
