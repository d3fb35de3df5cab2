-- That the table of the bytes that end a run is right.
use Rattle.std.proofs.Common.{◌≡◌, ℕ, zero, suc, ◌<◌, inl, inr, Bool, true, false, get_or, refl, sym, ◌∙◌, ap, arith}
use Rattle.std.specs.Prelude.{◌==◌, ◌&&◌, not, bit_and, if◌then◌else◌}
use Rattle.std.proofs.lemmas.Bool.{cases_Bool, and_parts, eqb-true, eq-eqb, false≢true}
use Rattle.indicatif_text.specs.declared.spans.TheConstants.{ENDS}
use Rattle.indicatif_text.specs.declared.spans.CharacterClass.{CharacterClass}
use Rattle.indicatif_text.specs.declared.spans.CharacterClass.TheVariants.{Literal, Key, Word}
use Rattle.indicatif_text.specs.declared.spans.Words.TheVariants.{All, Style, Alternative}
use Rattle.indicatif_text.specs.Inside.Spans.{belongs, bit_of}

-- two tests with the same outcome
same : Bool → Bool → Bool
same a b = if a then b else not b

from_same : (a b : Bool) → same a b ≡ true → a ≡ b
unfolding same
from_same true true e = refl
from_same true false e = sym e
from_same false true e = e
from_same false false e = refl

below_last : (k n : ℕ) → k < suc n → (k ≡ n → ⊥) → k < n
below_last k n h other = omega (arith, h, other)

-- a test of each number below a bound
each_below : (ℕ → Bool) → ℕ → Bool
each_below p zero = true
each_below p (suc n) = p n && each_below p n

from_each : (p : ℕ → Bool) (n k : ℕ) → each_below p n ≡ true → k < n → p k ≡ true
unfolding each_below
from_each p zero k e h = absurd (omega (arith, h))
from_each p (suc n) k e h =
    let both = and_parts (p n) (each_below p n) e in
    elim (cases_Bool (k == n)) [
      | inl last ↦ ap p (eqb-true k n last) ∙ both.0
      | inr other ↦ from_each p n k both.1 (below_last k n h (λ e. false≢true (sym other ∙ eq-eqb k n e)))
    ]

pub ends_right : (run : CharacterClass) (byte : ℕ) → byte < 256 → (bit_and (get_or ENDS.now byte 0) (bit_of run) == 0) ≡ belongs run byte
unfolding each_below same
ends_right Literal byte h = from_same _ _ (from_each (λ b. same (bit_and (get_or ENDS.now b 0) 1 == 0) (belongs Literal b)) 256 byte refl h)
ends_right Key byte h = from_same _ _ (from_each (λ b. same (bit_and (get_or ENDS.now b 0) 2 == 0) (belongs Key b)) 256 byte refl h)
ends_right (Word All) byte h = from_same _ _ (from_each (λ b. same (bit_and (get_or ENDS.now b 0) 4 == 0) (belongs (Word All) b)) 256 byte refl h)
ends_right (Word Style) byte h = from_same _ _ (from_each (λ b. same (bit_and (get_or ENDS.now b 0) 8 == 0) (belongs (Word Style) b)) 256 byte refl h)
ends_right (Word Alternative) byte h = from_same _ _ (from_each (λ b. same (bit_and (get_or ENDS.now b 0) 16 == 0) (belongs (Word Alternative) b)) 256 byte refl h)
