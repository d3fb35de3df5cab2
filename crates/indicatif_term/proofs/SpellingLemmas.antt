-- The character that whole UTF-8 bytes spell is the first of their characters.
use Rattle.std.proofs.Common.{◌≡◌, ℕ, ◌<◌, true, false, List, ◌++◌, length, get_or, Option, Some, None, refl, sym, ◌∙◌, ap, subst, arith}
use Rattle.std.specs.Prelude.{if◌then◌else◌, MatchOption}
use Rattle.std.specs.Str.{IsUtf8, is_utf8}
use Rattle.std.proofs.Math.Utf8.{encode}
use Rattle.std.proofs.lemmas.Bool.{false_from_ne_true}
use Rattle.std.proofs.lemmas.Str.{chars_past_char, IsUtf8-from_is_utf8, is_utf8-from_IsUtf8}
use Rattle.indicatif_term.specs.Terminal.{first_char}

first_by : (o : Option ℕ) (bs rest : List ℕ) (A : Type 0) → (A → length bs ≡ 0) → IsUtf8 bs → 0 < length bs → MatchOption o A (λ c. bs ≡ encode c ++ rest) →
    o ≡ Some (first_char bs)
first_by None bs rest A none u some m = absurd (omega (arith, none m))
first_by (Some c) bs rest A none u some m = ap (λ cs. Some (get_or cs 0 0)) (sym (chars_past_char bs rest c u m))

pub spelled : (o : Option ℕ) (bs rest self : List ℕ) (A : Type 0) → (A → length bs ≡ 0) → bs ≡ self → IsUtf8 self → 0 < length self →
    MatchOption o A (λ c. bs ≡ encode c ++ rest) → o ≡ (if is_utf8 self then Some (first_char self) else None)
spelled o bs rest self A none e u some m =
    let is : is_utf8 self ≡ true = is_utf8-from_IsUtf8 self u in
    rw is (first_by o bs rest A none (subst IsUtf8 (sym e) u) (omega (arith, ap length e)) m ∙ ap (λ xs. Some (first_char xs)) e)

pub not_spelled : (self : List ℕ) → (IsUtf8 self → ⊥) → None ≡ (if is_utf8 self then Some (first_char self) else None)
not_spelled self not = let is : is_utf8 self ≡ false = false_from_ne_true (is_utf8 self) (λ t. not (IsUtf8-from_is_utf8 self t)) in rw is refl
