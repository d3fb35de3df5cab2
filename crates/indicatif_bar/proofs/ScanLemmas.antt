-- A byte found in a text: whether it is there, and the parts of the text before and behind it.
use Rattle.std.proofs.Common.{◌≡◌, ℕ, ◌+◌, ◌<◌, false, List, [], ◌∷◌, ◌++◌, length, take, drop, sym, ◌∙◌, ap, arith, Option, Some, None, All, append_assoc, subst}
use Rattle.std.specs.Prelude.{is_some, ◌==◌, get_or}
use Rattle.std.specs.List.{list_any, slice_split}
use Rattle.std.proofs.lemmas.List.{take_more, take-append-drop, get_or-take, length-take-le}
use Rattle.std.proofs.lemmas.List.Elements.{All-from_get_or}
use Rattle.std.proofs.lemmas.List.Folds.{list_any_none, list_any_at}
use Rattle.std.proofs.lemmas.List.Splits.{slice_split_none, slice_split_at}
use Rattle.std.proofs.lemmas.Bool.{false_from_ne_true, eqb-true, false≢true}
use Rattle.memchr.specs.Find.{IsFirstByte, NoneBefore, Passes, Nowhere, is_byte}

module _ (byte : ℕ) (text : List ℕ) where
  none_of : Nowhere (Passes (is_byte byte) text) 0 (length text) → All (λ x. (x == byte) ≡ false) text
  none_of h = All-from_get_or (λ x. (x == byte) ≡ false) text 0 (λ k within. false_from_ne_true (get_or text k 0 == byte) (h k (omega arith) within))

  none_before : (k : ℕ) → NoneBefore (Passes (is_byte byte) text) 0 (length text) k → All (λ x. (x == byte) ≡ false) (take k text)
  none_before k h =
      All-from_get_or (λ x. (x == byte) ≡ false) (take k text) 0 (λ i within.
      let low : i < k = omega (arith, within, length-take-le k text) in
      ap (λ x. x == byte) (get_or-take k text i 0 low) ∙ false_from_ne_true (get_or text i 0 == byte) (h.before i (omega arith) low))

  -- whether the byte is there
  pub found : (r : Option ℕ) → IsFirstByte (is_byte byte) text r → is_some r ≡ list_any (λ x. x == byte) text
  found None h = sym (list_any_none (λ x. x == byte) text (none_of h))
  found (Some k) h = sym (list_any_at (λ x. x == byte) text k 0 h.0.high h.1)

  -- a text without the byte is one part
  pub one_part : IsFirstByte (is_byte byte) text None → slice_split (λ x. x == byte) text ≡ text ∷ []
  one_part h = slice_split_none (λ x. x == byte) text (none_of h)

  -- else the first part ends where the byte first stands
  pub first_part : (k : ℕ) → IsFirstByte (is_byte byte) text (Some k) → slice_split (λ x. x == byte) text ≡ take k text ∷ slice_split (λ x. x == byte) (drop (k + 1) text)
  first_part k h =
      let more : take (k + 1) text ++ drop (k + 1) text ≡ take k text ++ (get_or text k 0 ∷ drop (k + 1) text) = ap (λ front. front ++ drop (k + 1) text) (take_more text k 0 h.0.high)
      ∙ append_assoc (take k text) (get_or text k 0 ∷ []) (drop (k + 1) text) in
      ap (slice_split (λ x. x == byte)) (sym (take-append-drop (k + 1) text) ∙ more)
      ∙ slice_split_at (λ x. x == byte) (take k text) (get_or text k 0) (drop (k + 1) text) (none_before k h.0) h.1

  -- the byte stands where it was found
  stands : (k : ℕ) → IsFirstByte (is_byte byte) text (Some k) → get_or text k 0 ≡ byte
  stands k h = eqb-true (get_or text k 0) byte h.1

-- a text without the byte is one part
pub whole : (byte : ℕ) (text : List ℕ) → list_any (λ x. x == byte) text ≡ false → slice_split (λ x. x == byte) text ≡ text ∷ []
whole byte text e =
    slice_split_none (λ x. x == byte) text (All-from_get_or (λ x. (x == byte) ≡ false) text 0 (λ k within.
    false_from_ne_true (get_or text k 0 == byte) (λ t. false≢true (sym e ∙ list_any_at (λ x. x == byte) text k 0 within t))))

-- what a search in the bytes of a text says of the text
module _ (byte : ℕ) (text hay : List ℕ) (same : hay ≡ text) (r : Option ℕ) (is : IsFirstByte (is_byte byte) hay r) where
  said : (o : Option ℕ) → r ≡ o → IsFirstByte (is_byte byte) text o
  said o e = subst (λ t. IsFirstByte (is_byte byte) t o) same (subst (λ o. IsFirstByte (is_byte byte) hay o) e is)

  pub one_part_of : r ≡ None → slice_split (λ x. x == byte) text ≡ text ∷ []
  one_part_of e = one_part byte text (said None e)

  pub parts_of : (k : ℕ) (before behind : List ℕ) → r ≡ Some k → before ≡ take k text → behind ≡ drop (k + 1) text → slice_split (λ x. x == byte) text ≡ before ∷ slice_split (λ x. x == byte) behind
  parts_of k before behind e front back =
      first_part byte text k (said (Some k) e)
      ∙ ap (λ t. t ∷ slice_split (λ x. x == byte) (drop (k + 1) text)) (sym front)
      ∙ ap (λ t. before ∷ slice_split (λ x. x == byte) t) (sym back)

  pub found_at : (k : ℕ) → r ≡ Some k → (k < length text) × (get_or text k 0 ≡ byte)
  found_at k e = let h = said (Some k) e in (h.0.high, stands byte text k h)
