-- The run in front of a text and what follows it, character by character; and words within a run.
use Rattle.std.proofs.Common.{◌≡◌, ℕ, suc, ◌+◌, inl, inr, Bool, true, false, List, [], ◌∷◌, ◌++◌, length, get_or, refl, sym, ◌∙◌, ap, arith, length-append}
use Rattle.std.specs.Prelude.{◌&&◌, take_while, chars, IsUtf8}
use Rattle.std.specs.List.{prefix_len}
use Rattle.std.proofs.Math.Utf8.{encode, encodes}
use Rattle.std.proofs.lemmas.Bool.{cases_Bool}
use Rattle.std.proofs.lemmas.List.{take-append-drop}
use Rattle.std.proofs.lemmas.Str.{encodes-append, encodes-chars, length-encode, len_utf8_bounds}
use Rattle.indicatif_text.specs.Template.{after_run}

module _ (p : ℕ → Bool) (c : ℕ) (cs : List ℕ) where
  pub run_more : p c ≡ true → take_while p (c ∷ cs) ≡ c ∷ take_while p cs
  run_more passes = let one : 1 + prefix_len p cs ≡ suc (prefix_len p cs) = omega arith in rw (passes, one) refl

  pub run_ends : p c ≡ false → take_while p (c ∷ cs) ≡ []
  run_ends fails = rw fails refl

  pub left_more : p c ≡ true → after_run p (c ∷ cs) ≡ after_run p cs
  left_more passes = let one : 1 + prefix_len p cs ≡ suc (prefix_len p cs) = omega arith in rw (passes, one) refl

  pub left_ends : p c ≡ false → after_run p (c ∷ cs) ≡ c ∷ cs
  left_ends fails = rw fails refl

-- what follows a run doesn't belong to it
pub left_fails : (p : ℕ → Bool) (text : List ℕ) (c : ℕ) (cs : List ℕ) → after_run p text ≡ c ∷ cs → p c ≡ false
left_fails p [] c cs e = absurd (omega (arith, ap length e))
left_fails p (x ∷ xs) c cs e = elim (cases_Bool (p x)) [
  | inl passes ↦ left_fails p xs c cs (sym (left_more p x xs passes) ∙ e)
  | inr fails ↦ let same : x ≡ c = ap (λ l. get_or l 0 0) (sym (left_ends p x xs fails) ∙ e) in ap p (sym same) ∙ fails
]

-- a run is all of a text where nothing fails
pub run_all : (p : ℕ → Bool) → ((c : ℕ) → p c ≡ true) → (text : List ℕ) → take_while p text ≡ text
run_all p all [] = refl
run_all p all (c ∷ cs) = run_more p c cs (all c) ∙ ap (λ xs. c ∷ xs) (run_all p all cs)

-- ---- words within a run

module _ (p q : ℕ → Bool) where
  abbrev pub both : ℕ → Bool
  both c = p c && q c

  pub word_within : (text : List ℕ) → take_while q (take_while p text) ≡ take_while both text
  word_within [] = refl
  word_within (c ∷ cs) = elim (cases_Bool (p c)) [
    | inr fails ↦ ap (take_while q) (run_ends p c cs fails) ∙ sym (run_ends both c cs (ap (λ b. b && q c) fails))
    | inl passes ↦ elim (cases_Bool (q c)) [
      | inl word ↦
          ap (take_while q) (run_more p c cs passes) ∙ run_more q c (take_while p cs) word ∙ ap (λ xs. c ∷ xs) (word_within cs)
          ∙ sym (run_more both c cs (ap (λ b. b && q c) passes ∙ word))
      | inr end ↦
          ap (take_while q) (run_more p c cs passes) ∙ run_ends q c (take_while p cs) end
          ∙ sym (run_ends both c cs (ap (λ b. b && q c) passes ∙ end))
    ]
  ]

  pub left_within : (text : List ℕ) → after_run q (take_while p text) ≡ take_while p (after_run both text)
  left_within [] = refl
  left_within (c ∷ cs) = elim (cases_Bool (p c)) [
    | inr fails ↦
        ap (after_run q) (run_ends p c cs fails) ∙ sym (run_ends p c cs fails)
        ∙ ap (take_while p) (sym (left_ends both c cs (ap (λ b. b && q c) fails)))
    | inl passes ↦ elim (cases_Bool (q c)) [
      | inl word ↦
          ap (after_run q) (run_more p c cs passes) ∙ left_more q c (take_while p cs) word ∙ left_within cs
          ∙ ap (take_while p) (sym (left_more both c cs (ap (λ b. b && q c) passes ∙ word)))
      | inr end ↦
          ap (after_run q) (run_more p c cs passes) ∙ left_ends q c (take_while p cs) end ∙ sym (run_more p c cs passes)
          ∙ ap (take_while p) (sym (left_ends both c cs (ap (λ b. b && q c) passes ∙ end)))
    ]
  ]

  pub left_past : (text : List ℕ) → after_run p text ≡ after_run p (after_run both text)
  left_past [] = refl
  left_past (c ∷ cs) = elim (cases_Bool (p c)) [
    | inr fails ↦ ap (after_run p) (sym (left_ends both c cs (ap (λ b. b && q c) fails)))
    | inl passes ↦ elim (cases_Bool (q c)) [
      | inl word ↦ left_more p c cs passes ∙ left_past cs ∙ ap (after_run p) (sym (left_more both c cs (ap (λ b. b && q c) passes ∙ word)))
      | inr end ↦ ap (after_run p) (sym (left_ends both c cs (ap (λ b. b && q c) passes ∙ end)))
    ]
  ]

-- ---- whether anything stands in front

module _ (p : ℕ → Bool) (text after : List ℕ) (u : IsUtf8 text) (v : IsUtf8 after) (e : chars after ≡ after_run p (chars text)) where
  whole : take_while p (chars text) ++ chars after ≡ chars text
  whole = ap (λ xs. take_while p (chars text) ++ xs) e ∙ take-append-drop (prefix_len p (chars text)) (chars text)

  lengths : length text ≡ length (encodes (take_while p (chars text))) + length after
  lengths =
      ap length (sym (encodes-chars text u) ∙ ap encodes (sym whole) ∙ encodes-append (take_while p (chars text)) (chars after))
      ∙ length-append (encodes (take_while p (chars text))) (encodes (chars after))
      ∙ ap (λ bs. length (encodes (take_while p (chars text))) + length bs) (encodes-chars after v)

  no_bytes : (cs : List ℕ) → length (encodes cs) ≡ 0 → cs ≡ []
  no_bytes [] h = refl
  no_bytes (c ∷ cs) h = absurd (omega (arith, h, length-append (encode c) (encodes cs), length-encode c, (len_utf8_bounds c).0))

  -- nothing does where nothing was taken away
  pub nothing_before : length after ≡ length text → take_while p (chars text) ≡ []
  nothing_before same = no_bytes (take_while p (chars text)) (omega (arith, same, lengths))

  pub something_before : (length after ≡ length text → ⊥) → take_while p (chars text) ≡ [] → ⊥
  something_before other none = other (omega (arith, lengths, ap (λ cs. length (encodes cs)) none))
