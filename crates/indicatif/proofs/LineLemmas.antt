-- Lines of a text with a level before each, line by line.
use Rattle.std.proofs.Common.{◌≡◌, ℕ, ◌<◌, List, [], ◌∷◌, ◌++◌, length, refl, ◌∙◌, ap, arith, append_assoc, eqb, if◌then◌else◌, inl, inr}
use Rattle.std.specs.Prelude.{flat_map, ◌==◌}
use Rattle.std.specs.List.{slice_split, onto_first}
use Rattle.std.proofs.lemmas.List.Splits.{length-slice_split}
use Rattle.std.proofs.lemmas.Bool.{cases_Bool}

-- lines with line feeds between them, each but the first behind this front
abbrev fronted : List ℕ → List (List ℕ) → List ℕ
fronted front [] = []
fronted front (line ∷ lines) = line ++ flat_map (λ l. 0x0a ∷ front ++ l) lines

-- the same, the first behind it too
abbrev pub laid : List ℕ → List (List ℕ) → List ℕ
laid front [] = []
laid front (line ∷ lines) = front ++ fronted front (line ∷ lines)

fronted_some : (front : List ℕ) (lines : List (List ℕ)) → 0 < length lines → flat_map (λ l. 0x0a ∷ front ++ l) lines ≡ 0x0a ∷ front ++ fronted front lines
fronted_some front [] h = absurd (omega arith)
fronted_some front (line ∷ lines) h = ap (λ x. 0x0a ∷ x) (append_assoc front line (flat_map (λ l. 0x0a ∷ front ++ l) lines))

fronted-onto : (front : List ℕ) (x : ℕ) (lines : List (List ℕ)) → 0 < length lines → fronted front (onto_first x lines) ≡ x ∷ fronted front lines
fronted-onto front x [] h = absurd (omega arith)
fronted-onto front x (line ∷ lines) h = refl

some_lines : (text : List ℕ) → 0 < length (slice_split (λ b. eqb b 0x0a) text)
some_lines text = omega (arith, length-slice_split (λ b. eqb b 0x0a) text)

fronted-split : (front text : List ℕ) → fronted front (slice_split (λ b. eqb b 0x0a) text) ≡ flat_map (λ b. if b == 0x0a then 0x0a ∷ front else b ∷ []) text
fronted-split front [] = refl
fronted-split front (b ∷ text) = elim (cases_Bool (eqb b 0x0a)) [
  | inl feed ↦ rw feed (fronted_some front (slice_split (λ b. eqb b 0x0a) text) (some_lines text) ∙ ap (λ x. 0x0a ∷ front ++ x) (fronted-split front text))
  | inr other ↦ rw other (fronted-onto front b (slice_split (λ b. eqb b 0x0a) text) (some_lines text) ∙ ap (λ x. b ∷ x) (fronted-split front text))
]

laid_some : (front : List ℕ) (lines : List (List ℕ)) → 0 < length lines → laid front lines ≡ front ++ fronted front lines
laid_some front [] h = absurd (omega arith)
laid_some front (line ∷ lines) h = refl

-- the lines of a text
pub laid-split : (front text : List ℕ) → laid front (slice_split (λ b. eqb b 0x0a) text) ≡ front ++ flat_map (λ b. if b == 0x0a then 0x0a ∷ front else b ∷ []) text
laid-split front text = laid_some front (slice_split (λ b. eqb b 0x0a) text) (some_lines text) ∙ ap (λ x. front ++ x) (fronted-split front text)
