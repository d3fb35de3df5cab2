-- Texts with something in the place of each filler, part by part; the first line with a filler.
use Rattle.std.proofs.Common.{◌≡◌, ℕ, ◌<◌, Bool, true, false, List, [], ◌∷◌, ◌++◌, length, refl, ◌∙◌, ap, arith, append_assoc, append-nil, sym, eqb, if◌then◌else◌, inl, inr}
use Rattle.std.specs.Prelude.{flat_map, find, ◌||◌}
use Rattle.std.specs.Option.{option_map_or}
use Rattle.std.specs.List.{slice_split, onto_first}
use Rattle.std.proofs.lemmas.List.Splits.{length-slice_split}
use Rattle.std.proofs.lemmas.Bool.{cases_Bool}
use Rattle.std.specs.List.{list_any}
use Rattle.indicatif_bar.specs.Layout.{text_columns}
use Rattle.indicatif_bar.specs.Styles.{with_fillers_as, is_filler}

-- parts with a text between them
abbrev pub parted_by : List ℕ → List (List ℕ) → List ℕ
parted_by s [] = []
parted_by s (part ∷ parts) = part ++ flat_map (λ p. s ++ p) parts

parted_some : (s : List ℕ) (parts : List (List ℕ)) → 0 < length parts → flat_map (λ p. s ++ p) parts ≡ s ++ parted_by s parts
parted_some s [] h = absurd (omega arith)
parted_some s (part ∷ parts) h = append_assoc s part (flat_map (λ p. s ++ p) parts)

parted_onto : (s : List ℕ) (x : ℕ) (parts : List (List ℕ)) → 0 < length parts → parted_by s (onto_first x parts) ≡ x ∷ parted_by s parts
parted_onto s x [] h = absurd (omega arith)
parted_onto s x (part ∷ parts) h = refl

some_parts : (text : List ℕ) → 0 < length (slice_split (λ b. eqb b 0) text)
some_parts text = omega (arith, length-slice_split (λ b. eqb b 0) text)

-- the parts between fillers, with a text between them
pub parted_split : (s text : List ℕ) → parted_by s (slice_split (λ b. eqb b 0) text) ≡ with_fillers_as s text
parted_split s [] = refl
parted_split s (b ∷ text) = elim (cases_Bool (eqb b 0)) [
  | inl filler ↦ rw filler (parted_some s (slice_split (λ b. eqb b 0) text) (some_parts text) ∙ ap (λ x. s ++ x) (parted_split s text))
  | inr other ↦ rw other (parted_onto s b (slice_split (λ b. eqb b 0) text) (some_parts text) ∙ ap (λ x. b ∷ x) (parted_split s text))
]

-- the first filler of a text
pub one_filler : (s text part behind : List ℕ) → slice_split (λ b. eqb b 0) text ≡ part ∷ slice_split (λ b. eqb b 0) behind → with_fillers_as s text ≡ part ++ (s ++ with_fillers_as s behind)
one_filler s text part behind e = sym (parted_split s text) ∙ ap (parted_by s) e
    ∙ ap (λ x. part ++ x) (parted_some s (slice_split (λ b. eqb b 0) behind) (some_parts behind) ∙ ap (λ x. s ++ x) (parted_split s behind))

pub last_part : (s text : List ℕ) → slice_split (λ b. eqb b 0) text ≡ text ∷ [] → with_fillers_as s text ≡ text
last_part s text e = sym (parted_split s text) ∙ ap (parted_by s) e ∙ append-nil text

pub regrouped : (a b c d : List ℕ) → ((a ++ b) ++ c) ++ d ≡ a ++ (b ++ (c ++ d))
regrouped a b c d = append_assoc (a ++ b) c d ∙ append_assoc a b (c ++ d)

-- the columns of the first line with a filler
abbrev pub first_filler : List (List ℕ) → ℕ
first_filler lines = option_map_or text_columns (find (list_any is_filler) lines) 0

pub filler_behind : (line : List ℕ) (lines : List (List ℕ)) → list_any is_filler line ≡ false → first_filler (line ∷ lines) ≡ first_filler lines
filler_behind line lines e = rw e refl

none_more : (b : Bool) (s : List ℕ) (c : ℕ) (cs : List ℕ) → (b || list_any is_filler cs) ≡ false → (list_any is_filler cs ≡ false → with_fillers_as s cs ≡ cs)
    → (if b then s else c ∷ []) ++ with_fillers_as s cs ≡ c ∷ cs
none_more true s c cs e rest = absurd (cc e)
none_more false s c cs e rest = ap (λ x. c ∷ x) (rest e)

-- a text without fillers stays as it is
pub no_fillers : (s text : List ℕ) → list_any is_filler text ≡ false → with_fillers_as s text ≡ text
no_fillers s [] e = refl
no_fillers s (c ∷ cs) e = none_more (is_filler c) s c cs e (no_fillers s cs)
