-- What the texts of a line are made of: a repeated text, blanks, the parts of a bar.
use Rattle.std.proofs.Common.{◌≡◌, ℕ, zero, suc, ◌-◌, ◌*◌, ◌/◌, ◌%◌, Bool, ◌++◌, ◌+◌, drop, List, [], ◌∷◌, append_assoc, refl, sym, ◌∙◌, ap, true, false, if◌then◌else◌, length, length-append, take, arith, map, subst, ◌≤◌}
use Rattle.std.specs.List.{concat, slice_range}
use Rattle.std.specs.Str.{IsUtf8, IsCharBoundary}
use Rattle.std.specs.String.Boundary.{IsSplitPoint}
use Rattle.std.proofs.Math.Nat.{suc-mul}
use Rattle.std.proofs.lemmas.List.{drop_at, take_at}
use Rattle.std.proofs.lemmas.Str.{IsUtf8-nil, IsUtf8-append, IsCharBoundary-at_seam}
use Rattle.std.proofs.lemmas.Bool.{false≢true, lt-ltb}
use Rattle.std.specs.Fmt.{digits}
use Rattle.std.specs.Prelude.{codes, Some, None, option_to_list, nat_lt, ◌&&◌}
use Rattle.indicatif_text.specs.StyleWords.{opening_of, styled, sequence_of}
use Rattle.indicatif_bar.specs.declared.measures.Fraction.{Fraction}
use Rattle.indicatif_bar.specs.Layout.{times, spaces, text_columns, cluster, bar_text}
use Rattle.indicatif_bar.specs.Inside.Bars.{begun_text, cells_left}

-- the cells that are not begun
abbrev pub rest_text : List (List ℕ) → Fraction → ℕ → List ℕ
rest_text clusters f cells = times (cells_left f cells (length clusters)) (cluster clusters (length clusters - 1))

-- what ends a style is the sequence of 0
pub last_sequence : (0x1B ∷ codes "[0m") ≡ sequence_of 0
unfolding digits
last_sequence = refl

-- ---- a repeated text

pub times_sum : (a b : ℕ) (text : List ℕ) → times (a + b) text ≡ times a text ++ times b text
times_sum zero b text = let none : zero + b ≡ b = omega arith in ap (λ k. times k text) none
times_sum (suc a) b text =
    let next : suc a + b ≡ suc (a + b) = omega arith in
    ap (λ k. times k text) next ∙ ap (λ t. text ++ t) (times_sum a b text) ∙ sym (append_assoc text (times a text) (times b text))

pub times_length : (n : ℕ) (text : List ℕ) → length (times n text) ≡ n * length text
times_length zero text = omega arith
times_length (suc n) text = omega (arith, length-append text (times n text), times_length n text, suc-mul n (length text))

pub times_utf8 : (n : ℕ) (text : List ℕ) → IsUtf8 text → IsUtf8 (times n text)
times_utf8 zero text u = IsUtf8-nil
times_utf8 (suc n) text u = IsUtf8-append text (times n text) u (times_utf8 n text u)

-- of `done` texts at the end of others, the first `more`
module _ (old text : List ℕ) (done more : ℕ) (few : more ≤ done) where
  cut : old ++ times done text ≡ old ++ (times more text ++ times (done - more) text)
  cut =
      let sum : done ≡ more + (done - more) = omega (arith, few) in
      ap (λ k. old ++ times k text) sum ∙ ap (λ t. old ++ t) (times_sum more (done - more) text)

  pub again : slice_range (old ++ times done text) (length old) (length old + more * length text) ≡ times more text
  again =
      let bytes : length old + more * length text - length old ≡ more * length text = omega arith in
      ap (λ n. take n (drop (length old) (old ++ times done text))) bytes
      ∙ ap (λ t. take (more * length text) (drop (length old) t)) cut
      ∙ ap (take (more * length text)) (drop_at old (times more text ++ times (done - more) text) (length old) refl)
      ∙ take_at (times more text) (times (done - more) text) (more * length text) (times_length more text)

  pub fits : length old + more * length text ≤ length (old ++ times done text)
  fits = omega (arith, ap length cut, length-append old (times more text ++ times (done - more) text), length-append (times more text) (times (done - more) text), times_length more text)

  pub begins : IsUtf8 text → IsSplitPoint (old ++ times done text) (length old)
  begins u = let seam = IsCharBoundary-at_seam (old ++ times done text) old (times done text) refl (times_utf8 done text u) in (seam.0, λ _. seam.1)

  pub ends : IsUtf8 text → IsSplitPoint (old ++ times done text) (length old + more * length text)
  ends u =
      let parted = cut ∙ sym (append_assoc old (times more text) (times (done - more) text)) in
      let seam = IsCharBoundary-at_seam (old ++ times done text) (old ++ times more text) (times (done - more) text) parted (times_utf8 (done - more) text u) in
      let at : length (old ++ times more text) ≡ length old + more * length text = omega (arith, length-append old (times more text), times_length more text) in
      subst (IsSplitPoint (old ++ times done text)) at (seam.0, λ _. seam.1)

-- the same of a text that ends so
module _ (old text out : List ℕ) (done more start : ℕ) (few : more ≤ done) (is : out ≡ old ++ times done text) (at : start ≡ length old) where
  pub again_in : slice_range out start (start + more * length text) ≡ times more text
  again_in = ap (λ o. slice_range o start (start + more * length text)) is ∙ ap (λ s. slice_range (old ++ times done text) s (s + more * length text)) at ∙ again old text done more few

  pub fits_in : start + more * length text ≤ length out
  fits_in = omega (arith, ap length is, at, fits old text done more few)

  pub begins_in : IsUtf8 text → IsSplitPoint out start
  begins_in u = subst (λ o. IsSplitPoint o start) (sym is) (subst (IsSplitPoint (old ++ times done text)) (sym at) (begins old text done more few u))

  pub ends_in : IsUtf8 text → IsSplitPoint out (start + more * length text)
  ends_in u = subst (λ o. IsSplitPoint o (start + more * length text)) (sym is) (subst (λ s. IsSplitPoint (old ++ times done text) (s + more * length text)) (sym at) (ends old text done more few u))

-- of a ready run the first `more` texts
module _ (text run : List ℕ) (done more : ℕ) (few : more ≤ done) (is : run ≡ times done text) where
  from_start : 0 + more * length text ≡ more * length text
  from_start = omega arith

  pub front_is : slice_range run 0 (more * length text) ≡ times more text
  front_is = ap (slice_range run 0) (sym from_start) ∙ again_in [] text run done more 0 few is refl

  pub front_ends : IsUtf8 text → IsCharBoundary run (more * length text)
  front_ends u =
      let all : done ≡ more + (done - more) = omega (arith, few) in
      let parted = is ∙ ap (λ k. times k text) all ∙ times_sum more (done - more) text in
      let seam = IsCharBoundary-at_seam run (times more text) (times (done - more) text) parted (times_utf8 (done - more) text u) in
      subst (IsCharBoundary run) (times_length more text) seam

pub times_space : (n : ℕ) → times n (0x20 ∷ []) ≡ spaces n
times_space zero = refl
times_space (suc n) = ap (λ cs. 0x20 ∷ cs) (times_space n)

-- one text after another
pub grown : (old between new a b : List ℕ) → between ≡ old ++ a → new ≡ between ++ b → new ≡ old ++ (a ++ b)
grown old between new a b first second = second ∙ ap (λ x. x ++ b) first ∙ append_assoc old a b

pub grown_three : (old o1 o2 new a b d : List ℕ) → o1 ≡ old ++ a → o2 ≡ o1 ++ b → new ≡ o2 ++ d → new ≡ old ++ ((a ++ b) ++ d)
grown_three old o1 o2 new a b d first second third = grown old o2 new (a ++ b) d (grown old o1 o2 a b first second) third

-- ---- the bar

bar_by : (b : Bool) (clusters : List (List ℕ)) (colours : Bool) (alternative : List ℕ) (k filled cells : ℕ) →
    times filled (cluster clusters 0) ++ concat (if b then cluster clusters k ∷ [] else [])
    ++ styled colours alternative (times (cells - filled - length (if b then cluster clusters k ∷ [] else [])) (cluster clusters (length clusters - 1)))
    ≡ times filled (cluster clusters 0) ++ concat (map (cluster clusters) (option_to_list (if b then Some k else None)))
    ++ styled colours alternative (times (cells - filled - length (option_to_list (if b then Some k else None))) (cluster clusters (length clusters - 1)))
bar_by true clusters colours alternative k filled cells = refl
bar_by false clusters colours alternative k filled cells = refl

-- a bar is what has begun, and the rest in its style
pub bar_parts : (clusters : List (List ℕ)) (colours : Bool) (alternative : List ℕ) (f : Fraction) (width cells : ℕ) → cells ≡ width / text_columns (cluster clusters 0)
    → bar_text clusters colours alternative f width ≡ begun_text clusters f cells ++ styled colours alternative (rest_text clusters f cells)
unfolding bar_text
bar_parts clusters colours alternative f width cells e =
    let n = width / text_columns (cluster clusters 0) in
    let fill = f.num * n in
    let shades = length clusters - 2 in
    bar_by (nat_lt 0 fill && nat_lt (fill / f.den) n && nat_lt 0 shades) clusters colours alternative (shades - fill % f.den * shades / f.den) (fill / f.den) n
    ∙ ap (λ m. begun_text clusters f m ++ styled colours alternative (rest_text clusters f m)) (sym e)

pub rest_is : (clusters : List (List ℕ)) (f : Fraction) (cells left : ℕ) (last : List ℕ) → left ≡ cells_left f cells (length clusters) → last ≡ cluster clusters (length clusters - 1)
    → times left last ≡ rest_text clusters f cells
rest_is clusters f cells left last l e = ap (λ n. times n last) l ∙ ap (times (cells_left f cells (length clusters))) e

-- ---- a text in a style

pub styled_opened : (colours : Bool) (numbers text : List ℕ) → nat_lt 0 (length (opening_of colours numbers)) ≡ true → styled colours numbers text ≡ opening_of colours numbers ++ text ++ sequence_of 0
styled_opened false [] text e = cc
styled_opened false (n ∷ ns) text e = cc
styled_opened true [] text e = cc
styled_opened true (n ∷ ns) text e = refl

pub styled_alone : (colours : Bool) (numbers text : List ℕ) → nat_lt 0 (length (opening_of colours numbers)) ≡ false → styled colours numbers text ≡ opening_of colours numbers ++ text
styled_alone false [] text e = refl
styled_alone false (n ∷ ns) text e = refl
styled_alone true [] text e = refl
styled_alone true (n ∷ ns) text e = absurd (false≢true (sym e ∙ lt-ltb 0 _ (omega arith)))
