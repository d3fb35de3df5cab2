-- A line whose rows but the last are full fills its rows with the spaces behind it; and rows of lines have their cells.
use Rattle.std.proofs.Common.{◌≡◌, ℕ, zero, suc, ◌+◌, ◌-◌, ◌*◌, ◌<◌, ◌≤◌, false, List, [], ◌∷◌, ◌++◌, length, replicate, map, chars, refl, sym, ◌∙◌, ap, arith, eqb, length-append, inl, inr}
use Rattle.std.specs.Prelude.{flat_map, nat_le, nat_lt, sum_by, IsFalse}
use Rattle.std.specs.List.{AllByRecursion, list_any}
use Rattle.std.proofs.Math.Nat.{suc-mul}
use Rattle.std.proofs.lemmas.Bool.{cases_Bool, leb-true, eqb-true, eqb-false, or_parts, ltb-false}
use Rattle.std.proofs.lemmas.List.{length-map, length-replicate}
use Rattle.std.proofs.lemmas.List.Sums.{sum_by-cons, sum_by-append}
use Rattle.unicode_width.specs.Width.{char_width}
use Rattle.indicatif_text.specs.Columns.{Cell, Blank, Continued, Glyph, width_of, glyph_width, glyph_cells, glyphs_of, columns_in, pieces_after, pieces_of, row_of, rows_of, visible, columns_of, columns_of_last, last_columns, has_wide, is_plain}
use Rattle.indicatif_text.proofs.WrappingLemmas.{pieces_some}
use Rattle.indicatif_term.specs.Shows.{look, looks_of}
use Rattle.indicatif_term.specs.Standing.{standing_rows, AreLines}
use Rattle.indicatif_term.specs.Inside.Changing.{joins}
use Rattle.indicatif_term.specs.declared.engine.remembered.StandingLine.{StandingLine}
use Rattle.indicatif_term.proofs.CursorRowLemmas.{IsSized, IsShowable}
use Rattle.indicatif_term.proofs.GlyphLemmas.{IsPiece, cells_push, columns_push}
use Rattle.indicatif_term.proofs.WrittenLineLemmas.{joiners_before, joiners_before-cons, glyphs_sized}
use Rattle.indicatif_term.proofs.LastLineLemmas.{fill_width}
use Rattle.indicatif_term.proofs.FillLemmas.{spaces, filled_chars, filled_text}
use Rattle.indicatif_term.proofs.FilledLineLemmas.{filled_line}
use Rattle.indicatif_term.proofs.TerminalStepLemmas.{printable}
use Rattle.indicatif_term.proofs.PaintingLemmas.{IsDrawable}
use Rattle.indicatif_term.proofs.OverLemmas.{AreFull, AreWide, Fills}

-- ---- columns

glyph_widths : (cs : List ℕ) → sum_by glyph_width (glyphs_of cs) ≡ sum_by width_of cs
glyph_widths [] = refl
glyph_widths (c ∷ cs) = elim (cases_Bool (eqb (width_of c) 0)) [
  | inl none ↦ rw none (glyph_widths cs ∙ omega (arith, sum_by-cons width_of c cs, eqb-true (width_of c) 0 none))
  | inr some ↦
      let g : Glyph = record { base = c; joiners = joiners_before cs } in
      rw some (sum_by-cons glyph_width g (glyphs_of cs) ∙ ap (λ n. width_of c + n) (glyph_widths cs) ∙ sym (sum_by-cons width_of c cs))
]

pieces_total : (w : ℕ) (p gs : List Glyph) → sum_by columns_in (pieces_after w p gs) ≡ columns_in p + sum_by glyph_width gs
pieces_total w p [] = sum_by-cons columns_in p []
pieces_total w p (g ∷ gs) =
    let all : sum_by glyph_width (g ∷ gs) ≡ glyph_width g + sum_by glyph_width gs = sum_by-cons glyph_width g gs in
    elim (cases_Bool (nat_le (columns_in p + glyph_width g) w)) [
      | inl fits ↦ rw fits (omega (arith, pieces_total w (p ++ g ∷ []) gs, columns_push p g, all))
      | inr over ↦
          let one : columns_in (g ∷ []) ≡ glyph_width g = omega arith in
          rw over (sum_by-cons columns_in p (pieces_after w (g ∷ []) gs) ∙ omega (arith, pieces_total w (g ∷ []) gs, one, all))
    ]

abbrev AreLow : ℕ → List (List Glyph) → Type 0
AreLow w ps = AllByRecursion (λ p. columns_in p ≤ w) ps

pieces_low : (w : ℕ) (p gs : List Glyph) → columns_in p ≤ w → AllByRecursion (IsSized w) gs → AreLow w (pieces_after w p gs)
pieces_low w p [] low all = (low, tt)
pieces_low w p (g ∷ gs) low all = elim (cases_Bool (nat_le (columns_in p + glyph_width g) w)) [
  | inl fits ↦ rw fits (pieces_low w (p ++ g ∷ []) gs (omega (arith, columns_push p g, leb-true (columns_in p + glyph_width g) w fits)) all.1)
  | inr over ↦ rw over (low, pieces_low w (g ∷ []) gs (let f : glyph_width g ≤ w = all.0.fits in omega arith) all.1)
]

total_low : (w : ℕ) (ps : List (List Glyph)) → AreLow w ps → sum_by columns_in ps ≤ length ps * w
total_low w [] all = omega arith
total_low w (p ∷ ps) all =
    let rest : sum_by columns_in ps ≤ length ps * w = total_low w ps all.1 in
    let first : columns_in p ≤ w = all.0 in
    let more : suc (length ps) * w ≡ length ps * w + w = suc-mul (length ps) w in
    omega (arith, sum_by-cons columns_in p ps, more, rest, first)

-- as many columns as the rows have: each is full
full_by : (w : ℕ) (ps : List (List Glyph)) → AreLow w ps → sum_by columns_in ps ≡ length ps * w → AreFull w ps
full_by w [] all e = tt
full_by w (p ∷ ps) all e =
    let rest : sum_by columns_in ps ≤ length ps * w = total_low w ps all.1 in
    let first : columns_in p ≤ w = all.0 in
    let more : suc (length ps) * w ≡ length ps * w + w = suc-mul (length ps) w in
    let sum : columns_in p + sum_by columns_in ps ≡ length ps * w + w = sym (sum_by-cons columns_in p ps) ∙ e ∙ more in
    let whole : columns_in p ≡ w = omega (arith, sum, rest, first) in
    (whole, full_by w ps all.1 (omega (arith, sum, whole)))

last_low : (w : ℕ) (ps : List (List Glyph)) → AreLow w ps → columns_of_last ps ≤ w
last_low w [] all = omega arith
last_low w (p ∷ []) all = all.0
last_low w (p ∷ q ∷ ps) all = last_low w (q ∷ ps) all.1

-- ---- spaces behind a line

space_width : width_of 0x20 ≡ 1
unfolding char_width
space_width = refl

spaces_width : (n : ℕ) → sum_by width_of (spaces n) ≡ n
spaces_width zero = refl
spaces_width (suc n) = sum_by-cons width_of 0x20 (spaces n) ∙ omega (arith, space_width, spaces_width n)

joins_more : (n : ℕ) (cs : List ℕ) → joins cs ≡ false → joins (cs ++ spaces n) ≡ false
unfolding char_width
joins_more zero [] e = refl
joins_more (suc n) [] e = refl
joins_more n (c ∷ cs) e = e

none_joins : (cs : List ℕ) → joins cs ≡ false → joiners_before cs ≡ []
none_joins [] e = refl
none_joins (c ∷ cs) e = joiners_before-cons c cs ∙ rw e refl

-- a line that can be drawn, and fills its rows
pub record IsSolid (w : ℕ) (line : List ℕ) : Type 0 where
  pub drawable : IsDrawable w line
  pub fills : Fills w (visible (chars line))

pub solid_line : (w rows last : ℕ) (line : List ℕ) → 0 < w → IsDrawable w line → rows ≡ length (rows_of w (chars line)) → last ≡ last_columns w (chars line) →
    columns_of (chars line) ≡ (rows - 1) * w + last → joins (visible (chars line)) ≡ false → IsSolid w (line ++ spaces (fill_width w line))
unfolding rows_of last_columns is_plain has_wide
solid_line w rows last line pos d r k columns alone =
    let n = fill_width w line in
    let cs = chars line in
    let vs = visible cs in
    let ds = visible (chars (line ++ spaces n)) in
    let f = filled_line w line pos d in
    let shown : AllByRecursion (IsShowable w) vs = printable w vs d.plain d.narrow in
    let seen : ds ≡ vs ++ spaces n = ap visible (filled_chars line n d.utf8) ∙ (filled_text w cs shown).seen in
    let all : AllByRecursion (IsShowable w) ds = printable w ds f.drawable.plain f.drawable.narrow in
    let ps = pieces_of w (glyphs_of ds) in
    let old = pieces_of w (glyphs_of vs) in
    let count : length ps ≡ rows = sym (length-map ps (row_of w)) ∙ sym (length-map (map (row_of w) ps) (map look)) ∙ ap length f.looks ∙ length-map (map (row_of w) old) (map look) ∙ sym r in
    let some : 0 < length ps = pieces_some w [] (glyphs_of ds) in
    let room : last ≤ w = let q : columns_of_last old ≤ w = last_low w old (pieces_low w [] (glyphs_of vs) (omega arith) (glyphs_sized w vs shown)) in omega (arith, k) in
    let behind : n ≡ w - last = ap (λ x. w - x) (sym k) in
    let total : sum_by columns_in ps ≡ sum_by width_of vs + n =
    pieces_total w [] (glyphs_of ds) ∙ ap (λ x. 0 + x) (glyph_widths ds ∙ ap (sum_by width_of) seen ∙ sum_by-append width_of vs (spaces n)) ∙ omega (arith, spaces_width n) in
    let next : rows ≡ suc (rows - 1) = omega (arith, count, some) in
    let rows_all : length ps * w ≡ (rows - 1) * w + w = ap (λ x. x * w) (count ∙ next) ∙ suc-mul (rows - 1) w in
    record {
      drawable = f.drawable;
      fills = record {
        printable = all;
        unmarked = none_joins ds (ap joins seen ∙ joins_more n vs alone);
        full = full_by w ps (pieces_low w [] (glyphs_of ds) (omega arith) (glyphs_sized w ds all)) (omega (arith, total, columns, behind, room, rows_all));
      };
    }

-- ---- rows have their cells

abbrev IsFit : ℕ → Glyph → Type 0
IsFit w g = (0 < glyph_width g) × (glyph_width g ≤ w)

wide_row : (w : ℕ) (p : List Glyph) → IsPiece p → columns_in p ≤ w → length (row_of w p) ≡ w
wide_row w p is low = length-append (flat_map glyph_cells p) (replicate (w - columns_in p) Blank) ∙ omega (arith, is, length-replicate (w - columns_in p) Blank)

push_piece : (p : List Glyph) (g : Glyph) → 0 < glyph_width g → IsPiece p → IsPiece (p ++ g ∷ [])
push_piece p g h is = omega (
  arith,
  ap length (cells_push p g),
  length-append (flat_map glyph_cells p) (glyph_cells g),
  length-replicate (glyph_width g - 1) Continued,
  columns_push p g,
  is,
)

pieces_wide : (w : ℕ) (p gs : List Glyph) → IsPiece p → columns_in p ≤ w → AllByRecursion (IsFit w) gs → AreWide w (map (row_of w) (pieces_after w p gs))
pieces_wide w p [] is low all = (wide_row w p is low, tt)
pieces_wide w p (g ∷ gs) is low all = elim (cases_Bool (nat_le (columns_in p + glyph_width g) w)) [
  | inl fits ↦ rw fits (pieces_wide w (p ++ g ∷ []) gs (push_piece p g all.0.0 is) (omega (arith, columns_push p g, leb-true (columns_in p + glyph_width g) w fits)) all.1)
  | inr over ↦ rw over (wide_row w p is low, pieces_wide w (g ∷ []) gs (push_piece [] g all.0.0 refl) (let f : glyph_width g ≤ w = all.0.1 in omega arith) all.1)
]

glyphs_fit : (w : ℕ) (cs : List ℕ) → list_any (λ c. nat_lt w (width_of c)) cs ≡ false → AllByRecursion (IsFit w) (glyphs_of cs)
glyphs_fit w [] n = tt
glyphs_fit w (c ∷ cs) n =
    let b = or_parts (nat_lt w (width_of c)) (list_any (λ c. nat_lt w (width_of c)) cs) n in
    elim (cases_Bool (eqb (width_of c) 0)) [
      | inl none ↦ rw none (glyphs_fit w cs b.1)
      | inr some ↦ let differs : width_of c ≡ 0 → ⊥ = eqb-false (width_of c) 0 some in rw some ((omega arith, ltb-false w (width_of c) b.0), glyphs_fit w cs b.1)
    ]

rows_wide : (w : ℕ) (cs : List ℕ) → IsFalse (has_wide w cs) → AreWide w (rows_of w cs)
unfolding rows_of has_wide
rows_wide w cs n = pieces_wide w [] (glyphs_of (visible cs)) refl (omega arith) (glyphs_fit w (visible cs) n)

wide_both : (w : ℕ) (a b : List (List Cell)) → AreWide w a → AreWide w b → AreWide w (a ++ b)
wide_both w [] b p q = q
wide_both w (r ∷ a) b p q = (p.0, wide_both w a b p.1 q)

pub standing_wide : (w : ℕ) (ls : List StandingLine) → AreLines w ls → AreWide w (standing_rows w ls)
standing_wide w [] all = tt
standing_wide w (l ∷ ls) all = wide_both w _ _ (rows_wide w _ all.0.narrow) (standing_wide w ls all.1)

-- rows that look like these have as many cells
pub wide_looks : (w : ℕ) (a b : List (List Cell)) → looks_of a ≡ looks_of b → AreWide w b → AreWide w a
wide_looks w [] b e all = tt
wide_looks w (r ∷ a) [] e all = absurd (cc)
wide_looks w (r ∷ a) (q ∷ b) e all =
    let one : map look r ≡ map look q = cc in
    let rest : looks_of a ≡ looks_of b = cc in
    (sym (length-map r look) ∙ ap length one ∙ length-map q look ∙ all.0, wide_looks w a b rest all.1)

pub wide_blanks : (w n : ℕ) → AreWide w (replicate n (replicate w Blank))
wide_blanks w zero = tt
wide_blanks w (suc n) = (length-replicate w Blank, wide_blanks w n)

pub wide_with : (w n : ℕ) (a : List (List Cell)) → AreWide w a → AreWide w (a ++ replicate n (replicate w Blank))
wide_with w n a all = wide_both w a (replicate n (replicate w Blank)) all (wide_blanks w n)
