-- A line filled with spaces up to the end of its last row looks as it did, and its row is full.
use Rattle.std.proofs.Common.{◌≡◌, ℕ, zero, suc, ◌+◌, ◌-◌, ◌<◌, ◌≤◌, Bool, true, false, List, [], ◌∷◌, ◌++◌, length, map, replicate, chars, refl, sym, ◌∙◌, ap, arith, append_assoc, append-nil, Option, Some, None, if◌then◌else◌, inl, inr, eqb, cond}
use Rattle.std.specs.Prelude.{slice_index, nat_le, ◌&&◌, is_some, unwrap_or, option_map, flat_map}
use Rattle.std.specs.List.{AllByRecursion}
use Rattle.std.specs.Str.{IsUtf8, IsAscii}
use Rattle.std.proofs.lemmas.Str.{IsUtf8-from_ascii, chars-append, chars-IsAscii}
use Rattle.std.proofs.lemmas.Bool.{cases_Bool, leb-true, le-leb}
use Rattle.std.proofs.lemmas.List.{map-append}
use Rattle.std.proofs.lemmas.Grind.{flat_map-append}
use Rattle.unicode_width.specs.Width.{char_width}
use Rattle.indicatif_text.specs.Columns.{Blank, Glyph, width_of, glyph_width, glyph_cells, glyphs_of, columns_in, pieces_after, pieces_of, row_of, rows_of, visible, visible_from, colour_length, parameters_length, is_parameter, columns_of_last, last_columns}
use Rattle.indicatif_term.specs.Inside.MoveBytes.{lines_bytes, next_row}
use Rattle.indicatif_term.proofs.LastLineLemmas.{fill_bytes}
use Rattle.indicatif_term.specs.Shows.{look, looks_of}
use Rattle.indicatif_term.proofs.CursorRowLemmas.{IsSized, IsShowable}
use Rattle.indicatif_term.proofs.TextLemmas.{IsShown, not_control, mapped, none_some, some_same}
use Rattle.indicatif_term.proofs.WrittenLineLemmas.{joiners_before, joiners_before-cons, has_no_width, glyphs_sized}
use Rattle.indicatif_text.proofs.WrappingLemmas.{pieces_some, last_more}
use Rattle.indicatif_term.proofs.GlyphLemmas.{columns_push}

-- spaces
abbrev pub spaces : ℕ → List ℕ
spaces n = replicate n 0x20

-- a space as a glyph
abbrev pub space : Glyph
space = record { base = 0x20; joiners = [] }

space_width : width_of 0x20 ≡ 1
unfolding char_width
space_width = refl

space_takes : (eqb (width_of 0x20) 0) ≡ false
space_takes = rw space_width refl

-- ---- bytes

ascii_at : (n i : ℕ) → slice_index (spaces n) i < 128
ascii_at zero i = omega arith
ascii_at (suc n) zero = omega arith
ascii_at (suc n) (suc i) = ascii_at n i

pub spaces_ascii : (n : ℕ) → IsAscii (spaces n)
spaces_ascii n = ascii_at n

pub spaces_utf8 : (n : ℕ) → IsUtf8 (spaces n)
spaces_utf8 n = IsUtf8-from_ascii (spaces n) (spaces_ascii n)

spaces_chars : (n : ℕ) → chars (spaces n) ≡ spaces n
spaces_chars n = chars-IsAscii (spaces n) (spaces_ascii n)

pub filled_chars : (line : List ℕ) (n : ℕ) → IsUtf8 line → chars (line ++ spaces n) ≡ chars line ++ spaces n
filled_chars line n u = chars-append line (spaces n) u ∙ ap (λ cs. chars line ++ cs) (spaces_chars n)

-- ---- what is visible

parameters_more : (cs ds : List ℕ) (k : ℕ) → parameters_length cs ≡ Some k → parameters_length (cs ++ ds) ≡ Some k
parameters_more [] ds k e = absurd (none_some e)
parameters_more (c ∷ cs) ds k e = elim (cases_Bool (eqb c 0x6D)) [
  | inl ends ↦ rw ends (rw ends at e)
  | inr more ↦ elim (cases_Bool (is_parameter c)) [
    | inl is ↦
        let m = mapped 1 (parameters_length cs) k (rw (more, is) at e) in
        rw (more, is) (ap (option_map (λ n. n + 1)) (parameters_more cs ds m.0 m.1) ∙ ap Some (sym m.2))
    | inr other ↦ absurd (none_some (rw (more, other) at e))
  ]
]

parameters_within : (cs : List ℕ) (k : ℕ) → parameters_length cs ≡ Some k → k ≤ length cs
parameters_within [] k e = absurd (none_some e)
parameters_within (c ∷ cs) k e = elim (cases_Bool (eqb c 0x6D)) [
  | inl ends ↦ let one : 1 ≡ k = some_same (rw ends at e) in omega arith
  | inr more ↦ elim (cases_Bool (is_parameter c)) [
    | inl is ↦
        let m = mapped 1 (parameters_length cs) k (rw (more, is) at e) in
        omega (arith, m.2, parameters_within cs m.0 m.1)
    | inr other ↦ absurd (none_some (rw (more, other) at e))
  ]
]

-- a colour sequence at the front stays one, and ends within the text
colour_more : (c d : ℕ) (ds more : List ℕ) (k : ℕ) → colour_length (c ∷ d ∷ ds) ≡ Some k → (colour_length (c ∷ d ∷ (ds ++ more)) ≡ Some k) × (k - 1 ≤ length (d ∷ ds))
colour_more c d ds more k e = elim (cases_Bool (eqb c 0x1B && eqb d 0x5B)) [
  | inl holds ↦
      let m = mapped 2 (parameters_length ds) k (rw holds at e) in
      (rw holds (ap (option_map (λ n. n + 2)) (parameters_more ds more m.0 m.1) ∙ ap Some (sym m.2)), omega (arith, m.2, parameters_within ds m.0 m.1))
  | inr fails ↦ absurd (none_some (rw fails at e))
]

visible_spaces : (n : ℕ) → visible_from 0 (spaces n) ≡ spaces n
visible_spaces zero = refl
visible_spaces (suc zero) = refl
visible_spaces (suc (suc n)) = ap (λ cs. 0x20 ∷ cs) (visible_spaces (suc n))

-- what shows of a text of at least two characters, where o is the length of the colour sequence at its front
abbrev shown_after : Option ℕ → ℕ → List ℕ → List ℕ
shown_after o c cs = if is_some o then visible_from (unwrap_or o 1 - 1) cs else c ∷ visible_from 0 cs

no_colour : (c : ℕ) (cs : List ℕ) → IsShown c → colour_length (c ∷ cs) ≡ None
unfolding char_width
no_colour c [] shown = refl
no_colour c (d ∷ cs) shown = rw (not_control c 0x1B shown refl) refl

colour_case : (n c d : ℕ) (ds : List ℕ) (o : Option ℕ) → colour_length (c ∷ d ∷ ds) ≡ o → AllByRecursion IsShown (shown_after o c (d ∷ ds)) →
    ((k : ℕ) → k ≤ length (d ∷ ds) → AllByRecursion IsShown (visible_from k (d ∷ ds)) → visible_from k ((d ∷ ds) ++ spaces n) ≡ visible_from k (d ∷ ds) ++ spaces n) →
    shown_after (colour_length (c ∷ d ∷ (ds ++ spaces n))) c (d ∷ (ds ++ spaces n)) ≡ shown_after o c (d ∷ ds) ++ spaces n
colour_case n c d ds None e all rest =
    let o : colour_length (c ∷ d ∷ (ds ++ spaces n)) ≡ None = no_colour c (d ∷ (ds ++ spaces n)) all.0 in
    rw o (ap (λ cs. c ∷ cs) (rest 0 (omega arith) all.1))
colour_case n c d ds (Some k) e all rest =
    let m = colour_more c d ds (spaces n) k e in
    rw m.0 (rest (k - 1) m.1 all)

visible_more : (n k : ℕ) (text : List ℕ) → k ≤ length text → AllByRecursion IsShown (visible_from k text) → visible_from k (text ++ spaces n) ≡ visible_from k text ++ spaces n
visible_more n zero [] h all = visible_spaces n
visible_more n (suc k) [] h all = absurd (omega arith)
visible_more n (suc k) (c ∷ cs) h all = visible_more n k cs (omega arith) all
visible_more n zero (c ∷ []) h all =
    let o : colour_length (c ∷ spaces n) ≡ None = no_colour c (spaces n) all.0 in
    rw o (ap (λ cs. c ∷ cs) (visible_spaces n))
visible_more n zero (c ∷ d ∷ ds) h all = colour_case n c d ds (colour_length (c ∷ d ∷ ds)) refl all (λ k l a. visible_more n k (d ∷ ds) l a)

-- ---- glyphs

joiners_spaces : (n : ℕ) → joiners_before (spaces n) ≡ []
joiners_spaces zero = refl
joiners_spaces (suc n) = joiners_before-cons 0x20 (spaces n) ∙ rw space_takes refl

glyphs_spaces : (n : ℕ) → glyphs_of (spaces n) ≡ replicate n space
glyphs_spaces zero = refl
glyphs_spaces (suc n) =
    let joiners : joiners_before (spaces n) ≡ [] = joiners_spaces n in
    let rest : glyphs_of (spaces n) ≡ replicate n space = glyphs_spaces n in
    rw (space_takes, joiners, rest) refl

joiners_more : (n : ℕ) (cs : List ℕ) → joiners_before (cs ++ spaces n) ≡ joiners_before cs
joiners_more n [] = joiners_spaces n
joiners_more n (c ∷ cs) = joiners_before-cons c (cs ++ spaces n) ∙ ap (λ ms. cond (has_no_width c) (c ∷ ms) []) (joiners_more n cs) ∙ sym (joiners_before-cons c cs)

glyphs_more : (n : ℕ) (cs : List ℕ) → glyphs_of (cs ++ spaces n) ≡ glyphs_of cs ++ replicate n space
glyphs_more n [] = glyphs_spaces n
glyphs_more n (c ∷ cs) = elim (cases_Bool (eqb (width_of c) 0)) [
  | inl none ↦ rw none (glyphs_more n cs)
  | inr some ↦ rw (some, joiners_more n cs, glyphs_more n cs) refl
]

-- ---- pieces

columns_spaces : (n : ℕ) (p : List Glyph) → columns_in (p ++ replicate n space) ≡ columns_in p + n
columns_spaces zero p = rw append-nil (omega arith)
columns_spaces (suc n) p =
    ap columns_in (sym (append_assoc p (space ∷ []) (replicate n space))) ∙ columns_spaces n (p ++ space ∷ [])
    ∙ omega (arith, columns_push p space, space_width)

-- spaces that find room
spaces_fit : (w n : ℕ) (p : List Glyph) → columns_in p + n ≤ w → pieces_after w p (replicate n space) ≡ (p ++ replicate n space) ∷ []
spaces_fit w zero p h = ap (λ q. q ∷ []) (sym (append-nil p))
spaces_fit w (suc n) p h =
    let fits : nat_le (columns_in p + width_of 0x20) w ≡ true = le-leb (columns_in p + width_of 0x20) w (omega (arith, space_width)) in
    rw fits (spaces_fit w n (p ++ space ∷ []) (omega (arith, columns_push p space, space_width)) ∙ ap (λ q. q ∷ []) (append_assoc p (space ∷ []) (replicate n space)))

-- the last piece grows
last_spaces : (w n : ℕ) (p gs : List Glyph) → columns_of_last (pieces_after w p gs) + n ≤ w →
    columns_of_last (pieces_after w p (gs ++ replicate n space)) ≡ columns_of_last (pieces_after w p gs) + n
last_spaces w n p [] h = ap columns_of_last (spaces_fit w n p h) ∙ columns_spaces n p
last_spaces w n p (g ∷ gs) h = elim (cases_Bool (nat_le (columns_in p + glyph_width g) w)) [
  | inl fits ↦ rw fits (last_spaces w n (p ++ g ∷ []) gs (rw fits at h))
  | inr over ↦
      let e : columns_of_last (p ∷ pieces_after w (g ∷ []) gs) ≡ columns_of_last (pieces_after w (g ∷ []) gs) = last_more p (pieces_after w (g ∷ []) gs) (pieces_some w (g ∷ []) gs) in
      let f : columns_of_last (p ∷ pieces_after w (g ∷ []) (gs ++ replicate n space)) ≡ columns_of_last (pieces_after w (g ∷ []) (gs ++ replicate n space)) =
      last_more p (pieces_after w (g ∷ []) (gs ++ replicate n space)) (pieces_some w (g ∷ []) (gs ++ replicate n space)) in
      rw (over, e, f) (last_spaces w n (g ∷ []) gs (rw (over, e) at h))
]

-- a piece with spaces looks the same
look_spaces : (n k : ℕ) → map look (flat_map glyph_cells (replicate n space) ++ replicate k Blank) ≡ map look (replicate (n + k) Blank)
look_spaces zero k = ap (λ m. map look (replicate m Blank)) (let e : k ≡ 0 + k = omega arith in e)
look_spaces (suc n) k =
    let one : width_of 0x20 - 1 ≡ 0 = omega (arith, space_width) in
    let e : suc n + k ≡ suc (n + k) = omega arith in
    rw (one, e) (ap (λ cs. Blank ∷ cs) (look_spaces n k))

look_row : (w n : ℕ) (p : List Glyph) → columns_in p + n ≤ w → map look (row_of w (p ++ replicate n space)) ≡ map look (row_of w p)
look_row w n p h =
    let cells = flat_map glyph_cells p in
    let k = w - columns_in (p ++ replicate n space) in
    let room : n + k ≡ w - columns_in p = omega (arith, columns_spaces n p) in
    ap (λ cs. map look (cs ++ replicate k Blank)) (flat_map-append glyph_cells p (replicate n space))
    ∙ ap (map look) (append_assoc cells (flat_map glyph_cells (replicate n space)) (replicate k Blank))
    ∙ map-append look cells (flat_map glyph_cells (replicate n space) ++ replicate k Blank)
    ∙ ap (λ cs. map look cells ++ cs) (look_spaces n k ∙ ap (λ m. map look (replicate m Blank)) room)
    ∙ sym (map-append look cells (replicate (w - columns_in p) Blank))

rows_spaces : (w n : ℕ) (p gs : List Glyph) → columns_of_last (pieces_after w p gs) + n ≤ w →
    looks_of (map (row_of w) (pieces_after w p (gs ++ replicate n space))) ≡ looks_of (map (row_of w) (pieces_after w p gs))
rows_spaces w n p [] h = ap (λ ps. looks_of (map (row_of w) ps)) (spaces_fit w n p h) ∙ ap (λ r. r ∷ []) (look_row w n p h)
rows_spaces w n p (g ∷ gs) h = elim (cases_Bool (nat_le (columns_in p + glyph_width g) w)) [
  | inl fits ↦ rw fits (rows_spaces w n (p ++ g ∷ []) gs (rw fits at h))
  | inr over ↦
      let e : columns_of_last (p ∷ pieces_after w (g ∷ []) gs) ≡ columns_of_last (pieces_after w (g ∷ []) gs) = last_more p (pieces_after w (g ∷ []) gs) (pieces_some w (g ∷ []) gs) in
      rw over (ap (λ rs. map look (row_of w p) ∷ rs) (rows_spaces w n (g ∷ []) gs (rw (over, e) at h)))
]

-- the last piece fits
pub last_fits : (w : ℕ) (p gs : List Glyph) → columns_in p ≤ w → AllByRecursion (IsSized w) gs → columns_of_last (pieces_after w p gs) ≤ w
last_fits w p [] h all = h
last_fits w p (g ∷ gs) h all = elim (cases_Bool (nat_le (columns_in p + glyph_width g) w)) [
  | inl fits ↦ rw fits (last_fits w (p ++ g ∷ []) gs (omega (arith, columns_push p g, leb-true (columns_in p + glyph_width g) w fits)) all.1)
  | inr over ↦ rw (over, last_more p (pieces_after w (g ∷ []) gs) (pieces_some w (g ∷ []) gs))
      (last_fits w (g ∷ []) gs (let f : glyph_width g ≤ w = all.0.fits in omega arith) all.1)
]

-- ---- lines

shown_of : (w : ℕ) (cs : List ℕ) → AllByRecursion (IsShowable w) cs → AllByRecursion IsShown cs
shown_of w [] all = tt
shown_of w (c ∷ cs) all = (all.0.shown_rows, shown_of w cs all.1)

-- the columns that are free behind these characters
abbrev pub free_behind : ℕ → List ℕ → ℕ
free_behind w cs = w - last_columns w cs

-- characters with spaces up to the end of their row: the row is full, and looks the same
pub record IsFilled (w : ℕ) (cs ds : List ℕ) : Type 0 where
  pub full : last_columns w ds ≡ w
  pub looks : looks_of (rows_of w ds) ≡ looks_of (rows_of w cs)
  pub seen : visible ds ≡ visible cs ++ spaces (free_behind w cs)

pub filled_text : (w : ℕ) (cs : List ℕ) → AllByRecursion (IsShowable w) (visible cs) → IsFilled w cs (cs ++ spaces (free_behind w cs))
unfolding visible rows_of last_columns
filled_text w cs all =
    let n = w - columns_of_last (pieces_of w (glyphs_of (visible_from 0 cs))) in
    let gs = glyphs_of (visible_from 0 cs) in
    let room : columns_of_last (pieces_of w gs) ≤ w = last_fits w [] gs (omega arith) (glyphs_sized w (visible_from 0 cs) all) in
    let seen : visible_from 0 (cs ++ spaces n) ≡ visible_from 0 cs ++ spaces n = visible_more n 0 cs (omega arith) (shown_of w (visible_from 0 cs) all) in
    let glyphs : glyphs_of (visible_from 0 (cs ++ spaces n)) ≡ gs ++ replicate n space = ap glyphs_of seen ∙ glyphs_more n (visible_from 0 cs) in
    record {
      full = ap (λ x. columns_of_last (pieces_of w x)) glyphs ∙ last_spaces w n [] gs (omega arith) ∙ omega arith;
      looks = ap (λ x. looks_of (map (row_of w) (pieces_of w x))) glyphs ∙ rows_spaces w n [] gs (omega arith);
      seen = seen;
    }

-- ---- the lines of a drawing

-- the lines, of which the last has these bytes behind it
abbrev pub with_fill : List ℕ → List (List ℕ) → List (List ℕ)
with_fill fill [] = []
with_fill fill (line ∷ []) = (line ++ fill) ∷ []
with_fill fill (line ∷ next ∷ lines) = line ∷ with_fill fill (next ∷ lines)

-- the last line fills its row
abbrev pub IsFull : ℕ → List (List ℕ) → Type 0
IsFull w [] = Unit {0}
IsFull w (line ∷ []) = last_columns w (chars line) ≡ w
IsFull w (line ∷ next ∷ lines) = IsFull w (next ∷ lines)

pub filled_length : (fill : List ℕ) (lines : List (List ℕ)) → length (with_fill fill lines) ≡ length lines
filled_length fill [] = refl
filled_length fill (line ∷ []) = refl
filled_length fill (line ∷ next ∷ lines) = ap suc (filled_length fill (next ∷ lines))

-- what is written behind the lines is written behind the last one
pub filled_bytes : (w : ℕ) (at_end : Bool) (lines : List (List ℕ)) → lines_bytes at_end lines ++ fill_bytes false w lines ≡ lines_bytes at_end (with_fill (fill_bytes false w lines) lines)
filled_bytes w at_end [] = refl
filled_bytes w at_end (line ∷ []) = simp (append_assoc, append-nil)
filled_bytes w at_end (line ∷ next ∷ lines) =
    append_assoc ((if at_end then next_row else []) ++ line) (lines_bytes true (next ∷ lines)) (fill_bytes false w (next ∷ lines))
    ∙ ap (λ x. ((if at_end then next_row else []) ++ line) ++ x) (filled_bytes w true (next ∷ lines))
