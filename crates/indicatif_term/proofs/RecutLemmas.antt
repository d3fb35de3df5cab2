-- Rows that look alike are cut alike, and how many rows they become.
use Rattle.std.proofs.Common.{◌≡◌, ℕ, zero, suc, ◌+◌, ◌-◌, ◌<◌, ◌≤◌, true, ◌&&◌, List, [], ◌∷◌, ◌++◌, map, filter, length, take, drop, replicate, refl, sym, ◌∙◌, ap, arith, append-nil, length-append, slice_index_or, if◌then◌else◌}
use Rattle.std.specs.Prelude.{flat_map, ◌==◌}
use Rattle.std.specs.List.{list_all}
use Rattle.std.proofs.lemmas.Bool.{cond_both, eqb-true, ne_eqb, and_parts, false≢true}
use Rattle.std.proofs.lemmas.List.{length-map}
use Rattle.std.proofs.lemmas.List.Concat.{flat_map-append}
use Rattle.indicatif_text.specs.Columns.{Cell, Blank, Written, Continued, Glyph, row_of, pieces_of, blank_row}
use Rattle.indicatif_text.proofs.WrappingLemmas.{pieces_some}
use Rattle.indicatif_term.specs.Screen.{Screen, cursor_row}
use Rattle.indicatif_term.specs.Pictures.{is_blank, trimmed}
use Rattle.indicatif_term.specs.Shows.{look, looks_of}
use Rattle.indicatif_term.specs.Resizes.{glyph_at, glyphs_in, has_place, recut, recut_all, used_rows, lasting_rows}
use Rattle.indicatif_term.proofs.RowReadingLemmas.{all-look, all_blank}

-- ---- rows that look alike

space_is : (b : ℕ) (ms : List ℕ) → (b == 0x20) ≡ true → (length ms == 0) ≡ true → let a : Glyph = record { base = 0x20; joiners = [] } in let c : Glyph = record { base = b; joiners = ms } in a ≡ c
space_is b [] e f = ap (λ x. let g : Glyph = record { base = x; joiners = [] } in g) (sym (eqb-true b 0x20 e))
space_is b (m ∷ ms) e f = absurd (false≢true (sym (ne_eqb (length (m ∷ ms)) 0 (λ q. omega (arith, q))) ∙ f))

look-glyph : (c : Cell) → glyph_at (look c) ≡ glyph_at c
look-glyph Blank = refl
look-glyph Continued = refl
look-glyph (Written g) = cond_both ((g.base == 0x20) && (length g.joiners == 0)) Blank (Written g) (λ x. glyph_at x ≡ g ∷ [])
    (λ e. let p = and_parts (g.base == 0x20) (length g.joiners == 0) e in ap (λ x. x ∷ []) (space_is g.base g.joiners p.0 p.1)) (λ e. refl)

glyphs-look : (row : List Cell) → glyphs_in (map look row) ≡ glyphs_in row
glyphs-look [] = refl
glyphs-look (c ∷ cs) =
    ap (λ b. flat_map glyph_at (if b then [] else look c ∷ trimmed (map look cs))) (all-look (c ∷ cs))
    ∙ cond_both (list_all is_blank (c ∷ cs)) [] (look c ∷ trimmed (map look cs)) (λ x. flat_map glyph_at x ≡ glyphs_in (c ∷ cs))
    (λ e. rw e refl) (λ e. rw (e, look-glyph c, glyphs-look cs) refl)

recut-look : (w : ℕ) (row : List Cell) → recut w (map look row) ≡ recut w row
unfolding recut
recut-look w row = rw (glyphs-look row) refl

recut_all-look : (w : ℕ) (rows : List (List Cell)) → recut_all w (looks_of rows) ≡ recut_all w rows
recut_all-look w [] = refl
recut_all-look w (r ∷ rows) = rw (recut-look w r, recut_all-look w rows) refl

pub recut_alike : (w : ℕ) (a b : List (List Cell)) → looks_of a ≡ looks_of b → recut_all w a ≡ recut_all w b
recut_alike w a b e = sym (recut_all-look w a) ∙ ap (recut_all w) e ∙ recut_all-look w b

-- a row is cut by its glyphs alone
by_glyphs : (w : ℕ) (a b : List Cell) → glyphs_in a ≡ glyphs_in b → recut w a ≡ recut w b
unfolding recut
by_glyphs w a b e = ap (λ gs. map (row_of w) (pieces_of w (filter (has_place w) gs))) e

pub recut_by_glyphs : (w : ℕ) (a b : List (List Cell)) → map glyphs_in a ≡ map glyphs_in b → recut_all w a ≡ recut_all w b
recut_by_glyphs w [] [] e = refl
recut_by_glyphs w [] (y ∷ b) e = cc
recut_by_glyphs w (x ∷ a) [] e = cc
recut_by_glyphs w (x ∷ a) (y ∷ b) e =
    let f : glyphs_in x ≡ glyphs_in y = ap (λ gs. slice_index_or gs 0 []) e in
    let g : map glyphs_in a ≡ map glyphs_in b = ap (drop 1) e in
    rw (by_glyphs w x y f, recut_by_glyphs w a b g) refl

-- ---- how many rows they become

trimmed_blanks : (n : ℕ) → trimmed (replicate n Blank) ≡ []
trimmed_blanks zero = refl
trimmed_blanks (suc n) = rw (all_blank n) refl

pub blank_glyphs : (w : ℕ) → glyphs_in (blank_row w) ≡ []
blank_glyphs w = ap (flat_map glyph_at) (trimmed_blanks w)

less_none : (w : ℕ) → row_of w [] ≡ blank_row w
less_none w = ap (λ n. replicate n Blank) (let e : w - 0 ≡ w = omega arith in e)

recut-blank : (w n : ℕ) → recut w (blank_row n) ≡ blank_row w ∷ []
unfolding recut
recut-blank w n = rw (trimmed_blanks n) (ap (λ x. x ∷ []) (less_none w))

pub recut_blanks : (w n k : ℕ) → recut_all w (replicate k (blank_row n)) ≡ replicate k (blank_row w)
recut_blanks w n zero = refl
recut_blanks w n (suc k) = rw (recut-blank w n, recut_blanks w n k) refl

pub recut_some : (w : ℕ) (row : List Cell) → 0 < length (recut w row)
unfolding recut
recut_some w row = rw length-map (pieces_some w [] (filter (has_place w) (glyphs_in row)))

pub recut_more : (w : ℕ) (rows : List (List Cell)) → length rows ≤ length (recut_all w rows)
recut_more w [] = omega arith
recut_more w (r ∷ rows) =
    let some : 0 < length (recut w r) = recut_some w r in
    let rest : length rows ≤ length (recut_all w rows) = recut_more w rows in
    omega (arith, some, rest, length-append (recut w r) (recut_all w rows))

-- a row more
pub row_more : (w n : ℕ) (rows : List (List Cell)) → n < length rows → length (recut_all w (take n rows)) + length (recut w (slice_index_or rows n [])) ≡ length (recut_all w (take (suc n) rows))
row_more w n [] h = absurd (omega (arith, h))
row_more w zero (r ∷ rows) h = let e : length (recut w r) ≡ length (recut w r ++ []) = ap length (sym (append-nil (recut w r))) in omega (arith, e)
row_more w (suc n) (r ∷ rows) h =
    let i : length (recut_all w (take n rows)) + length (recut w (slice_index_or rows n [])) ≡ length (recut_all w (take (suc n) rows)) = row_more w n rows (omega (arith, h)) in
    omega (arith, i, length-append (recut w r) (recut_all w (take n rows)), length-append (recut w r) (recut_all w (take (suc n) rows)))

-- the rows down to the cursor's are among those that last
pub upper_rows : (w : ℕ) (s : Screen) → s.row < length s.rows →
    length (recut_all w (take s.row s.rows)) + length (recut w (cursor_row s)) ≤ length (recut_all w (lasting_rows s))
upper_rows w s within =
    let used = used_rows (drop (s.row + 1) s.rows) in
    let front : length (recut_all w (take (s.row + 1) s.rows)) ≡ length (recut_all w (take s.row s.rows)) + length (recut w (cursor_row s)) =
    ap (λ n. length (recut_all w (take n s.rows))) (let e : s.row + 1 ≡ suc s.row = omega arith in e) ∙ sym (row_more w s.row s.rows within) in
    let all : length (recut_all w (lasting_rows s)) ≡ length (recut_all w (take (s.row + 1) s.rows)) + length (recut_all w used) =
    ap length (flat_map-append (recut w) (take (s.row + 1) s.rows) used) ∙ length-append (recut_all w (take (s.row + 1) s.rows)) (recut_all w used) in
    omega (arith, front, all)
