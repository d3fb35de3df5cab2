-- A line of text written from the front of an empty row makes the rows that its definition says.
use Rattle.std.proofs.Common.{◌≡◌, ℕ, zero, suc, ◌+◌, ◌-◌, ◌<◌, Bool, true, false, cond, List, [], ◌∷◌, ◌++◌, length, take, replicate, refl, sym, ◌∙◌, ap, subst, append-nil, arith, length-append, map, eqb, Some, None, Option, sub-one}
use Rattle.std.specs.Prelude.{is_some, unwrap_or, flat_map, take_while, nat_lt, slice_set}
use Rattle.std.specs.List.{AllByRecursion, prefix_len}
use Rattle.std.proofs.lemmas.List.Elements.{All-from_recursion}
use Rattle.std.proofs.lemmas.Bool.{cond_both, eqb-true, eqb-false, le-ltb, lt-ltb, false≢true}
use Rattle.unicode_width.specs.Width.{char_width}
use Rattle.indicatif_text.specs.Columns.{Cell, Glyph, width_of, glyphs_of, pieces_of, blank_row}
use Rattle.indicatif_term.specs.Screen.{Put, put_sized, line_feed}
use Rattle.indicatif_term.specs.Inside.Scanners.{performed_all}
use Rattle.indicatif_term.proofs.CursorRowLemmas.{screen_at, screen_after, glyph_ops, IsSized, IsShowable}
use Rattle.indicatif_term.proofs.ScreenRowLemmas.{same_screen, cursor_row_at, with_row_at}
use Rattle.indicatif_term.proofs.GlyphLemmas.{no_piece, glyphs_put, screen_with}
use Rattle.indicatif_term.proofs.FeedLemmas.{performed_all-append}

-- ---- glyphs and visible characters

of_no_width : (o : Option ℕ) → is_some o ≡ true → unwrap_or o 0 ≡ 0 → o ≡ Some 0
of_no_width None shown_rows e = absurd (false≢true shown_rows)
of_no_width (Some k) shown_rows e = ap (λ k. Some k) e

abbrev pub has_no_width : ℕ → Bool
has_no_width c = eqb (width_of c) 0

abbrev pub joiners_before : List ℕ → List ℕ
joiners_before cs = take_while has_no_width cs

front_by : (b : Bool) (k c : ℕ) (cs : List ℕ) → take (cond b (1 + k) 0) (c ∷ cs) ≡ cond b (c ∷ take k cs) []
front_by true k c cs = ap (λ n. take n (c ∷ cs)) (let e : 1 + k ≡ suc k = omega arith in e)
front_by false k c cs = refl

pub joiners_before-cons : (c : ℕ) (cs : List ℕ) → joiners_before (c ∷ cs) ≡ cond (has_no_width c) (c ∷ joiners_before cs) []
joiners_before-cons c cs = front_by (has_no_width c) (prefix_len has_no_width cs) c cs

abbrev pub IsJoiner : ℕ → Type 0
IsJoiner c = char_width false c ≡ Some 0

pub joiners_are : (w : ℕ) (cs : List ℕ) → AllByRecursion (IsShowable w) cs → AllByRecursion IsJoiner (joiners_before cs)
joiners_are w [] all = tt
joiners_are w (c ∷ cs) all = subst (AllByRecursion IsJoiner) (sym (joiners_before-cons c cs))
    (cond_both (has_no_width c) (c ∷ joiners_before cs) [] (AllByRecursion IsJoiner)
    (λ e. (of_no_width (char_width false c) all.0.shown_rows (eqb-true (width_of c) 0 e), joiners_are w cs all.1)) (λ e. tt))

pub glyphs_sized : (w : ℕ) (cs : List ℕ) → AllByRecursion (IsShowable w) cs → AllByRecursion (IsSized w) (glyphs_of cs)
glyphs_sized w [] all = tt
glyphs_sized w (c ∷ cs) all =
    let g : Glyph = record { base = c; joiners = joiners_before cs } in
    cond_both (has_no_width c) (glyphs_of cs) (g ∷ glyphs_of cs) (AllByRecursion (IsSized w))
    (λ e. glyphs_sized w cs all.1)
    (λ e. let differs : width_of c ≡ 0 → ⊥ = eqb-false (width_of c) 0 e in
    (record { columns = omega arith; fits = all.0.fits; joiners = All-from_recursion IsJoiner (joiners_before cs) (joiners_are w cs all.1) }, glyphs_sized w cs all.1))

split_by : (b : Bool) (c : ℕ) (cs : List ℕ) → map (λ c. Put c) cs ≡ map (λ c. Put c) (joiners_before cs) ++ flat_map glyph_ops (glyphs_of cs) →
    Put c ∷ map (λ c. Put c) cs ≡ map (λ c. Put c) (cond b (c ∷ joiners_before cs) []) ++ flat_map glyph_ops (cond b (glyphs_of cs) (record { base = c; joiners = joiners_before cs } ∷ glyphs_of cs))
split_by true c cs e = ap (λ ops. Put c ∷ ops) e
split_by false c cs e = ap (λ ops. Put c ∷ ops) e

pub split_glyphs : (cs : List ℕ) → map (λ c. Put c) cs ≡ map (λ c. Put c) (joiners_before cs) ++ flat_map glyph_ops (glyphs_of cs)
split_glyphs [] = refl
split_glyphs (c ∷ cs) =
    split_by (has_no_width c) c cs (split_glyphs cs)
    ∙ ap (λ ms. map (λ c. Put c) ms ++ flat_map glyph_ops (glyphs_of (c ∷ cs))) (sym (joiners_before-cons c cs))

pub joiners_skipped : (w h : ℕ) (above : List (List Cell)) (here : List Cell) (n : ℕ) (cs : List ℕ) → AllByRecursion IsJoiner cs →
    performed_all (map (λ c. Put c) cs) (screen_at w h above here n 0) ≡ screen_at w h above here n 0
joiners_skipped w h above here n [] all = refl
joiners_skipped w h above here n (c ∷ cs) all =
    ap (performed_all (map (λ c. Put c) cs)) (ap (λ o. put_sized c o (screen_at w h above here n 0)) all.0
    ∙ ap (λ row. record (screen_at w h above here n 0) { rows = slice_set (above ++ here ∷ replicate n (blank_row w)) (length above) row }) (cursor_row_at w h above here n 0)
    ∙ with_row_at w h above here n 0 here)
    ∙ joiners_skipped w h above here n cs all.1

-- the characters of a line
pub text_put : (w h : ℕ) (above : List (List Cell)) (n : ℕ) (cs : List ℕ) → AllByRecursion (IsShowable w) cs →
    performed_all (map (λ c. Put c) cs) (screen_at w h above (blank_row w) n 0) ≡ screen_with w h above (pieces_of w (glyphs_of cs)) n
text_put w h above n cs all =
    ap (λ ops. performed_all ops (screen_at w h above (blank_row w) n 0)) (split_glyphs cs)
    ∙ performed_all-append (map (λ c. Put c) (joiners_before cs)) (flat_map glyph_ops (glyphs_of cs)) (screen_at w h above (blank_row w) n 0)
    ∙ ap (performed_all (flat_map glyph_ops (glyphs_of cs))) (joiners_skipped w h above (blank_row w) n (joiners_before cs) (joiners_are w cs all) ∙ no_piece w h above n)
    ∙ glyphs_put w h above [] n (glyphs_of cs) (glyphs_sized w cs all) refl

-- ---- the line's end

pub line_feed_after : (w h : ℕ) (rows : List (List Cell)) (n column : ℕ) → 0 < length rows → line_feed (screen_after w h rows n column) ≡ screen_at w h rows (blank_row w) (n - 1) column
line_feed_after w h rows zero column some =
    let none : List (List Cell) = [] in
    let last : nat_lt (length rows - 1 + 1) (length (rows ++ [])) ≡ false = le-ltb (length rows - 1 + 1) (length (rows ++ [])) (omega (arith, length-append rows none)) in
    same_screen _ _ _ _ _ _ _ _ (rw last (ap (λ xs. xs ++ blank_row w ∷ []) (append-nil rows))) (omega arith) refl
line_feed_after w h rows (suc n) column some =
    let below = replicate (suc n) (blank_row w) in
    let more : nat_lt (length rows - 1 + 1) (length (rows ++ below)) ≡ true = lt-ltb (length rows - 1 + 1) (length (rows ++ below)) (omega (arith, length-append rows below)) in
    same_screen _ _ _ _ _ _ _ _ (rw (more, sub-one) refl) (omega arith) refl
