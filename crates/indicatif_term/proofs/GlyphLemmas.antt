-- Glyphs put one after another make the rows that the definition of a line says.
use Rattle.std.proofs.Common.{◌≡◌, ℕ, suc, ◌+◌, ◌-◌, ◌<◌, ◌≤◌, false, List, [], ◌∷◌, ◌++◌, length, replicate, refl, sym, ◌∙◌, ap, append_assoc, append-nil, arith, length-append, map, Some, None, Option}
use Rattle.std.specs.Prelude.{nat_le, flat_map, unwrap_or}
use Rattle.std.proofs.lemmas.List.{length-replicate, set_at}
use Rattle.std.proofs.lemmas.List.Sums.{sum_by_push}
use Rattle.std.proofs.lemmas.List.Elements.{recursion_from_All}
use Rattle.std.proofs.lemmas.Bool.{cond_both, leb-true, leb-false, le-ltb, le-leb, lt-leb, ne_eqb}
use Rattle.std.proofs.lemmas.Grind.{flat_map-append}
use Rattle.std.specs.List.{AllByRecursion}
use Rattle.unicode_width.specs.Width.{char_width}
use Rattle.indicatif_text.specs.Columns.{Cell, width_of, Blank, Continued, Glyph, glyph_cells, glyph_width, columns_in, row_of, pieces_after, blank_row, columns_of_last}
use Rattle.indicatif_term.specs.Screen.{Screen, Put, joined_at, with_joiner, put_here, put_sized, put_joiner, line_feed, performed}
use Rattle.indicatif_term.specs.Inside.Scanners.{performed_all}
use Rattle.indicatif_term.specs.Inside.Resizing.{all_joined}
use Rattle.indicatif_text.proofs.WrappingLemmas.{pieces_some, last_more}
use Rattle.indicatif_term.proofs.CursorRowLemmas.{screen_at, screen_after, glyph_ops, IsSized}
use Rattle.indicatif_term.proofs.FeedLemmas.{performed_all-append}
use Rattle.indicatif_term.proofs.ScreenRowLemmas.{written_behind, joined, cursor_row_at, with_row_at, line_feed_at}

-- ---- one glyph

pub put_here_at : (w h : ℕ) (above : List (List Cell)) (cells : List Cell) (j n k column : ℕ) (g : Glyph) → length cells ≡ column →
    put_here g k (screen_at w h above (cells ++ replicate j Blank) n column) ≡ screen_at w h above ((cells ++ glyph_cells g) ++ replicate (j - length (glyph_cells g)) Blank) n (column + k)
put_here_at w h above cells j n k column g e =
    rw (
      ← e,
      cursor_row_at w h above (cells ++ replicate j Blank) n (length cells),
      written_behind cells j (glyph_cells g),
      set_at above (cells ++ replicate j Blank) (replicate n (blank_row w)) ((cells ++ glyph_cells g) ++ replicate (j - length (glyph_cells g)) Blank) (length above) refl,
    ) refl

-- a row that has this piece, the cursor after it
abbrev pub piece_at : ℕ → ℕ → List (List Cell) → List Glyph → ℕ → Screen
piece_at w h above piece n = screen_at w h above (row_of w piece) n (columns_in piece)

pub no_piece : (w h : ℕ) (above : List (List Cell)) (n : ℕ) → screen_at w h above (blank_row w) n 0 ≡ piece_at w h above [] n
no_piece w h above n = ap (λ k. screen_at w h above (replicate k Blank) n 0) (omega arith)

-- that each glyph of a piece takes its columns
abbrev pub IsPiece : List Glyph → Type 0
IsPiece piece = length (flat_map glyph_cells piece) ≡ columns_in piece

pub length_cells : (g : Glyph) → 0 < glyph_width g → length (glyph_cells g) ≡ glyph_width g
length_cells g h = omega (arith, length-replicate (glyph_width g - 1) Continued)

pub cells_push : (piece : List Glyph) (g : Glyph) → flat_map glyph_cells (piece ++ g ∷ []) ≡ flat_map glyph_cells piece ++ glyph_cells g
cells_push piece g = flat_map-append glyph_cells piece (g ∷ []) ∙ ap (λ xs. flat_map glyph_cells piece ++ xs) (append-nil (glyph_cells g))

pub columns_push : (piece : List Glyph) (g : Glyph) → columns_in (piece ++ g ∷ []) ≡ columns_in piece + glyph_width g
columns_push piece g = sum_by_push glyph_width piece g

pub is_piece_push : (piece : List Glyph) (g : Glyph) → 0 < glyph_width g → IsPiece piece → IsPiece (piece ++ g ∷ [])
is_piece_push piece g h is = omega (
  arith,
  ap length (cells_push piece g),
  length-append (flat_map glyph_cells piece) (glyph_cells g),
  length_cells g h,
  columns_push piece g,
)

row_of_push : (w : ℕ) (piece : List Glyph) (g : Glyph) → 0 < glyph_width g →
    (flat_map glyph_cells piece ++ glyph_cells g) ++ replicate ((w - columns_in piece) - length (glyph_cells g)) Blank ≡ row_of w (piece ++ g ∷ [])
row_of_push w piece g h =
    let room : (w - columns_in piece) - length (glyph_cells g) ≡ w - columns_in (piece ++ g ∷ []) = omega (arith, length_cells g h, columns_push piece g) in
    cc (cells_push piece g)

pub put_sized_here : (c k : ℕ) (s : Screen) → 0 < k → k ≤ s.columns → s.column + k ≤ s.columns → put_sized c (Some k) s ≡ put_here (record { base = c; joiners = [] }) k s
put_sized_here c k s h₁ h₂ h₃ =
    rw (ne_eqb k 0 (λ e. omega arith), le-ltb s.columns k h₂, le-leb (s.column + k) s.columns h₃) refl

pub put_sized_next : (c k : ℕ) (s : Screen) → 0 < k → k ≤ s.columns → s.columns < s.column + k →
    put_sized c (Some k) s ≡ put_here (record { base = c; joiners = [] }) k (line_feed (record s { column = 0 }))
put_sized_next c k s h₁ h₂ h₃ =
    rw (ne_eqb k 0 (λ e. omega arith), le-ltb s.columns k h₂, lt-leb (s.column + k) s.columns h₃) refl

pub some_width : (o : Option ℕ) → 0 < unwrap_or o 0 → o ≡ Some (unwrap_or o 0)
some_width None h = absurd (omega arith)
some_width (Some k) h = refl

pub put_base : (w h : ℕ) (above : List (List Cell)) (piece : List Glyph) (n c : ℕ) → 0 < width_of c → IsPiece piece → columns_in piece + width_of c ≤ w →
    performed (Put c) (piece_at w h above piece n) ≡ piece_at w h above (piece ++ record { base = c; joiners = [] } ∷ []) n
put_base w h above piece n c pos is fits =
    let g : Glyph = record { base = c; joiners = [] } in
    ap (λ o. put_sized c o (piece_at w h above piece n)) (some_width (char_width false c) pos)
    ∙ put_sized_here c (width_of c) (piece_at w h above piece n) pos (omega arith) fits
    ∙ put_here_at w h above (flat_map glyph_cells piece) (w - columns_in piece) n (width_of c) (columns_in piece) g is
    ∙ cc (row_of_push w piece g pos, columns_push piece g)

-- where it does not fit, the same as in the next row
pub put_base_next : (w h : ℕ) (above : List (List Cell)) (piece : List Glyph) (n c : ℕ) → 0 < width_of c → width_of c ≤ w → w < columns_in piece + width_of c →
    performed (Put c) (piece_at w h above piece n) ≡ performed (Put c) (piece_at w h (above ++ row_of w piece ∷ []) [] (n - 1))
put_base_next w h above piece n c pos fits full =
    ap (λ o. put_sized c o (piece_at w h above piece n)) (some_width (char_width false c) pos)
    ∙ put_sized_next c (width_of c) (piece_at w h above piece n) pos fits full
    ∙ ap (put_here (record { base = c; joiners = [] }) (width_of c)) (line_feed_at w h above (row_of w piece) n 0 ∙ no_piece w h (above ++ row_of w piece ∷ []) (n - 1))
    ∙ sym (put_sized_here c (width_of c) (piece_at w h (above ++ row_of w piece ∷ []) [] (n - 1)) pos fits (omega arith))
    ∙ sym (ap (λ o. put_sized c o (piece_at w h (above ++ row_of w piece ∷ []) [] (n - 1))) (some_width (char_width false c) pos))

-- a joiner joins the last glyph
joiner_at : (w h : ℕ) (above : List (List Cell)) (piece : List Glyph) (n c : ℕ) (g : Glyph) → 0 < glyph_width g → IsPiece piece →
    put_joiner c (piece_at w h above (piece ++ g ∷ []) n) ≡ piece_at w h above (piece ++ with_joiner c g ∷ []) n
joiner_at w h above piece n c g pos is =
    let is' : length (flat_map glyph_cells (piece ++ g ∷ [])) ≡ columns_in (piece ++ g ∷ []) = is_piece_push piece g pos is in
    let row : joined_at (columns_in (piece ++ g ∷ [])) c (row_of w (piece ++ g ∷ [])) ≡ row_of w (piece ++ with_joiner c g ∷ []) =
    cc (
      joined c (flat_map glyph_cells piece) g (replicate (w - columns_in (piece ++ g ∷ [])) Blank),
      cells_push piece g,
      cells_push piece (with_joiner c g),
      columns_push piece g,
      columns_push piece (with_joiner c g),
    ) in
    rw (cursor_row_at w h above (row_of w (piece ++ g ∷ [])) n (columns_in (piece ++ g ∷ [])), row) (
    with_row_at w h above (row_of w (piece ++ g ∷ [])) n (columns_in (piece ++ g ∷ [])) (row_of w (piece ++ with_joiner c g ∷ []))
    ∙ cc (columns_push piece g, columns_push piece (with_joiner c g)))

pub joiners_at : (w h : ℕ) (above : List (List Cell)) (piece : List Glyph) (n : ℕ) (ms : List ℕ) (g : Glyph) → 0 < glyph_width g → IsPiece piece →
    all_joined (piece_at w h above (piece ++ g ∷ []) n) ms ≡ piece_at w h above (piece ++ record g { joiners = g.joiners ++ ms } ∷ []) n
joiners_at w h above piece n [] g pos is = ap (λ ms. piece_at w h above (piece ++ record g { joiners = ms } ∷ []) n) (sym (append-nil g.joiners))
joiners_at w h above piece n (m ∷ ms) g pos is =
    ap (λ s. all_joined s ms) (joiner_at w h above piece n m g pos is)
    ∙ joiners_at w h above piece n ms (with_joiner m g) pos is
    ∙ ap (λ ms. piece_at w h above (piece ++ record g { joiners = ms } ∷ []) n) (append_assoc g.joiners (m ∷ []) ms)

-- characters without columns are joiners
as_joiners : (ms : List ℕ) (s : Screen) → AllByRecursion (λ c. char_width false c ≡ Some 0) ms → performed_all (map (λ c. Put c) ms) s ≡ all_joined s ms
as_joiners [] s all = refl
as_joiners (m ∷ ms) s all = ap (performed_all (map (λ c. Put c) ms)) (ap (λ o. put_sized m o s) all.0) ∙ as_joiners ms (put_joiner m s) all.1

joiners_put : (w h : ℕ) (above : List (List Cell)) (piece : List Glyph) (n : ℕ) (ms : List ℕ) (g : Glyph) → 0 < glyph_width g → IsPiece piece → AllByRecursion (λ c. char_width false c ≡ Some 0) ms →
    performed_all (map (λ c. Put c) ms) (piece_at w h above (piece ++ g ∷ []) n) ≡ piece_at w h above (piece ++ record g { joiners = g.joiners ++ ms } ∷ []) n
joiners_put w h above piece n ms g pos is all = as_joiners ms (piece_at w h above (piece ++ g ∷ []) n) all ∙ joiners_at w h above piece n ms g pos is

glyph_put : (w h : ℕ) (above : List (List Cell)) (piece : List Glyph) (n : ℕ) (g : Glyph) → IsSized w g → IsPiece piece → columns_in piece + glyph_width g ≤ w →
    performed_all (glyph_ops g) (piece_at w h above piece n) ≡ piece_at w h above (piece ++ g ∷ []) n
glyph_put w h above piece n g sized is fits =
    ap (performed_all (map (λ c. Put c) g.joiners)) (put_base w h above piece n g.base sized.columns is fits)
    ∙ joiners_put w h above piece n g.joiners (record { base = g.base; joiners = [] }) sized.columns is (recursion_from_All (λ c. char_width false c ≡ Some 0) g.joiners sized.joiners)

glyph_put_next : (w h : ℕ) (above : List (List Cell)) (piece : List Glyph) (n : ℕ) (g : Glyph) → IsSized w g → IsPiece piece → w < columns_in piece + glyph_width g →
    performed_all (glyph_ops g) (piece_at w h above piece n) ≡ piece_at w h (above ++ row_of w piece ∷ []) (g ∷ []) (n - 1)
glyph_put_next w h above piece n g sized is full =
    ap (performed_all (map (λ c. Put c) g.joiners)) (put_base_next w h above piece n g.base sized.columns sized.fits full)
    ∙ glyph_put w h (above ++ row_of w piece ∷ []) [] (n - 1) g sized refl (let f : glyph_width g ≤ w = sized.fits in omega arith)

-- ---- many glyphs

-- the screen after these pieces
abbrev pub screen_with : ℕ → ℕ → List (List Cell) → List (List Glyph) → ℕ → Screen
screen_with w h above ps n = screen_after w h (above ++ map (row_of w) ps) ((n + 1) - length ps) (columns_of_last ps)

pub with_one : (w h : ℕ) (above : List (List Cell)) (piece : List Glyph) (n : ℕ) → piece_at w h above piece n ≡ screen_with w h above (piece ∷ []) n
with_one w h above piece n =
    let blanks : (n + 1) - 1 ≡ n = omega arith in
    let row : length (above ++ row_of w piece ∷ []) - 1 ≡ length above = omega (arith, length-append above (row_of w piece ∷ [])) in
    cc (append_assoc above (row_of w piece ∷ []) (replicate n (blank_row w)))

pub with_more : (w h : ℕ) (above : List (List Cell)) (piece : List Glyph) (ps : List (List Glyph)) (n : ℕ) → 0 < length ps →
    screen_with w h (above ++ row_of w piece ∷ []) ps (n - 1) ≡ screen_with w h above (piece ∷ ps) n
with_more w h above piece ps n some =
    let blanks : ((n - 1) + 1) - length ps ≡ (n + 1) - suc (length ps) = omega arith in
    cc (append_assoc above (row_of w piece ∷ []) (map (row_of w) ps), last_more piece ps some)

pub glyphs_put : (w h : ℕ) (above : List (List Cell)) (piece : List Glyph) (n : ℕ) (gs : List Glyph) → AllByRecursion (IsSized w) gs → IsPiece piece →
    performed_all (flat_map glyph_ops gs) (piece_at w h above piece n) ≡ screen_with w h above (pieces_after w piece gs) n
glyphs_put w h above piece n [] sized is = with_one w h above piece n
glyphs_put w h above piece n (g ∷ gs) sized is =
    performed_all-append (glyph_ops g) (flat_map glyph_ops gs) (piece_at w h above piece n)
    ∙ cond_both (nat_le (columns_in piece + glyph_width g) w) (pieces_after w (piece ++ g ∷ []) gs) (piece ∷ pieces_after w (g ∷ []) gs)
    (λ ps. performed_all (flat_map glyph_ops gs) (performed_all (glyph_ops g) (piece_at w h above piece n)) ≡ screen_with w h above ps n)
    (λ e. ap (performed_all (flat_map glyph_ops gs)) (glyph_put w h above piece n g sized.0 is (leb-true (columns_in piece + glyph_width g) w e))
    ∙ glyphs_put w h above (piece ++ g ∷ []) n gs sized.1 (is_piece_push piece g sized.0.columns is))
    (λ e. ap (performed_all (flat_map glyph_ops gs)) (glyph_put_next w h above piece n g sized.0 is (leb-false (columns_in piece + glyph_width g) w e))
    ∙ glyphs_put w h (above ++ row_of w piece ∷ []) (g ∷ []) (n - 1) gs sized.1 (is_piece_push [] g sized.0.columns refl)
    ∙ with_more w h above piece (pieces_after w (g ∷ []) gs) n (pieces_some w (g ∷ []) gs))
