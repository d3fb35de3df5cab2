-- Rows that are put on a new screen, one after another, are the old rows cut anew.
use Rattle.std.proofs.Common.{◌≡◌, ℕ, zero, suc, ◌+◌, ◌-◌, ◌<◌, ◌≤◌, max, min, get_or, Bool, true, false, List, [], ◌∷◌, ◌++◌, filter, length, take, drop, replicate, refl, sym, ◌∙◌, ap, arith, append_assoc, append-nil, length-append, if◌then◌else◌}
use Rattle.std.specs.Prelude.{fold, ◌==◌, nat_le}
use Rattle.std.proofs.lemmas.Bool.{cond_both, leb-true, leb-false, and_parts, eq-eqb, ne_eqb}
use Rattle.std.proofs.lemmas.List.Folds.{list_all_at}
use Rattle.std.specs.List.{list_all}
use Rattle.indicatif_term.specs.Pictures.{is_blank, trimmed}
use Rattle.std.proofs.lemmas.List.{length-map, length-replicate, length-take-le, take_more}
use Rattle.std.proofs.lemmas.List.Concat.{flat_map-append}
use Rattle.indicatif_text.specs.Columns.{Cell, Glyph, glyph_width, columns_in, row_of, pieces_of, pieces_after, columns_of_last, blank_row}
use Rattle.indicatif_text.proofs.WrappingLemmas.{pieces_some}
use Rattle.indicatif_term.specs.Screen.{Screen, cursor_row, blank_screen, top}
use Rattle.indicatif_term.specs.Resizes.{has_place, glyphs_in, recut, recut_all, used_rows, lasting_rows, row_then, column_then, recut_screen}
use Rattle.indicatif_term.specs.Inside.Resizing.{LastingPut, all_joined, glyph_put, row_put, row_after, rows_ended, rows_begun}
use Rattle.indicatif_term.specs.declared.cells.grid.resizing.CursorRows.{CursorRows}
use Rattle.indicatif_term.proofs.CursorRowLemmas.{screen_at, screen_after}
use Rattle.indicatif_term.proofs.ScreenRowLemmas.{made}
use Rattle.indicatif_term.proofs.GlyphLemmas.{piece_at, no_piece, IsPiece, is_piece_push, put_base, put_base_next, joiners_at, screen_with, with_one, with_more}
use Rattle.indicatif_term.proofs.WrittenLineLemmas.{line_feed_after}
use Rattle.indicatif_term.proofs.RecutLemmas.{recut_some, upper_rows}

-- ---- glyphs

fits : (w : ℕ) (g : Glyph) → has_place w g ≡ true → (0 < glyph_width g) × (glyph_width g ≤ w)
fits w g e = let p = and_parts (nat_le 1 (glyph_width g)) (nat_le (glyph_width g) w) e in (leb-true 1 (glyph_width g) p.0, leb-true (glyph_width g) w p.1)

glyph_here : (w h : ℕ) (above : List (List Cell)) (piece : List Glyph) (n : ℕ) (g : Glyph) → has_place w g ≡ true → IsPiece piece → columns_in piece + glyph_width g ≤ w →
    glyph_put (piece_at w h above piece n) g ≡ piece_at w h above (piece ++ g ∷ []) n
glyph_here w h above piece n g e is room =
    let p = fits w g e in
    rw e (ap (λ s. all_joined s g.joiners) (put_base w h above piece n g.base p.0 is room)
    ∙ joiners_at w h above piece n g.joiners (record { base = g.base; joiners = [] }) p.0 is)

glyph_next : (w h : ℕ) (above : List (List Cell)) (piece : List Glyph) (n : ℕ) (g : Glyph) → has_place w g ≡ true → IsPiece piece → w < columns_in piece + glyph_width g →
    glyph_put (piece_at w h above piece n) g ≡ piece_at w h (above ++ row_of w piece ∷ []) (g ∷ []) (n - 1)
glyph_next w h above piece n g e is full =
    let p = fits w g e in
    let room : 0 + glyph_width g ≤ w = omega (arith, p.1) in
    rw e (ap (λ s. all_joined s g.joiners) (put_base_next w h above piece n g.base p.0 p.1 full ∙ put_base w h (above ++ row_of w piece ∷ []) [] (n - 1) g.base p.0 refl room)
    ∙ joiners_at w h (above ++ row_of w piece ∷ []) [] (n - 1) g.joiners (record { base = g.base; joiners = [] }) p.0 refl)

left_out : (w h : ℕ) (above : List (List Cell)) (piece : List Glyph) (n : ℕ) (g : Glyph) → has_place w g ≡ false → glyph_put (piece_at w h above piece n) g ≡ piece_at w h above piece n
left_out w h above piece n g e = rw e refl

glyphs_in_turn : (w h : ℕ) (above : List (List Cell)) (piece : List Glyph) (n : ℕ) (gs : List Glyph) → IsPiece piece →
    fold glyph_put (piece_at w h above piece n) gs ≡ screen_with w h above (pieces_after w piece (filter (has_place w) gs)) n
glyphs_in_turn w h above piece n [] is = with_one w h above piece n
glyphs_in_turn w h above piece n (g ∷ gs) is =
    let rest = filter (has_place w) gs in
    cond_both (has_place w g) (g ∷ rest) rest
    (λ fitting. fold glyph_put (glyph_put (piece_at w h above piece n) g) gs ≡ screen_with w h above (pieces_after w piece fitting) n)
    (λ e. let some : 0 < glyph_width g = (fits w g e).0 in
    cond_both (nat_le (columns_in piece + glyph_width g) w) (pieces_after w (piece ++ g ∷ []) rest) (piece ∷ pieces_after w (g ∷ []) rest)
    (λ ps. fold glyph_put (glyph_put (piece_at w h above piece n) g) gs ≡ screen_with w h above ps n)
    (λ r. ap (λ s. fold glyph_put s gs) (glyph_here w h above piece n g e is (leb-true (columns_in piece + glyph_width g) w r))
    ∙ glyphs_in_turn w h above (piece ++ g ∷ []) n gs (is_piece_push piece g some is))
    (λ r. ap (λ s. fold glyph_put s gs) (glyph_next w h above piece n g e is (leb-false (columns_in piece + glyph_width g) w r))
    ∙ glyphs_in_turn w h (above ++ row_of w piece ∷ []) (g ∷ []) (n - 1) gs (is_piece_push [] g some refl)
    ∙ with_more w h above piece (pieces_after w (g ∷ []) rest) n (pieces_some w (g ∷ []) rest)))
    (λ e. ap (λ s. fold glyph_put s gs) (left_out w h above piece n g e) ∙ glyphs_in_turn w h above piece n gs is)

-- ---- rows

-- the columns of the last row that a row becomes
abbrev last_of : ℕ → List Cell → ℕ
last_of w row = columns_of_last (pieces_of w (filter (has_place w) (glyphs_in row)))

row_at : (w h : ℕ) (above : List (List Cell)) (n : ℕ) (row : List Cell) →
    row_put (screen_at w h above (blank_row w) n 0) row ≡ screen_after w h (above ++ recut w row) ((n + 1) - length (recut w row)) (last_of w row)
unfolding recut
row_at w h above n row =
    ap (λ s. fold glyph_put s (glyphs_in row)) (no_piece w h above n)
    ∙ glyphs_in_turn w h above [] n (glyphs_in row) refl
    ∙ ap (λ k. screen_after w h (above ++ recut w row) ((n + 1) - k) (last_of w row)) (sym (length-map (pieces_of w (filter (has_place w) (glyphs_in row))) (row_of w)))

next_at : (w h : ℕ) (rows : List (List Cell)) (n column : ℕ) → 0 < length rows → row_after (screen_after w h rows n column) ≡ screen_at w h rows (blank_row w) (n - 1) 0
next_at w h rows n column some = line_feed_after w h rows n 0 some

some_more : (above rows : List (List Cell)) → 0 < length rows → 0 < length (above ++ rows)
some_more above rows some = omega (arith, length-append above rows)

pub ended_at : (w h : ℕ) (above : List (List Cell)) (n : ℕ) (rows : List (List Cell)) →
    rows_ended (screen_at w h above (blank_row w) n 0) rows ≡ screen_at w h (above ++ recut_all w rows) (blank_row w) (n - length (recut_all w rows)) 0
ended_at w h above n [] =
    let k : n ≡ n - 0 = omega arith in
    ap (λ xs. screen_at w h xs (blank_row w) n 0) (sym (append-nil above)) ∙ ap (λ k. screen_at w h (above ++ []) (blank_row w) k 0) k
ended_at w h above n (row ∷ rows) =
    let cut = recut w row in
    let some : 0 < length cut = recut_some w row in
    let left : ((n + 1) - length cut) - 1 ≡ n - length cut = omega (arith, some) in
    let all : (n - length cut) - length (recut_all w rows) ≡ n - length (cut ++ recut_all w rows) = omega (arith, length-append cut (recut_all w rows)) in
    ap (λ s. rows_ended s rows) (ap row_after (row_at w h above n row)
    ∙ next_at w h (above ++ cut) ((n + 1) - length cut) (last_of w row) (some_more above cut some)
    ∙ ap (λ k. screen_at w h (above ++ cut) (blank_row w) k 0) left)
    ∙ ended_at w h (above ++ cut) (n - length cut) rows
    ∙ ap (λ xs. screen_at w h xs (blank_row w) ((n - length cut) - length (recut_all w rows)) 0) (append_assoc above cut (recut_all w rows))
    ∙ ap (λ k. screen_at w h (above ++ (cut ++ recut_all w rows)) (blank_row w) k 0) all

pub begun_at : (w h : ℕ) (above : List (List Cell)) (n column : ℕ) (rows : List (List Cell)) → 0 < length above →
    (last : ℕ) × (rows_begun (screen_after w h above n column) rows ≡ screen_after w h (above ++ recut_all w rows) (n - length (recut_all w rows)) last)
begun_at w h above n column [] some =
    let k : n ≡ n - 0 = omega arith in
    (column, ap (λ xs. screen_after w h xs n column) (sym (append-nil above)) ∙ ap (λ k. screen_after w h (above ++ []) k column) k)
begun_at w h above n column (row ∷ rows) some =
    let cut = recut w row in
    let more : 0 < length cut = recut_some w row in
    let left : ((n - 1) + 1) - length cut ≡ n - length cut = omega (arith, more) in
    let all : (n - length cut) - length (recut_all w rows) ≡ n - length (cut ++ recut_all w rows) = omega (arith, length-append cut (recut_all w rows)) in
    let rest = begun_at w h (above ++ cut) (n - length cut) (last_of w row) rows (some_more above cut more) in (
      rest.0,
      ap (λ s. rows_begun s rows) (ap (λ s. row_put s row) (next_at w h above n column some) ∙ row_at w h above (n - 1) row
          ∙ ap (λ k. screen_after w h (above ++ cut) k (last_of w row)) left)
          ∙ rest.1
          ∙ ap (λ xs. screen_after w h xs ((n - length cut) - length (recut_all w rows)) rest.0) (append_assoc above cut (recut_all w rows))
          ∙ ap (λ k. screen_after w h (above ++ (cut ++ recut_all w rows)) k rest.0) all,
    )

-- ---- a screen

-- rows put on a new screen down to that of the cursor, that one, and those below it
module _ (old new a b now : Screen) (cursor : CursorRows) (some : 0 < new.height) (within : old.row < length old.rows)
    (blank : new ≡ blank_screen new.height new.columns)
    (ended : a ≡ rows_ended new (take old.row old.rows)) (put : b ≡ row_put a (cursor_row old))
    (begun : now ≡ rows_begun b (used_rows (drop (old.row + 1) old.rows)))
    (first : cursor.first ≡ a.row) (last : cursor.last ≡ b.row) where
  abbrev w : ℕ
  w = new.columns

  abbrev h : ℕ
  h = new.height

  abbrev before : List (List Cell)
  before = recut_all w (take old.row old.rows)

  abbrev here : List (List Cell)
  here = recut w (cursor_row old)

  abbrev below : List (List Cell)
  below = recut_all w (used_rows (drop (old.row + 1) old.rows))

  abbrev rows : List (List Cell)
  rows = recut_all w (lasting_rows old)

  some_here : 0 < length here
  some_here = recut_some w (cursor_row old)

  start : blank_screen h w ≡ screen_at w h [] (blank_row w) (h - 1) 0
  start = ap (λ n. made w h (replicate n (blank_row w)) 0 0) (let e : h ≡ suc (h - 1) = omega (arith, some) in e)

  abbrev left : ℕ
  left = (h - 1) - length before

  after_first : a ≡ screen_at w h before (blank_row w) left 0
  after_first = ended ∙ ap (λ z. rows_ended z (take old.row old.rows)) (blank ∙ start) ∙ ended_at w h [] (h - 1) (take old.row old.rows)

  after_here : b ≡ screen_after w h (before ++ here) ((left + 1) - length here) (last_of w (cursor_row old))
  after_here = put ∙ ap (λ z. row_put z (cursor_row old)) after_first ∙ row_at w h before left (cursor_row old)

  rest : (column : ℕ) × (rows_begun (screen_after w h (before ++ here) ((left + 1) - length here) (last_of w (cursor_row old))) (used_rows (drop (old.row + 1) old.rows))
      ≡ screen_after w h ((before ++ here) ++ below) (((left + 1) - length here) - length below) column)
  rest = begun_at w h (before ++ here) ((left + 1) - length here) (last_of w (cursor_row old)) (used_rows (drop (old.row + 1) old.rows)) (some_more before here some_here)

  after_all : now ≡ screen_after w h ((before ++ here) ++ below) (((left + 1) - length here) - length below) rest.0
  after_all = begun ∙ ap (λ z. rows_begun z (used_rows (drop (old.row + 1) old.rows))) after_here ∙ rest.1

  joined_rows : (before ++ here) ++ below ≡ rows
  joined_rows = sym (flat_map-append (recut w) (take (old.row + 1) old.rows) (used_rows (drop (old.row + 1) old.rows))
      ∙ ap (λ z. recut_all w z ++ below) (take_more old.rows old.row [] within)
      ∙ ap (λ z. z ++ below) (flat_map-append (recut w) (take old.row old.rows) (cursor_row old ∷ []) ∙ ap (λ z. before ++ z) (append-nil here)))

  all_rows : length before + length here + length below ≡ length rows
  all_rows = sym (ap length (sym joined_rows) ∙ length-append (before ++ here) below ∙ ap (λ n. n + length below) (length-append before here))

  pub lasting_put : LastingPut old new now cursor
  lasting_put = record {
    columns_stay = ap (λ z. z.columns) after_all;
    height_stays = ap (λ z. z.height) after_all;
    rows_are = ap (λ z. z.rows) after_all
        ∙ ap (λ z. z ++ replicate (((left + 1) - length here) - length below) (blank_row w)) joined_rows
        ∙ ap (λ n. rows ++ replicate n (blank_row w))
        (let e : ((left + 1) - length here) - length below ≡ h - length rows = omega (arith, all_rows, some_here, some) in e);
    first_is = first ∙ ap (λ z. z.row) after_first;
    last_is = omega (arith, last, first, ap (λ z. z.row) after_first, ap (λ z. z.row) after_here, length-append before here, some_here);
  }

-- the cursor's place on them
module _ (old new now : Screen) (cursor : CursorRows) (put : LastingPut old new now cursor) (within : old.row < length old.rows) where
  abbrev put_rows : List (List Cell)
  put_rows = recut_all new.columns (lasting_rows old)

  height : length now.rows ≡ length put_rows + (new.height - length put_rows)
  height = ap length put.rows_are ∙ length-append put_rows (replicate (new.height - length put_rows) (blank_row new.columns))
      ∙ ap (λ n. length put_rows + n) (length-replicate (new.height - length put_rows) (blank_row new.columns))

  upper : length (recut_all new.columns (take old.row old.rows)) + length (recut new.columns (cursor_row old)) ≤ length put_rows
  upper = upper_rows new.columns old within

  pub first_within : cursor.first < length now.rows
  first_within = omega (arith, put.first_is, put.last_is, height, upper, recut_some new.columns (cursor_row old))

  placed : (row column : ℕ) → row_then new.columns old ≡ row → column_then new.columns old ≡ column →
      record now { row = max row (top now); column = column } ≡ recut_screen new.columns new.height old
  placed row column e f =
      let t : top now ≡ length put_rows - new.height = omega (arith, height, put.height_stays) in
      let all : made now.columns now.height now.rows (max row (top now)) column
      ≡ made new.columns new.height (put_rows ++ replicate (new.height - length put_rows) (blank_row new.columns))
      (max (row_then new.columns old) (length put_rows - new.height)) (column_then new.columns old) =
      cc (put.columns_stay, put.height_stays, put.rows_are, t, e, f) in
      all

  pub waits_on : old.column ≡ old.columns → record now { row = max cursor.last (top now); column = new.columns } ≡ recut_screen new.columns new.height old
  waits_on e =
      let t : (old.column == old.columns) ≡ true = eq-eqb old.column old.columns e in
      let n : length (recut_all new.columns (take old.row old.rows)) + length (recut new.columns (cursor_row old)) - 1 ≡ cursor.last = omega (arith, put.first_is, put.last_is) in
      placed cursor.last new.columns (rw t n) (rw t refl)

  pub stays : (old.column ≡ old.columns → ⊥) → record now { row = max cursor.first (top now); column = min old.column new.columns } ≡ recut_screen new.columns new.height old
  stays e =
      let t : (old.column == old.columns) ≡ false = ne_eqb old.column old.columns e in
      placed cursor.first (min old.column new.columns) (rw t (sym put.first_is)) (rw t refl)

-- ---- rows up to the last one that isn't blank

pub none_used : (rows : List (List Cell)) → list_all (list_all is_blank) rows ≡ true → used_rows rows ≡ []
none_used [] e = refl
none_used (row ∷ rows) e = rw e refl

pub last_used : (rows : List (List Cell)) (n : ℕ) (row : List Cell) → n < length rows → row ≡ get_or rows n row → list_all is_blank row ≡ false →
    list_all (list_all is_blank) (drop (suc n) rows) ≡ true → take (suc n) rows ≡ used_rows rows
last_used [] n row h e shown rest = absurd (omega arith)
last_used (x ∷ xs) zero row h e shown rest =
    let some : list_all (list_all is_blank) (x ∷ xs) ≡ false = list_all_at (list_all is_blank) (x ∷ xs) 0 row h (ap (list_all is_blank) (sym e) ∙ shown) in
    rw some (ap (λ ys. x ∷ ys) (sym (none_used xs rest)))
last_used (x ∷ xs) (suc n) row h e shown rest =
    let some : list_all (list_all is_blank) (x ∷ xs) ≡ false = list_all_at (list_all is_blank) (x ∷ xs) (suc n) row h (ap (list_all is_blank) (sym e) ∙ shown) in
    rw some (ap (λ ys. x ∷ ys) (last_used xs n row (omega arith) e shown rest))

-- ---- a blank row

by_blank : (b : Bool) (n : ℕ) (xs ys rest : List Cell) → n ≤ length xs → take n xs ≡ (if b then [] else rest) → 0 < length rest → (n == 0) ≡ b
by_blank true n xs ys rest h e some = eq-eqb n 0 (let k : length (take n xs) ≡ 0 = ap length e in omega (arith, k, length-take-le n xs h))
by_blank false n xs ys rest h e some = ne_eqb n 0 (λ z. let k : length (take n xs) ≡ length rest = ap length e in omega (arith, k, length-take-le n xs h, z, some))

pub blank_if_none : (n : ℕ) (xs row : List Cell) → n ≤ length xs → take n xs ≡ trimmed row → (n == 0) ≡ list_all is_blank row
blank_if_none n xs [] h e = eq-eqb n 0 (let k : length (take n xs) ≡ 0 = ap length e in omega (arith, k, length-take-le n xs h))
blank_if_none n xs (c ∷ cs) h e = by_blank (list_all is_blank (c ∷ cs)) n xs cs (c ∷ trimmed cs) h e (omega arith)
