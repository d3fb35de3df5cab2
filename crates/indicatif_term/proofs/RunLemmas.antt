-- Characters of one column one after another: the bytes that spell them, and the row that they are written into.
use Rattle.std.proofs.Common.{◌≡◌, ℕ, zero, suc, ◌+◌, ◌*◌, ◌<◌, ◌≤◌, true, false, List, [], ◌∷◌, ◌++◌, length, get_or, set, take, drop, replicate, refl, sym, ◌∙◌, ap, arith, append_assoc, append-nil, length-append}
use Rattle.std.specs.Prelude.{All, nat_lt, nat_le}
use Rattle.std.specs.List.{repeat, AllByRecursion}
use Rattle.std.proofs.Math.Seq.{take-add, take-append-add, drop-append-add}
use Rattle.std.proofs.Math.Utf8.{scalar, scalars, encode, encodes}
use Rattle.std.proofs.lemmas.Bool.{le-ltb, le-leb}
use Rattle.std.proofs.lemmas.List.Elements.{recursion_from_All, All-take}
use Rattle.std.proofs.lemmas.List.{take-take, take_at, drop-drop, get_or-set_same, length-set, length-map, length-take-le, get_or_read}
use Rattle.indicatif_text.specs.Columns.{Cell, Blank, Written, Continued, glyph_cells}
use Rattle.indicatif_term.specs.Screen.{Screen, IsWhole, Put, performed, is_continued, emptied_front, cut_before, written_at, cursor_row, with_row}
use Rattle.indicatif_term.specs.Inside.Scanners.{performed_all}
use Rattle.indicatif_term.specs.Inside.Runs.{TakesOneColumn, narrow_cells, puts}
use Rattle.indicatif_term.proofs.RowEditLemmas.{length-cut_before}
use Rattle.indicatif_term.proofs.WholeScreenLemmas.{length-written_at, row_written, cursor_full}

-- ---- bytes

repeat_more : (n : ℕ) (unit : List ℕ) → repeat n unit ++ unit ≡ repeat (n + 1) unit
repeat_more zero unit = sym (append-nil unit)
repeat_more (suc n) unit = append_assoc unit (repeat n unit) unit ∙ ap (λ xs. unit ++ xs) (repeat_more n unit) ∙ ap (λ m. repeat m unit) (let e : suc (n + 1) ≡ suc n + 1 = omega arith in e)

pub repeats_more : (n : ℕ) (bytes unit : List ℕ) → take (3 * n) bytes ≡ repeat n unit → take 3 (drop (3 * n) bytes) ≡ unit → take (3 * (n + 1)) bytes ≡ repeat (n + 1) unit
repeats_more n bytes unit e e' =
    let more : 3 * (n + 1) ≡ 3 * n + 3 = omega arith in
    ap (λ k. take k bytes) more ∙ take-add (3 * n) 3 bytes ∙ ap (λ xs. xs ++ take 3 (drop (3 * n) bytes)) e ∙ ap (λ xs. repeat n unit ++ xs) e' ∙ repeat_more n unit

take_repeat : (k n : ℕ) (unit : List ℕ) → length unit ≡ 3 → k ≤ n → take (3 * k) (repeat n unit) ≡ repeat k unit
take_repeat zero n unit three h = refl
take_repeat (suc k) zero unit three h = absurd (omega arith)
take_repeat (suc k) (suc n) unit three h =
    let more : 3 * suc k ≡ length unit + 3 * k = omega arith in
    ap (λ m. take m (unit ++ repeat n unit)) more ∙ take-append-add unit (repeat n unit) (3 * k) ∙ ap (λ xs. unit ++ xs) (take_repeat k n unit three (omega arith))

pub fewer_repeats : (k n : ℕ) (bytes unit : List ℕ) → length unit ≡ 3 → k ≤ n → take (3 * n) bytes ≡ repeat n unit → take (3 * k) bytes ≡ repeat k unit
fewer_repeats k n bytes unit three h e =
    let fewer : 3 * k ≤ 3 * n = omega arith in
    sym (take-take (3 * k) (3 * n) bytes fewer) ∙ ap (take (3 * k)) e ∙ take_repeat k n unit three h

pub encodes_replicate : (n c : ℕ) → repeat n (encode c) ≡ encodes (replicate n c)
encodes_replicate zero c = refl
encodes_replicate (suc n) c = ap (λ xs. encode c ++ xs) (encodes_replicate n c)

pub scalars_replicate : (n c : ℕ) → scalar c ≡ true → scalars (replicate n c) ≡ true
scalars_replicate zero c is = refl
scalars_replicate (suc n) c is = rw is (scalars_replicate n c is)

-- ---- a row

not_continued_front : (xs : List Cell) → is_continued (get_or (emptied_front xs) 0 Blank) ≡ false
not_continued_front [] = refl
not_continued_front (Continued ∷ xs) = refl
not_continued_front (Blank ∷ xs) = refl
not_continued_front (Written g ∷ xs) = refl

front_twice : (k : ℕ) (xs : List Cell) → emptied_front (drop k (emptied_front xs)) ≡ emptied_front (drop k xs)
front_twice zero [] = refl
front_twice zero (Continued ∷ xs) = refl
front_twice zero (Blank ∷ xs) = refl
front_twice zero (Written g ∷ xs) = refl
front_twice (suc k) [] = refl
front_twice (suc k) (Continued ∷ xs) = front_twice k xs
front_twice (suc k) (Blank ∷ xs) = refl
front_twice (suc k) (Written g ∷ xs) = refl

-- cells written behind one that was written are written with it
pub written_next : (n : ℕ) (x : Cell) (cells row : List Cell) → n ≤ length row → written_at (n + 1) cells (written_at n (x ∷ []) row) ≡ written_at n (x ∷ cells) row
written_next n x cells row h =
    let cut = cut_before n row in
    let front = cut ++ x ∷ [] in
    let back = emptied_front (drop (n + 1) row) in
    let m : length front ≡ n + 1 = omega (arith, length-append cut (x ∷ []), length-cut_before n row h) in
    let here : get_or (front ++ back) (n + 1) Blank ≡ get_or back 0 Blank = seam front back (n + 1) m in
    let test : is_continued (get_or (front ++ back) (n + 1) Blank) ≡ false = ap is_continued here ∙ not_continued_front (drop (n + 1) row) in
    let before : cut_before (n + 1) (front ++ back) ≡ front = rw test (take_at front back (n + 1) m) in
    let rest : drop ((n + 1) + length cells) (front ++ back) ≡ drop (length cells) back =
    ap (λ k. drop (k + length cells) (front ++ back)) (sym m) ∙ drop-append-add front back (length cells) in
    let after : emptied_front (drop ((n + 1) + length cells) (front ++ back)) ≡ emptied_front (drop (n + length (x ∷ cells)) row) =
    ap emptied_front rest ∙ front_twice (length cells) (drop (n + 1) row)
    ∙ ap emptied_front (drop-drop (length cells) (n + 1) row ∙ ap (λ k. drop k row) (let e : (n + 1) + length cells ≡ n + length (x ∷ cells) = omega arith in e)) in
    ap (λ xs. (xs ++ cells) ++ emptied_front (drop ((n + 1) + length cells) (front ++ back))) before ∙ ap (λ xs. (front ++ cells) ++ xs) after
    ∙ ap (λ xs. xs ++ emptied_front (drop (n + length (x ∷ cells)) row)) (append_assoc cut (x ∷ []) cells)
  where
    seam : (xs ys : List Cell) (k : ℕ) → length xs ≡ k → get_or (xs ++ ys) k Blank ≡ get_or ys 0 Blank
    seam [] ys zero e = refl
    seam [] ys (suc k) e = absurd (omega arith)
    seam (x ∷ xs) ys zero e = absurd (omega arith)
    seam (x ∷ xs) ys (suc k) e = seam xs ys k (omega arith)

-- ---- a screen

set_twice : {A : Type 0} (xs : List A) (i : ℕ) (x y : A) → set (set xs i x) i y ≡ set xs i y
set_twice [] i x y = refl
set_twice (z ∷ zs) zero x y = refl
set_twice (z ∷ zs) (suc i) x y = ap (λ ws. z ∷ ws) (set_twice zs i x y)

abbrev cell_of : ℕ → Cell
cell_of c = Written (record { base = c; joiners = [] })

put_one : (c : ℕ) (s : Screen) → TakesOneColumn c → s.column + 1 ≤ s.columns →
    performed (Put c) s ≡ record (with_row s (written_at s.column (cell_of c ∷ []) (cursor_row s))) { column = s.column + 1 }
put_one c s one h =
    let some : nat_lt s.columns 1 ≡ false = le-ltb s.columns 1 (omega arith) in
    let fits : nat_le (s.column + 1) s.columns ≡ true = le-leb (s.column + 1) s.columns h in
    let wide : glyph_cells (record { base = c; joiners = [] }) ≡ cell_of c ∷ [] = rw one refl in
    rw (one, some, fits) (ap (λ cells. let t : Screen = record (with_row s (written_at s.column cells (cursor_row s))) { column = s.column + 1 } in t) wide)

same_put : (s : Screen) (rows rows' : List (List Cell)) (column column' : ℕ) → rows ≡ rows' → column ≡ column' →
    ◌≡◌ {A = Screen} (record s { rows = rows; column = column }) (record s { rows = rows'; column = column' })
same_put s rows rows' column column' e e' = cc

-- characters that fit into the cursor's row
put_run : (c : ℕ) (cs : List ℕ) (s : Screen) → AllByRecursion TakesOneColumn (c ∷ cs) → s.row < length s.rows → length (cursor_row s) ≡ s.columns → s.column + length (c ∷ cs) ≤ s.columns →
    performed_all (puts (c ∷ cs)) s ≡ record (with_row s (written_at s.column (narrow_cells (c ∷ cs)) (cursor_row s))) { column = s.column + length (c ∷ cs) }
put_run c [] s all in_rows full h = put_one c s all.0 h
put_run c (d ∷ ds) s all in_rows full h =
    let one = written_at s.column (cell_of c ∷ []) (cursor_row s) in
    let t : Screen = record (with_row s one) { column = s.column + 1 } in
    let here : cursor_row t ≡ one = get_or-set_same s.rows s.row one [] in_rows in
    let same_length : length one ≡ s.columns = length-written_at s.column (cell_of c ∷ []) (cursor_row s) (omega arith) ∙ full in
    let cells = narrow_cells (d ∷ ds) in
    let more : written_at (s.column + 1) cells (cursor_row t) ≡ written_at s.column (cell_of c ∷ cells) (cursor_row s) =
    ap (written_at (s.column + 1) cells) here ∙ written_next s.column (cell_of c) cells (cursor_row s) (omega arith) in
    ap (performed_all (puts (d ∷ ds))) (put_one c s all.0 (omega arith))
    ∙ put_run d ds t all.1 (omega (arith, length-set s.rows s.row one)) (ap length here ∙ same_length) (omega arith)
    ∙ same_put s _ _ _ _
    (set_twice s.rows s.row one (written_at (s.column + 1) cells (cursor_row t)) ∙ ap (set s.rows s.row) more) (omega arith)

pub put_all : (cs : List ℕ) (s : Screen) → 0 < length cs → AllByRecursion TakesOneColumn cs → s.row < length s.rows → length (cursor_row s) ≡ s.columns → s.column + length cs ≤ s.columns →
    performed_all (puts cs) s ≡ record (with_row s (written_at s.column (narrow_cells cs) (cursor_row s))) { column = s.column + length cs }
put_all [] s some all in_rows full h = absurd (omega arith)
put_all (c ∷ cs) s some all in_rows full h = put_run c cs s all in_rows full h

-- a row that characters of a run were written into, in the place of the cursor's
module _ (s : Screen) (run : List ℕ) (n : ℕ) (row new : List Cell) (is : IsWhole s) (some : 0 < n) (few : n ≤ length run) (narrow : All TakesOneColumn run)
    (fits : s.column + length run ≤ s.columns) (at : row ≡ get_or s.rows s.row row) (e : new ≡ written_at s.column (narrow_cells (take n run)) row) where
  size : length (take n run) ≡ n
  size = length-take-le n run few

  pub run_keeps_whole : IsWhole (record s { rows = set s.rows s.row new; column = s.column + n })
  run_keeps_whole =
      let cells = narrow_cells (take n run) in
      let wide : length cells ≡ n = length-map (take n run) cell_of ∙ size in
      row_written s _ new (s.column + n) is refl
      (ap length e ∙ length-written_at s.column cells row (omega (arith, cursor_full s row is at)) ∙ cursor_full s row is at) (omega arith)

  pub run_is_put : ◌≡◌ {A = Screen} (record s { rows = set s.rows s.row new; column = s.column + n }) (performed_all (puts (take n run)) s)
  run_is_put =
      let full : length (cursor_row s) ≡ s.columns = is.full_rows s.row is.in_rows in
      let all = recursion_from_All TakesOneColumn (take n run) (All-take TakesOneColumn n run narrow) in
      let here : row ≡ cursor_row s = get_or_read s.rows s.row row is.in_rows at [] in
      same_put s _ _ _ _ (ap (set s.rows s.row) (e ∙ ap (written_at s.column (narrow_cells (take n run))) here)) (ap (λ k. s.column + k) (sym size))
      ∙ sym (put_all (take n run) s (omega (arith, size)) all is.in_rows full (omega (arith, size)))
