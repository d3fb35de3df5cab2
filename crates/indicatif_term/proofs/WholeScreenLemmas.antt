-- A screen whose rows all have their cells stays one where a row is written over or put below.
use Rattle.std.proofs.Common.{◌≡◌, ℕ, zero, suc, ◌+◌, ◌-◌, ◌<◌, ◌≤◌, false, List, [], ◌∷◌, ◌++◌, Some, length, get_or, set, take, drop, replicate, reverse, refl, sym, ◌∙◌, ap, arith, length-append, length-drop}
use Rattle.std.specs.Prelude.{Result, Ok, Err, OnOk, OnErr, nat_lt}
use Rattle.std.proofs.lemmas.List.{length-set, length-reverse, length-replicate, take-append-drop, get_or_read, take_more_set, replicate_more, get_or_at, set_at}
use Rattle.std.proofs.lemmas.Bool.{le-ltb}
use Rattle.unicode_width.specs.Width.{char_width}
use Rattle.indicatif_text.specs.Columns.{Cell, Blank, Written, Continued, blank_row, glyph_cells}
use Rattle.indicatif_term.specs.Screen.{Screen, IsWhole, put_here, line_feed, written_at, joined_at, joined_back, cut_before, emptied_front}
use Rattle.indicatif_term.specs.Inside.Rows.{character_cells}
use Rattle.indicatif_term.proofs.RowEditLemmas.{length-cut_before, length-emptied_front}

abbrev pub AllOf : ℕ → List (List Cell) → Type 0
AllOf w rows = (k : ℕ) → k < length rows → length (get_or rows k []) ≡ w

-- one row written over by one as long
pub all-set : (w : ℕ) (rows : List (List Cell)) (i : ℕ) (r : List Cell) → AllOf w rows → length r ≡ w → AllOf w (set rows i r)
all-set w [] i r all e k h = all k h
all-set w (x ∷ xs) zero r all e zero h = e
all-set w (x ∷ xs) zero r all e (suc k) h = all (suc k) h
all-set w (x ∷ xs) (suc i) r all e zero h = all zero (omega arith)
all-set w (x ∷ xs) (suc i) r all e (suc k) h = all-set w xs i r (λ j l. all (suc j) (omega arith)) e k (omega arith)

-- one row more that is as long
pub all-push : (w : ℕ) (rows : List (List Cell)) (r : List Cell) → AllOf w rows → length r ≡ w → AllOf w (rows ++ r ∷ [])
all-push w [] r all e zero h = e
all-push w [] r all e (suc k) h = absurd (omega arith)
all-push w (x ∷ xs) r all e zero h = all zero (omega arith)
all-push w (x ∷ xs) r all e (suc k) h = all-push w xs r (λ j l. all (suc j) (omega arith)) e k (omega arith)

-- a row has its cells
pub row_full : (s : Screen) (k : ℕ) (r : List Cell) → IsWhole s → k < length s.rows → r ≡ get_or s.rows k r → length r ≡ s.columns
row_full s k r is h e = ap length (get_or_read s.rows k r h e []) ∙ is.full_rows k h

-- the cursor's row has its cells
pub cursor_full : (s : Screen) (r : List Cell) → IsWhole s → r ≡ get_or s.rows s.row r → length r ≡ s.columns
cursor_full s r is e = row_full s s.row r is is.in_rows e

pub row_written : (s : Screen) (rows : List (List Cell)) (r : List Cell) (column : ℕ) → IsWhole s → rows ≡ set s.rows s.row r → length r ≡ s.columns → column ≤ s.columns →
    IsWhole (record s { rows = rows; column = column })
row_written s rows r column is e full within =
    let same : length rows ≡ length s.rows = ap length e ∙ length-set s.rows s.row r in
    record {
      some_rows = is.some_rows;
      some_columns = is.some_columns;
      enough_rows = omega (arith, is.enough_rows);
      in_rows = omega (arith, is.in_rows);
      in_window = omega (arith, is.in_window);
      in_columns = within;
      full_rows = rw e (all-set s.columns s.rows s.row r is.full_rows full);
    }

-- the row below the cursor's written over, and the cursor on it
pub next_written : (s : Screen) (rows : List (List Cell)) (r : List Cell) (column : ℕ) → IsWhole s → s.row + 1 < length s.rows →
    rows ≡ set s.rows (s.row + 1) r → length r ≡ s.columns → column ≤ s.columns → IsWhole (record s { rows = rows; row = s.row + 1; column = column })
next_written s rows r column is below e full within =
    let same : length rows ≡ length s.rows = ap length e ∙ length-set s.rows (s.row + 1) r in
    record {
      some_rows = is.some_rows;
      some_columns = is.some_columns;
      enough_rows = omega (arith, is.enough_rows);
      in_rows = omega arith;
      in_window = omega (arith, is.in_window);
      in_columns = within;
      full_rows = rw e (all-set s.columns s.rows (s.row + 1) r is.full_rows full);
    }

-- a row put below the last one, and the cursor on it
pub new_written : (s : Screen) (rows : List (List Cell)) (r : List Cell) (column : ℕ) → IsWhole s → length s.rows ≤ s.row + 1 →
    rows ≡ s.rows ++ r ∷ [] → length r ≡ s.columns → column ≤ s.columns → IsWhole (record s { rows = rows; row = s.row + 1; column = column })
new_written s rows r column is last e full within =
    let more : length rows ≡ length s.rows + 1 = ap length e ∙ length-append s.rows (r ∷ []) in
    record {
      some_rows = is.some_rows;
      some_columns = is.some_columns;
      enough_rows = omega (arith, is.enough_rows);
      in_rows = omega (arith, is.in_rows);
      in_window = omega (arith, is.in_window, is.enough_rows);
      in_columns = within;
      full_rows = rw e (all-push s.columns s.rows r is.full_rows full);
    }

same_screen : (s : Screen) (rows rows' : List (List Cell)) (row column column' : ℕ) → rows ≡ rows' → column ≡ column' →
    ◌≡◌ {A = Screen} (record s { rows = rows; row = row; column = column }) (record s { rows = rows'; row = row; column = column' })
same_screen s rows rows' row column column' e e' = cc

-- a character at the front of the row that comes after the last one
pub put_on_new : (s : Screen) (c w : ℕ) (rows : List (List Cell)) → s.row + 1 ≡ length s.rows → char_width false c ≡ Some w →
    rows ≡ s.rows ++ written_at 0 (character_cells c w) (blank_row s.columns) ∷ [] →
    ◌≡◌ {A = Screen} (record s { rows = rows; row = s.row + 1; column = w }) (put_here (record { base = c; joiners = [] }) w (line_feed (record s { column = 0 })))
put_on_new s c w rows last width e =
    let next = s.row + 1 in
    let blank = blank_row s.columns in
    let after = s.rows ++ blank ∷ [] in
    let cells = glyph_cells (record { base = c; joiners = [] }) in
    let test : nat_lt next (length s.rows) ≡ false = le-ltb next (length s.rows) (omega arith) in
    let wide : character_cells c w ≡ cells = rw width refl in
    let here : get_or after next [] ≡ blank = get_or_at s.rows blank [] [] next (sym last) in
    let is : rows ≡ set after next (written_at 0 cells (get_or after next [])) =
    e ∙ ap (λ xs. s.rows ++ written_at 0 xs blank ∷ []) wide ∙ ap (λ r. s.rows ++ written_at 0 cells r ∷ []) (sym here)
    ∙ sym (set_at s.rows blank [] (written_at 0 cells (get_or after next [])) next (sym last)) in
    rw test (same_screen s rows _ next w (0 + w) is (omega arith))

-- what keeps a row's length
pub length-written_at : (n : ℕ) (cells row : List Cell) → n + length cells ≤ length row → length (written_at n cells row) ≡ length row
length-written_at n cells row h =
    omega (
      arith,
      length-append (cut_before n row ++ cells) (emptied_front (drop (n + length cells) row)),
      length-append (cut_before n row) cells,
      length-cut_before n row (omega arith),
      length-emptied_front (drop (n + length cells) row),
      length-drop (n + length cells) row,
    )

pub length-character_cells : (c w : ℕ) → 0 < w → length (character_cells c w) ≡ w
length-character_cells c w h = omega (arith, length-replicate (w - 1) Continued)

pub length-joined_back : (c : ℕ) (xs : List Cell) → length (joined_back c xs) ≡ length xs
length-joined_back c [] = refl
length-joined_back c (Continued ∷ xs) = ap suc (length-joined_back c xs)
length-joined_back c (Blank ∷ xs) = refl
length-joined_back c (Written g ∷ xs) = refl

pub length-joined_at : (n c : ℕ) (row : List Cell) → length (joined_at n c row) ≡ length row
length-joined_at n c row =
    length-append (reverse (joined_back c (reverse (take n row)))) (drop n row)
    ∙ ap (λ k. k + length (drop n row)) (length-reverse (joined_back c (reverse (take n row))) ∙ length-joined_back c (reverse (take n row)) ∙ length-reverse (take n row))
    ∙ sym (length-append (take n row) (drop n row)) ∙ ap length (take-append-drop n row)

-- a joiner joined, or all as it was
pub length-joined_or : {T E : Type 0} (r : Result T E) (n c : ℕ) (row new : List Cell) → OnOk r (new ≡ joined_at n c row) → OnErr r (new ≡ row) → length new ≡ length row
length-joined_or (Ok x) n c row new e same = ap length e ∙ length-joined_at n c row
length-joined_or (Err x) n c row new e same = ap length same

-- one row more that is emptied
pub emptied_more : (w i : ℕ) (rows : List (List Cell)) (r new : List Cell) → i < length rows → r ≡ get_or rows i r → AllOf w rows →
    new ≡ blank_row (length (get_or rows i r)) → take i rows ≡ replicate i (blank_row w) →
    (take (i + 1) (set rows i new) ≡ replicate (i + 1) (blank_row w)) × AllOf w (set rows i new)
emptied_more w i rows r new h at all e done =
    let full : length (get_or rows i r) ≡ w = ap length (sym at ∙ get_or_read rows i r h at []) ∙ all i h in
    let is : new ≡ blank_row w = e ∙ ap blank_row full in (
      take_more_set rows i new h ∙ ap (λ rs. rs ++ new ∷ []) done ∙ ap (λ y. replicate i (blank_row w) ++ y ∷ []) is ∙ replicate_more i (blank_row w),
      all-set w rows i new all (ap length is ∙ length-replicate w Blank),
    )
