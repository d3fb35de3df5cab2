-- The cells of a row with their joiners looked up: an edit of the kept cells is the same edit of these.
use Rattle.std.proofs.Common.{◌≡◌, ℕ, zero, suc, ◌+◌, ◌-◌, ◌<◌, ◌≤◌, Bool, true, false, List, [], ◌∷◌, ◌++◌, length, get_or, set, take, drop, map, replicate, reverse, refl, sym, ◌∙◌, ap, arith, append_assoc, append-nil}
use Rattle.std.specs.Prelude.{if◌then◌else◌}
use Rattle.std.specs.List.{list_any}
use Rattle.std.proofs.lemmas.List.{get_or_read, reverse-append, map-append, length-map, take_at, take-map, drop-map, map-set}
use Rattle.std.proofs.Math.ListN.{get_or-map}
use Rattle.indicatif_text.specs.Columns.{Cell, Blank, Written, Continued, blank_row}
use Rattle.indicatif_term.specs.Screen.{is_continued, emptied_front, emptied_glyph, cut_before, written_at, joined_at}
use Rattle.indicatif_term.specs.Pictures.{is_written, trimmed}
use Rattle.indicatif_term.specs.declared.cells.joiners.Joiner.{Joiner}
use Rattle.indicatif_term.specs.Inside.Rows.{cell_shown, whole_row, character_cells, LeavesJoiners, IsJoined, with_joiner_at}
use Rattle.indicatif_term.specs.Inside.Runs.{narrow_cells}
use Rattle.indicatif_term.proofs.RowEditLemmas.{join_last}
use Rattle.indicatif_term.proofs.KeptRowLemmas.{none_kept, length-whole_row, whole_joined, nothing_joined, written_kept, text_kept}

map_reverse : {A B : Type 0} (f : A → B) (xs : List A) → map f (reverse xs) ≡ reverse (map f xs)
map_reverse f [] = refl
map_reverse f (x ∷ xs) =
    ap (map f) (reverse-append (x ∷ []) xs) ∙ map-append f (reverse xs) (x ∷ []) ∙ ap (λ ys. ys ++ f x ∷ []) (map_reverse f xs)
    ∙ sym (reverse-append (f x ∷ []) (map f xs))

module _ (joiners : List Joiner) where
  abbrev shown : List Cell → List Cell
  shown cells = map (cell_shown joiners) cells

  pub continued_shown : (x : Cell) → is_continued (cell_shown joiners x) ≡ is_continued x
  continued_shown Blank = refl
  continued_shown (Written g) = refl
  continued_shown Continued = refl

  front_shown : (xs : List Cell) → shown (emptied_front xs) ≡ emptied_front (shown xs)
  front_shown [] = refl
  front_shown (Continued ∷ xs) = ap (λ ys. Blank ∷ ys) (front_shown xs)
  front_shown (Blank ∷ xs) = refl
  front_shown (Written g ∷ xs) = refl

  glyph_shown : (xs : List Cell) → shown (emptied_glyph xs) ≡ emptied_glyph (shown xs)
  glyph_shown [] = refl
  glyph_shown (Continued ∷ xs) = ap (λ ys. Blank ∷ ys) (glyph_shown xs)
  glyph_shown (Blank ∷ xs) = refl
  glyph_shown (Written g ∷ xs) = refl

  cut_shown : (n : ℕ) (row : List Cell) → shown (cut_before n row) ≡ cut_before n (shown row)
  cut_shown n row = by (is_continued (get_or row n Blank)) ∙ ap (λ b. if b then reverse (emptied_glyph (reverse (take n (shown row)))) else take n (shown row)) (sym test)
    where
      by : (b : Bool) → shown (if b then reverse (emptied_glyph (reverse (take n row))) else take n row) ≡ (if b then reverse (emptied_glyph (reverse (take n (shown row)))) else take n (shown row))
      by true =
          map_reverse (cell_shown joiners) (emptied_glyph (reverse (take n row)))
          ∙ ap reverse (glyph_shown (reverse (take n row)) ∙ ap emptied_glyph (map_reverse (cell_shown joiners) (take n row) ∙ ap reverse (sym (take-map (cell_shown joiners) n row))))
      by false = sym (take-map (cell_shown joiners) n row)

      test : is_continued (get_or (shown row) n Blank) ≡ is_continued (get_or row n Blank)
      test = ap is_continued (get_or-map (cell_shown joiners) row n Blank) ∙ continued_shown (get_or row n Blank)

  -- what is written into a row
  pub written_shown : (n : ℕ) (new row : List Cell) → shown (written_at n new row) ≡ written_at n (shown new) (shown row)
  written_shown n new row =
      let rest = emptied_front (drop (n + length new) row) in
      let back : shown rest ≡ emptied_front (drop (n + length (shown new)) (shown row)) =
      front_shown (drop (n + length new) row) ∙ ap emptied_front (sym (drop-map (cell_shown joiners) (n + length new) row))
      ∙ ap (λ k. emptied_front (drop (n + k) (shown row))) (sym (length-map new (cell_shown joiners))) in
      map-append (cell_shown joiners) (cut_before n row ++ new) rest ∙ ap (λ xs. xs ++ shown rest) (map-append (cell_shown joiners) (cut_before n row) new)
      ∙ ap (λ xs. (xs ++ shown new) ++ shown rest) (cut_shown n row) ∙ ap (λ xs. (cut_before n (shown row) ++ shown new) ++ xs) back

  blanks_shown : (k : ℕ) → shown (replicate k Blank) ≡ replicate k Blank
  blanks_shown zero = refl
  blanks_shown (suc k) = ap (λ xs. Blank ∷ xs) (blanks_shown k)

  continued_all : (k : ℕ) → shown (replicate k Continued) ≡ replicate k Continued
  continued_all zero = refl
  continued_all (suc k) = ap (λ xs. Continued ∷ xs) (continued_all k)

  -- the cells of a character without joiners
  pub character_shown : (c w : ℕ) → shown (character_cells c w) ≡ character_cells c w
  character_shown c w = ap (λ xs. Written (record { base = c; joiners = [] }) ∷ xs) (continued_all (w - 1))

  -- the cells of characters of one column
  pub narrow_shown : (cs : List ℕ) → shown (narrow_cells cs) ≡ narrow_cells cs
  narrow_shown [] = refl
  narrow_shown (c ∷ cs) = ap (λ xs. Written (record { base = c; joiners = [] }) ∷ xs) (narrow_shown cs)

  pub whole_shown : (w : ℕ) (cells : List Cell) → shown (whole_row w cells) ≡ whole_row w (shown cells)
  whole_shown w cells =
      map-append (cell_shown joiners) cells (replicate (w - length cells) Blank) ∙ ap (λ xs. shown cells ++ xs) (blanks_shown (w - length cells))
      ∙ ap (λ n. shown cells ++ replicate (w - n) Blank) (sym (length-map cells (cell_shown joiners)))

  pub any_shown : (cells : List Cell) → list_any is_written (shown cells) ≡ list_any is_written cells
  any_shown [] = refl
  any_shown (Blank ∷ cells) = any_shown cells
  any_shown (Written g ∷ cells) = refl
  any_shown (Continued ∷ cells) = refl

pub blank_shown : (w : ℕ) (joiners : List Joiner) (cells : List Cell) → cells ≡ [] → map (cell_shown joiners) (whole_row w cells) ≡ blank_row w
blank_shown w joiners cells e = ap (map (cell_shown joiners)) (none_kept w cells e) ∙ blanks_shown joiners w

pub length_shown : (w : ℕ) (joiners : List Joiner) (cells : List Cell) → length cells ≤ w → length (map (cell_shown joiners) (whole_row w cells)) ≡ w
length_shown w joiners cells h = length-map (whole_row w cells) (cell_shown joiners) ∙ length-whole_row w cells h

pub cells_written_shown : (w n : ℕ) (joiners : List Joiner) (cells old new row : List Cell) → map (cell_shown joiners) cells ≡ cells → map (cell_shown joiners) (whole_row w old) ≡ row →
    whole_row w new ≡ written_at n cells (whole_row w old) → map (cell_shown joiners) (whole_row w new) ≡ written_at n cells row
cells_written_shown w n joiners cells old new row same is e =
    ap (map (cell_shown joiners)) e ∙ written_shown joiners n cells (whole_row w old)
    ∙ ap (λ xs. written_at n xs (map (cell_shown joiners) (whole_row w old))) same ∙ ap (written_at n cells) is

pub row_written_shown : (w n c columns : ℕ) (joiners : List Joiner) (old new row : List Cell) → map (cell_shown joiners) (whole_row w old) ≡ row →
    whole_row w new ≡ written_at n (character_cells c columns) (whole_row w old) → map (cell_shown joiners) (whole_row w new) ≡ written_at n (character_cells c columns) row
row_written_shown w n c columns joiners old new row is e = cells_written_shown w n joiners (character_cells c columns) old new row (character_shown joiners c columns) is e

pub row_joined_shown : (w n c : ℕ) (joiners joiners' : List Joiner) (old new row : List Cell) → n ≤ length old → map (cell_shown joiners) (whole_row w old) ≡ row →
    map (cell_shown joiners') new ≡ joined_at n c (map (cell_shown joiners) old) → map (cell_shown joiners') (whole_row w new) ≡ joined_at n c row
row_joined_shown w n c joiners joiners' old new row h is e =
    whole_shown joiners' w new ∙ ap (whole_row w) e ∙ whole_joined w n c (map (cell_shown joiners) old) (omega (arith, length-map old (cell_shown joiners)))
    ∙ ap (joined_at n c) (sym (whole_shown joiners w old) ∙ is)

pub row_same_shown : (w : ℕ) (joiners joiners' : List Joiner) (old new row : List Cell) → map (cell_shown joiners) (whole_row w old) ≡ row →
    map (cell_shown joiners') new ≡ map (cell_shown joiners) old → map (cell_shown joiners') (whole_row w new) ≡ row
row_same_shown w joiners joiners' old new row is e = whole_shown joiners' w new ∙ ap (whole_row w) e ∙ sym (whole_shown joiners w old) ∙ is

pub nothing_joined_shown : (w n c : ℕ) (joiners : List Joiner) (cells row : List Cell) → length cells < n → n ≤ w → map (cell_shown joiners) (whole_row w cells) ≡ row → row ≡ joined_at n c row
nothing_joined_shown w n c joiners cells row far within is =
    let e : row ≡ whole_row w (map (cell_shown joiners) cells) = sym is ∙ whole_shown joiners w cells in
    e ∙ sym (nothing_joined w n c (map (cell_shown joiners) cells) (omega (arith, length-map cells (cell_shown joiners))) within) ∙ ap (joined_at n c) (sym e)

pub has_written_shown : (w : ℕ) (joiners : List Joiner) (cells : List Cell) → list_any is_written cells ≡ list_any is_written (map (cell_shown joiners) (whole_row w cells))
has_written_shown w joiners cells = sym (any_shown joiners (whole_row w cells) ∙ written_kept w cells)

pub trimmed_shown : (w : ℕ) (joiners : List Joiner) (cells : List Cell) → trimmed (map (cell_shown joiners) cells) ≡ trimmed (map (cell_shown joiners) (whole_row w cells))
trimmed_shown w joiners cells = sym (ap trimmed (whole_shown joiners w cells) ∙ text_kept w (map (cell_shown joiners) cells))

-- ---- joiners stay those of their cells

cells_of_whole : (w : ℕ) (m m' : List Joiner) (cells : List Cell) → map (cell_shown m) (whole_row w cells) ≡ map (cell_shown m') (whole_row w cells) →
    map (cell_shown m) cells ≡ map (cell_shown m') cells
cells_of_whole w m m' cells e =
    let blanks = replicate (w - length cells) Blank in
    sym (take_at (map (cell_shown m) cells) (map (cell_shown m) blanks) (length cells) (length-map cells (cell_shown m)))
    ∙ ap (take (length cells)) (sym (map-append (cell_shown m) cells blanks) ∙ e ∙ map-append (cell_shown m') cells blanks)
    ∙ take_at (map (cell_shown m') cells) (map (cell_shown m') blanks) (length cells) (length-map cells (cell_shown m'))

keeps_whole : (w : ℕ) (joiners : List Joiner) (cells : List Cell) → LeavesJoiners joiners cells → LeavesJoiners joiners (whole_row w cells)
keeps_whole w joiners cells keeps = λ more. whole_shown (joiners ++ more) w cells ∙ ap (whole_row w) (keeps more) ∙ sym (whole_shown joiners w cells)

pub keeps_again : (joiners joiners' : List Joiner) (cells cells' : List Cell) → LeavesJoiners joiners cells → joiners' ≡ joiners → cells' ≡ cells → LeavesJoiners joiners' cells'
keeps_again joiners joiners' cells cells' keeps e e' = λ more.
    ap (λ ms. map (cell_shown (ms ++ more)) cells') e ∙ ap (map (cell_shown (joiners ++ more))) e' ∙ keeps more
    ∙ sym (ap (λ ms. map (cell_shown ms) cells') e ∙ ap (map (cell_shown joiners)) e')

pub keeps_same : (w : ℕ) (joiners : List Joiner) (old new : List Cell) → LeavesJoiners joiners old → whole_row w new ≡ whole_row w old → LeavesJoiners joiners new
keeps_same w joiners old new keeps e = λ more.
    cells_of_whole w (joiners ++ more) joiners new (ap (map (cell_shown (joiners ++ more))) e ∙ keeps_whole w joiners old keeps more ∙ sym (ap (map (cell_shown joiners)) e))

pub keeps_cells : (w n : ℕ) (joiners : List Joiner) (cells old new : List Cell) → ((m : List Joiner) → map (cell_shown m) cells ≡ cells) → LeavesJoiners joiners old →
    whole_row w new ≡ written_at n cells (whole_row w old) → LeavesJoiners joiners new
keeps_cells w n joiners cells old new same keeps e = λ more.
    let row = whole_row w old in
    let by = λ (m : List Joiner). ap (map (cell_shown m)) e ∙ written_shown m n cells row ∙ ap (λ xs. written_at n xs (map (cell_shown m) row)) (same m) in
    cells_of_whole w (joiners ++ more) joiners new (by (joiners ++ more) ∙ ap (written_at n cells) (keeps_whole w joiners old keeps more) ∙ sym (by joiners))

pub keeps_written : (w n c columns : ℕ) (joiners : List Joiner) (old new : List Cell) → LeavesJoiners joiners old →
    whole_row w new ≡ written_at n (character_cells c columns) (whole_row w old) → LeavesJoiners joiners new
keeps_written w n c columns joiners old new keeps e = keeps_cells w n joiners (character_cells c columns) old new (λ m. character_shown m c columns) keeps e

-- ---- joining a joiner

module _ (row : List Cell) (joiners joiners' : List Joiner) (n joiner : ℕ) (x y z : Cell) (h : n < length row) (at : x ≡ get_or row n x) (not : is_continued x ≡ false)
    (keeps : LeavesJoiners joiners row) (joins : IsJoined joiner joiners joiners' (get_or row n y) z) where
  -- joiners put behind change only the cell that a joiner is joined to
  others : (later : List Joiner) → map (cell_shown (joiners' ++ later)) (set row n z) ≡ set (map (cell_shown joiners) row) n (with_joiner_at joiner (cell_shown joiners (get_or row n y)))
  others later =
      let all : map (cell_shown (joiners' ++ later)) row ≡ map (cell_shown joiners) row =
      ap (λ ms. map (cell_shown (ms ++ later)) row) joins.behind ∙ ap (λ ms. map (cell_shown ms) row) (append_assoc joiners joins.more later) ∙ keeps (joins.more ++ later) in
      map-set (cell_shown (joiners' ++ later)) row n z ∙ ap (λ xs. set xs n (cell_shown (joiners' ++ later) z)) all
      ∙ ap (set (map (cell_shown joiners) row) n) (joins.joined later)

  none_later : map (cell_shown joiners') (set row n z) ≡ map (cell_shown (joiners' ++ [])) (set row n z)
  none_later = ap (λ ms. map (cell_shown ms) (set row n z)) (sym (append-nil joiners'))

  pub keeps_joined : LeavesJoiners joiners' (set row n z)
  keeps_joined = λ later. others later ∙ sym (none_later ∙ others [])

  pub joined_shown : map (cell_shown joiners') (set row n z) ≡ joined_at (n + 1) joiner (map (cell_shown joiners) row)
  joined_shown =
      let f = cell_shown joiners in
      let here : f x ≡ get_or (map f row) n (f x) = ap f at ∙ sym (get_or-map f row n x) in
      let same : get_or row n y ≡ x = sym (get_or_read row n x h at y) in
      none_later ∙ others [] ∙ ap (λ c. set (map f row) n (with_joiner_at joiner (f c))) same
      ∙ sym (join_last (map f row) n (f x) (omega (arith, length-map row f)) here joiner (continued_shown joiners x ∙ not))
