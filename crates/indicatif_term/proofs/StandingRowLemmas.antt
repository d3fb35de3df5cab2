-- Rows that stand above whatever is written next are cut when a terminal gets another size, and stay safe.
use Rattle.std.proofs.Common.{◌≡◌, ℕ, suc, ◌+◌, ◌-◌, ◌<◌, ◌≤◌, min, Bool, true, false, ◌&&◌, List, ◌++◌, map, length, take, drop, replicate, refl, sym, ◌∙◌, ap, subst, arith, append_assoc, length-append, length-take, inl, inr, if◌then◌else◌}
use Rattle.std.specs.Prelude.{◌==◌}
use Rattle.std.proofs.lemmas.Bool.{cond_both, eq-eqb, eqb-true, and_parts, cases_Bool}
use Rattle.std.proofs.lemmas.List.{length-replicate, length-map, length-take-le, take-append-drop, take_at, take-take, take_min, take-map}
use Rattle.std.proofs.lemmas.List.Concat.{flat_map-append}
use Rattle.indicatif_text.specs.Columns.{Cell, blank_row}
use Rattle.indicatif_term.specs.Screen.{Screen, cursor_row}
use Rattle.indicatif_term.specs.Terminal.{Terminal}
use Rattle.indicatif_term.specs.Lists.{Lists, all_rows, live_rows, lists_height, forgotten_lists}
use Rattle.indicatif_term.specs.Shows.{Shows, Placed, safe_rows, IsOpening, look, looks_of, resting_row}
use Rattle.indicatif_term.specs.Resizes.{recut, recut_all, used_rows, lasting_rows, row_then, recut_screen, resized, resized_terminal, resized_lists}
use Rattle.indicatif_term.specs.Events.{rows_that_stand, rows_then}
use Rattle.indicatif_term.proofs.DrawingLemmas.{resting_column}
use Rattle.indicatif_term.proofs.RecutLemmas.{recut_some, recut_alike, row_more, upper_rows}
use Rattle.indicatif_term.proofs.ResizeLemmas.{opening_cut, above_resized, same_size}
use Rattle.indicatif_term.proofs.PlaceLemmas.{IsSizedInside}
use Rattle.indicatif_term.proofs.StandLemmas.{sized_place, broke_placed}

-- ---- a screen that gets another size

front_of : (n m : ℕ) (rows : List (List Cell)) → n ≤ m → take m rows ≡ take n rows ++ drop n (take m rows)
front_of n m rows h = sym (take-append-drop n (take m rows)) ∙ ap (λ z. z ++ drop n (take m rows)) (take-take n m rows h)

cut_fewer : (w n m : ℕ) (rows : List (List Cell)) → n ≤ m → length (recut_all w (take n rows)) ≤ length (recut_all w (take m rows))
cut_fewer w n m rows h =
    let rest = drop n (take m rows) in
    let all : length (recut_all w (take m rows)) ≡ length (recut_all w (take n rows)) + length (recut_all w rest) =
    ap (λ z. length (recut_all w z)) (front_of n m rows h) ∙ ap length (flat_map-append (recut w) (take n rows) rest) ∙ length-append (recut_all w (take n rows)) (recut_all w rest) in
    omega (arith, all)

module _ (w h n : ℕ) (s : Screen) (within : s.row < length s.rows) where
  abbrev rows : List (List Cell)
  rows = recut_all w (lasting_rows s)

  -- how many of the n rows stand above
  abbrev k : ℕ
  k = rows_that_stand n s

  abbrev pub cut : List (List Cell)
  cut = recut_all w (take k s.rows)

  at_most : k ≤ s.row + 1
  at_most = cond_both (s.column == s.columns) (s.row + 1) s.row (λ b. min n b ≤ s.row + 1) (λ e. omega arith) (λ e. omega arith)

  abbrev others : List (List Cell)
  others = drop k (take (s.row + 1) s.rows) ++ used_rows (drop (s.row + 1) s.rows)

  begins : rows ≡ cut ++ recut_all w others
  begins =
      ap (λ z. recut_all w (z ++ used_rows (drop (s.row + 1) s.rows))) (front_of k (s.row + 1) s.rows at_most)
      ∙ ap (recut_all w) (append_assoc (take k s.rows) (drop k (take (s.row + 1) s.rows)) (used_rows (drop (s.row + 1) s.rows)))
      ∙ flat_map-append (recut w) (take k s.rows) others

  pub cut_taken : take (length cut) (recut_screen w h s).rows ≡ cut
  cut_taken =
      let blanks = replicate (h - length rows) (blank_row w) in
      ap (λ z. take (length cut) (z ++ blanks)) begins
      ∙ ap (take (length cut)) (append_assoc cut (recut_all w others) blanks)
      ∙ take_at cut (recut_all w others ++ blanks) (length cut) refl

  abbrev before : ℕ
  before = length (recut_all w (take s.row s.rows))

  through : length (recut_all w (take (s.row + 1) s.rows)) ≡ before + length (recut w (cursor_row s))
  through = ap (λ m. length (recut_all w (take m s.rows))) (let e : s.row + 1 ≡ suc s.row = omega arith in e) ∙ sym (row_more w s.row s.rows within)

  -- the cursor is on the last of them, or below
  low : length cut ≤ row_then w s + 1
  low = cond_both (s.column == s.columns) (s.row + 1) s.row
      (λ b. length (recut_all w (take (min n b) s.rows)) ≤ (if s.column == s.columns then before + length (recut w (cursor_row s)) - 1 else before) + 1)
      (λ e. rw e (omega (arith, cut_fewer w (min n (s.row + 1)) (s.row + 1) s.rows (omega arith), through, recut_some w (cursor_row s))))
      (λ e. rw e (omega (arith, cut_fewer w (min n s.row) s.row s.rows (omega arith))))

  less : row_then w s < length rows
  less = cond_both (s.column == s.columns) (before + length (recut w (cursor_row s)) - 1) before (λ r. r < length rows)
      (λ e. omega (arith, upper_rows w s within, recut_some w (cursor_row s))) (λ e. omega (arith, upper_rows w s within, recut_some w (cursor_row s)))

  total : length (recut_screen w h s).rows ≡ length rows + (h - length rows)
  total = length-append rows (replicate (h - length rows) (blank_row w)) ∙ ap (λ m. length rows + m) (length-replicate (h - length rows) (blank_row w))

  pub cut_sized : 0 < h → IsSizedInside w h (recut_screen w h s)
  cut_sized some = record {
    columns = refl;
    height = refl;
    inside = record { enough_rows = omega (arith, total); in_window = omega (arith, total); in_rows = omega (arith, total, less, some) };
  }

  pub cut_low : length cut ≤ (recut_screen w h s).row + 1
  cut_low = omega (arith, low)

-- ---- a terminal that gets another size

both_tests : (a b c d : ℕ) → ((a == b) && (c == d)) ≡ true → (a ≡ b) × (c ≡ d)
both_tests a b c d e = let p = and_parts (a == b) (c == d) e in (eqb-true a b p.0, eqb-true c d p.1)

taken_again : (n : ℕ) (rows : List (List Cell)) → take (length (take n rows)) rows ≡ take n rows
taken_again n rows = ap (λ k. take k rows) (length-take n rows) ∙ take_min n rows

pub rows_taken : (w' h' n : ℕ) (t : Terminal) → t.screen.row < length t.screen.rows →
    take (length (rows_then w' h' n t.screen)) (resized_terminal w' h' t).screen.rows ≡ rows_then w' h' n t.screen
unfolding resized
rows_taken w' h' n t within =
    let s = t.screen in
    let same = (s.columns == w') && (s.height == h') in
    cond_both same (take n s.rows) (cut w' h' n s within) (λ r. take (length r) (if same then s else recut_screen w' h' s).rows ≡ r)
    (λ e. rw e (taken_again n s.rows)) (λ e. rw e (cut_taken w' h' n s within))

pub rows_placed : (w h w' h' n : ℕ) (t : Terminal) → 0 < h' → n ≤ safe_rows forgotten_lists t → Placed w h forgotten_lists t →
    Placed w' h' forgotten_lists (resized_terminal w' h' t) × (length (rows_then w' h' n t.screen) ≤ safe_rows forgotten_lists (resized_terminal w' h' t))
unfolding resized
rows_placed w h w' h' n t some low p =
    let s = t.screen in
    let i = sized_place p in
    let same = (s.columns == w') && (s.height == h') in
    let with_screen : Screen → Terminal = λ z. record t { screen = z } in
    cond_both same (take n s.rows) (cut w' h' n s i.inside.in_rows)
    (λ r. let u = with_screen (if same then s else recut_screen w' h' s) in Placed w' h' forgotten_lists u × (length r ≤ safe_rows forgotten_lists u))
    (λ e.
    let parts = both_tests s.columns w' s.height h' e in
    let here = subst (λ k. Placed w' k forgotten_lists t) (sym i.height ∙ parts.1) (subst (λ k. Placed k h forgotten_lists t) (sym i.columns ∙ parts.0) p) in
    rw e (here, omega (arith, length-take n s.rows, low)))
    (λ e. rw e (broke_placed w' h' (with_screen (recut_screen w' h' s)) (cut_sized w' h' n s i.inside.in_rows some), cut_low w' h' n s i.inside.in_rows))

-- ---- one that shows lists

module _ (w h n : ℕ) (opening : Screen) (l : Lists) (t : Terminal) (x : Shows w h opening l t) (few : n ≤ opening.row + length l.above) where
  row_is : t.screen.row ≡ opening.row + resting_row l
  row_is = ap (λ u. u.screen.row) x.terminal_is

  column_is : t.screen.column ≡ resting_column w l
  column_is = ap (λ u. u.screen.column) x.terminal_is

  columns_are : t.screen.columns ≡ w
  columns_are = ap (λ u. u.screen.columns) x.terminal_is

  by_place : (below : Bool) → l.below ≡ below → rows_that_stand n t.screen ≡ n
  by_place true e =
      let r : resting_row l ≡ lists_height l = rw e refl in
      cond_both (t.screen.column == t.screen.columns) (t.screen.row + 1) t.screen.row (λ b. min n b ≡ n) (λ f. omega (arith, few, row_is, r)) (λ f. omega (arith, few, row_is, r))
  by_place false e =
      let r : resting_row l ≡ lists_height l - 1 = rw e refl in
      let c : resting_column w l ≡ w = rw e refl in
      let g : 0 < lists_height l = x.on_a_row e in
      let waits : (t.screen.column == t.screen.columns) ≡ true = eq-eqb t.screen.column t.screen.columns (column_is ∙ c ∙ sym columns_are) in
      rw waits (let q : min n (t.screen.row + 1) ≡ n = omega (arith, few, row_is, r, g) in q)

  pub all_stand : rows_that_stand n t.screen ≡ n
  all_stand = by_place l.below refl

module _ (w h w' h' n : ℕ) (opening : Screen) (l : Lists) (t : Terminal) (x : Shows w h opening l t) (some : 0 < w) (some' : 0 < h') (few : n ≤ opening.row + length l.above) where
  abbrev untouched : List (List Cell)
  untouched = take opening.row opening.rows

  abbrev a : ℕ
  a = length l.above

  o : IsOpening w h opening
  o = x.opens

  -- the untouched rows and those above are the first ones, and those above look so
  first_rows : (length (recut_all w' (take (opening.row + a) t.screen.rows))) ≡ length (recut_all w' untouched) + length (recut_all w' l.above)
  first_rows =
      let blanks = replicate x.blank (blank_row w) in
      let front_n : length untouched ≡ opening.row = length-take-le opening.row opening.rows (omega (arith, o.in_rows)) in
      let rest = l.kept ++ live_rows w l.live in
      let looks : looks_of (take a x.shown) ≡ looks_of l.above =
      sym (take-map (map look) a x.shown) ∙ ap (take a) x.looks ∙ take-map (map look) a (all_rows w l)
      ∙ ap looks_of (ap (take a) (append_assoc l.above l.kept (live_rows w l.live)) ∙ take_at l.above rest a refl) in
      let size : length x.shown ≡ length (all_rows w l) = sym (length-map x.shown (map look)) ∙ ap length x.looks ∙ length-map (all_rows w l) (map look) in
      let more : a ≤ length x.shown = omega (arith, size, length-append (l.above ++ l.kept) (live_rows w l.live), length-append l.above l.kept) in
      let p = untouched ++ take a x.shown in
      let others = drop a x.shown ++ blanks in
      let whole : t.screen.rows ≡ p ++ others = ap (λ u. u.screen.rows) x.terminal_is ∙ ap (λ z. untouched ++ z ++ blanks) (sym (take-append-drop a x.shown)) ∙ simp append_assoc in
      let p_n : length p ≡ opening.row + a = length-append untouched (take a x.shown) ∙ omega (arith, front_n, length-take-le a x.shown more) in
      ap (λ z. length (recut_all w' (take (opening.row + a) z))) whole ∙ ap (λ z. length (recut_all w' z)) (take_at p others (opening.row + a) p_n)
      ∙ ap length (flat_map-append (recut w') untouched (take a x.shown)) ∙ length-append (recut_all w' untouched) (recut_all w' (take a x.shown))
      ∙ ap (λ z. length (recut_all w' untouched) + length z) (recut_alike w' (take a x.shown) l.above looks)

  opening_row : (recut_screen w' h' opening).row ≡ length (recut_all w' untouched)
  opening_row = ap (λ z. z.row) (opening_cut w h w' h' opening l t x some some')

  pub rows_safe : length (rows_then w' h' n t.screen) ≤ (resized w' h' opening).row + length (resized_lists w h w' h' l).above
  unfolding resized
  rows_safe =
      let s = t.screen in
      let test : ((s.columns == w') && (s.height == h')) ≡ ((w == w') && (h == h')) =
      ap (λ z. (z.screen.columns == w') && (z.screen.height == h')) x.terminal_is in
      let test' : ((opening.columns == w') && (opening.height == h')) ≡ ((w == w') && (h == h')) =
      ap (λ k. (k == w') && (opening.height == h')) o.columns ∙ ap (λ k. (w == w') && (k == h')) o.height in
      elim (cases_Bool ((w == w') && (h == h'))) [
        | inl e ↦
            let parts = both_tests w w' h h' e in
            let kept : length (resized_lists w h w' h' l).above ≡ a = ap (λ k. length (resized_lists w h k h' l).above) (sym parts.0) ∙ ap (λ k. length (resized_lists w h w k l).above) (sym parts.1)
            ∙ ap (λ z. length z.above) (same_size w h l) in
            rw (test ∙ e, test' ∙ e) (omega (arith, few, kept, length-take n s.rows))
        | inr e ↦
            let z = above_resized w h w' h' l e some' in
            let more : length (resized_lists w h w' h' l).above ≡ length (recut_all w' l.above) + length z.0 = ap length z.1 ∙ length-append (recut_all w' l.above) z.0 in
            let cut_n : length (recut_all w' (take (rows_that_stand n s) s.rows)) ≡ length (recut_all w' (take n s.rows)) =
            ap (λ k. length (recut_all w' (take k s.rows))) (all_stand w h n opening l t x few) in
            rw (test ∙ e, test' ∙ e) (omega (arith, cut_n, cut_fewer w' n (opening.row + a) s.rows few, first_rows, opening_row, more))
      ]
