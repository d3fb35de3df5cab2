-- A terminal that shows lists still shows them when both change their size.
use Rattle.std.proofs.Common.{◌≡◌, ℕ, zero, suc, ◌+◌, ◌-◌, ◌<◌, ◌≤◌, min, max, Bool, true, false, ◌&&◌, List, [], ◌∷◌, ◌++◌, map, length, take, drop, replicate, refl, sym, ◌∙◌, ap, arith, append_assoc, append-nil, length-append, length-take, slice_index_or, subst, if◌then◌else◌}
use Rattle.std.specs.Prelude.{IsFalse, flat_map, ◌==◌, nat_le}
use Rattle.std.specs.List.{list_all}
use Rattle.std.proofs.lemmas.Bool.{cond_both, eqb-true, ne_eqb, eq-eqb, and_parts, false≢true}
use Rattle.std.proofs.lemmas.Bool.Decides.{nat_tests}
use Rattle.std.proofs.lemmas.List.{length-replicate, length-map, take-append-drop, length-take-le, drop_at, drop-append-le, drop-replicate, take_at, replicate-append-replicate}
use Rattle.std.proofs.lemmas.List.Concat.{flat_map-append}
use Rattle.indicatif_text.specs.Columns.{Cell, blank_row}
use Rattle.indicatif_term.specs.Pictures.{is_blank}
use Rattle.indicatif_term.specs.Shows.{Shows, Rests, IsOpening, resting, resting_row, look, looks_of}
use Rattle.indicatif_term.specs.Lists.{Lists, Live, BarRows, all_rows, live_rows, live_height, lists_height, forgotten_lists}
use Rattle.indicatif_term.specs.Screen.{Screen}
use Rattle.indicatif_term.specs.Terminal.{Terminal}
use Rattle.indicatif_term.specs.Resizes.{resized, resized_terminal, lasting_rows, row_then, column_then, recut_screen, recut, recut_all, used_rows, recut_bar, recut_lists, segments_after, rows_passed, settled_whole, resized_lists}
use Rattle.indicatif_term.proofs.ScreenRowLemmas.{made, same_screen}
use Rattle.indicatif_term.proofs.RowReadingLemmas.{all_blank}
use Rattle.indicatif_term.proofs.RecutLemmas.{recut_alike, recut_blanks, recut_more, row_more}
use Rattle.indicatif_term.proofs.CountLemmas.{settled-rows, settled-height, length-live}
use Rattle.indicatif_term.proofs.DrawingLemmas.{all-height, resting_column, row_shown}

-- ---- the lists

pub segments_recut : (w : ℕ) (segments : List BarRows) → flat_map (λ (s : BarRows). s.rows) (map (recut_bar w) segments) ≡ recut_all w (flat_map (λ (s : BarRows). s.rows) segments)
segments_recut w [] = refl
segments_recut w (s ∷ segments) = ap (λ x. recut_all w s.rows ++ x) (segments_recut w segments) ∙ sym (flat_map-append (recut w) s.rows (flat_map (λ (s : BarRows). s.rows) segments))

live_recut : (w n : ℕ) (live : Live) → live_rows w (record { blanks = live.blanks; segments = map (recut_bar w) live.segments }) ≡ recut_all w (live_rows n live)
live_recut w n live = rw (segments_recut w live.segments, sym (recut_blanks w n live.blanks))
    (sym (flat_map-append (recut w) (replicate live.blanks (blank_row n)) (flat_map (λ (s : BarRows). s.rows) live.segments)))

pub recut_lists-rows : (w n : ℕ) (l : Lists) → all_rows w (recut_lists w l) ≡ recut_all w (all_rows n l)
recut_lists-rows w n l = ap (λ x. (recut_all w l.above ++ recut_all w l.kept) ++ x) (live_recut w n l.live)
    ∙ ap (λ x. x ++ recut_all w (live_rows n l.live)) (sym (flat_map-append (recut w) l.above l.kept))
    ∙ sym (flat_map-append (recut w) (l.above ++ l.kept) (live_rows n l.live))

drop_past : {A : Type 0} (n : ℕ) (xs ys : List A) → length xs ≤ n → drop n (xs ++ ys) ≡ drop (n - length xs) ys
drop_past n [] ys h = ap (λ k. drop k ys) (let e : n ≡ n - 0 = omega arith in e)
drop_past zero (x ∷ xs) ys h = absurd (omega (arith, h))
drop_past (suc n) (x ∷ xs) ys h = drop_past n xs ys (omega (arith, h)) ∙ ap (λ k. drop k ys) (let e : n - length xs ≡ suc n - length (x ∷ xs) = omega arith in e)

not_le : (a b : ℕ) → nat_le a b ≡ false → b < a
not_le a b e = grind (arith, nat_tests)

is_le : (a b : ℕ) → nat_le a b ≡ true → a ≤ b
is_le a b e = grind (arith, nat_tests)

pub segments_after-rows : (n : ℕ) (segments : List BarRows) → flat_map (λ (s : BarRows). s.rows) (segments_after n segments) ≡ drop n (flat_map (λ (s : BarRows). s.rows) segments)
segments_after-rows zero [] = refl
segments_after-rows (suc n) [] = refl
segments_after-rows n (s ∷ segments) =
    let others = flat_map (λ (s : BarRows). s.rows) segments in
    cond_both (nat_le (length s.rows) n) (segments_after (n - length s.rows) segments) (record s { rows = drop n s.rows } ∷ segments)
    (λ x. flat_map (λ (s : BarRows). s.rows) x ≡ drop n (s.rows ++ others))
    (λ e. segments_after-rows (n - length s.rows) segments ∙ sym (drop_past n s.rows others (is_le (length s.rows) n e)))
    (λ e. sym (drop-append-le n s.rows others (let h : n < length s.rows = not_le (length s.rows) n e in omega (arith, h))))

drop_both : {A : Type 0} (n : ℕ) (xs ys : List A) → drop n (xs ++ ys) ≡ drop n xs ++ drop (n - length xs) ys
drop_both zero [] ys = refl
drop_both (suc n) [] ys = ap (λ k. drop k ys) (let e : suc n ≡ suc n - 0 = omega arith in e)
drop_both zero (x ∷ xs) ys = ap (λ k. (x ∷ xs) ++ drop k ys) (let e : 0 ≡ 0 - length (x ∷ xs) = omega arith in e)
drop_both (suc n) (x ∷ xs) ys = drop_both n xs ys ∙ ap (λ k. drop n xs ++ drop k ys) (let e : n - length xs ≡ suc n - length (x ∷ xs) = omega arith in e)

live_passed : (w n : ℕ) (live : Live) → live_rows w (record { blanks = live.blanks - n; segments = segments_after (n - live.blanks) live.segments }) ≡ drop n (live_rows w live)
live_passed w n live =
    let blanks = replicate live.blanks (blank_row w) in
    let others = flat_map (λ (s : BarRows). s.rows) live.segments in
    ap (λ x. replicate (live.blanks - n) (blank_row w) ++ x) (segments_after-rows (n - live.blanks) live.segments)
    ∙ ap (λ k. replicate (live.blanks - n) (blank_row w) ++ drop (n - k) others) (sym (length-replicate live.blanks (blank_row w)))
    ∙ ap (λ x. x ++ drop (n - length blanks) others) (sym (drop-replicate n live.blanks (blank_row w)))
    ∙ sym (drop_both n blanks others)

regrouped : {A : Type 0} (a b c d : List A) → (a ++ (b ++ c)) ++ d ≡ (a ++ b) ++ (c ++ d)
regrouped a b c d = simp append_assoc

-- passing moves no row
rows_passed-rows : (w n : ℕ) (l : Lists) → all_rows w (rows_passed w n l) ≡ all_rows w l
rows_passed-rows w n l =
    let live = live_rows w l.live in
    ap (λ x. (l.above ++ (l.kept ++ take n live)) ++ x) (live_passed w n l.live)
    ∙ regrouped l.above l.kept (take n live) (drop n live)
    ∙ ap (λ x. (l.above ++ l.kept) ++ x) (take-append-drop n live)

-- one more row where the cursor rests below
abbrev pub one_if : Bool → ℕ
one_if b = if b then 1 else 0

at_most_one : (b : Bool) → one_if b ≤ 1
at_most_one true = omega arith
at_most_one false = omega arith

module _ (w h : ℕ) (l : Lists) (some : 0 < h) where
  abbrev cut : Lists
  cut = recut_lists w l

  abbrev more : ℕ
  more = (cut.reach - h) - (length cut.above + length cut.kept)

  abbrev pub passing : Lists
  passing = rows_passed w more cut

  abbrev pub whole : Lists
  whole = settled_whole w h cut

  pub whole-rows : (n : ℕ) → all_rows w whole ≡ recut_all w (all_rows n l)
  whole-rows n = settled-rows w h passing ∙ rows_passed-rows w more cut ∙ recut_lists-rows w n l

  pub passing-height : lists_height passing ≡ lists_height cut
  passing-height = sym (all-height w passing) ∙ ap length (rows_passed-rows w more cut) ∙ all-height w cut

  whole-same : lists_height whole ≡ lists_height cut
  whole-same = settled-height h passing ∙ passing-height

  pub whole-reach : whole.reach ≡ lists_height whole + one_if l.below
  whole-reach =
      let a : lists_height passing ≡ lists_height cut = passing-height in
      let b : lists_height whole ≡ lists_height cut = whole-same in
      let c : passing.reach ≡ lists_height cut + one_if l.below = refl in
      let d : whole.reach ≡ max passing.reach (lists_height passing) = refl in
      omega (arith, a, b, c, d)

  pub whole-movable : whole.reach ≤ length whole.above + h
  whole-movable =
      let a : lists_height passing ≡ lists_height cut = passing-height in
      let c : passing.reach ≡ lists_height cut + one_if l.below = refl in
      let d : whole.reach ≡ max passing.reach (lists_height passing) = refl in
      let e : lists_height cut ≡ length cut.above + length cut.kept + live_height cut.live = refl in
      let f : length (live_rows w cut.live) ≡ live_height cut.live = length-live w cut.live in
      let g : length passing.kept ≡ length cut.kept + min more (length (live_rows w cut.live)) =
      length-append cut.kept (take more (live_rows w cut.live)) ∙ ap (λ n. length cut.kept + n) (length-take more (live_rows w cut.live)) in
      let gone = (max passing.reach (lists_height passing) - h) - length passing.above in
      let i : length whole.above ≡ length cut.above + min gone (length passing.kept) =
      length-append passing.above (take gone passing.kept) ∙ ap (λ n. length cut.above + n) (length-take gone passing.kept) in
      let j : one_if l.below ≤ 1 = at_most_one l.below in
      let cr : cut.reach ≡ lists_height cut + one_if l.below = refl in
      omega (arith, a, c, d, e, f, g, i, j, cr)

-- ---- the screen

all_rows_blank : (k w : ℕ) → list_all (list_all is_blank) (replicate k (blank_row w)) ≡ true
all_rows_blank zero w = refl
all_rows_blank (suc k) w = rw (all_blank w, all_rows_blank k w) refl

none_used : (w k : ℕ) → used_rows (replicate k (blank_row w)) ≡ []
none_used w zero = refl
none_used w (suc k) = rw (all_blank w, all_rows_blank k w) refl

front_lasts : (w m k b : ℕ) (xs : List (List Cell)) → m ≡ length xs + b → b ≤ k →
    take m (xs ++ replicate k (blank_row w)) ++ used_rows (drop m (xs ++ replicate k (blank_row w))) ≡ xs ++ replicate b (blank_row w)
front_lasts w m k b xs e f =
    let row = blank_row w in
    let front = xs ++ replicate b row in
    let rest = replicate (k - b) row in
    let n : m ≡ length front = omega (arith, e, length-append xs (replicate b row), length-replicate b row) in
    let parts : xs ++ replicate k row ≡ front ++ rest =
    ap (λ z. xs ++ z) (ap (λ i. replicate i row) (let q : k ≡ b + (k - b) = omega (arith, f) in q) ∙ sym (replicate-append-replicate b (k - b) row)) ∙ sym (append_assoc xs (replicate b row) rest) in
    ap (λ z. take m z ++ used_rows (drop m z)) parts
    ∙ ap (λ z. z ++ used_rows (drop m (front ++ rest))) (take_at front rest m (sym n))
    ∙ ap (λ z. front ++ used_rows z) (drop_at front rest m (sym n))
    ∙ ap (λ z. front ++ z) (none_used w (k - b)) ∙ append-nil front

-- blank rows then, where b of them were cut and the window has h rows
abbrev pub blank_then : ℕ → ℕ → ℕ → ℕ
blank_then h n b = b + (h - (n + b))

module _ (w h w' h' k b row column : ℕ) (xs : List (List Cell)) (some : 0 < h') (at : row + 1 ≡ length xs + b) (fits : b ≤ k) where
  abbrev before : Screen
  before = made w h (xs ++ replicate k (blank_row w)) row column

  abbrev rows : List (List Cell)
  rows = recut_all w' xs ++ replicate b (blank_row w')

  lasting : recut_all w' (lasting_rows before) ≡ rows
  lasting = ap (recut_all w') (front_lasts w (row + 1) k b xs at fits) ∙ flat_map-append (recut w') xs (replicate b (blank_row w)) ∙ ap (λ z. recut_all w' xs ++ z) (recut_blanks w' w b)

  padded : rows ++ replicate (h' - length rows) (blank_row w') ≡ recut_all w' xs ++ replicate (blank_then h' (length (recut_all w' xs)) b) (blank_row w')
  padded = append_assoc (recut_all w' xs) (replicate b (blank_row w')) (replicate (h' - length rows) (blank_row w'))
      ∙ ap (λ z. recut_all w' xs ++ z) (replicate-append-replicate b (h' - length rows) (blank_row w')
      ∙ ap (λ n. replicate n (blank_row w')) (let e : b + (h' - length rows) ≡ blank_then h' (length (recut_all w' xs)) b =
      omega (arith, length-append (recut_all w' xs) (replicate b (blank_row w')), length-replicate b (blank_row w')) in e))

  pub screen_cut : (row' column' : ℕ) → row_then w' before ≡ row' → column_then w' before ≡ column' → row' + 1 ≡ length (recut_all w' xs) + b →
      recut_screen w' h' before ≡ made w' h' (recut_all w' xs ++ replicate (blank_then h' (length (recut_all w' xs)) b) (blank_row w')) row' column'
  screen_cut row' column' e f g =
      let n : length rows ≡ length (recut_all w' xs) + b = length-append (recut_all w' xs) (replicate b (blank_row w')) ∙ ap (λ i. length (recut_all w' xs) + i) (length-replicate b (blank_row w')) in
      same_screen w' h' _ _ _ _ _ _ (ap (λ z. z ++ replicate (h' - length z) (blank_row w')) lasting ∙ padded)
      (ap (λ z. max (row_then w' before) (length z - h')) lasting ∙ ap (λ i. max i (length rows - h')) e ∙ (let q : max row' (length rows - h') ≡ row' = omega (arith, n, g, some) in q)) f

  -- a cursor at the front of a row that is none of these
  pub front_then : b ≡ 1 → column ≡ 0 → 0 < w → (row_then w' before ≡ length (recut_all w' xs)) × (column_then w' before ≡ 0)
  front_then e f some =
      let r : row ≡ length xs = omega (arith, at, e) in
      let z : (column == w) ≡ false = ne_eqb column w (λ q. omega (arith, f, q, some)) in
      (rw z (ap (λ z. length (recut_all w' z)) (take_at xs (replicate k (blank_row w)) row (sym r))), rw z (let q : min column w' ≡ 0 = omega (arith, f) in q))

  -- a cursor that waits at the end of the last of these
  pub end_then : b ≡ 0 → column ≡ w → (row_then w' before ≡ length (recut_all w' xs) - 1) × (column_then w' before ≡ w')
  end_then e f =
      let r : row + 1 ≡ length xs = omega (arith, at, e) in
      let y : (column == w) ≡ true = eq-eqb column w f in
      let all = xs ++ replicate k (blank_row w) in
      let m : length (recut_all w' (take row all)) + length (recut w' (slice_index_or all row [])) ≡ length (recut_all w' (take (suc row) all)) =
      row_more w' row all (omega (arith, r, length-append xs (replicate k (blank_row w)))) in
      let t : take (suc row) all ≡ xs = take_at xs (replicate k (blank_row w)) (suc row) (omega (arith, r)) in
      (rw y (ap (λ i. i - 1) (m ∙ ap (λ x. length (recut_all w' x)) t)), rw y refl)

-- ---- what is shown

opened : (w h : ℕ) (s : Screen) (rows : List (List Cell)) (row : ℕ) → s.columns ≡ w → s.height ≡ h → s.rows ≡ rows → s.row ≡ row → s.column ≡ 0 → s ≡ made w h rows row 0
opened w h s rows row a b c d e = let m : made s.columns s.height s.rows s.row s.column ≡ made w h rows row 0 = cc in m

-- an opening by its rows above the cursor's and the blank ones from there on
opening_is : (w h : ℕ) (s : Screen) → IsOpening w h s → s ≡ made w h (take s.row s.rows ++ replicate (length s.rows - s.row) (blank_row w)) s.row 0
opening_is w h s o = opened w h s _ s.row o.columns o.height (sym (take-append-drop s.row s.rows) ∙ ap (λ z. take s.row s.rows ++ z) o.empty_below) refl o.front

module _ (w h w' h' : ℕ) (opening : Screen) (l : Lists) (t : Terminal) (s : Shows w h opening l t) (some : 0 < w) (some' : 0 < h') where
  abbrev untouched : List (List Cell)
  untouched = take opening.row opening.rows

  abbrev u : ℕ
  u = length (recut_all w' untouched)

  o : IsOpening w h opening
  o = s.opens

  untouched-height : length untouched ≡ opening.row
  untouched-height = length-take-le opening.row opening.rows (let e : opening.row < length opening.rows = o.in_rows in omega (arith, e))

  -- the opening then
  abbrev pub opening' : Screen
  opening' = made w' h' (recut_all w' untouched ++ replicate (blank_then h' u 1) (blank_row w')) u 0

  pub opening_cut : recut_screen w' h' opening ≡ opening'
  opening_cut =
      let below = length opening.rows - opening.row in
      let a : opening.row + 1 ≡ length untouched + 1 = ap (λ n. n + 1) (sym untouched-height) in
      let f : 1 ≤ below = let e : opening.row < length opening.rows = o.in_rows in omega (arith, e) in
      let p = front_then w h w' h' below 1 opening.row 0 untouched some' a f refl refl some in
      ap (recut_screen w' h') (opening_is w h opening o) ∙ screen_cut w h w' h' below 1 opening.row 0 untouched some' a f u 0 p.0 p.1 refl

  front_kept : take u opening'.rows ≡ recut_all w' untouched
  front_kept = take_at (recut_all w' untouched) (replicate (blank_then h' u 1) (blank_row w')) u refl

  rows-then : length opening'.rows ≡ u + blank_then h' u 1
  rows-then = length-append (recut_all w' untouched) (replicate (blank_then h' u 1) (blank_row w')) ∙ ap (λ n. u + n) (length-replicate (blank_then h' u 1) (blank_row w'))

  opens' : IsOpening w' h' opening'
  opens' = record {
    columns = refl;
    height = refl;
    rows = omega (arith, rows-then);
    in_window = omega (arith, rows-then);
    in_rows = omega (arith, rows-then);
    front = refl;
    empty_below = drop_at (recut_all w' untouched) (replicate (blank_then h' u 1) (blank_row w')) u refl
        ∙ ap (λ n. replicate n (blank_row w')) (let e : blank_then h' u 1 ≡ length opening'.rows - u = omega (arith, rows-then) in e);
  }

  -- the lists then
  abbrev l' : Lists
  l' = whole w' h' l some'

  abbrev shown' : List (List Cell)
  shown' = recut_all w' s.shown

  shown-rows : shown' ≡ all_rows w' l'
  shown-rows = recut_alike w' s.shown (all_rows w l) s.looks ∙ sym (whole-rows w' h' l some' w)

  shown-height : length s.shown ≡ lists_height l
  shown-height = sym (length-map s.shown (map look)) ∙ ap length s.looks ∙ length-map (all_rows w l) (map look) ∙ all-height w l

  height-then : length shown' ≡ lists_height l'
  height-then = ap length shown-rows ∙ all-height w' l'

  not_less : lists_height l ≤ lists_height l'
  not_less = let a : length s.shown ≤ length shown' = recut_more w' s.shown in omega (arith, a, shown-height, height-then)

  -- the screen then
  abbrev all : List (List Cell)
  all = untouched ++ s.shown

  all-height' : length (recut_all w' all) ≡ u + lists_height l'
  all-height' = ap length (flat_map-append (recut w') untouched s.shown) ∙ length-append (recut_all w' untouched) shown' ∙ ap (λ n. u + n) height-then

  all-before : length all ≡ opening.row + lists_height l
  all-before = length-append untouched s.shown ∙ ap (λ n. n + length s.shown) untouched-height ∙ ap (λ n. opening.row + n) shown-height

  abbrev b : ℕ
  b = one_if l.below

  by_below : (below : Bool) → l.below ≡ below →
      (opening.row + resting_row l + 1 ≡ length all + one_if below) × (one_if below ≤ s.blank)
      × (row_then w' (made w h (all ++ replicate s.blank (blank_row w)) (opening.row + resting_row l) (resting_column w l)) ≡ u + (if below then lists_height l' else (lists_height l' - 1)))
      × (column_then w' (made w h (all ++ replicate s.blank (blank_row w)) (opening.row + resting_row l) (resting_column w l)) ≡ (if below then 0 else w'))
      × (u + (if below then lists_height l' else (lists_height l' - 1)) + 1 ≡ u + lists_height l' + one_if below)
  by_below true e =
      let r : resting_row l ≡ lists_height l = rw e refl in
      let c : resting_column w l ≡ 0 = rw e refl in
      let i : resting_row l < length s.shown + s.blank = row_shown s in
      let at : opening.row + resting_row l + 1 ≡ length all + 1 = omega (arith, r, all-before) in
      let f : 1 ≤ s.blank = omega (arith, i, r, shown-height) in
      let p = front_then w h w' h' s.blank 1 (opening.row + resting_row l) (resting_column w l) all some' at f refl c some in
      (at, f, p.0 ∙ all-height', p.1, refl)
  by_below false e =
      let r : resting_row l ≡ lists_height l - 1 = rw e refl in
      let c : resting_column w l ≡ w = rw e refl in
      let g : 0 < lists_height l = s.on_a_row e in
      let at : opening.row + resting_row l + 1 ≡ length all + 0 = omega (arith, r, all-before, g) in
      let p = end_then w h w' h' s.blank 0 (opening.row + resting_row l) (resting_column w l) all some' at (omega arith) refl c in
      let n : lists_height l ≤ lists_height l' = not_less in
      (at, omega arith, p.0 ∙ (let q : length (recut_all w' all) - 1 ≡ u + (lists_height l' - 1) = omega (arith, all-height', n, g) in q), p.1, omega (arith, n, g))

  abbrev pub now' : Terminal
  now' = resting (made w' h' (recut_all w' untouched ++ shown' ++ replicate (blank_then h' (u + lists_height l') b) (blank_row w')) (u + resting_row l') (resting_column w' l'))

  pub terminal_cut : resting (recut_screen w' h' t.screen) ≡ now'
  terminal_cut =
      let c = by_below l.below refl in
      ap resting (ap (λ z. recut_screen w' h' z.screen) s.terminal_is
      ∙ screen_cut w h w' h' s.blank b (opening.row + resting_row l) (resting_column w l) all some' c.0 c.1 (u + resting_row l') (resting_column w' l') c.2 c.3
      (c.4 ∙ ap (λ n. n + b) (sym all-height'))
      ∙ same_screen w' h' _ _ _ _ _ _ (ap (λ n. recut_all w' all ++ replicate (blank_then h' n b) (blank_row w')) all-height'
      ∙ ap (λ z. z ++ replicate (blank_then h' (u + lists_height l') b) (blank_row w')) (flat_map-append (recut w') untouched s.shown)) refl refl)

  pub cut_shows : Shows w' h' opening' l' now'
  cut_shows =
      let n : lists_height l ≤ lists_height l' = not_less in
      let r : l'.reach ≡ lists_height l' + b = whole-reach w' h' l some' in
      let c = by_below l.below refl in
      let k : b ≤ 1 = at_most_one l.below in
      let rest : u + resting_row l' + 1 ≡ u + lists_height l' + b = c.4 in
      record {
        opens = opens';
        shown = shown';
        blank = blank_then h' (u + lists_height l') b;
        terminal_is = ap (λ z. resting (made w' h' (z ++ shown' ++ replicate (blank_then h' (u + lists_height l') b) (blank_row w')) (u + resting_row l') (resting_column w' l'))) (sym front_kept);
        looks = ap looks_of shown-rows;
        scrolled = omega (arith, height-then, rows-then, r, rest);
        reached = omega (arith, r);
        below_reached = λ e. (let f : b ≡ 1 = rw e refl in omega (arith, r, f));
        on_a_row = λ e. (let g : 0 < lists_height l = s.on_a_row e in omega (arith, g, n));
        movable = whole-movable w' h' l some';
        in_window = omega (arith, r, rest, some');
      }

-- ---- whatever the sizes are

test_parts : (a b c d : ℕ) → ((a == b) && (c == d)) ≡ true → (a ≡ b) × (c ≡ d)
test_parts a b c d e = let p = and_parts (a == b) (c == d) e in (eqb-true a b p.0, eqb-true c d p.1)

pub resized-columns : (w h : ℕ) (s : Screen) → (resized w h s).columns ≡ w
unfolding resized
resized-columns w h s = cond_both ((s.columns == w) && (s.height == h)) s (recut_screen w h s) (λ z. z.columns ≡ w) (λ e. (test_parts s.columns w s.height h e).0) (λ e. refl)

pub resized-height : (w h : ℕ) (s : Screen) → (resized w h s).height ≡ h
unfolding resized
resized-height w h s = cond_both ((s.columns == w) && (s.height == h)) s (recut_screen w h s) (λ z. z.height ≡ h) (λ e. (test_parts s.columns w s.height h e).1) (λ e. refl)

module _ (w h w' h' : ℕ) (opening : Screen) (l : Lists) (t : Terminal) (s : Shows w h opening l t) (some : 0 < w) (some' : 0 < h') where
  abbrev same : Bool
  same = (w == w') && (h == h')

  abbrev with_screen : Screen → Terminal
  with_screen x = record t { screen = x }

  at_rest : (x : Screen) → with_screen x ≡ resting x
  at_rest x = ap (λ r. let y : Terminal = record { screen = x; reader = r } in y) (ap (λ z. z.reader) s.terminal_is)

  by_size : (b : Bool) → same ≡ b →
      Shows w' h' (if b then opening else recut_screen w' h' opening) (if b then l else settled_whole w' h' (recut_lists w' l)) (with_screen (if b then t.screen else recut_screen w' h' t.screen))
  by_size true e =
      let p = test_parts w w' h h' e in
      subst (λ n. Shows w' n opening l t) p.1 (subst (λ n. Shows n h opening l t) p.0 s)
  by_size false e =
      subst (λ z. Shows w' h' (recut_screen w' h' opening) (settled_whole w' h' (recut_lists w' l)) z) (sym (at_rest (recut_screen w' h' t.screen) ∙ terminal_cut w h w' h' opening l t s some some'))
      (subst (λ z. Shows w' h' z (settled_whole w' h' (recut_lists w' l)) (now' w h w' h' opening l t s some some')) (sym (opening_cut w h w' h' opening l t s some some'))
      (cut_shows w h w' h' opening l t s some some'))

  opening_resized : resized w' h' opening ≡ (if same then opening else recut_screen w' h' opening)
  unfolding resized
  opening_resized = let o : IsOpening w h opening = s.opens in
      ap (λ n. if (n == w') && (opening.height == h') then opening else recut_screen w' h' opening) o.columns
      ∙ ap (λ n. if (w == w') && (n == h') then opening else recut_screen w' h' opening) o.height

  screen_resized : resized w' h' t.screen ≡ (if same then t.screen else recut_screen w' h' t.screen)
  unfolding resized
  screen_resized =
      ap (λ n. if (n == w') && (t.screen.height == h') then t.screen else recut_screen w' h' t.screen) (ap (λ z. z.screen.columns) s.terminal_is)
      ∙ ap (λ n. if (w == w') && (n == h') then t.screen else recut_screen w' h' t.screen) (ap (λ z. z.screen.height) s.terminal_is)

  lists_resized : resized_lists w h w' h' l ≡ (if same then l else settled_whole w' h' (recut_lists w' l))
  unfolding resized_lists
  lists_resized = refl

  pub resized_shows : Shows w' h' (resized w' h' opening) (resized_lists w h w' h' l) (resized_terminal w' h' t)
  resized_shows =
      subst (λ x. Shows w' h' x (resized_lists w h w' h' l) (resized_terminal w' h' t)) (sym opening_resized)
      (subst (λ x. Shows w' h' (if same then opening else recut_screen w' h' opening) x (resized_terminal w' h' t)) (sym lists_resized)
      (subst (λ x. Shows w' h' (if same then opening else recut_screen w' h' opening) (if same then l else settled_whole w' h' (recut_lists w' l)) (with_screen x)) (sym screen_resized)
      (by_size same refl)))

-- ---- rows above are cut, and more only added at their end

above_cut : (w h : ℕ) (l : Lists) → 0 < h → (rows : List (List Cell)) × ((settled_whole w h (recut_lists w l)).above ≡ recut_all w l.above ++ rows)
above_cut w h l some = let gone = (max (passing w h l some).reach (lists_height (passing w h l some)) - h) - length (passing w h l some).above in (take gone (passing w h l some).kept, refl)

pub above_resized : (w h w' h' : ℕ) (l : Lists) → ((w == w') && (h == h')) ≡ false → 0 < h' → (rows : List (List Cell)) × ((resized_lists w h w' h' l).above ≡ recut_all w' l.above ++ rows)
unfolding resized_lists
above_resized w h w' h' l e some = rw e (above_cut w' h' l some)

pub same_size : (w h : ℕ) (l : Lists) → resized_lists w h w h l ≡ l
unfolding resized_lists
same_size w h l = rw (eq-eqb w w refl, eq-eqb h h refl) refl

-- a failure is remembered
pub still_failed : (w h w' h' : ℕ) (l : Lists) → (resized_lists w h w' h' l).failed ≡ l.failed
unfolding resized_lists
still_failed w h w' h' l = elim ((w == w') && (h == h')) as (λ b. (if b then l else settled_whole w' h' (recut_lists w' l)).failed ≡ l.failed) [ true ↦ refl | false ↦ refl ]

-- the rows are the old ones cut anew
pub rows_resized : (w h w' h' : ℕ) (l : Lists) → ((w == w') && (h == h')) ≡ false → 0 < h' → all_rows w' (resized_lists w h w' h' l) ≡ recut_all w' (all_rows w l)
unfolding resized_lists
rows_resized w h w' h' l e some = rw e (whole-rows w' h' l some w)

-- forgotten rows stay forgotten
forgotten_cut : (w h : ℕ) → 0 < h → settled_whole w h (recut_lists w forgotten_lists) ≡ forgotten_lists
forgotten_cut w h some = let e : 1 - h ≡ 0 = omega (arith, some) in rw e (rw e refl)

pub forgotten_stay : (w h w' h' : ℕ) → 0 < h' → resized_lists w h w' h' forgotten_lists ≡ forgotten_lists
unfolding resized_lists
forgotten_stay w h w' h' some =
    elim ((w == w') && (h == h')) as (λ b. (if b then forgotten_lists else settled_whole w' h' (recut_lists w' forgotten_lists)) ≡ forgotten_lists) [ true ↦ refl | false ↦ forgotten_cut w' h' some ]

-- what has not failed rests as before
pub resized_rests : (w h w' h' : ℕ) (opening : Screen) (l : Lists) (t : Terminal) → Rests w h opening l t → IsFalse l.failed → 0 < w → 0 < h' →
    Rests w' h' (resized w' h' opening) (resized_lists w h w' h' l) (resized_terminal w' h' t)
resized_rests w h w' h' opening l t r f some some' =
    let e : (resized_lists w h w' h' l).failed ≡ false = still_failed w h w' h' l ∙ f in
    record {
      shows = λ _. resized_shows w h w' h' opening l t (r.shows f) some some';
      leads = λ g. absurd (false≢true (sym e ∙ g));
    }
