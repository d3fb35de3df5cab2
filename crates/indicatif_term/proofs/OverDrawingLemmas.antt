-- Lines written over those that stand there lead a terminal that shows the lists to one that shows the next ones.
use Rattle.std.proofs.Common.{IsTrue, ◌≡◌, ℕ, zero, suc, ◌+◌, ◌-◌, ◌<◌, ◌≤◌, max, Bool, false, List, [], ◌∷◌, ◌++◌, length, take, drop, replicate, map, chars, refl, sym, ◌∙◌, ap, subst, arith, length-append, append_assoc, take-append-drop}
use Rattle.std.specs.Prelude.{flat_map}
use Rattle.std.specs.List.{AllByRecursion}
use Rattle.std.proofs.lemmas.Str.{encodes-chars}
use Rattle.std.proofs.lemmas.List.{length-map, length-replicate, drop-map, drop_at, drop-drop, drop-replicate}
use Rattle.indicatif_text.specs.Columns.{Cell, blank_row, visible, rows_of}
use Rattle.indicatif_term.specs.Screen.{Screen, Op, Put, Return}
use Rattle.indicatif_term.specs.Inside.Scanners.{performed_all}
use Rattle.indicatif_term.specs.Terminal.{Terminal, GREATEST, after}
use Rattle.indicatif_term.specs.Calls.{move_bytes}
use Rattle.indicatif_term.specs.Shows.{Shows, IsOpening, resting, look, looks_of, resting_row}
use Rattle.indicatif_term.specs.Lists.{Lists, lists_height, live_height, all_rows}
use Rattle.indicatif_term.proofs.CursorRowLemmas.{Stands, IsBelow}
use Rattle.indicatif_term.proofs.ScreenRowLemmas.{same_screen}
use Rattle.indicatif_term.proofs.CallLemmas.{Asks, after_asks, text_asks}
use Rattle.indicatif_term.proofs.MoveLemmas.{asks_append, return_asks}
use Rattle.indicatif_term.proofs.FeedLemmas.{after-append}
use Rattle.indicatif_term.proofs.RowsAboveLemmas.{Keeps, keeps, kept_level, IsLevel}
use Rattle.indicatif_term.proofs.ShownRowLemmas.{lines_rows}
use Rattle.indicatif_term.proofs.FilledLineLemmas.{looks-append}
use Rattle.indicatif_term.proofs.TerminalStepLemmas.{StandsAfter, over, screen_of, over_length, leads_from, total, window, is_text, rows_some}
use Rattle.indicatif_term.proofs.PaintingLemmas.{AreDrawable, restand, leads_then, rises}
use Rattle.indicatif_term.proofs.CalmLemmas.{calm_append, up_calm, return_calm, joined_calm}
use Rattle.indicatif_term.proofs.DrawingLemmas.{Replaces, all-height, keeps_fewer, looks_split, stands_from, shows_from, low_row}
use Rattle.indicatif_term.proofs.EngineLemmas.{Redraws, none_learns}
use Rattle.indicatif_term.proofs.OverLemmas.{AreWide, Fills, texts_cells, texts_over, waiting}
use Rattle.indicatif_term.proofs.OverLineLemmas.{IsSolid, wide_looks, wide_with}

-- ---- lines one behind another

abbrev pub AreSolid : ℕ → List (List ℕ) → Type 0
AreSolid w lines = AllByRecursion (IsSolid w) lines

-- their bytes, and their characters
abbrev pub joined_lines : List (List ℕ) → List ℕ
joined_lines lines = flat_map (λ line. line) lines

abbrev seen_of : List (List ℕ) → List (List ℕ)
seen_of lines = map (λ line. visible (chars line)) lines

abbrev puts : List (List ℕ) → List Op
puts lines = flat_map (λ cs. map (λ c. Put c) cs) lines

lines_ask : (w : ℕ) (lines : List (List ℕ)) → AreSolid w lines → Asks (joined_lines lines) (puts (seen_of lines))
lines_ask w [] all = record { asked = refl; reader = refl }
lines_ask w (line ∷ lines) all =
    let d = all.0.drawable in
    asks_append line (joined_lines lines) (map (λ c. Put c) (visible (chars line))) (puts (seen_of lines))
    (subst (λ bytes. Asks bytes (map (λ c. Put c) (visible (chars line)))) (encodes-chars line d.utf8) (text_asks w (chars line) (is_text w line d.utf8 d.plain d.narrow)))
    (lines_ask w lines all.1)

all_fill : (w : ℕ) (lines : List (List ℕ)) → AreSolid w lines → AllByRecursion (Fills w) (seen_of lines)
all_fill w [] all = tt
all_fill w (line ∷ lines) all = (all.0.fills, all_fill w lines all.1)

cells_rows : (w : ℕ) (lines : List (List ℕ)) → texts_cells w (seen_of lines) ≡ lines_rows w lines
unfolding rows_of
cells_rows w [] = refl
cells_rows w (line ∷ lines) = ap (λ rs. rows_of w (chars line) ++ rs) (cells_rows w lines)

level_append : (xs ys : List Op) → AllByRecursion IsLevel xs → AllByRecursion IsLevel ys → AllByRecursion IsLevel (xs ++ ys)
level_append [] ys p q = q
level_append (x ∷ xs) ys p q = (p.0, level_append xs ys p.1 q)

line_level : (cs : List ℕ) → AllByRecursion IsLevel (map (λ c. Put c) cs)
line_level [] = tt
line_level (c ∷ cs) = (tt, line_level cs)

lines_level : (lines : List (List ℕ)) → AllByRecursion IsLevel (puts lines)
lines_level [] = tt
lines_level (cs ∷ lines) = level_append (map (λ c. Put c) cs) (puts lines) (line_level cs) (lines_level lines)

-- a first row
first_split : (w : ℕ) (rows : List (List Cell)) → 0 < length rows → AreWide w rows → (r : List Cell) × (b : List (List Cell)) × (rows ≡ r ∷ b) × (length r ≡ w) × AreWide w b
first_split w [] p all = absurd (omega arith)
first_split w (r ∷ b) p all = (r, b, refl, all.0, all.1)

drop_past : {A : Type 0} (k : ℕ) (xs ys : List A) → length xs ≤ k → drop k (xs ++ ys) ≡ drop (k - length xs) ys
drop_past k xs ys h =
    ap (λ n. drop n (xs ++ ys)) (let e : k ≡ length xs + (k - length xs) = omega arith in e) ∙ sym (drop-drop (k - length xs) (length xs) (xs ++ ys))
    ∙ ap (drop (k - length xs)) (drop_at xs ys (length xs) refl)

less_one : {A : Type 0} (k : ℕ) (x : A) (xs : List A) → 0 < k → drop (k - 1) xs ≡ drop k (x ∷ xs)
less_one zero x xs p = absurd (omega arith)
less_one (suc k) x xs p = ap (λ n. drop n xs) (let e : suc k - 1 ≡ k = omega arith in e)

module _ (w h : ℕ) (opening : Screen) (above gone : List (List Cell)) (line : List ℕ) (lines : List (List ℕ)) (reach : ℕ) (front : Bool) (t : Terminal) (pos : 0 < w)
    (solid : AreSolid w (line ∷ lines)) (wide : AreWide w gone) (few : length gone ≤ length (lines_rows w (line ∷ lines))) (s : Stands w h opening (above ++ gone) (length above) reach front t) where
  abbrev rows : List (List Cell)
  rows = lines_rows w (line ∷ lines)

  abbrev bytes : List ℕ
  bytes = (0x0D ∷ []) ++ joined_lines (line ∷ lines)

  abbrev ops : List Op
  ops = Return ∷ puts (seen_of (line ∷ lines))

  -- the blank rows that are left below
  abbrev left : ℕ
  left = s.below - (length rows - length gone)

  abbrev start : Screen
  start = screen_of w h opening (above ++ gone) s.below (length above) s.column

  some_row : 0 < length rows
  some_row = omega (arith, length-append (rows_of w (chars line)) (lines_rows w lines), rows_some w (chars line))

  asks : Asks bytes ops
  asks = asks_append (0x0D ∷ []) (joined_lines (line ∷ lines)) (Return ∷ []) (puts (seen_of (line ∷ lines))) return_asks (lines_ask w (line ∷ lines) solid)

  written : performed_all ops start ≡ screen_of w h opening (above ++ rows) left (length above + length rows - 1) w
  written =
      let a = over w h opening ++ above in
      let blanks = replicate s.below (blank_row w) in
      let all = gone ++ blanks in
      let in_rows : length above < length (above ++ gone) + s.below = s.in_rows in
      let split = first_split w all (omega (arith, in_rows, length-append above gone, length-append gone blanks, length-replicate s.below (blank_row w))) (wide_with w s.below gone wide) in
      let r = split.0 in
      let b = split.1 in
      let a_length : length a ≡ opening.row + length above = omega (arith, length-append (over w h opening) above, over_length w h opening s.opens) in
      let before : over w h opening ++ (above ++ gone) ++ blanks ≡ a ++ r ∷ b = simp append_assoc refl ∙ ap (λ x. a ++ x) split.2 in
      let cells : texts_cells w (seen_of (line ∷ lines)) ≡ rows = cells_rows w (line ∷ lines) in
      let behind : drop (length rows - 1) b ≡ replicate left (blank_row w) =
      less_one (length rows) r b some_row ∙ ap (drop (length rows)) (sym split.2) ∙ drop_past (length rows) gone blanks few ∙ drop-replicate (length rows - length gone) s.below (blank_row w) in
      ap (λ x. performed_all (puts (seen_of (line ∷ lines))) x) (same_screen w h _ (a ++ r ∷ b) _ (length a) 0 0 before (sym a_length) refl)
      ∙ texts_over w h a r b (visible (chars line)) (seen_of lines) pos (all_fill w (line ∷ lines) solid) split.3 split.4
      ∙ ap (λ x. waiting w h (a ++ x) (drop (length x - 1) b)) cells
      ∙ same_screen _ _ _ _ _ _ _ _ (ap (λ x. (a ++ rows) ++ x) behind ∙ ap (λ x. x ++ replicate left (blank_row w)) (append_assoc (over w h opening) above rows))
      (omega (arith, length-append a rows, a_length, some_row)) refl

  over_keeps : Keeps (opening.row + length above) (resting start) bytes
  over_keeps =
      let below : IsBelow (opening.row + length above) start =
      record { below = omega arith; in_rows = omega (arith, total w h opening (above ++ gone) s.below s.opens, s.in_rows); window = window w h opening s.opens } in
      keeps (opening.row + length above) start bytes ops (omega arith) asks (kept_level (opening.row + length above) start ops below (tt, lines_level (seen_of (line ∷ lines))))

  led : after (resting start) bytes ≡ resting (screen_of w h opening (above ++ rows) left (length above + length rows - 1) w)
  led = after_asks start _ bytes ops asks written

  pub over_leads : StandsAfter w h opening above t bytes (above ++ rows) (length above + length rows - 1) (max reach (length above + length rows)) false
  over_leads =
      leads_from w h opening above (above ++ gone) (above ++ rows) t bytes (length above) (length above + length rows - 1) reach (max reach (length above + length rows)) left w front false s
      over_keeps led (omega (arith, length-append above rows, some_row)) (λ e. cc) (omega (arith, s.scrolled, length-append above rows, length-append above gone, few))

  pub over_column : (after t bytes).screen.column ≡ w
  over_column = ap (λ u. (after u bytes).screen.column) s.is ∙ ap (λ u. u.screen.column) led

-- ---- from the row on which the cursor rests

module _ (w h : ℕ) (l l' : Lists) (kept gone : List (List Cell)) (line : List ℕ) (lines plain : List (List ℕ)) (pos : 0 < w) (solid : AreSolid w (line ∷ lines)) (wide : AreWide w gone)
    (few : length gone ≤ length (lines_rows w (line ∷ lines))) (small : length gone ≤ GREATEST) (same : looks_of (lines_rows w (line ∷ lines)) ≡ looks_of (lines_rows w plain))
    (at : resting_row l ≡ length l.above + length kept + (length gone - 1)) (on' : l'.below ≡ false)
    (opening : Screen) (t : Terminal) (s : Shows w h opening l t) (g : Replaces w h l l' kept gone plain) where
  abbrev base : List (List Cell)
  base = l.above ++ kept

  abbrev before : List (List Cell)
  before = take (length base) s.shown

  abbrev back : List (List Cell)
  back = drop (length base) s.shown

  abbrev new : List (List Cell)
  new = lines_rows w (line ∷ lines)

  abbrev up : List ℕ
  up = move_bytes 0x41 (length back - 1)

  abbrev text : List ℕ
  text = (0x0D ∷ []) ++ joined_lines (line ∷ lines)

  parts : (length before ≡ length base) × (length back ≡ length gone) × (looks_of before ≡ looks_of base)
  parts = looks_split s.shown base gone (s.looks ∙ ap looks_of (sym g.before))

  back_looks : looks_of back ≡ looks_of gone
  back_looks = sym (drop-map (map look) (length base) s.shown) ∙ ap (drop (length base)) (s.looks ∙ ap looks_of (sym g.before)) ∙ drop-map (map look) (length base) (base ++ gone)
      ∙ ap looks_of (drop_at base gone (length base) refl)

  seen_length : (a b : List (List Cell)) → looks_of a ≡ looks_of b → length a ≡ length b
  seen_length a b e = sym (length-map a (map look)) ∙ ap length e ∙ length-map b (map look)

  after_height : length base + length new ≡ lists_height l'
  after_height = ap (λ n. length base + n) (seen_length new (lines_rows w plain) same) ∙ sym (length-append base (lines_rows w plain))
      ∙ seen_length (base ++ lines_rows w plain) (all_rows w l') g.afterwards ∙ all-height w l'

  some_new : 0 < length new
  some_new = omega (arith, length-append (rows_of w (chars line)) (lines_rows w lines), rows_some w (chars line))

  first : StandsAfter w h opening before t up (before ++ back) (length before) l.reach l.below
  first = rises w h opening before back (length back - 1) (length before) l.reach l.below t (omega (arith, parts.1))
      (let a : l.reach ≤ length l.above + h = s.movable in omega (arith, parts.0, length-append l.above kept)) (omega arith)
      (restand w h opening before t _ _ _ _ l.reach l.reach l.below l.below (sym (take-append-drop (length base) s.shown))
      (omega (arith, at, parts.0, parts.1, length-append l.above kept)) refl refl (stands_from s))

  less : length back ≤ length new
  less = omega (arith, parts.1)

  back_wide : AreWide w back
  back_wide = wide_looks w back gone back_looks wide

  then_ : StandsAfter w h opening before (after t up) text (before ++ new) (length before + length new - 1) (max l.reach (length before + length new)) false
  then_ = over_leads w h opening before back line lines l.reach l.below (after t up) pos solid back_wide less first.stands

  both : StandsAfter w h opening before t (up ++ text) (before ++ new) (length before + length new - 1) (max l.reach (length before + length new)) false
  both = leads_then w h opening before t up text _ _ _ _ _ _ _ _ first then_

  column : (after t (up ++ text)).screen.column ≡ w
  column = ap (λ u. u.screen.column) (after-append t up text) ∙ over_column w h opening before back line lines l.reach l.below (after t up) pos solid back_wide less first.stands

  new_height : length before + length new ≡ lists_height l'
  new_height = omega (arith, after_height, parts.0)

  rest_on : resting_row l' ≡ lists_height l' - 1
  rest_on = rw on' refl

  some_height : 0 < lists_height l'
  some_height = omega (arith, new_height, some_new)

  shows_all : Shows w h opening l' (after t (up ++ text))
  shows_all =
      let r : l'.reach ≡ max l.reach (lists_height l') = g.reach_is in
      shows_from w h opening l' (after t (up ++ text)) (before ++ new)
      (restand w h opening before (after t (up ++ text)) _ _ _ _ _ _ false l'.below refl (ap (λ n. n - 1) new_height ∙ sym rest_on) (ap (max l.reach) new_height ∙ sym r) (sym on') both.stands)
      (looks-append before new ∙ cc (parts.2, same) ∙ sym (looks-append base (lines_rows w plain)) ∙ g.afterwards)
      (omega arith) (λ e. absurd (cc)) (λ e. some_height) g.movable
      (low_row (length l'.above) (length l'.kept) (live_height l'.live) l'.reach h l'.below g.below_is g.movable
      (let o : IsOpening w h opening = s.opens in omega (arith, o.in_window, o.in_rows, o.height)) (λ e. some_height))
      (λ e. column)

  keeps_all : Keeps (opening.row + length l.above) t (up ++ text)
  keeps_all = keeps_fewer (opening.row + length l.above) (opening.row + length before) t (up ++ text) (omega (arith, length-append l.above kept, parts.0)) both.keeps

  pub over_shows : Shows w h opening l' (after t (move_bytes 0x41 (length gone - 1) ++ text))
  over_shows = subst (λ n. Shows w h opening l' (after t (move_bytes 0x41 (n - 1) ++ text))) parts.1 shows_all

  pub over_stays : Keeps (opening.row + length l.above) t (move_bytes 0x41 (length gone - 1) ++ text)
  over_stays = subst (λ n. Keeps (opening.row + length l.above) t (move_bytes 0x41 (n - 1) ++ text)) parts.1 keeps_all

solid_drawable : (w : ℕ) (lines : List (List ℕ)) → AreSolid w lines → AreDrawable w lines
solid_drawable w [] solid = tt
solid_drawable w (line ∷ lines) solid = (solid.0.drawable, solid_drawable w lines solid.1)

-- lines that fill their rows, over at most as many: from the last of these rows, or from the front of a row below all
pub over_redraws : (w h : ℕ) (l l' : Lists) (kept gone : List (List Cell)) (line : List ℕ) (lines plain : List (List ℕ)) → 0 < w → AreSolid w (line ∷ lines) → AreWide w gone →
    length gone ≤ length (lines_rows w (line ∷ lines)) → length gone ≤ GREATEST → looks_of (lines_rows w (line ∷ lines)) ≡ looks_of (lines_rows w plain) →
    resting_row l ≡ length l.above + length kept + (length gone - 1) → l'.below ≡ false →
    (IsTrue l.under → length (lines_rows w plain) ≤ length gone) → (lists_height l ≤ l.reach → l.reach ≤ length l.above + h → Replaces w h l l' kept gone plain) → Redraws w h l l' (move_bytes 0x41
    (length gone - 1) ++ ((0x0D ∷ []) ++ joined_lines (line ∷ lines)))
over_redraws w h l l' kept gone line lines plain pos solid wide few small same at on' no_more goes = record {
  shows = λ opening t s. over_shows w h l l' kept gone line lines plain pos solid wide few small same at on' opening t s (goes s.reached s.movable);
  keeps = λ opening t s. over_stays w h l l' kept gone line lines plain pos solid wide few small same at on' opening t s (goes s.reached s.movable);
  learns = none_learns w h l l' kept gone plain _ no_more goes;
  calm = calm_append (move_bytes 0x41 (length gone - 1)) ((0x0D ∷ []) ++ joined_lines (line ∷ lines)) (up_calm (length gone - 1))
      (calm_append (0x0D ∷ []) (joined_lines (line ∷ lines)) return_calm (joined_calm w (line ∷ lines) (solid_drawable w (line ∷ lines) solid)));
}
