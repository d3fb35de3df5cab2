-- Lines written among those that stay lead a terminal that shows the lists to one that shows the next ones.
use Rattle.std.proofs.Common.{◌≡◌, ℕ, ◌+◌, ◌-◌, ◌<◌, ◌≤◌, max, false, List, [], ◌∷◌, ◌++◌, length, take, drop, map, refl, sym, ◌∙◌, ap, subst, arith, length-append, append_assoc, take-append-drop}
use Rattle.std.proofs.lemmas.List.{length-map, length-take-le, length-drop, drop-map, drop_at, take-map}
use Rattle.indicatif_text.specs.Columns.{Cell}
use Rattle.indicatif_term.specs.Screen.{Screen}
use Rattle.indicatif_term.specs.Terminal.{Terminal, GREATEST, after}
use Rattle.indicatif_term.specs.Shows.{Shows, IsOpening, look, looks_of, resting_row}
use Rattle.indicatif_term.specs.Lists.{Lists, lists_height, live_height, all_rows}
use Rattle.indicatif_term.specs.Inside.Changing.{PlacedLine, placed_height, placed_lines, AreSitting}
use Rattle.indicatif_term.proofs.AmongLemmas.{change_bytes}
use Rattle.indicatif_term.proofs.RowsAboveLemmas.{Keeps}
use Rattle.indicatif_term.proofs.FilledLineLemmas.{looks-append}
use Rattle.indicatif_term.proofs.ShownRowLemmas.{lines_rows}
use Rattle.indicatif_term.proofs.PaintingLemmas.{IsDrawable, AreDrawable, restand}
use Rattle.indicatif_term.proofs.CalmLemmas.{change_calm}
use Rattle.indicatif_term.proofs.SkipLemmas.{Changed, change_leads}
use Rattle.indicatif_term.proofs.EditWalkLemmas.{sitting_parts, sitting_front, height-append}
use Rattle.indicatif_term.proofs.DrawingLemmas.{Replaces, all-height, keeps_fewer, looks_split, stands_from, shows_from, end_column, low_row, below_pos}
use Rattle.indicatif_term.proofs.EngineLemmas.{Redraws, none_learns}
use Rattle.std.specs.Prelude.{IsTrue}

module _ (w h : ℕ) (l l' : Lists) (kept gone : List (List Cell)) (ps : List PlacedLine) (p : PlacedLine) (more : List PlacedLine) (taken : ℕ) (pos : 0 < w) (low : w ≤ GREATEST)
    (on : l.below ≡ false) (on' : l'.below ≡ false) (few : length gone ≤ GREATEST) (sit : AreSitting w (looks_of gone) (ps ++ p ∷ more)) (some : 0 < p.rows)
    (d : AreDrawable w (placed_lines ps)) (dp : IsDrawable w p.line) (dm : AreDrawable w (placed_lines more)) (size : placed_height ps + p.rows + taken ≡ length gone)
    (opening : Screen) (t : Terminal) (s : Shows w h opening l t) (g : Replaces w h l l' kept gone ((placed_lines ps ++ p.line ∷ []) ++ placed_lines more)) where
  abbrev lines : List (List ℕ)
  lines = (placed_lines ps ++ p.line ∷ []) ++ placed_lines more

  abbrev base : List (List Cell)
  base = l.above ++ kept

  abbrev front : List (List Cell)
  front = take (length base) s.shown

  abbrev back : List (List Cell)
  back = drop (length base) s.shown

  -- the rows in which the first of the lines stand, and those that are taken back
  abbrev first : ℕ
  first = placed_height ps + p.rows

  abbrev old : List (List Cell)
  old = take first back

  abbrev rest : List (List Cell)
  rest = drop first back

  parts : (length front ≡ length base) × (length back ≡ length gone) × (looks_of front ≡ looks_of base)
  parts = looks_split s.shown base gone (s.looks ∙ ap looks_of (sym g.before))

  back_looks : looks_of back ≡ looks_of gone
  back_looks = sym (drop-map (map look) (length base) s.shown) ∙ ap (drop (length base)) (s.looks ∙ ap looks_of (sym g.before)) ∙ drop-map (map look) (length base) (base ++ gone)
      ∙ ap looks_of (drop_at base gone (length base) refl)

  old_length : length old ≡ first
  old_length = length-take-le first back (omega (arith, parts.1, size))

  rest_length : length rest ≡ taken
  rest_length = length-drop first back ∙ omega (arith, parts.1, size)

  old_sits : AreSitting w (looks_of old) (ps ++ p ∷ [])
  old_sits =
      let c = sitting_parts w (ps ++ p ∷ []) more (looks_of gone) (subst (AreSitting w (looks_of gone)) (sym (append_assoc ps (p ∷ []) more)) sit) in
      subst (λ x. AreSitting w x (ps ++ p ∷ [])) (ap (take first) (sym back_looks) ∙ take-map (map look) first back)
      (sitting_front w first (ps ++ p ∷ []) (looks_of gone) (omega (arith, height-append ps (p ∷ []))) c.0)

  more_sit : AreSitting w (drop (placed_height (ps ++ p ∷ [])) (looks_of gone)) more
  more_sit = (sitting_parts w (ps ++ p ∷ []) more (looks_of gone) (subst (AreSitting w (looks_of gone)) (sym (append_assoc ps (p ∷ []) more)) sit)).1

  before_height : length base + length gone ≡ lists_height l
  before_height = sym (length-append base gone) ∙ ap length g.before ∙ all-height w l

  after_height : length base + length (lines_rows w lines) ≡ lists_height l'
  after_height = sym (length-append base (lines_rows w lines)) ∙ sym (length-map (base ++ lines_rows w lines) (map look)) ∙ ap length g.afterwards ∙ length-map (all_rows w l') (map look)
      ∙ all-height w l'

  resting_at : resting_row l ≡ length front + length old + length rest - 1
  resting_at = rw on (omega (arith, before_height, parts.0, old_length, rest_length, size))

  column_before : t.screen.column ≡ w
  column_before = ap (λ u. u.screen.column) s.terminal_is ∙ end_column w l on

  changed : Changed w h opening front t (change_bytes w (length rest) ps p more) lines l.reach
  changed = change_leads w h opening front ps p more old rest (drop (placed_height (ps ++ p ∷ [])) (looks_of gone)) l.reach t pos low old_sits more_sit d dp dm (sym old_length)
      (omega (arith, old_length, rest_length, size))
      (let a : l.reach ≤ length l.above + h = s.movable in omega (arith, parts.0, length-append l.above kept))
      (let a : lists_height l ≤ l.reach = s.reached in omega (arith, before_height, parts.0, old_length, size)) column_before
      (restand w h opening front t _ _ _ _ l.reach l.reach l.below false
      (sym (take-append-drop (length base) s.shown) ∙ ap (λ x. front ++ x) (sym (take-append-drop first back))) resting_at refl on (stands_from s))

  new_height : length front + length changed.new ≡ lists_height l'
  new_height =
      let e : length changed.new ≡ length (lines_rows w lines) = sym (length-map changed.new (map look)) ∙ ap length changed.looks ∙ length-map (lines_rows w lines) (map look) in
      omega (arith, e, after_height, parts.0)

  rest_on : resting_row l' ≡ lists_height l' - 1
  rest_on = rw on' refl

  some_height : 0 < lists_height l'
  some_height = below_pos (live_height l'.live) (lists_height l') l'.reach l'.below g.below_is on' (omega arith)
      (let r : l'.reach ≡ max l.reach (lists_height l') = g.reach_is in let a : lists_height l ≤ l.reach = s.reached in omega (arith, before_height, size, some))

  shows_changed : Shows w h opening l' (after t (change_bytes w (length rest) ps p more))
  shows_changed =
      let bytes = change_bytes w (length rest) ps p more in
      let r : l'.reach ≡ max l.reach (lists_height l') = g.reach_is in
      let row : length front + length changed.new - 1 ≡ resting_row l' = ap (λ n. n - 1) new_height ∙ sym rest_on in
      shows_from w h opening l' (after t bytes) (front ++ changed.new)
      (restand w h opening front (after t bytes) _ _ _ _ _ _ false l'.below refl row (ap (max l.reach) new_height ∙ sym r) (sym on') changed.leads.stands)
      (looks-append front changed.new ∙ cc (parts.2, changed.looks) ∙ sym (looks-append base (lines_rows w lines)) ∙ g.afterwards)
      (omega arith) (λ e. absurd (cc)) (λ e. some_height) g.movable
      (low_row (length l'.above) (length l'.kept) (live_height l'.live) l'.reach h l'.below g.below_is g.movable
      (let o : IsOpening w h opening = s.opens in omega (arith, o.in_window, o.in_rows, o.height)) (λ e. some_height))
      (λ e. changed.column)

  keeps_changed : Keeps (opening.row + length l.above) t (change_bytes w (length rest) ps p more)
  keeps_changed = keeps_fewer (opening.row + length l.above) (opening.row + length front) t (change_bytes w (length rest) ps p more)
      (omega (arith, length-append l.above kept, parts.0)) changed.leads.keeps

  pub change_shows : Shows w h opening l' (after t (change_bytes w taken ps p more))
  change_shows = subst (λ n. Shows w h opening l' (after t (change_bytes w n ps p more))) rest_length shows_changed

  pub change_keeps : Keeps (opening.row + length l.above) t (change_bytes w taken ps p more)
  change_keeps = subst (λ n. Keeps (opening.row + length l.above) t (change_bytes w n ps p more)) rest_length keeps_changed

-- lines among which some stay in the first of these rows, the others taken back, and more lines below them
pub change_redraws : (w h : ℕ) (l l' : Lists) (kept gone : List (List Cell)) (ps : List PlacedLine) (p : PlacedLine) (more : List PlacedLine) (taken : ℕ) → 0 < w → w ≤ GREATEST → l.below ≡ false →
    l'.below ≡ false →
    length gone ≤ GREATEST → AreSitting w (looks_of gone) (ps ++ p ∷ more) → 0 < p.rows → AreDrawable w (placed_lines ps) → IsDrawable w p.line → AreDrawable w (placed_lines more) →
    placed_height ps + p.rows + taken ≡ length gone →
    (IsTrue l.under → length (lines_rows w ((placed_lines ps ++ p.line ∷ []) ++ placed_lines more)) ≤ length gone) →
    (lists_height l ≤ l.reach → l.reach ≤ length l.above + h → Replaces w h l l' kept gone ((placed_lines ps ++ p.line ∷ []) ++ placed_lines more)) → Redraws w h l l' (change_bytes w taken ps p more)
change_redraws w h l l' kept gone ps p more taken pos low on on' few sit some d dp dm size no_more goes = record {
  shows = λ opening t s. change_shows w h l l' kept gone ps p more taken pos low on on' few sit some d dp dm size opening t s (goes s.reached s.movable);
  keeps = λ opening t s. change_keeps w h l l' kept gone ps p more taken pos low on on' few sit some d dp dm size opening t s (goes s.reached s.movable);
  learns = none_learns w h l l' kept gone ((placed_lines ps ++ p.line ∷ []) ++ placed_lines more) (change_bytes w taken ps p more) no_more goes;
  calm = change_calm w taken (looks_of gone) ps p more sit d dp dm;
}
