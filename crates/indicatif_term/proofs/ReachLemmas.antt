-- Rows that a drawing is the first to reach are emptied before it writes.
use Rattle.std.proofs.Common.{◌≡◌, ℕ, zero, suc, ◌+◌, ◌-◌, ◌<◌, ◌≤◌, max, Bool, true, List, [], ◌∷◌, ◌++◌, length, replicate, refl, sym, ◌∙◌, ap, subst, arith, append_assoc, append-nil, length-append}
use Rattle.std.proofs.lemmas.List.{length-replicate, replicate-append-replicate}
use Rattle.indicatif_text.specs.Columns.{Cell, blank_row}
use Rattle.indicatif_term.specs.Screen.{Screen}
use Rattle.indicatif_term.specs.Terminal.{Terminal, GREATEST, after}
use Rattle.indicatif_term.specs.Calls.{move_bytes, clear_bytes}
use Rattle.indicatif_term.specs.Inside.MoveBytes.{next_row, rows_down, reach_bytes}
use Rattle.indicatif_term.proofs.CursorRowLemmas.{Stands}
use Rattle.indicatif_term.proofs.ScreenRowLemmas.{same_screen}
use Rattle.indicatif_term.specs.Shows.{resting}
use Rattle.indicatif_term.proofs.TerminalStepLemmas.{StandsAfter, over, clear_leads, next_leads, fades}
use Rattle.indicatif_term.proofs.PaintingLemmas.{restand, relead, nothing_leads, leads_then, rises}
use Rattle.indicatif_term.proofs.SkipStepLemmas.{falls}

module _ (w h : ℕ) (opening : Screen) where
  -- rows that were reached, and are blank, are some of those that stand
  pub appears : (rows : List (List Cell)) (t : Terminal) (k row reach : ℕ) (front : Bool) → length rows + k ≤ reach → Stands w h opening rows row reach front t →
      Stands w h opening (rows ++ replicate k (blank_row w)) row reach front t
  appears rows t k row reach front within s =
      let low : k ≤ s.below = omega (arith, s.scrolled, within) in
      let all : k + (s.below - k) ≡ s.below = omega arith in
      let more = length-append rows (replicate k (blank_row w)) in
      let n = length-replicate k (blank_row w) in
      let blanks : over w h opening ++ rows ++ replicate s.below (blank_row w) ≡ over w h opening ++ (rows ++ replicate k (blank_row w)) ++ replicate (s.below - k) (blank_row w) =
      ap (λ x. over w h opening ++ rows ++ replicate x (blank_row w)) (sym all) ∙ simp (append_assoc, replicate-append-replicate) in
      record {
        opens = s.opens;
        below = s.below - k;
        column = s.column;
        is = s.is ∙ ap (λ s. resting s) (same_screen _ _ _ _ _ _ _ _ blanks refl refl);
        in_rows = omega (arith, s.in_rows, more, n);
        at_front = s.at_front;
        scrolled = omega (arith, s.scrolled, more, n);
      }

  -- a column that is the front is any that is asked
  at_any : (rows : List (List Cell)) (t : Terminal) (row reach : ℕ) (front : Bool) → Stands w h opening rows row reach true t → Stands w h opening rows row reach front t
  at_any rows t row reach front s = record { opens = s.opens; below = s.below; column = s.column; is = s.is; in_rows = s.in_rows; at_front = λ e. s.at_front refl; scrolled = s.scrolled }

module _ (w h : ℕ) (opening : Screen) (above : List (List Cell)) where
  -- the row below the last that was reached
  pub one : (more : List (List Cell)) (row : ℕ) (front : Bool) (t : Terminal) → suc row ≡ length above + length more → Stands w h opening (above ++ more) row (suc row) front t →
      StandsAfter w h opening above t (next_row ++ clear_bytes) (above ++ (more ++ blank_row w ∷ [])) (suc row) (suc (suc row)) true
  one more row front t e s =
      let down = next_leads w h opening above t more row (suc row) front s e in
      let here : Stands w h opening (above ++ more) (suc row) (suc (suc row)) true (after t next_row) =
      restand w h opening above (after t next_row) (above ++ more) (above ++ more) (suc row) (suc row) (max (suc row) (suc (suc row))) (suc (suc row)) true true
      refl refl (omega arith) refl down.stands in
      let n = length-append above more in
      let there = appears w h opening (above ++ more) (after t next_row) 1 (suc row) (suc (suc row)) true (omega (arith, n, e)) here in
      let clear = clear_leads w h opening above (after t next_row) more (blank_row w) [] (suc (suc row)) true
      (restand w h opening above (after t next_row) _ _ _ _ _ _ true true (append_assoc above more (blank_row w ∷ [])) e refl refl there) in
      leads_then w h opening above t next_row clear_bytes (above ++ more) (above ++ (more ++ blank_row w ∷ [])) (suc row) (suc row) (suc (suc row)) (suc (suc row)) true true
      (relead w h opening above t next_row (above ++ more) (above ++ more) (suc row) (suc row) (max (suc row) (suc (suc row))) (suc (suc row)) true true refl refl (omega arith) refl down)
      (relead w h opening above (after t next_row) clear_bytes _ _ (length above + length more) (suc row) (suc (suc row)) (suc (suc row)) true true refl (sym e) refl refl clear)

  pub more_reached : (n : ℕ) (more : List (List Cell)) (row : ℕ) (t : Terminal) → suc row ≡ length above + length more → Stands w h opening (above ++ more) row (suc row) true t →
      StandsAfter w h opening above t (rows_down n) (above ++ (more ++ replicate n (blank_row w))) (row + n) (suc row + n) true
  more_reached zero more row t e s = relead w h opening above t [] _ _ _ _ _ _ true true (ap (λ x. above ++ x) (sym (append-nil more))) (omega arith) (omega arith) refl
      (nothing_leads w h opening above t _ row (suc row) true (omega arith) s)
  more_reached (suc n) more row t e s =
      let first = one more row true t e s in
      let blanks = replicate n (blank_row w) in
      let rest = more_reached n (more ++ blank_row w ∷ []) (suc row) (after t (next_row ++ clear_bytes)) (omega (arith, e, length-append more (blank_row w ∷ []))) first.stands in
      leads_then w h opening above t (next_row ++ clear_bytes) (rows_down n) _ _ _ _ _ _ true true first
      (relead w h opening above (after t (next_row ++ clear_bytes)) (rows_down n) _ _ _ _ _ _ true true (ap (λ x. above ++ x) (append_assoc more (blank_row w ∷ []) blanks))
      (omega arith) (omega arith) refl rest)

  -- from the last row that was reached on
  pub rows_reached : (n : ℕ) (more : List (List Cell)) (row : ℕ) (front : Bool) (t : Terminal) → suc row ≡ length above + length more → Stands w h opening (above ++ more) row (suc row) front t →
      StandsAfter w h opening above t (rows_down (suc n)) (above ++ (more ++ replicate (suc n) (blank_row w))) (row + suc n) (suc row + suc n) true
  rows_reached n more row front t e s =
      let first = one more row front t e s in
      let blanks = replicate n (blank_row w) in
      let rest = more_reached n (more ++ blank_row w ∷ []) (suc row) (after t (next_row ++ clear_bytes)) (omega (arith, e, length-append more (blank_row w ∷ []))) first.stands in
      leads_then w h opening above t (next_row ++ clear_bytes) (rows_down n) _ _ _ _ _ _ true true first
      (relead w h opening above (after t (next_row ++ clear_bytes)) (rows_down n) _ _ _ _ _ _ true true (ap (λ x. above ++ x) (append_assoc more (blank_row w ∷ []) blanks))
      (omega arith) (omega arith) refl rest)

  -- a number of rows reached, from a row below the cursor's on, and up again: nothing else changes
  pub reach_leads : (down n row reach : ℕ) (front : Bool) (t : Terminal) → length above ≤ suc row → length above ≤ reach → (0 < n → row + down + 1 ≡ reach) → (0 < n → reach + n ≤ row + h) →
      down + n ≤ GREATEST → Stands w h opening (above ++ []) row reach front t → StandsAfter w h opening above t (reach_bytes down n) (above ++ []) row (reach + n) front
  reach_leads down zero row reach front t low within last room few s = relead w h opening above t [] _ _ _ _ _ _ front front refl refl (omega arith) refl
      (nothing_leads w h opening above t _ row reach front low s)
  reach_leads down (suc n) row reach front t low within last room few s =
      let k = reach - length above in
      let here = row + down in
      let more = replicate k (blank_row w) in
      let new = replicate (suc n) (blank_row w) in
      let at : here + 1 ≡ reach = last (omega arith) in
      let m : reach + suc n ≤ row + h = room (omega arith) in
      let none : List (List Cell) = [] in
      let known : Stands w h opening (above ++ more) row reach front t = restand w h opening above t _ _ _ _ _ _ front front (ap (λ x. x ++ more) (append-nil above)) refl refl refl
      (appears w h opening (above ++ none) t k row reach front (omega (arith, length-append above none)) s) in
      let moved = move_bytes 0x42 down in
      let size : length above + length more ≡ reach = omega (arith, length-replicate k (blank_row w)) in
      let fall = falls w h opening above more down row reach front t (omega arith) (omega (arith, size, at)) low known in
      let rows = rows_reached n more here front (after t moved) (omega (arith, size, at))
      (restand w h opening above (after t moved) _ _ _ _ _ _ front front refl refl (omega (arith, at)) refl fall.stands) in
      let both = leads_then w h opening above t moved (rows_down (suc n)) _ _ _ _ _ _ front true fall rows in
      let last_ = after t (moved ++ rows_down (suc n)) in
      let up = rises w h opening above (more ++ new) (down + suc n) row (reach + suc n) true last_ few m low
      (restand w h opening above last_ _ _ _ _ _ _ true true refl (omega arith) (omega (arith, at)) refl both.stands) in
      let whole = leads_then w h opening above t (moved ++ rows_down (suc n)) (move_bytes 0x41 (down + suc n)) _ _ _ _ _ _ true true both up in
      let joined : above ++ (more ++ new) ≡ above ++ replicate (k + suc n) (blank_row w) = ap (λ x. above ++ x) (replicate-append-replicate k (suc n) (blank_row w)) in
      let gone = fades w h opening above t ((moved ++ rows_down (suc n)) ++ move_bytes 0x41 (down + suc n)) (k + suc n) row (reach + suc n) true
      (relead w h opening above t _ _ _ _ _ _ _ true true joined refl refl refl whole) in
      subst (λ b. StandsAfter w h opening above t b (above ++ []) row (reach + suc n) front) (append_assoc moved (rows_down (suc n)) (move_bytes 0x41 (down + suc n)))
      (record { keeps = gone.keeps; stands = at_any w h opening (above ++ []) (after t ((moved ++ rows_down (suc n)) ++ move_bytes 0x41 (down + suc n))) row (reach + suc n) front gone.stands })
