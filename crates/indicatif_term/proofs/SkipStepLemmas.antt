-- Steps of a drawing among rows that stay: down, rows emptied, a line, and the end of a row.
use Rattle.std.proofs.Common.{◌≡◌, ℕ, zero, suc, ◌+◌, ◌-◌, ◌<◌, ◌≤◌, Bool, true, false, List, [], ◌∷◌, ◌++◌, length, replicate, map, refl, sym, ◌∙◌, ap, subst, arith, length-append, append_assoc, append-nil, chars}
use Rattle.std.proofs.lemmas.List.{length-replicate, length-map}
use Rattle.std.proofs.lemmas.List.Elements.{recursion_from_All}
use Rattle.std.proofs.lemmas.Str.{encodes-chars}
use Rattle.std.proofs.Math.Utf8.{encodes}
use Rattle.indicatif_text.specs.Columns.{Cell, blank_row, visible, glyphs_of, pieces_of, row_of, rows_of, last_columns, columns_of_last}
use Rattle.indicatif_term.specs.Screen.{Screen, Put}
use Rattle.indicatif_term.specs.Inside.Scanners.{performed_all}
use Rattle.indicatif_term.specs.Terminal.{Terminal, GREATEST, after}
use Rattle.indicatif_term.specs.Calls.{move_bytes, clear_bytes}
use Rattle.indicatif_term.specs.Shows.{IsOpening, resting}
use Rattle.indicatif_term.specs.Inside.MoveBytes.{next_row, rows_down}
use Rattle.indicatif_term.specs.Inside.Changing.{emptied_bytes, changed_bytes}
use Rattle.indicatif_term.proofs.CursorRowLemmas.{Stands, screen_at, screen_after, IsText, IsShowable}
use Rattle.indicatif_term.proofs.ScreenRowLemmas.{made, same_screen}
use Rattle.indicatif_term.proofs.FeedLemmas.{after-append}
use Rattle.indicatif_term.proofs.WrittenLineLemmas.{text_put}
use Rattle.indicatif_term.proofs.CallLemmas.{after_asks, text_asks}
use Rattle.indicatif_term.proofs.MoveLemmas.{down_asks}
use Rattle.indicatif_term.proofs.RowsAboveLemmas.{Keeps, keeps, text_keeps}
use Rattle.indicatif_term.proofs.BelowLemmas.{with_tail, puts_tail}
use Rattle.indicatif_term.proofs.TerminalStepLemmas.{StandsAfter, over, screen_of, over_length, leads_from, total, window, clear_leads, down_leads, is_text, rows_some}
use Rattle.indicatif_term.proofs.PaintingLemmas.{IsDrawable, restand, relead, nothing_leads, leads_then, rises}

-- ---- a line on blank rows, wherever more rows stand below them

text_ops : (w h : ℕ) (a b : List (List Cell)) (line : List ℕ) → IsText w line → (m : ℕ) → m ≡ length (rows_of w line) →
    performed_all (map (λ c. Put c) (visible line)) (made w h (a ++ (replicate m (blank_row w) ++ b)) (length a) 0)
    ≡ made w h (a ++ (rows_of w line ++ b)) (length a + m - 1) (last_columns w line)
unfolding rows_of last_columns
text_ops w h a b line is m e =
    let rs = rows_of w line in
    let k = length rs - 1 in
    let s₀ = screen_at w h a (blank_row w) k 0 in
    let pos : 0 < length rs = rows_some w line in
    let fits : m ≡ suc k = omega (arith, e) in
    let end : performed_all (map (λ c. Put c) (visible line)) s₀ ≡ screen_after w h (a ++ rs) ((k + 1) - length rs) (columns_of_last (pieces_of w (glyphs_of (visible line)))) =
    text_put w h a k (visible line) (recursion_from_All (IsShowable w) (visible line) is.printable) ∙ cc (length-map (pieces_of w (glyphs_of (visible line))) (row_of w)) in
    let none : (k + 1) - length rs ≡ 0 = omega arith in
    let whole : performed_all (map (λ c. Put c) (visible line)) s₀ ≡ made w h (a ++ rs) (length a + m - 1) (columns_of_last (pieces_of w (glyphs_of (visible line)))) =
    end ∙ same_screen _ _ _ _ _ _ _ _ (ap (λ j. (a ++ rs) ++ replicate j (blank_row w)) none ∙ append-nil (a ++ rs)) (omega (arith, length-append a rs)) refl in
    let same_length : length (performed_all (map (λ c. Put c) (visible line)) s₀).rows ≡ length s₀.rows =
    ap (λ s. length s.rows) whole ∙ omega (arith, length-append a rs, length-append a (blank_row w ∷ replicate k (blank_row w)), length-replicate k (blank_row w)) in
    ap (λ s. performed_all (map (λ c. Put c) (visible line)) s)
    (same_screen w h _ ((a ++ blank_row w ∷ replicate k (blank_row w)) ++ b) _ (length a) _ 0
    (ap (λ j. a ++ (replicate j (blank_row w) ++ b)) fits ∙ sym (append_assoc a (blank_row w ∷ replicate k (blank_row w)) b)) refl refl)
    ∙ puts_tail (visible line) s₀ b (omega (arith, length-append a (blank_row w ∷ replicate k (blank_row w)))) same_length
    ∙ ap (λ s. with_tail s b) whole
    ∙ same_screen _ _ _ _ _ _ _ _ (append_assoc a rs b) refl refl

pub text_among : (w h : ℕ) (a b : List (List Cell)) (line : List ℕ) (m : ℕ) → IsDrawable w line → m ≡ length (rows_of w (chars line)) →
    after (resting (made w h (a ++ (replicate m (blank_row w) ++ b)) (length a) 0)) line ≡ resting (made w h (a ++ (rows_of w (chars line) ++ b)) (length a + m - 1) (last_columns w (chars line)))
text_among w h a b line m d e =
    let is = is_text w line d.utf8 d.plain d.narrow in
    let same : encodes (chars line) ≡ line = encodes-chars line d.utf8 in
    subst (λ bytes. after (resting (made w h (a ++ (replicate m (blank_row w) ++ b)) (length a) 0)) bytes ≡ resting
    (made w h (a ++ (rows_of w (chars line) ++ b)) (length a + m - 1) (last_columns w (chars line)))) same
    (after_asks _ _ (encodes (chars line)) (map (λ c. Put c) (visible (chars line))) (text_asks w (chars line) is) (text_ops w h a b (chars line) is m e))

module _ (w h : ℕ) (opening : Screen) (above : List (List Cell)) where
  -- a column that isn't said to be the front
  pub unfronted : (t : Terminal) (rows : List (List Cell)) (row reach : ℕ) (front : Bool) → Stands w h opening rows row reach front t → Stands w h opening rows row reach false t
  unfronted t rows row reach front s = record { opens = s.opens; below = s.below; column = s.column; is = s.is; in_rows = s.in_rows; at_front = λ e. cc; scrolled = s.scrolled }

  -- ---- down

  pub falls : (rows : List (List Cell)) (k row reach : ℕ) (front : Bool) (t : Terminal) → k ≤ GREATEST → row + k < length above + length rows → length above ≤ suc row →
      Stands w h opening (above ++ rows) row reach front t → StandsAfter w h opening above t (move_bytes 0x42 k) (above ++ rows) (row + k) reach front
  falls rows zero row reach front t small within low s = nothing_leads w h opening above t _ (row + 0) reach front (omega arith)
      (restand w h opening above t _ _ _ _ reach reach front front refl (omega arith) refl refl s)
  falls rows (suc k) row reach front t small within low s =
      let s' = screen_of w h opening (above ++ rows) s.below row s.column in
      let asks = down_asks (suc k) (omega arith) (omega arith) in
      let all = total w h opening (above ++ rows) s.below s.opens in
      leads_from w h opening above (above ++ rows) (above ++ rows) t (move_bytes 0x42 (suc k)) row (row + suc k) reach reach s.below s.column front front s
      (keeps (opening.row + length above) s' (move_bytes 0x42 (suc k)) _ (omega arith) asks (refl, omega (arith, all, length-append above rows), tt))
      (after_asks _ _ (move_bytes 0x42 (suc k)) _ asks (same_screen _ _ _ _ _ _ _ _ refl (omega (arith, all, length-append above rows)) refl))
      (omega (arith, length-append above rows)) s.at_front s.scrolled

  -- ---- rows emptied

  empties_in : (gone more rest : List (List Cell)) (row reach : ℕ) (t : Terminal) → suc row ≡ length above + length more →
      Stands w h opening (above ++ (more ++ (gone ++ rest))) row reach true t →
      StandsAfter w h opening above t (rows_down (length gone)) (above ++ (more ++ (replicate (length gone) (blank_row w) ++ rest))) (row + length gone) reach true
  empties_in [] more rest row reach t e s = relead w h opening above t [] _ _ _ _ reach reach true true refl (omega arith) refl refl
      (nothing_leads w h opening above t _ row reach true (omega arith) s)
  empties_in (r ∷ gone) more rest row reach t e s =
      let blanks = replicate (length gone) (blank_row w) in
      let down = down_leads w h opening above t (more ++ r ∷ (gone ++ rest)) row reach true s (omega (arith, e, length-append more (r ∷ (gone ++ rest)))) (omega arith) in
      let clear = clear_leads w h opening above (after t next_row) more r (gone ++ rest) reach true
      (restand w h opening above (after t next_row) _ _ _ _ reach reach true true refl e refl refl down.stands) in
      let both = leads_then w h opening above t next_row clear_bytes _ _ _ _ reach reach true true down clear in
      let lower = empties_in gone (more ++ blank_row w ∷ []) rest (suc row) reach (after t (next_row ++ clear_bytes)) (omega (arith, e, length-append more (blank_row w ∷ [])))
      (restand w h opening above (after t (next_row ++ clear_bytes)) _ _ _ _ reach reach true true (ap (λ x. above ++ x) (sym (append_assoc more (blank_row w ∷ []) (gone ++ rest))))
      (sym e) refl refl both.stands) in
      leads_then w h opening above t (next_row ++ clear_bytes) (rows_down (length gone)) _ _ _ _ reach reach true true both
      (relead w h opening above (after t (next_row ++ clear_bytes)) (rows_down (length gone)) _ _ _ _ reach reach true true
      (ap (λ x. above ++ x) (append_assoc more (blank_row w ∷ []) (blanks ++ rest))) (omega arith) refl refl lower)

  empties_all : (r : List Cell) (rs more rest : List (List Cell)) (reach : ℕ) (front : Bool) (t : Terminal) → length rs ≤ GREATEST → reach ≤ length above + h →
      Stands w h opening (above ++ (more ++ ((r ∷ rs) ++ rest))) (length above + length more) reach front t →
      StandsAfter w h opening above t (emptied_bytes (suc (length rs))) (above ++ (more ++ (replicate (suc (length rs)) (blank_row w) ++ rest))) (length above + length more) reach true
  empties_all r rs more rest reach front t few m s =
      let n = length rs in
      let clear = clear_leads w h opening above t more r (rs ++ rest) reach front s in
      let down = empties_in rs (more ++ blank_row w ∷ []) rest (length above + length more) reach (after t clear_bytes) (omega (arith, length-append more (blank_row w ∷ [])))
      (restand w h opening above (after t clear_bytes) _ _ _ _ reach reach true true (ap (λ x. above ++ x) (sym (append_assoc more (blank_row w ∷ []) (rs ++ rest)))) refl refl refl clear.stands) in
      let both = leads_then w h opening above t clear_bytes (rows_down n) _ _ _ _ reach reach true true clear down in
      let blanks = replicate n (blank_row w) in
      let up = rises w h opening above ((more ++ blank_row w ∷ []) ++ (blanks ++ rest)) n (length above + length more) reach true (after t (clear_bytes ++ rows_down n)) few (omega arith)
      (omega arith) both.stands in
      let one : n ≡ suc n - 1 = omega arith in
      subst (λ k. StandsAfter w h opening above t ((clear_bytes ++ rows_down k) ++ move_bytes 0x41 k) (above ++ (more ++ (replicate (suc n) (blank_row w) ++ rest)))
      (length above + length more) reach true) one
      (relead w h opening above t _ _ _ _ _ reach reach true true (ap (λ x. above ++ x) (append_assoc more (blank_row w ∷ []) (blanks ++ rest))) refl refl refl
      (leads_then w h opening above t (clear_bytes ++ rows_down n) (move_bytes 0x41 n) _ _ _ _ reach reach true true both up))

  -- ---- a line

  abbrev among : (more : List (List Cell)) → List (List Cell)
  among more = over w h opening ++ (above ++ more)

  text_at : (more rest : List (List Cell)) (m below : ℕ) (line : List ℕ) → IsOpening w h opening → IsDrawable w line → m ≡ length (rows_of w (chars line)) →
      after (resting (screen_of w h opening (above ++ (more ++ (replicate m (blank_row w) ++ rest))) below (length above + length more) 0)) line
      ≡ resting (screen_of w h opening (above ++ (more ++ (rows_of w (chars line) ++ rest))) below (length above + length more + m - 1) (last_columns w (chars line)))
  text_at more rest m below line o d e =
      let a = among more in
      let b = rest ++ replicate below (blank_row w) in
      let some : 0 < length (rows_of w (chars line)) = rows_some w (chars line) in
      let a_length : length a ≡ opening.row + (length above + length more) = omega (arith, length-append (over w h opening) (above ++ more), length-append above more, over_length w h opening o) in
      ap (λ s. after (resting s) line) (same_screen w h _ (a ++ (replicate m (blank_row w) ++ b)) _ (length a) 0 0 (simp append_assoc refl) (sym a_length) refl)
      ∙ text_among w h a b line m d e
      ∙ ap (λ s. resting s) (same_screen w h (a ++ (rows_of w (chars line) ++ b)) _ _ _ _ _ (simp append_assoc refl) (omega (arith, a_length, e)) refl)

  pub text_in : (more rest : List (List Cell)) (m : ℕ) (t : Terminal) (line : List ℕ) (reach : ℕ) → IsDrawable w line → m ≡ length (rows_of w (chars line)) →
      Stands w h opening (above ++ (more ++ (replicate m (blank_row w) ++ rest))) (length above + length more) reach true t →
      StandsAfter w h opening above t line (above ++ (more ++ (rows_of w (chars line) ++ rest))) (length above + length more + m - 1) reach false
  text_in more rest m t line reach d e s =
      let n = length above + length more in
      let old = above ++ (more ++ (replicate m (blank_row w) ++ rest)) in
      let new = above ++ (more ++ (rows_of w (chars line) ++ rest)) in
      let same : encodes (chars line) ≡ line = encodes-chars line d.utf8 in
      let some : 0 < length (rows_of w (chars line)) = rows_some w (chars line) in
      let s' = screen_of w h opening old s.below n s.column in
      let lengths : length old ≡ length new =
      omega (
        arith,
        e,
        length-append above (more ++ (replicate m (blank_row w) ++ rest)),
        length-append more (replicate m (blank_row w) ++ rest),
        length-append (replicate m (blank_row w)) rest,
        length-replicate m (blank_row w),
        length-append above (more ++ (rows_of w (chars line) ++ rest)),
        length-append more (rows_of w (chars line) ++ rest),
        length-append (rows_of w (chars line)) rest,
      ) in
      let long : n + m ≤ length new = omega (
        arith,
        e,
        length-append above (more ++ (rows_of w (chars line) ++ rest)),
        length-append more (rows_of w (chars line) ++ rest),
        length-append (rows_of w (chars line)) rest,
      ) in
      leads_from w h opening above old new t line n (n + m - 1) reach reach s.below (last_columns w (chars line)) true false s
      (subst (Keeps (opening.row + length above) (resting s')) same (text_keeps w (opening.row + length above) s' (chars line)
      (record { below = omega arith; in_rows = omega (arith, total w h opening old s.below s.opens, s.in_rows); window = window w h opening s.opens }) (is_text w line d.utf8 d.plain d.narrow)))
      (ap (λ c. after (resting (screen_of w h opening old s.below n c)) line) (s.at_front refl) ∙ text_at more rest m s.below line s.opens d e)
      (omega arith) (λ q. cc) (omega (arith, s.scrolled, lengths))

  pub text_in_column : (more rest : List (List Cell)) (m : ℕ) (t : Terminal) (line : List ℕ) (reach : ℕ) → IsDrawable w line → m ≡ length (rows_of w (chars line)) →
      Stands w h opening (above ++ (more ++ (replicate m (blank_row w) ++ rest))) (length above + length more) reach true t → (after t line).screen.column ≡ last_columns w (chars line)
  text_in_column more rest m t line reach d e s =
      ap (λ u. (after u line).screen.column) s.is
      ∙ ap (λ c. (after (resting (screen_of w h opening (above ++ (more ++ (replicate m (blank_row w) ++ rest))) s.below (length above + length more) c)) line).screen.column) (s.at_front refl)
      ∙ ap (λ u. u.screen.column) (text_at more rest m s.below line s.opens d e)

  -- ---- a changed line, from so many rows above it

  to_changed : (gone more rest : List (List Cell)) (down row reach : ℕ) (front : Bool) (t : Terminal) → 0 < length gone → down ≤ GREATEST → length gone ≤ GREATEST → reach ≤ length above + h →
      row + down ≡ length above + length more → length above ≤ suc row → Stands w h opening (above ++ (more ++ (gone ++ rest))) row reach front t →
      StandsAfter w h opening above t (move_bytes 0x42 down ++ emptied_bytes (length gone)) (above ++ (more ++ (replicate (length gone) (blank_row w) ++ rest))) (length above + length more) reach true
  to_changed [] more rest down row reach front t some small few m e low s = absurd (omega arith)
  to_changed (r ∷ rs) more rest down row reach front t some small few m e low s =
      let fall = falls (more ++ ((r ∷ rs) ++ rest)) down row reach front t small (omega (arith, e, length-append more ((r ∷ rs) ++ rest))) low s in
      let moved = move_bytes 0x42 down in
      leads_then w h opening above t moved (emptied_bytes (suc (length rs))) _ _ _ _ reach reach front true fall
      (empties_all r rs more rest reach front (after t moved) (omega arith) m
      (restand w h opening above (after t moved) _ _ _ _ reach reach front front refl e refl refl fall.stands))

  pub changed_leads : (gone more rest : List (List Cell)) (line : List ℕ) (down row reach : ℕ) (front : Bool) (t : Terminal) → down ≤ GREATEST → length gone ≤ GREATEST → reach ≤ length above + h →
      IsDrawable w line → length gone ≡ length (rows_of w (chars line)) → row + down ≡ length above + length more → length above ≤ suc row →
      Stands w h opening (above ++ (more ++ (gone ++ rest))) row reach front t →
      StandsAfter w h opening above t (changed_bytes down (length gone) line) (above ++ (more ++ (rows_of w (chars line) ++ rest))) (length above + length more + length gone - 1) reach false
  changed_leads gone more rest line down row reach front t small few m d k e low s =
      let some : 0 < length (rows_of w (chars line)) = rows_some w (chars line) in
      let bytes = move_bytes 0x42 down ++ emptied_bytes (length gone) in
      let first = to_changed gone more rest down row reach front t (omega (arith, k)) small few m e low s in
      subst (λ b. StandsAfter w h opening above t b (above ++ (more ++ (rows_of w (chars line) ++ rest))) (length above + length more + length gone - 1) reach false)
      (append_assoc (move_bytes 0x42 down) (emptied_bytes (length gone)) line)
      (leads_then w h opening above t bytes line _ _ _ _ reach reach true false first (text_in more rest (length gone) (after t bytes) line reach d k first.stands))

  pub changed_column : (gone more rest : List (List Cell)) (line : List ℕ) (down row reach : ℕ) (front : Bool) (t : Terminal) → down ≤ GREATEST → length gone ≤ GREATEST → reach ≤ length above + h →
      IsDrawable w line → length gone ≡ length (rows_of w (chars line)) → row + down ≡ length above + length more → length above ≤ suc row →
      Stands w h opening (above ++ (more ++ (gone ++ rest))) row reach front t →
      (after t (changed_bytes down (length gone) line)).screen.column ≡ last_columns w (chars line)
  changed_column gone more rest line down row reach front t small few m d k e low s =
      let some : 0 < length (rows_of w (chars line)) = rows_some w (chars line) in
      let bytes = move_bytes 0x42 down ++ emptied_bytes (length gone) in
      let first = to_changed gone more rest down row reach front t (omega (arith, k)) small few m e low s in
      ap (λ b. (after t b).screen.column) (sym (append_assoc (move_bytes 0x42 down) (emptied_bytes (length gone)) line))
      ∙ ap (λ u. u.screen.column) (after-append t bytes line)
      ∙ text_in_column more rest (length gone) (after t bytes) line reach d k first.stands
