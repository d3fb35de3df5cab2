-- What stands in rows that weren't reached makes no difference: they are emptied before anything is written there.
use Rattle.std.proofs.Common.{◌≡◌, ℕ, zero, suc, ◌+◌, ◌-◌, ◌<◌, ◌≤◌, max, Bool, true, List, [], ◌∷◌, ◌++◌, length, take, replicate, refl, sym, ◌∙◌, ap, subst, arith, append-nil, length-append, set}
use Rattle.std.proofs.lemmas.List.{length-replicate, length-set, take_more_set, take_all}
use Rattle.std.specs.Prelude.{nat_lt}
use Rattle.std.proofs.lemmas.Bool.{cond_both, ltb-true}
use Rattle.indicatif_term.proofs.AnewLemmas.{anew_is}
use Rattle.indicatif_text.specs.Columns.{Cell, blank_row}
use Rattle.indicatif_term.specs.Screen.{Screen, with_row, line_feed}
use Rattle.indicatif_term.specs.Terminal.{Terminal, Reader, idle, GREATEST, after}
use Rattle.indicatif_term.specs.Calls.{move_bytes, clear_bytes, anew_bytes}
use Rattle.indicatif_term.specs.Shows.{resting, on_next_row}
use Rattle.indicatif_term.specs.Inside.MoveBytes.{next_row, rows_down, reach_bytes}
use Rattle.indicatif_term.proofs.CallLemmas.{row_cleared}
use Rattle.indicatif_term.proofs.FeedLemmas.{after-append}
use Rattle.indicatif_term.proofs.CursorRowLemmas.{Stands}
use Rattle.indicatif_term.proofs.TerminalStepLemmas.{total, next_leads}
use Rattle.indicatif_term.proofs.PaintingLemmas.{restand}
use Rattle.indicatif_term.proofs.PlaceLemmas.{Alike, alike_feed, alike_column, alike_after, same_reader}
use Rattle.indicatif_term.proofs.StandLemmas.{idle_screen}
use Rattle.indicatif_term.proofs.SkipStepLemmas.{falls}
use Rattle.indicatif_term.proofs.ReachLemmas.{appears, one}

-- the cursor's row is one more that is the same, where it is emptied
pub emptied_alike : (s s' : Screen) → Alike s.row s s' → s.row < length s.rows → Alike (suc s.row) (with_row s (blank_row s.columns)) (with_row s' (blank_row s'.columns))
emptied_alike s s' a within =
    let blank = blank_row s.columns in
    let wide : blank_row s'.columns ≡ blank = ap blank_row a.same.columns in
    let count : length s'.rows ≡ length s.rows = a.same.count in
    record {
      same = record {
        columns = a.same.columns;
        height = a.same.height;
        count = length-set s'.rows s'.row (blank_row s'.columns) ∙ count ∙ sym (length-set s.rows s.row blank);
        row = a.same.row;
        column = a.same.column;
      };
      front = ap (λ k. take (suc s.row) (set s'.rows k (blank_row s'.columns))) a.same.row ∙ ap (λ r. take (suc s.row) (set s'.rows s.row r)) wide
          ∙ more s.row s'.rows blank (omega (arith, count, within)) ∙ ap (λ rows. rows ++ blank ∷ []) a.front ∙ sym (more s.row s.rows blank within);
      within = omega (arith, length-set s.rows s.row blank, within);
    }
  where
    more : (i : ℕ) (rows : List (List Cell)) (r : List Cell) → i < length rows → take (suc i) (set rows i r) ≡ take i rows ++ r ∷ []
    more i rows r h = ap (λ n. take n (set rows i r)) (let e : suc i ≡ i + 1 = omega arith in e) ∙ take_more_set rows i r h

cleared_alike : (s s' : Screen) → Alike s.row s s' → s.row < length s.rows → Alike (suc s.row) (after (resting s) clear_bytes).screen (after (resting s') clear_bytes).screen
cleared_alike s s' a within =
    let new = emptied_alike (record s { column = 0 }) (record s' { column = 0 }) (alike_column s.row 0 0 s s' a refl) within in
    subst (λ u. Alike (suc s.row) u.screen (after (resting s') clear_bytes).screen) (sym (row_cleared s))
    (subst (λ u. Alike (suc s.row) (with_row (record s { column = 0 }) (blank_row s.columns)) u.screen) (sym (row_cleared s')) new)

-- the next row is one more
pub next_alike : (t t' : Terminal) → Alike (t.screen.row + 1) t.screen t'.screen → t.screen.row < length t.screen.rows → Alike (t.screen.row + 2) (after t anew_bytes).screen
    (after t' anew_bytes).screen
next_alike t t' a within =
    let s = t.screen in
    let s' = t'.screen in
    let fed = alike_feed (s.row + 1) (record s { column = 0 }) (record s' { column = 0 }) (alike_column (s.row + 1) 0 0 s s' a refl) in
    let there : s.row + 1 < length (line_feed (record s { column = 0 })).rows = fed_within (record s { column = 0 }) within in
    let new = emptied_alike (line_feed (record s { column = 0 })) (line_feed (record s' { column = 0 })) fed there in
    let two : Alike (s.row + 2) (on_next_row s) (on_next_row s') = subst (λ n. Alike n (on_next_row s) (on_next_row s')) (let e : suc (s.row + 1) ≡ s.row + 2 = omega arith in e) new in
    subst (λ u. Alike (s.row + 2) u.screen (after t' anew_bytes).screen) (sym (anew_is t)) (subst (λ u. Alike (s.row + 2) (on_next_row s) u.screen) (sym (anew_is t')) two)
  where
    fed_within : (s : Screen) → s.row < length s.rows → s.row + 1 < length (line_feed s).rows
    fed_within s h = cond_both (nat_lt (s.row + 1) (length s.rows)) s.rows (s.rows ++ blank_row s.columns ∷ []) (λ rows. s.row + 1 < length rows)
        (λ e. ltb-true (s.row + 1) (length s.rows) e)
        (λ e. omega (arith, h, length-append s.rows (blank_row s.columns ∷ [])))

-- fewer rows are the same, too
pub alike_fewer : (m n : ℕ) (s s' : Screen) → m ≡ n → Alike n s s' → Alike m s s'
alike_fewer m n s s' e a = subst (λ k. Alike k s s') (sym e) a

-- a screen and itself
pub alike_itself : (n : ℕ) (s : Screen) → n ≤ length s.rows → Alike n s s
alike_itself n s h = record { same = record { columns = refl; height = refl; count = refl; row = refl; column = refl }; front = refl; within = h }

abbrev made_of : ℕ → ℕ → List (List Cell) → ℕ → ℕ → Screen
made_of columns height rows row column = record { columns = columns; height = height; rows = rows; row = row; column = column }

-- where all rows are the same, so are the terminals
pub same_terminal : (n : ℕ) (t t' : Terminal) → Alike n t.screen t'.screen → length t.screen.rows ≤ n → t'.reader ≡ t.reader → t' ≡ t
same_terminal n t t' a all r =
    let s = t.screen in
    let s' = t'.screen in
    let count : length s'.rows ≡ length s.rows = a.same.count in
    let rows : s'.rows ≡ s.rows = sym (take_all n s'.rows (omega (arith, count, all))) ∙ a.front ∙ take_all n s.rows all in
    let screen : s' ≡ s =
    ap (λ k. made_of k s'.height s'.rows s'.row s'.column) a.same.columns ∙ ap (λ k. made_of s.columns k s'.rows s'.row s'.column) a.same.height
    ∙ ap (λ k. made_of s.columns s.height k s'.row s'.column) rows ∙ ap (λ k. made_of s.columns s.height s.rows k s'.column) a.same.row
    ∙ ap (λ k. made_of s.columns s.height s.rows s.row k) a.same.column in
    let of : Screen → Reader → Terminal = λ x y. record { screen = x; reader = y } in
    let e : of s' t'.reader ≡ of s t.reader = ap (λ x. of x t'.reader) screen ∙ ap (of s) r in e

-- bytes after bytes
pub learned_both : (t t' : Terminal) (a b : List ℕ) (n : ℕ) → Alike n (after (after t a) b).screen (after (after t' a) b).screen → Alike n (after t (a ++ b)).screen (after t' (a ++ b)).screen
learned_both t t' a b n x = subst (λ u. Alike n u.screen (after t' (a ++ b)).screen) (sym (after-append t a b)) (subst (λ u. Alike n (after (after t a) b).screen u.screen) (sym
    (after-append t' a b)) x)

module _ (w h : ℕ) (opening : Screen) (above : List (List Cell)) where
  stands_row : (rows : List (List Cell)) (row reach : ℕ) (front : Bool) (t : Terminal) → Stands w h opening rows row reach front t →
      (t.screen.row ≡ opening.row + row) × (t.screen.row < length t.screen.rows) × (t.reader ≡ idle)
  stands_row rows row reach front t s =
      let e : t.screen.row ≡ opening.row + row = ap (λ u. u.screen.row) s.is in
      let n : length t.screen.rows ≡ opening.row + length rows + s.below = ap (λ u. length u.screen.rows) s.is ∙ total w h opening rows s.below s.opens in
      (e, omega (arith, e, n, s.in_rows), ap (λ u. u.reader) s.is)

  one_learns : (more : List (List Cell)) (row : ℕ) (front : Bool) (t t' : Terminal) → suc row ≡ length above + length more → Stands w h opening (above ++ more) row (suc row) front t →
      t'.reader ≡ t.reader → Alike (opening.row + suc row) t.screen t'.screen →
      Alike (opening.row + suc (suc row)) (after t (next_row ++ clear_bytes)).screen (after t' (next_row ++ clear_bytes)).screen
  one_learns more row front t t' e s r a =
      let down = next_leads w h opening above t more row (suc row) front s e in
      let u = after t next_row in
      let u' = after t' next_row in
      let at = stands_row (above ++ more) (suc row) (max (suc row) (suc (suc row))) true u down.stands in
      let fed : Alike (opening.row + suc row) u.screen u'.screen = alike_after (opening.row + suc row) t t' next_row a r in
      let quiet : u'.reader ≡ idle = same_reader t t' next_row r ∙ at.2 in
      let here : Alike u.screen.row u.screen u'.screen = alike_fewer u.screen.row (opening.row + suc row) u.screen u'.screen at.0 fed in
      let new = cleared_alike u.screen u'.screen here at.1 in
      let whole = subst (λ x. Alike (suc u.screen.row) x.screen (after (resting u'.screen) clear_bytes).screen) (ap (λ x. after x clear_bytes) (sym (idle_screen u at.2)) ∙ sym
      (after-append t next_row clear_bytes)) new in
      let both = subst (λ x. Alike (suc u.screen.row) (after t (next_row ++ clear_bytes)).screen x.screen) (ap (λ x. after x clear_bytes) (sym (idle_screen u' quiet)) ∙ sym
      (after-append t' next_row clear_bytes)) whole in
      alike_fewer (opening.row + suc (suc row)) (suc u.screen.row) _ _ (omega (arith, at.0)) both

  none_learn : (m : ℕ) (t t' : Terminal) → Alike m t.screen t'.screen → Alike m (after t []).screen (after t' []).screen
  unfolding after
  none_learn m t t' a = a

  more_learn : (n : ℕ) (more : List (List Cell)) (row : ℕ) (t t' : Terminal) → suc row ≡ length above + length more → Stands w h opening (above ++ more) row (suc row) true t →
      t'.reader ≡ t.reader → Alike (opening.row + suc row) t.screen t'.screen → Alike (opening.row + (suc row + n)) (after t (rows_down n)).screen (after t' (rows_down n)).screen
  more_learn zero more row t t' e s r a =
      none_learn (opening.row + (suc row + 0)) t t' (alike_fewer (opening.row + (suc row + 0)) (opening.row + suc row) t.screen t'.screen (omega arith) a)
  more_learn (suc n) more row t t' e s r a =
      let step = next_row ++ clear_bytes in
      let first = one w h opening above more row true t e s in
      let u = after t step in
      let u' = after t' step in
      let rest = more_learn n (more ++ blank_row w ∷ []) (suc row) u u' (omega (arith, e, length-append more (blank_row w ∷ []))) first.stands (same_reader t t' step r)
      (one_learns more row true t t' e s r a) in
      learned_both t t' step (rows_down n) (opening.row + (suc row + suc n)) (alike_fewer (opening.row + (suc row + suc n)) (opening.row + (suc (suc row) + n)) _ _ (omega arith) rest)

  rows_learn : (n : ℕ) (more : List (List Cell)) (row : ℕ) (front : Bool) (t t' : Terminal) → suc row ≡ length above + length more → Stands w h opening (above ++ more) row (suc row) front t →
      t'.reader ≡ t.reader → Alike (opening.row + suc row) t.screen t'.screen → Alike (opening.row + (suc row + suc n)) (after t (rows_down (suc n))).screen (after t' (rows_down (suc n))).screen
  rows_learn n more row front t t' e s r a =
      let step = next_row ++ clear_bytes in
      let first = one w h opening above more row front t e s in
      let u = after t step in
      let u' = after t' step in
      let rest = more_learn n (more ++ blank_row w ∷ []) (suc row) u u' (omega (arith, e, length-append more (blank_row w ∷ []))) first.stands (same_reader t t' step r)
      (one_learns more row front t t' e s r a) in
      learned_both t t' step (rows_down n) (opening.row + (suc row + suc n)) (alike_fewer (opening.row + (suc row + suc n)) (opening.row + (suc (suc row) + n)) _ _ (omega arith) rest)

  -- rows that are reached for the first time are the same from then on
  pub reach_learns : (down n row reach : ℕ) (front : Bool) (t t' : Terminal) → length above ≤ suc row → length above ≤ reach → (0 < n → row + down + 1 ≡ reach) → down + n ≤ GREATEST →
      Stands w h opening (above ++ []) row reach front t → t'.reader ≡ t.reader → Alike (opening.row + reach) t.screen t'.screen →
      Alike (opening.row + (reach + n)) (after t (reach_bytes down n)).screen (after t' (reach_bytes down n)).screen
  reach_learns down zero row reach front t t' low within last few s r a =
      none_learn (opening.row + (reach + 0)) t t' (alike_fewer (opening.row + (reach + 0)) (opening.row + reach) t.screen t'.screen (omega arith) a)
  reach_learns down (suc n) row reach front t t' low within last few s r a =
      let k = reach - length above in
      let here = row + down in
      let more = replicate k (blank_row w) in
      let at : here + 1 ≡ reach = last (omega arith) in
      let none : List (List Cell) = [] in
      let known : Stands w h opening (above ++ more) row reach front t = restand w h opening above t _ _ _ _ _ _ front front (ap (λ x. x ++ more) (append-nil above)) refl refl refl
      (appears w h opening (above ++ none) t k row reach front (omega (arith, length-append above none)) s) in
      let moved = move_bytes 0x42 down in
      let size : length above + length more ≡ reach = omega (arith, length-replicate k (blank_row w)) in
      let fall = falls w h opening above more down row reach front t (omega arith) (omega (arith, size, at)) low known in
      let up = move_bytes 0x41 (down + suc n) in
      let fell = alike_fewer (opening.row + suc here) (opening.row + reach) _ _ (omega (arith, at)) (alike_after (opening.row + reach) t t' moved a r) in
      let rows = rows_learn n more here front (after t moved) (after t' moved) (omega (arith, size, at))
      (restand w h opening above (after t moved) _ _ _ _ _ _ front front refl refl (omega (arith, at)) refl fall.stands) (same_reader t t' moved r) fell in
      let risen = alike_after (opening.row + (suc here + suc n)) (after (after t moved) (rows_down (suc n))) (after (after t' moved) (rows_down (suc n))) up rows
      (same_reader (after t moved) (after t' moved) (rows_down (suc n)) (same_reader t t' moved r)) in
      let both = learned_both (after t moved) (after t' moved) (rows_down (suc n)) up (opening.row + (suc here + suc n)) risen in
      alike_fewer (opening.row + (reach + suc n)) (opening.row + (suc here + suc n)) _ _ (omega (arith, at)) (learned_both t t' moved (rows_down (suc n) ++ up) (opening.row + (suc here + suc n)) both)
