-- A drawing that first empties the rows that it is the first to reach leads to the same.
use Rattle.std.proofs.Common.{◌≡◌, ◌⊎◌, ℕ, suc, ◌+◌, ◌-◌, ◌<◌, ◌≤◌, max, true, false, List, [], ◌++◌, length, map, refl, sym, ◌∙◌, ap, subst, arith, append-nil, length-append, inl, inr, ⊎_elim}
use Rattle.std.specs.Prelude.{IsTrue}
use Rattle.std.proofs.lemmas.Bool.{cases_Bool, cases_lt}
use Rattle.std.proofs.lemmas.List.{length-map}
use Rattle.indicatif_text.specs.Columns.{Cell}
use Rattle.indicatif_term.specs.Screen.{Screen}
use Rattle.indicatif_term.specs.Terminal.{Terminal, GREATEST, after}
use Rattle.indicatif_term.specs.Shows.{Shows, IsOpening, look, resting_row}
use Rattle.indicatif_term.specs.Lists.{Lists, lists_height, live_height, all_rows}
use Rattle.indicatif_term.specs.Counts.{CountsOf}
use Rattle.indicatif_term.specs.Inside.MoveBytes.{reach_bytes}
use Rattle.indicatif_term.proofs.PaintingLemmas.{paint_bytes, AreDrawable, restand}
use Rattle.indicatif_term.specs.Inside.Counts.{IsFresh, IsAtop}
use Rattle.indicatif_term.specs.declared.engine.counts.Counts.{Counts}
use Rattle.indicatif_term.specs.declared.engine.counts.Fresh.{Fresh}
use Rattle.indicatif_term.proofs.FeedLemmas.{after-append}
use Rattle.indicatif_term.proofs.CursorRowLemmas.{Stands}
use Rattle.indicatif_term.proofs.RowsAboveLemmas.{Keeps, both_keep}
use Rattle.indicatif_term.proofs.TerminalStepLemmas.{StandsAfter, total}
use Rattle.indicatif_term.proofs.PlaceLemmas.{Alike, alike_after, same_reader}
use Rattle.indicatif_term.proofs.LearnLemmas.{reach_learns, alike_fewer, alike_itself, same_terminal, learned_both}
use Rattle.indicatif_term.proofs.ShownRowLemmas.{lines_rows}
use Rattle.indicatif_term.proofs.FillLemmas.{IsFull}
use Rattle.indicatif_term.proofs.CountLemmas.{live_of}
use Rattle.indicatif_term.proofs.ReachLemmas.{reach_leads}
use Rattle.indicatif_term.proofs.DrawingLemmas.{Replaces, all-height, keeps_fewer, stands_from, end_column, lines_none, onward_shows, onward_keeps}

-- how many rows there are then
pub replaced_height : (w h : ℕ) (l l' : Lists) (more gone : List (List Cell)) (lines : List (List ℕ)) → Replaces w h l l' more gone lines →
    length l.above + length more + length (lines_rows w lines) ≡ lists_height l'
replaced_height w h l l' more gone lines g =
    let base = l.above ++ more in
    ap (λ n. n + length (lines_rows w lines)) (sym (length-append l.above more)) ∙ sym (length-append base (lines_rows w lines)) ∙ sym (length-map (base ++ lines_rows w lines) (map look))
    ∙ ap length g.afterwards ∙ length-map (all_rows w l') (map look) ∙ all-height w l'

-- the rows taken back are some of those that may change
pub before_height : (w h : ℕ) (l l' : Lists) (more gone : List (List Cell)) (lines : List (List ℕ)) → Replaces w h l l' more gone lines →
    length l.above + length more + length gone ≡ lists_height l
before_height w h l l' more gone lines g =
    ap (λ n. n + length gone) (sym (length-append l.above more)) ∙ sym (length-append (l.above ++ more) gone) ∙ ap length g.before ∙ all-height w l

module _ (w h : ℕ) (l : Lists) (c : Counts) (end : ℕ) (f : Fresh) (o : CountsOf c l) (fresh : IsFresh c end h f) (opening : Screen) (t : Terminal) (x : Shows w h opening l t) where
  pub shown_height : length x.shown ≡ lists_height l
  shown_height = sym (length-map x.shown (map look)) ∙ ap length x.looks ∙ length-map (all_rows w l) (map look) ∙ all-height w l

  height_is : lists_height l ≡ length l.above + (c.kept + c.live)
  height_is = let k : c.kept ≡ length l.kept = o.kept_is in let v : c.live ≡ live_height l.live = live_of c l o in omega arith

  reach_is : c.reached + length l.above ≡ l.reach
  reach_is = o.reached_is

  at_below : l.below ≡ true → resting_row l ≡ lists_height l
  at_below e = rw e refl

  at_row : l.below ≡ false → resting_row l ≡ lists_height l - 1
  at_row e = rw e refl

  pub last_below : 0 < f.rows → resting_row l + f.down + 1 ≡ l.reach
  last_below some = ⊎_elim
      (λ e. let d : f.down + (c.kept + c.live) + 1 ≡ c.reached = fresh.from_below some (o.below_is ∙ e) in omega (arith, at_below e, d, height_is, reach_is))
      (λ e. let d : f.down + (c.kept + c.live) ≡ c.reached = fresh.from_row some (o.below_is ∙ e) in let q : 0 < lists_height l = x.on_a_row e in omega (arith, at_row e, d, height_is, reach_is, q))
      (cases_Bool l.below)

  on_row_low : 0 < f.rows → l.below ≡ false → l.reach + f.rows ≤ resting_row l + h
  on_row_low some e =
      let q : 0 < lists_height l = x.on_a_row e in
      let m : c.reached + f.rows ≤ h = fresh.low some in
      ⊎_elim
      (λ k. let z : c.kept + c.live ≡ 0 = omega arith in
      let m' : c.reached + f.rows < h = fresh.low_atop some (record { none = z; on_row = o.below_is ∙ e }) in omega (arith, at_row e, height_is, reach_is, q, m', z))
      (λ k. omega (arith, at_row e, height_is, reach_is, q, m, k))
      (cases_lt (c.kept + c.live) 1)

  reached_low : 0 < f.rows → l.reach + f.rows ≤ resting_row l + h
  reached_low some = ⊎_elim
      (λ e. let m : c.reached + f.rows ≤ h = fresh.low some in omega (arith, at_below e, height_is, reach_is, m))
      (λ e. on_row_low some e)
      (cases_Bool l.below)

  pub above_low : l.reach + f.rows ≤ length l.above + h
  above_low = ⊎_elim
      (λ some. let m : c.reached + f.rows ≤ h = fresh.low some in omega (arith, reach_is, m))
      (λ none. let a : l.reach ≤ length l.above + h = x.movable in omega (arith, none))
      (cases_lt 0 f.rows)

  pub low_shown : length x.shown ≤ suc (resting_row l)
  low_shown = ⊎_elim
      (λ e. omega (arith, at_below e, shown_height))
      (λ e. omega (arith, at_row e, shown_height))
      (cases_Bool l.below)

  pub pre_leads : StandsAfter w h opening x.shown t (reach_bytes f.down f.rows) (x.shown ++ []) (resting_row l) (l.reach + f.rows) l.below
  pre_leads =
      let small : f.down + f.rows ≤ 65535 = f.small in
      let a : lists_height l ≤ l.reach = x.reached in
      reach_leads w h opening x.shown f.down f.rows (resting_row l) l.reach l.below t low_shown (omega (arith, shown_height)) last_below reached_low (omega (arith, small))
      (restand w h opening x.shown t _ _ _ _ _ _ _ _ (sym (append-nil x.shown)) refl refl refl (stands_from x))

  pub pre_stands : Stands w h opening x.shown (resting_row l) (l.reach + f.rows) l.below (after t (reach_bytes f.down f.rows))
  pre_stands = restand w h opening x.shown (after t (reach_bytes f.down f.rows)) _ _ _ _ _ _ _ _ (append-nil x.shown) refl refl refl pre_leads.stands

  -- where none is reached for the first time, nothing happens
  pub still_waits : f.rows ≡ 0 → l.below ≡ false → (after t (reach_bytes f.down f.rows)).screen.column ≡ w
  unfolding after
  still_waits none e = ap (λ n. (after t (reach_bytes f.down n)).screen.column) none ∙ ap (λ u. u.screen.column) x.terminal_is ∙ end_column w l e

module _ (w h : ℕ) (l l' : Lists) (c : Counts) (more gone : List (List Cell)) (lines : List (List ℕ)) (end : ℕ) (f : Fresh) (o : CountsOf c l) (fresh : IsFresh c end h f)
    (ends : end + length l.above ≤ lists_height l') (opening : Screen) (t : Terminal) (x : Shows w h opening l t)
    (g : Replaces w h l l' more gone lines) (p : 0 < w) (d : AreDrawable w lines) (full : l'.below ≡ false → IsFull w lines) (few : length gone ≤ GREATEST) where
  abbrev pre : List ℕ
  pre = reach_bytes f.down f.rows

  abbrev rest : List ℕ
  rest = paint_bytes l.below (length gone) lines l'.below

  most : l.reach + f.rows ≤ l'.reach
  most =
      let a : c.reached + f.rows ≤ max c.reached end = fresh.few in
      let r : c.reached + length l.above ≡ l.reach = o.reached_is in
      let n : l'.reach ≡ max l.reach (lists_height l') = g.reach_is in
      omega (arith, a, r, n, ends)

  -- where no line is written, no row is reached
  bare : length lines ≡ 0 → f.rows ≡ 0
  bare e =
      let a : c.reached + f.rows ≤ max c.reached end = fresh.few in
      let k : c.kept + c.live ≤ c.reached = c.fits in
      let n : length (lines_rows w lines) ≡ 0 = lines_none w lines e in
      omega (arith, a, k, n, ends, replaced_height w h l l' more gone lines g, before_height w h l l' more gone lines g, height_is w h l c end f o fresh opening t x)

  stood : Stands w h opening x.shown (resting_row l) (l.reach + f.rows) l.below (after t pre)
  stood = pre_stands w h l c end f o fresh opening t x

  pub fresh_shows : Shows w h opening l' (after t (pre ++ rest))
  fresh_shows = subst (Shows w h opening l') (sym (after-append t pre rest))
      (onward_shows w h opening l l' more gone lines t (after t pre) (l.reach + f.rows) x stood (omega arith) most (above_low w h l c end f o fresh opening t x)
      (λ e b. still_waits w h l c end f o fresh opening t x (bare e) b) g p d full few)

  pub fresh_keeps : Keeps (opening.row + length l.above) t (pre ++ rest)
  fresh_keeps = both_keep (opening.row + length l.above) t pre rest
      (keeps_fewer (opening.row + length l.above) (opening.row + length x.shown) t pre
      (omega (arith, shown_height w h l c end f o fresh opening t x)) (pre_leads w h l c end f o fresh opening t x).keeps)
      (onward_keeps w h opening l l' more gone lines t (after t pre) (l.reach + f.rows) x stood (omega arith) most (above_low w h l c end f o fresh opening t x)
      (λ e b. still_waits w h l c end f o fresh opening t x (bare e) b) g p d full few)

  -- what stands in rows that weren't reached makes no difference to those that are then
  module _ (under : IsTrue c.under) (lasts : (lists_height l' ≤ end + length l.above) ⊎ (65535 + 65535 < end)) (t' : Terminal) (r : t'.reader ≡ t.reader)
      (a : Alike (opening.row + l.reach) t.screen t'.screen) where
    learnt : Alike (opening.row + (l.reach + f.rows)) (after t pre).screen (after t' pre).screen
    learnt =
        let small : f.down + f.rows ≤ 65535 = f.small in
        let m : lists_height l ≤ l.reach = x.reached in
        reach_learns w h opening x.shown f.down f.rows (resting_row l) l.reach l.below t t' (low_shown w h l c end f o fresh opening t x)
        (omega (arith, m, shown_height w h l c end f o fresh opening t x)) (last_below w h l c end f o fresh opening t x) (omega (arith, small))
        (restand w h opening x.shown t _ _ _ _ _ _ _ _ (sym (append-nil x.shown)) refl refl refl (stands_from x)) r a

    abbrev whole : Type 0
    whole = Alike (opening.row + l'.reach) (after t (pre ++ rest)).screen (after t' (pre ++ rest)).screen

    -- all rows of the lists were reached
    with_lists : end ≤ c.reached + f.rows → whole
    with_lists k =
        let e : c.reached + length l.above ≡ l.reach = o.reached_is in
        let n : l'.reach ≡ max l.reach (lists_height l') = g.reach_is in
        let low : f.down + f.rows ≤ 65535 = f.small in
        let small : c.reached ≤ 65535 = c.small in
        let all : lists_height l' ≤ l.reach + f.rows = ⊎_elim (λ q. omega (arith, q, k, e)) (λ q. absurd (omega (arith, q, k, small, low))) lasts in
        alike_fewer (opening.row + l'.reach) (opening.row + (l.reach + f.rows)) _ _ (omega (arith, all, n, most))
        (learned_both t t' pre rest (opening.row + (l.reach + f.rows)) (alike_after (opening.row + (l.reach + f.rows)) (after t pre) (after t' pre) rest learnt (same_reader t t' pre r)))

    -- or all of the window
    with_window : h ≤ l.reach + f.rows → whole
    with_window k =
        let st = stood in
        let op : IsOpening w h opening = st.opens in
        let n : length (after t pre).screen.rows ≡ opening.row + length x.shown + st.below = ap (λ u. length u.screen.rows) st.is ∙ total w h opening x.shown st.below st.opens in
        let all : length (after t pre).screen.rows ≤ opening.row + (l.reach + f.rows) = omega (arith, n, st.scrolled, k, op.in_window, op.height, op.in_rows) in
        let same = same_terminal (opening.row + (l.reach + f.rows)) (after t pre) (after t' pre) learnt all (same_reader t t' pre r) in
        let z = fresh_shows in
        let zo : IsOpening w h opening = z.opens in
        let count : length (after t (pre ++ rest)).screen.rows ≡ opening.row + length z.shown + z.blank = ap (λ u. length u.screen.rows) z.terminal_is ∙ total w h opening z.shown z.blank z.opens in
        let within : opening.row + l'.reach ≤ length (after (after t pre) rest).screen.rows = omega (arith, count, z.scrolled, ap (λ u. length u.screen.rows) (after-append t pre rest)) in
        learned_both t t' pre rest (opening.row + l'.reach)
        (subst (λ u. Alike (opening.row + l'.reach) (after (after t pre) rest).screen (after u rest).screen) (sym same) (alike_itself (opening.row + l'.reach) (after
        (after t pre) rest).screen within))

    pub fresh_learns : whole
    fresh_learns =
        let e : c.reached + length l.above ≡ l.reach = o.reached_is in
        let atop = λ (q : IsAtop c). let b : 0 < lists_height l = x.on_a_row (sym o.below_is
        ∙ q.on_row) in let d = height_is w h l c end f o fresh opening t x in let p : 0 < length l.above = omega (arith, b, d, q.none) in p in
        elim (fresh.all under) [
          | inl k ↦ with_lists k
          | inr other ↦ elim other [
            | inl k ↦ with_window (omega (arith, e, k))
            | inr k ↦ with_window (omega (arith, e, k.1, atop k.0))
          ]
        ]
