-- The counts of rows that are cut anew go on as the lists do.
use Rattle.std.proofs.Common.{◌≡◌, ℕ, ◌+◌, ◌-◌, ◌<◌, ◌≤◌, min, max, Bool, true, false, List, [], ◌∷◌, ◌++◌, length, take, drop, replicate, refl, sym, ◌∙◌, ap, arith, append_assoc, length-append, length-take, length-drop}
use Rattle.std.specs.Prelude.{flat_map, sum, nat_le}
use Rattle.std.proofs.lemmas.Bool.{cond_both, leb-true, leb-false}
use Rattle.std.proofs.lemmas.List.{length-replicate, length-map, map-append, take_at, drop_at}
use Rattle.std.proofs.lemmas.List.Concat.{length-flat_map}
use Rattle.std.proofs.lemmas.List.Sums.{sum-map, sum_by-cons}
use Rattle.indicatif_text.specs.Columns.{Cell, blank_row}
use Rattle.indicatif_term.specs.Counts.{CountsOf}
use Rattle.indicatif_term.specs.Lists.{Lists, BarRows, live_rows, live_height, lists_height, segments_height}
use Rattle.indicatif_term.specs.Resizes.{recut, recut_all, recut_lists, segments_after, settled_whole}
use Rattle.indicatif_term.specs.Inside.Recutting.{row_heights, end_row, IsSettledWhole}
use Rattle.indicatif_term.specs.declared.engine.counts.Counts.{Counts}
use Rattle.indicatif_term.proofs.CountLemmas.{length-flat, length-live}
use Rattle.indicatif_term.proofs.ResizeLemmas.{segments_recut, passing, passing-height}

-- ---- how many rows there are then

pub sum_heights : (w : ℕ) (rows : List (List Cell)) → sum (row_heights w rows) ≡ length (recut_all w rows)
sum_heights w rows = sum-map (λ row. length (recut w row)) rows ∙ sym (length-flat_map (recut w) rows)

length-heights : (w : ℕ) (rows : List (List Cell)) → length (row_heights w rows) ≡ length rows
length-heights w rows = length-map rows (λ row. length (recut w row))

heights-append : (w : ℕ) (xs ys : List (List Cell)) → row_heights w (xs ++ ys) ≡ row_heights w xs ++ row_heights w ys
heights-append w xs ys = map-append (λ row. length (recut w row)) xs ys

-- ---- segments

abbrev height_of : BarRows → ℕ
height_of s = length s.rows

pub after_height : (n : ℕ) (ss : List BarRows) → segments_height (segments_after n ss) ≡ segments_height ss - n
after_height n [] = omega arith
after_height n (s ∷ ss) =
    cond_both (nat_le (length s.rows) n) (segments_after (n - length s.rows) ss) (record s { rows = drop n s.rows } ∷ ss) (λ x. segments_height x ≡ segments_height (s ∷ ss) - n)
    (λ e. let more : segments_height (segments_after (n - length s.rows) ss) ≡ segments_height ss - (n - length s.rows) = after_height (n - length s.rows) ss in
    omega (arith, more, sum_by-cons height_of s ss, leb-true (length s.rows) n e))
    (λ e. omega (arith, sum_by-cons height_of (record s { rows = drop n s.rows }) ss, length-drop n s.rows, sum_by-cons height_of s ss, leb-false (length s.rows) n e))

-- ---- all counts

module _ (w w' h : ℕ) (l : Lists) (c c' : Counts) (o : CountsOf c l) (some : 0 < h) (heights : List ℕ) (e : heights ≡ row_heights w' (l.kept ++ live_rows w l.live)) where
  abbrev cut : Lists
  cut = recut_lists w' l

  abbrev bars : List (List Cell)
  bars = flat_map (λ (s : BarRows). s.rows) l.live.segments

  abbrev blanks : List (List Cell)
  blanks = replicate l.live.blanks (blank_row w)

  pub kept_then : sum (take c.kept heights) ≡ length cut.kept
  kept_then =
      ap (λ n. sum (take n heights)) o.kept_is ∙ ap (λ hs. sum (take (length l.kept) hs)) (e ∙ heights-append w' l.kept (live_rows w l.live))
      ∙ ap sum (take_at (row_heights w' l.kept) (row_heights w' (live_rows w l.live)) (length l.kept) (length-heights w' l.kept)) ∙ sum_heights w' l.kept

  pub bars_then : drop (c.kept + c.blanks) heights ≡ row_heights w' bars
  bars_then =
      let front = row_heights w' (l.kept ++ blanks) in
      let parts : heights ≡ front ++ row_heights w' bars = e ∙ ap (row_heights w') (sym (append_assoc l.kept blanks bars)) ∙ heights-append w' (l.kept ++ blanks) bars in
      let n : length front ≡ c.kept + c.blanks =
      omega (arith, length-heights w' (l.kept ++ blanks), length-append l.kept blanks, length-replicate l.live.blanks (blank_row w), o.kept_is, o.blanks_are) in
      ap (drop (c.kept + c.blanks)) parts ∙ drop_at front (row_heights w' bars) (c.kept + c.blanks) n

  live_then : c.blanks + sum (drop (c.kept + c.blanks) heights) ≡ live_height cut.live
  live_then =
      let rows : sum (drop (c.kept + c.blanks) heights) ≡ segments_height cut.live.segments =
      ap sum bars_then ∙ sum_heights w' bars ∙ ap length (sym (segments_recut w' l.live.segments)) ∙ length-flat cut.live.segments in
      omega (arith, rows, o.blanks_are)

  module _ (s : IsSettledWhole h (sum (take c.kept heights)) c.blanks (c.blanks + sum (drop (c.kept + c.blanks) heights)) c.below c.under c') where
    abbrev now : Lists
    now = passing w' h l some

    abbrev n : ℕ
    n = (live_height cut.live + end_row l.below) - h

    gone_is : ((c.blanks + sum (drop (c.kept + c.blanks) heights)) + end_row c.below) - h ≡ n
    gone_is = ap (λ b. ((c.blanks + sum (drop (c.kept + c.blanks) heights)) + end_row b) - h) o.below_is ∙ ap (λ v. (v + end_row l.below) - h) live_then

    end_small : (b : Bool) → end_row b ≤ 1
    end_small true = omega arith
    end_small false = omega arith

    more_is : (cut.reach - h) - (length cut.above + length cut.kept) ≡ n
    more_is =
        let r : cut.reach ≡ lists_height cut + end_row l.below = refl in
        let t : lists_height cut ≡ length cut.above + length cut.kept + live_height cut.live = refl in
        omega (arith, r, t)

    kept_now : length now.kept ≡ length cut.kept + n
    kept_now =
        let some_end : end_row l.below ≤ 1 = end_small l.below in
        let m = (cut.reach - h) - (length cut.above + length cut.kept) in
        let t : length (take m (live_rows w' cut.live)) ≡ min m (length (live_rows w' cut.live)) = length-take m (live_rows w' cut.live) in
        let v : length (live_rows w' cut.live) ≡ live_height cut.live = length-live w' cut.live in
        let all : length now.kept ≡ length cut.kept + length (take m (live_rows w' cut.live)) = length-append cut.kept (take m (live_rows w' cut.live)) in
        omega (arith, all, t, v, more_is, some_end, some)

    abbrev whole : Lists
    whole = settled_whole w' h cut

    abbrev gone : ℕ
    gone = (max now.reach (lists_height now) - h) - length now.above

    gone_now : gone ≡ (length cut.kept + live_height cut.live + end_row l.below) - h
    gone_now =
        let a : lists_height now ≡ lists_height cut = passing-height w' h l some in
        let r : now.reach ≡ lists_height cut + end_row l.below = refl in
        let t : lists_height cut ≡ length cut.above + length cut.kept + live_height cut.live = refl in
        let x : length now.above ≡ length cut.above = refl in
        omega (arith, a, r, t, x)

    reach_now : whole.reach ≡ length cut.above + length cut.kept + live_height cut.live + end_row l.below
    reach_now =
        let a : lists_height now ≡ lists_height cut = passing-height w' h l some in
        let r : now.reach ≡ lists_height cut + end_row l.below = refl in
        let t : lists_height cut ≡ length cut.above + length cut.kept + live_height cut.live = refl in
        let x : whole.reach ≡ max now.reach (lists_height now) = refl in
        omega (arith, a, r, t, x)

    reached_then : (sum (take c.kept heights) + (c.blanks + sum (drop (c.kept + c.blanks) heights)) + end_row c.below) ≡ length cut.kept + live_height cut.live + end_row l.below
    reached_then = ap (λ b. sum (take c.kept heights) + (c.blanks + sum (drop (c.kept + c.blanks) heights)) + end_row b) o.below_is ∙ omega (arith, kept_then, live_then)

    pub recut_counts_of : CountsOf c' whole
    recut_counts_of =
        let k : length cut.kept ≡ sum (take c.kept heights) = sym kept_then in
        let kn : length now.kept ≡ length cut.kept + n = kept_now in
        let g : gone ≡ (length cut.kept + live_height cut.live + end_row l.below) - h = gone_now in
        let d : length whole.kept ≡ length now.kept - gone = length-drop gone now.kept in
        let u : length whole.above ≡ length cut.above + min gone (length now.kept) =
        length-append cut.above (take gone now.kept) ∙ ap (λ i. length cut.above + i) (length-take gone now.kept) in
        let q = gone_is in
        let r = reached_then in
        record {
          kept_is = omega (arith, s.kept_is, k, kn, g, d, q, r);
          blanks_are = s.blanks_are ∙ ap (λ i. c.blanks - i) q ∙ ap (λ i. c.blanks - i) (sym more_is) ∙ ap (λ i. i - ((cut.reach - h) - (length cut.above + length cut.kept))) o.blanks_are;
          live_is = omega (arith, s.live_is, q, live_then, more_is, after_height (((cut.reach - h) - (length cut.above + length cut.kept)) - l.live.blanks) cut.live.segments);
          reached_is = omega (arith, s.reached_is, k, kn, g, u, q, r, reach_now);
          below_is = s.below_is ∙ o.below_is;
          under_is = s.under_is ∙ o.under_is;
        }
