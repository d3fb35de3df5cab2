-- Where a bar is dropped: what becomes of its lines, and of the counts.
use Rattle.std.proofs.Common.{◌≡◌, ℕ, ◌+◌, ◌-◌, ◌<◌, ◌≤◌, true, false, List, [], ◌∷◌, length, take, drop, refl, sym, ◌∙◌, ap, subst, arith, length-append, if◌then◌else◌, Bool, min, ◌^◌, ◌||◌}
use Rattle.std.specs.Prelude.{◌==◌, sum_by}
use Rattle.std.specs.List.{list_any}
use Rattle.std.proofs.lemmas.List.{drop-drop, drop-map, take-map}
use Rattle.std.proofs.lemmas.List.Sums.{sum_by-take-drop}
use Rattle.indicatif_term.specs.declared.engine.counts.Counts.{Counts}
use Rattle.indicatif_term.specs.declared.engine.counts.Keep.TheVariants.{Absent, Passed, Behind}
use Rattle.indicatif_term.specs.declared.engine.remembered.Remembered.{Remembered}
use Rattle.indicatif_term.specs.Counts.{CountsOf, RowCount, line_count, line_counts}
use Rattle.indicatif_term.specs.Remembered.{AreOwned, live_lines, Suits}
use Rattle.indicatif_term.specs.Inside.Counts.{IsPassed}
use Rattle.indicatif_term.specs.Inside.Owned.{run_length}
use Rattle.indicatif_term.specs.Lists.{Lists, Live, BarRows, fate, kept_of, passed, is_first, segments_height, live_rows}
use Rattle.indicatif_term.specs.Standing.{placed}
use Rattle.indicatif_term.specs.Inside.Changing.{placed_height}
use Rattle.indicatif_term.specs.declared.engine.remembered.StandingLine.{StandingLine}
use Rattle.indicatif_term.proofs.OwnedLemmas.{height_counted, rows_by, not_first, is_among, is_front, rest_owned, front_height}
use Rattle.indicatif_term.proofs.RememberedLemmas.{kept_shown}
use Rattle.indicatif_term.proofs.DrawingLemmas.{kept-failed, kept_forgets}
use Rattle.indicatif_term.proofs.CountLemmas.{length-live}

module _ (bar : ℕ) (l : Lists) (c : Counts) (r : Remembered) (o : AreOwned (line_counts (live_lines r)) l.live) (b : c.blanks ≡ l.live.blanks) where
  abbrev all : List RowCount
  all = line_counts (live_lines r)

  abbrev own : List RowCount
  own = line_counts (drop c.blanks (live_lines r))

  own_is : own ≡ drop l.live.blanks all
  own_is = sym (drop-map line_count c.blanks (live_lines r)) ∙ ap (λ n. drop n all) b

  stays : 0 ≡ run_length bar own → is_first bar l.live.segments ≡ false
  stays e = not_first bar all l.live o (e ∙ ap (run_length bar) own_is)

  pub stays_fate : 0 ≡ run_length bar own → (if list_any (λ (c : RowCount). c.bar == bar) own then Behind else Absent) ≡ fate bar l
  unfolding fate
  stays_fate e = ap (λ b. if b then Behind else Absent) (ap (list_any (λ (c : RowCount). c.bar == bar)) own_is ∙ is_among bar all l.live o) ∙ rw (stays e) refl

  pub stays_kept : (w : ℕ) → 0 ≡ run_length bar own → l ≡ kept_of w bar l
  unfolding kept_of
  stays_kept w e = rw (stays e) refl

  module _ (n : ℕ) (some : 0 < n) (e : n ≡ run_length bar own) where
    run : n ≡ run_length bar (drop l.live.blanks all)
    run = e ∙ ap (run_length bar) own_is

    passes : is_first bar l.live.segments ≡ true
    passes = is_front bar all l.live o n some run

    pub passes_fate : Passed ≡ fate bar l
    unfolding fate
    passes_fate = rw passes refl

    passes_kept : (w : ℕ) → passed w 1 l ≡ kept_of w bar l
    unfolding kept_of
    passes_kept w = rw passes refl

    pub kept_owned : (w : ℕ) (r' : Remembered) → r'.lines ≡ r.lines → r'.kept ≡ r.kept + (c.blanks + n) → AreOwned (line_counts (live_lines r')) (kept_of w bar l).live
    kept_owned w r' lines k =
        let left : line_counts (live_lines r') ≡ drop (l.live.blanks + n) all =
        ap (λ ls. line_counts (drop r'.kept ls)) lines ∙ ap (λ m. line_counts (drop m r.lines)) k ∙ ap line_counts (sym (drop-drop (c.blanks + n) r.kept r.lines))
        ∙ sym (drop-map line_count (c.blanks + n) (live_lines r)) ∙ ap (λ m. drop (m + n) all) b in
        subst (λ x. AreOwned (line_counts (live_lines r')) x.live) (passes_kept w)
        (subst (λ cs. AreOwned cs (passed w 1 l).live) (sym left) (rest_owned bar all l.live o n some run))

    module _ (rows : ℕ) (are : rows ≡ sum_by rows_by (take n own)) (counted : CountsOf c l) where
      first_height : segments_height (take 1 l.live.segments) ≡ rows
      first_height = front_height bar all l.live o n some run ∙ ap (λ cs. sum_by rows_by (take n cs)) (sym own_is) ∙ sym are

      split : segments_height (take 1 l.live.segments) + segments_height (drop 1 l.live.segments) ≡ segments_height l.live.segments
      split = sum_by-take-drop (λ (s : BarRows). length s.rows) l.live.segments 1

      pub in_live : c.blanks + rows ≤ c.live
      in_live = omega (arith, first_height, split, counted.live_is, b)

      pub kept_counts : (w : ℕ) (c' : Counts) → IsPassed c rows c' → CountsOf c' (kept_of w bar l)
      kept_counts w c' p =
          let gone : Live = record { blanks = l.live.blanks; segments = take 1 l.live.segments } in
          let is : CountsOf c' (passed w 1 l) = record {
            kept_is = omega (arith, p.kept_is, counted.kept_is, b, length-append l.kept (live_rows w gone), length-live w gone, first_height);
            blanks_are = p.blanks_are;
            live_is = omega (arith, p.live_is, counted.live_is, b, first_height, split);
            reached_is = rw p.reached_is counted.reached_is;
            below_is = p.below_is ∙ counted.below_is;
            under_is = p.under_is ∙ counted.under_is;
          } in
          subst (CountsOf c') (passes_kept w) is

-- ---- an engine

pub any_counts : (bar : ℕ) (ls : List StandingLine) → list_any (λ (l : StandingLine). l.bar == bar) ls ≡ list_any (λ (c : RowCount). c.bar == bar) (line_counts ls)
any_counts bar [] = refl
any_counts bar (l ∷ ls) = ap (λ b. (l.bar == bar) || b) (any_counts bar ls)

pub kept_suits : (w bar n rows : ℕ) (l : Lists) (c c' : Counts) (failed : Bool) (r r' : Remembered) → Suits c failed r l → 0 < n →
    n ≡ run_length bar (line_counts (drop c.blanks (live_lines r))) → rows ≡ min (placed_height (placed (take n (drop c.blanks (live_lines r))))) (2 ^ 64 - 1) →
    (c.blanks + rows ≤ c.live → IsPassed c rows c') → r'.lines ≡ r.lines → r'.kept ≡ r.kept + (c.blanks + n) → r'.width ≡ (if r.width == w then w else 0) → Suits c' failed r' (kept_of w bar l)
kept_suits w bar n rows l c c' failed r r' s some e height passes lines kept width =
    let o = s.owned in
    let b = s.counted.blanks_are in
    let own = drop c.blanks (live_lines r) in
    let sum : placed_height (placed (take n own)) ≡ sum_by rows_by (take n (line_counts own)) = height_counted (take n own) ∙ ap (sum_by rows_by) (sym (take-map line_count n own)) in
    let low = in_live bar l c r o b n some e (sum_by rows_by (take n (line_counts own))) refl s.counted in
    let fits : c.kept + c.live ≤ c.reached = c.fits in
    let small : c.reached ≤ 65535 = c.small in
    let rows_are : rows ≡ sum_by rows_by (take n (line_counts own)) = omega (arith, height, sum, low, fits, small) in
    let own_now = kept_owned bar l c r o b n some e w r' lines kept in
    record {
      counted = kept_counts bar l c r o b n some e rows rows_are s.counted w c' (passes (in_live bar l c r o b n some e rows rows_are s.counted));
      failed_is = s.failed_is ∙ sym (kept-failed w bar l);
      forgets = kept_forgets w bar l s.forgets;
      remembered = kept_shown w bar r r' l width lines own_now s.remembered;
      owned = own_now;
    }
