use Rattle.std.proofs.Common.{◌≡◌, ◌+◌, ◌-◌, ◌∙◌, take, drop, take_all, length, length-drop, refl, ap, arith}
use Rattle.std.specs.Prelude.{sum}
use Rattle.indicatif_term.specs.Inside.Recutting.{end_row}
use Rattle.indicatif_term.proofs.CutCountLemmas.{recut_counts_of}
use Rattle.indicatif_term.proofs.engine.counts.Counts.recut.Goals as goal

pub returns-clause-counts : goal.returns-clause-counts
returns-clause-counts c = λ w w' l o e.
    let counts = c.args.self.now in
    let hs = c.args.heights.now in
    let a = counts.kept + counts.blanks in
    let bars : take (length hs - a) (drop a hs) ≡ drop a hs = take_all (length hs - a) (drop a hs) (omega (arith, length-drop a hs)) in
    let kept : c.in_ok-kept.kept ≡ sum (take counts.kept hs) = c.in_ok-kept.ensures.rows in
    let live : c.in_ok-live.field-0 ≡ sum (drop a hs) = c.in_ok-live.ensures.rows ∙ ap sum bars in
    let end : c.rows_below-end.result ≡ end_row counts.below = c.rows_below-end.ensures in
    let gone = c.saturating_sub-gone.ensures in
    let scrolled = c.min-scrolled.ensures in
    let over = c.saturating_sub.ensures in
    recut_counts_of w w' c.args.height l counts _ o c.requires.some hs e (record {
      kept_is = omega (arith, kept, live, end, gone, scrolled, over);
      blanks_are = omega (arith, kept, live, end, gone, c.saturating_sub-2.ensures);
      live_is = omega (arith, live, end, gone);
      reached_is = omega (arith, kept, live, end, gone, scrolled, over);
      below_is = refl;
      under_is = refl;
    })
