use Rattle.std.proofs.Common.{◌≡◌, ◌-◌, ◌^◌, min, take, drop, refl, sym, ap, subst, ◌∙◌, arith, if◌then◌else◌}
use Rattle.std.proofs.Math.Logic.{∥∥₁_map}
use Rattle.indicatif_term.specs.declared.engine.counts.Keep.TheVariants.{Absent, Behind}
use Rattle.indicatif_term.specs.Lists.{kept_of}
use Rattle.indicatif_term.specs.Counts.{line_counts}
use Rattle.indicatif_term.specs.Standing.{placed}
use Rattle.indicatif_term.specs.Remembered.{live_lines}
use Rattle.indicatif_term.specs.Inside.Changing.{placed_height}
use Rattle.indicatif_term.specs.Inside.Owned.{run_length}
use Rattle.indicatif_term.specs.Engines.{engine_term, Fits}
use Rattle.indicatif_term.proofs.DrawingLemmas.{kept_rests}
use Rattle.indicatif_term.proofs.EngineLemmas.{fits_counts, fits_owned, blanks_known}
use Rattle.indicatif_term.proofs.EngineResizeLemmas.{fits_suits, suits_fits}
use Rattle.indicatif_term.proofs.KeepLemmas.{any_counts, stays_fate, stays_kept, passes_fate, kept_suits}
use Rattle.indicatif_term.proofs.engine.Engine.keep.Goals as goal

pub own-own-requires : goal.own-own-requires
own-own-requires g c = blanks_known c.args.self.now

pub returns-then-count-eq0-clause-fate : goal.returns-then-count-eq0-clause-fate
returns-then-count-eq0-clause-fate g c = λ l fits.
    let e = c.args.self.now in
    let own = drop e.counts.blanks (live_lines e.shown) in
    let run : 0 ≡ run_length c.args.bar (line_counts own) = sym c.if-count-eq0.true ∙ (rw c.own-own.ensures at c.run_of-count.ensures.run) in
    (rw c.own-own.ensures at c.behind_or_absent.ensures) ∙ ap (λ b. if b then Behind else Absent) (any_counts c.args.bar own)
    ∙ stays_fate c.args.bar l e.counts e.shown (fits_owned e l fits) (fits_counts e l fits).blanks_are run

pub returns-then-count-eq0-clause-lists : goal.returns-then-count-eq0-clause-lists
returns-then-count-eq0-clause-lists g c = λ l fits.
    let e = c.args.self.now in
    let w = (g.T.TermLike.view (engine_term e)).columns in
    let own = drop e.counts.blanks (live_lines e.shown) in
    let run : 0 ≡ run_length c.args.bar (line_counts own) = sym c.if-count-eq0.true ∙ (rw c.own-own.ensures at c.run_of-count.ensures.run) in
    subst (Fits e) (stays_kept c.args.bar l e.counts e.shown (fits_owned e l fits) (fits_counts e l fits).blanks_are w run) fits

pub returns-then-count-eq0-clause-rests : goal.returns-then-count-eq0-clause-rests
returns-then-count-eq0-clause-rests g c = λ w h l opening t r. kept_rests w h opening l c.args.bar t r

pub invariant_of-self : goal.invariant_of-self
invariant_of-self g c =
    let e = c.args.self.now in
    let w = (g.T.TermLike.view (engine_term e)).columns in
    let n = c.run_of-count.result in
    let own = drop e.counts.blanks (live_lines e.shown) in
    let run : n ≡ run_length c.args.bar (line_counts own) = rw c.own-own.ensures at c.run_of-count.ensures.run in
    let height : c.height_of-rows.result ≡ min (placed_height (placed (take n own))) (2 ^ 64 - 1) = rw c.own-own.ensures at c.height_of-rows.ensures in
    record {
      some = ∥∥₁_map e.some (λ x. (
        kept_of w c.args.bar x.0,
        kept_suits w c.args.bar n c.height_of-rows.result x.0 e.counts c.passed-self.result e.failed e.shown c.keep.new.self x.1 (omega (arith, c.if-count-eq0.false)) run height
            c.passed-self.ensures c.keep.ensures.lines c.keep.ensures.kept (rw c.width-width.ensures at c.keep.ensures.width),
      ));
    }

pub returns-clause-fate : goal.returns-clause-fate
returns-clause-fate g c = λ l fits.
    let e = c.args.self.now in
    let own = drop e.counts.blanks (live_lines e.shown) in
    let run : c.run_of-count.result ≡ run_length c.args.bar (line_counts own) = rw c.own-own.ensures at c.run_of-count.ensures.run in
    passes_fate c.args.bar l e.counts e.shown (fits_owned e l fits) (fits_counts e l fits).blanks_are c.run_of-count.result (omega (arith, c.if-count-eq0.false)) run

pub returns-clause-lists : goal.returns-clause-lists
returns-clause-lists g c = λ l fits.
    let e = c.args.self.now in
    let w = (g.T.TermLike.view (engine_term e)).columns in
    let n = c.run_of-count.result in
    let own = drop e.counts.blanks (live_lines e.shown) in
    let run : n ≡ run_length c.args.bar (line_counts own) = rw c.own-own.ensures at c.run_of-count.ensures.run in
    let height : c.height_of-rows.result ≡ min (placed_height (placed (take n own))) (2 ^ 64 - 1) = rw c.own-own.ensures at c.height_of-rows.ensures in
    suits_fits _ (kept_of w c.args.bar l) (kept_of w c.args.bar l) c.passed-self.result e.failed c.keep.new.self refl refl refl refl
    (kept_suits w c.args.bar n c.height_of-rows.result l e.counts c.passed-self.result e.failed e.shown c.keep.new.self (fits_suits e l fits) (omega (arith, c.if-count-eq0.false)) run height
    c.passed-self.ensures c.keep.ensures.lines c.keep.ensures.kept (rw c.width-width.ensures at c.keep.ensures.width))

pub returns-clause-rests : goal.returns-clause-rests
returns-clause-rests g c = λ w h l opening t r. kept_rests w h opening l c.args.bar t r
