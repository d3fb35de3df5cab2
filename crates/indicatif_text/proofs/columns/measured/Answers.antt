use Rattle.std.proofs.Common.{◌∙◌, refl, sym, subst, ap, arith, chars, length}
use Rattle.std.proofs.lemmas.Bool.{false≢true}
use Rattle.indicatif_text.proofs.WidthLemmas.{visible_few, pass_shorter}
use Rattle.indicatif_text.proofs.WrappingLemmas.{MeasuredTo, reads_whole, reads_run, reads_wide, reads_end}
use Rattle.indicatif_text.proofs.columns.measured.Goals as goal

pub rest-init : goal.rest-init
rest-init c =
    let at = c.of-rest.ensures in
    record {
      reads = subst (MeasuredTo c.args.width 1 0 (chars c.args.line.now)) (sym at) (reads_whole c.args.width (chars c.args.line.now));
      fits = omega arith;
      small = omega (arith, ap length at, visible_few c.args.line.now c.utf8.line);
    }

pub returns-then-run-width : goal.returns-then-run-width
returns-then-run-width c =
    let pass = c.in-Some.ensures in
    let wide = reads_wide c.args.width _ _ _ _ (chars c.args.line.now) _ _ c.rest.invariant.reads pass.1 c.if-run-width.true pass.0 in
    record { none = ((λ e. wide), (λ e. refl)); height = tt; last = tt }

pub rest-preserved : goal.rest-preserved
rest-preserved c =
    let pass = c.in-Some.ensures in
    let e = c.after-rows.ensures in
    record {
      reads = reads_run c.args.width _ _ _ _ (chars c.args.line.now) _ _ c.rest.invariant.reads pass.1 _ _ (omega (arith, c.if-run-width.false)) e.ends;
      fits = e.within;
      small = omega (arith, c.rest.invariant.small, e.few, pass_shorter _ _ _ _ pass.1);
    }

pub returns : goal.returns
returns c =
    let whole = reads_end c.args.width _ _ (chars c.args.line.now) _ c.in_default.ensures c.rest.invariant.reads in
    record { none = ((λ e. cc), (λ wide. absurd (false≢true (sym whole.narrow ∙ wide)))); height = whole.height_is; last = whole.last_is }
