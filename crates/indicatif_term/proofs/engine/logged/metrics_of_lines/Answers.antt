use Rattle.std.proofs.Common.{arith, ◌≡◌, refl, sym, ◌∙◌, ap, List, ℕ, map, chars, Err, Bor}
use Rattle.std.specs.Str.Iter.{lines_steps}
use Rattle.std.specs.Str.Lines.{lines}
use Rattle.std.proofs.lemmas.Result.{err_from_is_err_and}
use Rattle.std.proofs.lemmas.Iterator.Splits.{YieldsList-from_lines}
use Rattle.indicatif_term.specs.Lines.{text_lines}
use Rattle.indicatif_term.proofs.IteratorLemmas.{parted, next_came, all_came}
use Rattle.indicatif_term.proofs.MeasureLemmas.{text_refused, narrow_after, height_after, came_lines}
use Rattle.indicatif_term.proofs.LineEndLemmas.{nothing_ends_at, came_end}
use Rattle.indicatif_term.proofs.engine.logged.metrics_of_lines.Goals as goal

pub loop-line-init : goal.loop-line-init
loop-line-init c = record { narrow = refl; rows_are = refl; ends = sym (nothing_ends_at c.args.window.columns) }

pub returns-in_err-metrics-clause-measured : goal.returns-in_err-metrics-clause-measured
returns-in_err-metrics-clause-measured c =
    let x = err_from_is_err_and c.from_residual.result c.from_residual.ensures.1 in
    let text = c.args.text.now in
    let now = λ (line : Bor (List ℕ)). line.now in
    let p = parted lines_steps now (lines text) _ c.loop-line.yielded c.loop-line.line-iterator (YieldsList-from_lines text (ap (λ i. i.rest.now) c.into_iter-line-iterator.ensures.into_iter_gives
    ∙ c.lines-line-items.ensures.rest)).runs c.loop-line.yielded_by in
    let n = next_came lines_steps now (lines text) c.loop-line.yielded c.in-Some.line c.loop-line.line-iterator c.next.new.self p c.in-Some.ensures.steps in
    text_refused c.args.window.columns (lines text) c.loop-line.yielded c.in-Some.line n.0 c.in_err-metrics.field-0.0 c.from_residual.result (x.1 ∙ ap Err x.2)
    n.1 c.in_err-metrics.ensures.measured

pub loop-line-preserved : goal.loop-line-preserved
loop-line-preserved c =
    let came = text_lines (map (λ line. line.now) c.loop-line.yielded) in
    let line = chars c.in-Some.line.now in
    let m = c.in_ok-metrics.ensures.measured in
    rw (came_lines c.loop-line.yielded c.in-Some.line) (record {
      narrow = narrow_after c.args.window.columns came line c.loop-line.invariant.narrow m.0;
      rows_are = c.saturating_add.ensures ∙ omega (arith, c.loop-line.invariant.rows_are, m.1, height_after c.args.window.columns came line);
      ends = m.2 ∙ came_end c.args.window.columns c.loop-line.yielded c.in-Some.line;
    })

pub returns-clause-measured : goal.returns-clause-measured
returns-clause-measured c =
    let text = c.args.text.now in
    let now = λ (line : Bor (List ℕ)). line.now in
    let p = parted lines_steps now (lines text) _ c.loop-line.yielded c.loop-line.line-iterator (YieldsList-from_lines text (ap (λ i. i.rest.now) c.into_iter-line-iterator.ensures.into_iter_gives
    ∙ c.lines-line-items.ensures.rest)).runs c.loop-line.yielded_by in
    let e : lines text ≡ map now c.loop-line.yielded = all_came lines_steps now (lines text) c.loop-line.yielded c.loop-line.line-iterator c.next.new.self p c.in-None.ensures.steps in
    (rw e c.loop-line.invariant.narrow, rw e c.loop-line.invariant.rows_are, rw e c.loop-line.invariant.ends)
