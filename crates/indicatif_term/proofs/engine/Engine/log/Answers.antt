use Rattle.std.proofs.Common.{map, ◌≡◌, ◌≤◌, ◌+◌, [], ◌++◌, ◌∙◌, ap, arith, replicate, take, append_assoc, refl, subst, sym}
use Rattle.std.proofs.Math.Logic.{∥∥₁_map}
use Rattle.indicatif_term.specs.Lists.{Lists, logged}
use Rattle.indicatif_term.specs.Counts.{CountsOf}
use Rattle.indicatif_term.specs.Inside.MoveBytes.{reach_bytes}
use Rattle.indicatif_term.proofs.PaintingLemmas.{paint_bytes}
use Rattle.indicatif_term.proofs.LastLineLemmas.{fill_bytes}
use Rattle.indicatif_term.specs.Inside.Plans.{frame_lines, text_height}
use Rattle.indicatif_term.specs.Standing.{texts, AreLines}
use Rattle.indicatif_term.specs.Lines.{bar_lines, logged_lines, text_lines, all_lines, is_fault}
use Rattle.indicatif_term.specs.Remembered.{live_lines}
use Rattle.indicatif_term.specs.Engines.{engine_term, Fits, Paints, is_failure, lists_after}
use Rattle.indicatif_term.specs.Target.{is_bottom}
use Rattle.indicatif_term.proofs.SkippingLemmas.{logged_shown, some_lines, counted_refused, fits_refused}
use Rattle.indicatif_term.proofs.DrawingLemmas.{logged-adds, logged-known, logged-sound}
use Rattle.indicatif_term.proofs.LineEndLemmas.{log_fill}
use Rattle.indicatif_term.proofs.LaidLemmas.{planned_on, own_count, can_be_put, none_kept}
use Rattle.indicatif_term.proofs.EngineLemmas.{all_or_many, paints_refused, paints_by, led, fits_counts, fits_failed, fits_forgets, fits_by, suits_made, log_paints, narrow_both, answer_made}
use Rattle.indicatif_term.specs.Inside.Remembered.{DrawWrites}
use Rattle.indicatif_term.proofs.WritingLemmas.{whole_bytes}
use Rattle.indicatif_term.proofs.LoggedLineLemmas.{logged_length, logged_utf8}
use Rattle.indicatif_term.proofs.engine.Engine.log.Goals as goal

pub returns-in_err-window-clause-paints : goal.returns-in_err-window-clause-paints
returns-in_err-window-clause-paints g c = λ l fits plain.
    paints_refused _ c.from_residual.result c.in_err-window.field-0.0 l _ c.from_residual.ensures.1 (ap is_fault c.in_err-window.ensures.0)

pub returns-in_err-metrics-clause-paints : goal.returns-in_err-metrics-clause-paints
returns-in_err-metrics-clause-paints g c = λ l fits plain.
    paints_refused _ c.from_residual-in_err-metrics.result c.in_err-metrics.field-0.0 l _ c.from_residual-in_err-metrics.ensures.1 c.in_err-metrics.ensures.measured.0

pub returns-in_err-plan_drawing-clause-paints : goal.returns-in_err-plan_drawing-clause-paints
returns-in_err-plan_drawing-clause-paints g c = λ l fits plain.
    paints_refused _ c.from_residual-in_err-plan_drawing.result c.in_err-plan_drawing.field-0.0 l _ c.from_residual-in_err-plan_drawing.ensures.1 c.in_err-plan_drawing.ensures.planned.0

pub store-requires-clause-fits : goal.store-requires-clause-fits
store-requires-clause-fits g c =
    let s = g.T.TermLike.view (engine_term c.args.self.now) in
    let columns = c.in_ok-window.ensures.0 in
    let rows_are = c.in_ok-window.ensures.1 in
    let p = planned_on _ s.columns _ s.rows _ _ _ _ _ _ columns rows_are c.in_ok-plan_drawing.ensures.planned in
    can_be_put c.in_ok-window.window.columns s.columns s.rows 0 _ c.args.self.now.shown c.args.frame.now c.plan_drawing.new.laid columns (omega arith)
    (λ some. absurd (omega (arith, some, c.in_ok-plan_drawing.ensures.whole refl))) tt p.frame_is

pub returns-in_err-from-clause-memory : goal.returns-in_err-from-clause-memory
returns-in_err-from-clause-memory g c = λ e.
    let s = g.T.TermLike.view (engine_term c.args.self.now) in
    let columns = c.in_ok-window.ensures.0 in
    let rows_are = c.in_ok-window.ensures.1 in
    let p = planned_on _ s.columns _ s.rows _ _ _ _ _ _ columns rows_are c.in_ok-plan_drawing.ensures.planned in
    let f = p.frame_is in
    let old = c.args.self.now.counts in
    let l = c.plan_drawing.new.laid in (
      rw columns at c.in_ok-window.window.some,
      some_lines s.columns s.rows 0 l.blanks (old.kept + old.live) c.in_ok-metrics.metrics.height _ c.args.frame.now l.plan f.plan_is
          (p.blanks_are.are (old.kept + old.live) c.in_ok-metrics.metrics.height c.saturating_sub.ensures)
          (omega (arith, own_count s.columns s.rows (live_lines c.args.self.now.shown) _ _ l f.is_laid, c.in_err-from.ensures.refused.1)),
    )

pub returns-in_err-from-clause-counted : goal.returns-in_err-from-clause-counted
returns-in_err-from-clause-counted g c =
    counted_refused _ _ c.from_residual-in_err-from.result c.in_err-from.field-0.0 (ap (λ t. g.T.TermLike.view t) c.store.ensures.terminal) c.from_residual-in_err-from.ensures.1
    (ap is_fault c.in_err-from.ensures.refused.0)

pub returns-in_err-from-clause-lists : goal.returns-in_err-from-clause-lists
unfolding Fits
returns-in_err-from-clause-lists g c = λ l fits.
    fits_refused _ _ c.from_residual-in_err-from.result c.in_err-from.field-0.0 l _ c.in_err-from.ensures.refused.2 c.from_residual-in_err-from.ensures.1
    (ap is_fault c.in_err-from.ensures.refused.0) fits

pub returns-in_err-from-clause-paints : goal.returns-in_err-from-clause-paints
returns-in_err-from-clause-paints g c = λ l fits plain.
    let s = g.T.TermLike.view (engine_term c.args.self.now) in
    let r = c.from_residual-in_err-from.result in
    let l' = logged s.columns s.rows (is_bottom c.args.alignment) (text_lines (logged_lines c.args.text.now)) (map bar_lines c.args.frame.now) l in
    subst (λ t. Paints s (g.T.TermLike.view t) (is_failure r) l (lists_after r l l')) (sym c.store.ensures.terminal)
    (paints_refused s r c.in_err-from.field-0.0 l l' c.from_residual-in_err-from.ensures.1 (ap is_fault c.in_err-from.ensures.refused.0))

pub store-requires-clause-suits : goal.store-requires-clause-suits
store-requires-clause-suits g c = λ r ls put is.
    let s = g.T.TermLike.view (engine_term c.args.self.now) in
    let frame = map bar_lines c.args.frame.now in
    let bottom = is_bottom c.args.alignment in
    let columns = c.in_ok-window.ensures.0 in
    let rows_are = c.in_ok-window.ensures.1 in
    let p = planned_on _ s.columns _ s.rows _ _ _ _ _ _ columns rows_are c.in_ok-plan_drawing.ensures.planned in
    let m = rw (columns, c.of-logged.ensures.lines) at c.in_ok-metrics.ensures.measured in
    let f = p.frame_is in
    let o = f.is_laid in
    let win = c.in_ok-window.window in
    let l = c.plan_drawing.new.laid in
    let old = c.args.self.now.counts in
    let rows = c.in_ok-metrics.metrics.height in
    let text = text_lines (logged_lines c.args.text.now) in
    let blanks = rw c.is_bottom.ensures at (p.blanks_are.are (old.kept + old.live) c.in_ok-metrics.metrics.height c.saturating_sub.ensures) in
    ∥∥₁_map c.args.self.now.some (λ x.
    let x' = logged s.columns s.rows bottom text frame x.0 in
    let next = rw rows_are at (c.logged-next.ensures s.columns bottom text frame x.0 x.1.counted (rw (← rows_are) at f.plan_is) m.1 blanks) in (
      x',
      suits_made c.logged-next.result r x' next (logged-sound s.columns s.rows bottom text frame x.0)
          (logged_shown win.columns s.columns s.rows rows l.blanks bottom text c.args.frame.now x.0 old l.plan ls o.counts r columns
          (rw (none_kept s.columns s.rows frame l.plan l.blanks f.plan_is) at is) x.1.counted f.plan_is m.1 blanks
          (put.texts_are ∙ o.texts_are) (put.counts_are ∙ o.counts_are) o.laid.counts_are put.right),
    ))

pub returns-clause-answer : goal.returns-clause-answer
returns-clause-answer g c =
    let text = text_lines (logged_lines c.args.text.now) in
    let frame = all_lines (map bar_lines c.args.frame.now) in
    let s = g.T.TermLike.view (engine_term c.args.self.now) in
    let columns = c.in_ok-window.ensures.0 in
    let rows_are = c.in_ok-window.ensures.1 in
    let p = planned_on _ s.columns _ s.rows _ _ _ _ _ _ columns rows_are c.in_ok-plan_drawing.ensures.planned in
    let m = rw (columns, c.of-logged.ensures.lines) at c.in_ok-metrics.ensures.measured in
    let w = c.in_ok-window.window.columns in
    rw (← columns) (answer_made w (text ++ frame) _ _ c.write.result c.write.new.self
    c.write.ensures.remembers c.in_ok-window.window.some
    (rw (← columns) at (narrow_both (g.T.TermLike.view (engine_term c.args.self.now)).columns text frame m.0 p.frame_is.narrow)))

pub returns-clause-lists : goal.returns-clause-lists
returns-clause-lists g c = λ x fits.
    let s = g.T.TermLike.view (engine_term c.args.self.now) in
    let frame = map bar_lines c.args.frame.now in
    let bottom = is_bottom c.args.alignment in
    let columns = c.in_ok-window.ensures.0 in
    let rows_are = c.in_ok-window.ensures.1 in
    let p = planned_on _ s.columns _ s.rows _ _ _ _ _ _ columns rows_are c.in_ok-plan_drawing.ensures.planned in
    let m = rw (columns, c.of-logged.ensures.lines) at c.in_ok-metrics.ensures.measured in
    let f = p.frame_is in
    let o = f.is_laid in
    let win = c.in_ok-window.window in
    let l = c.plan_drawing.new.laid in
    let old = c.args.self.now.counts in
    let rows = c.in_ok-metrics.metrics.height in
    let text = text_lines (logged_lines c.args.text.now) in
    let blanks = rw c.is_bottom.ensures at (p.blanks_are.are (old.kept + old.live) c.in_ok-metrics.metrics.height c.saturating_sub.ensures) in
    let y = c.in_ok-from.ensures.next in
    let put = y.1 in
    let q = fits_counts c.args.self.now x fits in
    let x' = logged s.columns s.rows bottom text frame x in
    let next = rw rows_are at (c.logged-next.ensures s.columns bottom text frame x q (rw (← rows_are) at f.plan_is) m.1 blanks) in
    fits_by _ c.store.new.self.shown c.write.result c.write.new.self x x' c.write.ensures.remembers (subst (λ k. CountsOf k x') (sym c.in_ok-from.ensures.made.0) next)
    (logged-sound s.columns s.rows bottom text frame x)
    (logged_shown win.columns s.columns s.rows rows l.blanks bottom text c.args.frame.now x old l.plan y.0 o.counts c.store.new.self.shown columns
    (rw (none_kept s.columns s.rows frame l.plan l.blanks f.plan_is) at y.2) q f.plan_is m.1 blanks
    (put.texts_are ∙ o.texts_are) (put.counts_are ∙ o.counts_are) o.laid.counts_are put.right)

pub returns-clause-paints : goal.returns-clause-paints
returns-clause-paints g c = λ x fits plain.
    let e = c.args.self.now in
    let s = g.T.TermLike.view (engine_term e) in
    let frame = map bar_lines c.args.frame.now in
    let bottom = is_bottom c.args.alignment in
    let old = e.counts in
    let taken = old.kept + old.live in
    let columns = c.in_ok-window.ensures.0 in
    let rows_are = c.in_ok-window.ensures.1 in
    let p = planned_on _ s.columns _ s.rows _ _ _ _ _ _ columns rows_are c.in_ok-plan_drawing.ensures.planned in
    let m = rw (columns, c.of-logged.ensures.lines) at c.in_ok-metrics.ensures.measured in
    let f = p.frame_is in
    let l = c.plan_drawing.new.laid in
    let plan = l.plan in
    let win = c.in_ok-window.window in
    let rows = c.in_ok-metrics.metrics.height in
    let text = logged_lines c.args.text.now in
    let fresh = c.fresh-fresh.result in
    let end = c.saturating_add-end.result in
    let below = c.logged-next.result.below in
    let ends : end ≤ text_height s.columns (text_lines text) + (l.blanks + plan.rows) = omega (arith, c.saturating_add-end.ensures, m.1) in
    let lasts = all_or_many (text_height s.columns (text_lines text)) (l.blanks + plan.rows) rows end m.1 c.saturating_add-end.ensures in
    let blanks = rw c.is_bottom.ensures at (p.blanks_are.are (old.kept + old.live) c.in_ok-metrics.metrics.height c.saturating_sub.ensures) in
    let next = λ (x : Lists) (is : CountsOf old x). rw rows_are at (c.logged-next.ensures s.columns bottom (text_lines text) frame x is (rw (← rows_are) at f.plan_is) m.1 blanks) in
    let lines = text ++ replicate l.blanks [] ++ take plan.lines (frame_lines c.args.frame.now) in
    let y = c.in_ok-from.ensures.next in
    let ls = y.0 in
    let put = y.1 in
    let all : text ++ texts ls ≡ lines = ap (λ xs. text ++ xs) (put.texts_are ∙ f.is_laid.texts_are)
    ∙ sym (append_assoc text (replicate l.blanks []) (take plan.lines (frame_lines c.args.frame.now))) in
    let right = subst (λ k. AreLines k ls) columns put.right in
    let fill = log_fill s.columns text ls below c.last_column.result c.unwrap_or-last.result c.fill.result (logged_length c.args.text.now) right
    (rw (c.behind.ensures ∙ y.4) at c.last_column.ensures) (rw m.2 at c.unwrap_or-last.ensures) (rw columns at c.fill.ensures) ∙ ap (fill_bytes below s.columns) all in
    let v' = g.T.TermLike.view (engine_term c.write.new.self) in
    let bytes = reach_bytes fresh.down fresh.rows ++ (paint_bytes old.below taken lines below ++ fill_bytes below s.columns lines) in
    let written = whole_bytes e.failed old.below below fresh taken win.columns c.fill.result text ls in
    let writes : DrawWrites (led e.failed bytes) s v' c.write.result = rw (c.store.ensures.terminal, c.of-logged.ensures.lines, y.4, written, all, fill) at c.write.ensures.draws in
    paints_by s v' old _ _ c.write.result c.write.new.self e.failed x (logged s.columns s.rows bottom (text_lines text) frame) bytes c.write.ensures.remembers (fits_failed e x fits) writes
    (λ z is. log_paints s.columns s.rows z old c.logged-next.result rows l.blanks bottom text c.args.frame.now plan end fresh
    (rw columns at win.some) (logged_utf8 c.args.text.now c.utf8.text) plain m.0 f.narrow is.counts f.plan_is (next z is.counts) m.1 blanks
    (rw rows_are at c.fresh-fresh.ensures) ends lasts) (fits_counts e x fits)
    (fits_forgets e x fits) (logged-sound s.columns s.rows bottom (text_lines text) frame x) (logged-adds s.columns s.rows bottom (text_lines text) frame x)
    (logged-known s.columns s.rows bottom (text_lines text) frame x)
