use Rattle.std.proofs.Common.{map, arith, ◌∙◌, ◌≡◌, refl, [], ◌++◌, replicate, take, drop, sym, ap, subst}
use Rattle.std.proofs.Math.Logic.{∥∥₁_map}
use Rattle.indicatif_term.specs.Inside.Remembered.{DrawWrites}
use Rattle.indicatif_term.specs.Lists.{Lists, drawn, blanks_for}
use Rattle.indicatif_term.specs.Counts.{CountsOf}
use Rattle.indicatif_term.specs.Standing.{placed, texts, AreLines}
use Rattle.indicatif_term.specs.Remembered.{live_lines}
use Rattle.indicatif_term.specs.Inside.Writings.{CanWrite, writing_bytes, whole_writing}
use Rattle.indicatif_term.specs.Inside.Plans.{frame_lines}
use Rattle.indicatif_term.specs.Lines.{bar_lines, is_fault}
use Rattle.indicatif_term.specs.Engines.{engine_term, Fits, Paints, is_failure, lists_after}
use Rattle.indicatif_term.specs.Target.{is_bottom}
use Rattle.indicatif_term.specs.Inside.Changing.{placed_height}
use Rattle.indicatif_term.proofs.LastLineLemmas.{fill_bytes}
use Rattle.indicatif_term.proofs.DrawingLemmas.{drawn-adds, drawn-known, drawn-sound}
use Rattle.indicatif_term.proofs.LineEndLemmas.{draw_fill}
use Rattle.indicatif_term.proofs.LaidLemmas.{planned_on, own_count, can_be_put, put_height, put_sits}
use Rattle.indicatif_term.proofs.EngineLemmas.{paints_refused, paints_by, fits_counts, fits_failed, fits_forgets, fits_by, fits_shown}
use Rattle.indicatif_term.proofs.SkippingLemmas.{drawn_shown, drawn_suits, counted_by, some_lines, counted_refused, fits_refused}
use Rattle.indicatif_term.proofs.ChosenLemmas.{chosen_can, chosen_draws, still_draws, still_writing}
use Rattle.indicatif_term.proofs.StillLemmas.{left, is_still}
use Rattle.indicatif_term.proofs.engine.Engine.draw.Goals as goal

pub returns-in_err-window-clause-paints : goal.returns-in_err-window-clause-paints
returns-in_err-window-clause-paints g c = λ l fits plain.
    paints_refused _ c.from_residual.result c.in_err-window.field-0.0 l _ c.from_residual.ensures.1 (ap is_fault c.in_err-window.ensures.0)

pub returns-in_err-plan_drawing-clause-paints : goal.returns-in_err-plan_drawing-clause-paints
returns-in_err-plan_drawing-clause-paints g c = λ l fits plain.
    paints_refused _ c.from_residual-in_err-plan_drawing.result c.in_err-plan_drawing.field-0.0 l _ c.from_residual-in_err-plan_drawing.ensures.1 c.in_err-plan_drawing.ensures.planned.0

pub store-requires-clause-fits : goal.store-requires-clause-fits
store-requires-clause-fits g c =
    let s = g.T.TermLike.view (engine_term c.args.self.now) in
    let columns = c.in_ok-window.ensures.0 in
    let rows_are = c.in_ok-window.ensures.1 in
    let p = planned_on _ s.columns _ s.rows _ _ _ _ _ _ columns rows_are c.in_ok-plan_drawing.ensures.planned in
    can_be_put c.in_ok-window.window.columns s.columns s.rows c.args.pass c.above-above.result c.args.self.now.shown c.args.frame.now c.plan_drawing.new.laid columns
    c.above-above.ensures.within (λ some. let same = p.known some ∙ sym columns in (same, c.above-above.ensures.known same))
    (c.above-above.ensures.right c.in_ok-window.window.some) p.frame_is

pub writing-writing-requires : goal.writing-writing-requires
writing-writing-requires g c =
    let s = g.T.TermLike.view (engine_term c.args.self.now) in
    let x = c.in_ok-from.ensures.next in
    let l = c.plan_drawing.new.laid in
    put_height c.in_ok-window.window.columns s.columns s.rows (live_lines c.args.self.now.shown) x.0 _ _ l
    (planned_on _ s.columns _ s.rows _ _ _ _ _ _ c.in_ok-window.ensures.0 c.in_ok-window.ensures.1 c.in_ok-plan_drawing.ensures.planned).frame_is.is_laid x.1
    ∙ ap (λ ls. placed_height (placed ls)) (sym (c.behind.ensures ∙ x.4))

pub returns-in_err-from-clause-memory : goal.returns-in_err-from-clause-memory
returns-in_err-from-clause-memory g c = λ e.
    let s = g.T.TermLike.view (engine_term c.args.self.now) in
    let columns = c.in_ok-window.ensures.0 in
    let rows_are = c.in_ok-window.ensures.1 in
    let p = planned_on _ s.columns _ s.rows _ _ _ _ _ _ columns rows_are c.in_ok-plan_drawing.ensures.planned in
    let f = p.frame_is in
    let l = c.plan_drawing.new.laid in (
      rw columns at c.in_ok-window.window.some,
      some_lines s.columns s.rows c.args.pass l.blanks c.args.self.now.counts.live 0 _ c.args.frame.now l.plan f.plan_is (p.blanks_are.are c.args.self.now.counts.live 0 (omega arith))
          (omega (arith, own_count s.columns s.rows (live_lines c.args.self.now.shown) _ _ l f.is_laid, c.in_err-from.ensures.refused.1)),
    )

pub returns-in_err-from-clause-counted : goal.returns-in_err-from-clause-counted
returns-in_err-from-clause-counted g c =
    counted_refused _ _ c.from_residual-in_err-from.result c.in_err-from.field-0.0 (ap (λ t. g.T.TermLike.view t) c.store.ensures.terminal) c.from_residual-in_err-from.ensures.1
    (ap is_fault c.in_err-from.ensures.refused.0)

pub returns-in_err-from-clause-lists : goal.returns-in_err-from-clause-lists
unfolding Fits
returns-in_err-from-clause-lists g c = λ l fits.
    fits_refused _ _ c.from_residual-in_err-from.result c.in_err-from.field-0.0 l _ c.in_err-from.ensures.refused.2 c.from_residual-in_err-from.ensures.1
    (ap is_fault c.in_err-from.ensures.refused.0) fits

pub returns-in_err-from-clause-paints : goal.returns-in_err-from-clause-paints
returns-in_err-from-clause-paints g c = λ l fits plain.
    let s = g.T.TermLike.view (engine_term c.args.self.now) in
    let r = c.from_residual-in_err-from.result in
    let l' = drawn s.columns s.rows (is_bottom c.args.alignment) c.args.pass (map bar_lines c.args.frame.now) l in
    subst (λ t. Paints s (g.T.TermLike.view t) (is_failure r) l (lists_after r l l')) (sym c.store.ensures.terminal)
    (paints_refused s r c.in_err-from.field-0.0 l l' c.from_residual-in_err-from.ensures.1 (ap is_fault c.in_err-from.ensures.refused.0))

pub store-requires-clause-suits : goal.store-requires-clause-suits
store-requires-clause-suits g c = λ r ls put is.
    let s = g.T.TermLike.view (engine_term c.args.self.now) in
    let frame = map bar_lines c.args.frame.now in
    let bottom = is_bottom c.args.alignment in
    let columns = c.in_ok-window.ensures.0 in
    let rows_are = c.in_ok-window.ensures.1 in
    let p = planned_on _ s.columns _ s.rows _ _ _ _ _ _ columns rows_are c.in_ok-plan_drawing.ensures.planned in
    let f = p.frame_is in
    let o = f.is_laid in
    let win = c.in_ok-window.window in
    let l = c.plan_drawing.new.laid in
    let old = c.args.self.now.counts in
    let blanks : l.blanks ≡ blanks_for bottom old.live 0 l.plan.rows = rw c.is_bottom.ensures at (p.blanks_are.are old.live 0 (omega arith)) in
    let kept = drop c.above-above.result.from (take c.above-above.result.to c.args.self.now.shown.lines) in
    let next = λ (x : Lists) (q : CountsOf old x). rw rows_are at (c.drawn-next.ensures s.columns c.args.pass bottom frame x q (rw (← rows_are) at f.plan_is) blanks) in
    ∥∥₁_map c.args.self.now.some (λ x. (
      drawn s.columns s.rows bottom c.args.pass frame x.0,
      drawn_suits win.columns s.columns s.rows c.args.pass l.blanks bottom c.args.frame.now x.0 old c.drawn-next.result l.plan kept ls o.counts r columns is
          x.1.counted f.plan_is blanks (put.texts_are ∙ o.texts_are) (put.counts_are ∙ o.counts_are) o.laid.counts_are put.right
          (c.above-above.ensures.above x.0 win.some x.1.remembered) (next x.0 x.1.counted),
    ))

pub write-requires-clause-can : goal.write-requires-clause-can
write-requires-clause-can g c =
    let e = c.args.self.now in
    let x = c.in_ok-from.ensures.next in
    let ls = x.0 in
    let lines = c.behind.ensures ∙ x.4 in
    let whole = whole_writing e.counts e.failed c.fresh-fresh.result c.drawn-next.result c.in_ok-window.window.columns ls in
    subst (λ xs. CanWrite c.writing-writing.result.manner xs) (sym x.4)
    (chosen_can e.counts e.failed e.shown.width c.drawn-next.result ls whole c.writing-writing.result refl x.1.ready (rw lines at c.writing-writing.ensures))

pub returns-clause-counted : goal.returns-clause-counted
returns-clause-counted g c =
    let v = g.T.TermLike.view (engine_term c.args.self.now) in
    let v' = g.T.TermLike.view (engine_term c.write.new.self) in
    counted_by _ v v' _ _ c.write.result c.write.new.self c.write.ensures.remembers (rw c.store.ensures.terminal at c.write.ensures.draws)

pub returns-clause-lists : goal.returns-clause-lists
returns-clause-lists g c = λ x fits.
    let s = g.T.TermLike.view (engine_term c.args.self.now) in
    let frame = map bar_lines c.args.frame.now in
    let bottom = is_bottom c.args.alignment in
    let columns = c.in_ok-window.ensures.0 in
    let rows_are = c.in_ok-window.ensures.1 in
    let p = planned_on _ s.columns _ s.rows _ _ _ _ _ _ columns rows_are c.in_ok-plan_drawing.ensures.planned in
    let f = p.frame_is in
    let o = f.is_laid in
    let win = c.in_ok-window.window in
    let l = c.plan_drawing.new.laid in
    let old = c.args.self.now.counts in
    let blanks : l.blanks ≡ blanks_for bottom old.live 0 l.plan.rows = rw c.is_bottom.ensures at (p.blanks_are.are old.live 0 (omega arith)) in
    let kept = drop c.above-above.result.from (take c.above-above.result.to c.args.self.now.shown.lines) in
    let next = λ (x : Lists) (q : CountsOf old x). rw rows_are at (c.drawn-next.ensures s.columns c.args.pass bottom frame x q (rw (← rows_are) at f.plan_is) blanks) in
    let q = fits_counts c.args.self.now x fits in
    let x' = drawn s.columns s.rows bottom c.args.pass frame x in
    let put = c.in_ok-from.ensures.next.1 in
    let is = c.in_ok-from.ensures.next.2 in
    fits_by _ c.store.new.self.shown c.write.result c.write.new.self x x' c.write.ensures.remembers (subst (λ k. CountsOf k x') (sym c.in_ok-from.ensures.made.0) (next x q))
    (drawn-sound s.columns s.rows bottom c.args.pass frame x)
    (drawn_shown win.columns s.columns s.rows c.args.pass l.blanks bottom c.args.frame.now x old l.plan kept c.in_ok-from.ensures.next.0 o.counts c.store.new.self.shown columns
    is q f.plan_is blanks (put.texts_are ∙ o.texts_are) (put.counts_are ∙ o.counts_are) o.laid.counts_are put.right
    (c.above-above.ensures.above x win.some (fits_shown c.args.self.now x fits)))

pub returns-clause-paints : goal.returns-clause-paints
returns-clause-paints g c = λ x fits plain.
    let e = c.args.self.now in
    let s = g.T.TermLike.view (engine_term e) in
    let frame = map bar_lines c.args.frame.now in
    let bottom = is_bottom c.args.alignment in
    let columns = c.in_ok-window.ensures.0 in
    let rows_are = c.in_ok-window.ensures.1 in
    let p = planned_on _ s.columns _ s.rows _ _ _ _ _ _ columns rows_are c.in_ok-plan_drawing.ensures.planned in
    let f = p.frame_is in
    let o = f.is_laid in
    let win = c.in_ok-window.window in
    let l = c.plan_drawing.new.laid in
    let old = e.counts in
    let blanks : l.blanks ≡ blanks_for bottom old.live 0 l.plan.rows = rw c.is_bottom.ensures at (p.blanks_are.are old.live 0 (omega arith)) in
    let next = λ (x : Lists) (q : CountsOf old x). rw rows_are at (c.drawn-next.ensures s.columns c.args.pass bottom frame x q (rw (← rows_are) at f.plan_is) blanks) in
    let y = c.in_ok-from.ensures.next in
    let ls = y.0 in
    let put = y.1 in
    let lines = c.behind.ensures ∙ y.4 in
    let t : texts ls ≡ replicate l.blanks [] ++ take l.plan.lines (frame_lines c.args.frame.now) = put.texts_are ∙ o.texts_are in
    let known = fits_shown e x fits in
    let q = c.writing-writing.result in
    let v' = g.T.TermLike.view (engine_term c.write.new.self) in
    let right = subst (λ k. AreLines k ls) columns put.right in
    let below = c.drawn-next.result.below in
    let fill = draw_fill s.columns ls below _ _ right refl (ap (λ k. (whole_writing old e.failed c.fresh-fresh.result c.drawn-next.result k ls).fill) columns)
    ∙ ap (fill_bytes below s.columns) t in
    let d = chosen_draws old e.failed e.shown win.columns s.columns s.rows c.args.pass l.blanks _ bottom c.drawn-next.result c.args.frame.now l.plan ls c.fresh-fresh.result q x columns
    (rw columns at win.some) plain f.narrow f.plan_is next blanks t right (put_sits win.columns s.columns e.shown l x ls columns win.some put known)
    (rw rows_are at c.fresh-fresh.ensures) fill (fits_counts e x fits) known (rw lines at c.writing-writing.ensures) in
    let writes : DrawWrites (writing_bytes q [] ls) s v' c.write.result = rw (c.store.ensures.terminal, y.4) at c.write.ensures.draws in
    paints_by s v' old _ _ c.write.result c.write.new.self e.failed x (drawn s.columns s.rows bottom c.args.pass frame) d.0 c.write.ensures.remembers (fits_failed e x fits)
    (subst (λ b. DrawWrites b s v' c.write.result) d.1 writes) d.2 (fits_counts e x fits) (fits_forgets e x fits) (drawn-sound s.columns s.rows bottom c.args.pass frame x)
    (drawn-adds s.columns s.rows bottom c.args.pass frame x) (drawn-known s.columns s.rows bottom c.args.pass frame x)

pub rest-requires-clause-suits : goal.rest-requires-clause-suits
rest-requires-clause-suits g c =
    let e = c.args.self.now in
    let s = g.T.TermLike.view (engine_term e) in
    let frame = map bar_lines c.args.frame.now in
    let bottom = is_bottom c.args.alignment in
    let columns = c.in_ok-window.ensures.0 in
    let rows_are = c.in_ok-window.ensures.1 in
    let p = planned_on _ s.columns _ s.rows _ _ _ _ _ _ columns rows_are c.in_ok-plan_drawing.ensures.planned in
    let f = p.frame_is in
    let o = f.is_laid in
    let win = c.in_ok-window.window in
    let l = c.plan_drawing.new.laid in
    let old = e.counts in
    let blanks : l.blanks ≡ blanks_for bottom old.live 0 l.plan.rows = rw c.is_bottom.ensures at (p.blanks_are.are old.live 0 (omega arith)) in
    let above = c.above-above.result in
    let next = λ (x : Lists) (q : CountsOf old x). rw rows_are at (c.drawn-next.ensures s.columns c.args.pass bottom frame x q (rw (← rows_are) at f.plan_is) blanks) in
    let st = rw c.live.ensures at (c.stands.ensures c.if-stands.true) in
    let width = p.known (omega (arith, st.all, st.some)) ∙ sym columns in
    let z = is_still old e.failed _ win.columns c.drawn-next.result above e.shown l win.some (c.above-above.ensures.known width) width st in
    ∥∥₁_map e.some (λ x. (
      drawn s.columns s.rows bottom c.args.pass frame x.0,
      drawn_suits win.columns s.columns s.rows c.args.pass l.blanks bottom c.args.frame.now x.0 old c.drawn-next.result l.plan (drop above.from (take above.to e.shown.lines)) (live_lines e.shown)
          o.counts e.shown columns z.next x.1.counted f.plan_is blanks (z.texts_are ∙ o.texts_are) (z.counts_are ∙ o.counts_are) o.laid.counts_are z.right
          (c.above-above.ensures.above x.0 win.some x.1.remembered) (next x.0 x.1.counted),
    ))

pub returns-then-stands-clause-counted : goal.returns-then-stands-clause-counted
returns-then-stands-clause-counted g c =
    counted_by _ (g.T.TermLike.view (engine_term c.args.self.now)) (g.T.TermLike.view (engine_term c.rest.new.self)) _ _ c.rest.result c.rest.new.self c.rest.ensures.remembers c.rest.ensures.draws

pub returns-then-stands-clause-lists : goal.returns-then-stands-clause-lists
returns-then-stands-clause-lists g c = λ x fits.
    let e = c.args.self.now in
    let s = g.T.TermLike.view (engine_term e) in
    let frame = map bar_lines c.args.frame.now in
    let bottom = is_bottom c.args.alignment in
    let columns = c.in_ok-window.ensures.0 in
    let rows_are = c.in_ok-window.ensures.1 in
    let p = planned_on _ s.columns _ s.rows _ _ _ _ _ _ columns rows_are c.in_ok-plan_drawing.ensures.planned in
    let f = p.frame_is in
    let o = f.is_laid in
    let win = c.in_ok-window.window in
    let l = c.plan_drawing.new.laid in
    let old = e.counts in
    let blanks : l.blanks ≡ blanks_for bottom old.live 0 l.plan.rows = rw c.is_bottom.ensures at (p.blanks_are.are old.live 0 (omega arith)) in
    let above = c.above-above.result in
    let next = λ (x : Lists) (q : CountsOf old x). rw rows_are at (c.drawn-next.ensures s.columns c.args.pass bottom frame x q (rw (← rows_are) at f.plan_is) blanks) in
    let st = rw c.live.ensures at (c.stands.ensures c.if-stands.true) in
    let width = p.known (omega (arith, st.all, st.some)) ∙ sym columns in
    let z = is_still old e.failed _ win.columns c.drawn-next.result above e.shown l win.some (c.above-above.ensures.known width) width st in
    let q = fits_counts e x fits in
    fits_by _ e.shown c.rest.result c.rest.new.self x (drawn s.columns s.rows bottom c.args.pass frame x) c.rest.ensures.remembers (next x q) (drawn-sound s.columns s.rows bottom c.args.pass frame x)
    (drawn_shown win.columns s.columns s.rows c.args.pass l.blanks bottom c.args.frame.now x old l.plan (drop above.from (take above.to e.shown.lines)) (live_lines e.shown) o.counts e.shown
    columns z.next q f.plan_is blanks (z.texts_are ∙ o.texts_are) (z.counts_are ∙ o.counts_are) o.laid.counts_are z.right
    (c.above-above.ensures.above x win.some (fits_shown e x fits)))

pub returns-then-stands-clause-paints : goal.returns-then-stands-clause-paints
returns-then-stands-clause-paints g c = λ x fits plain.
    let e = c.args.self.now in
    let s = g.T.TermLike.view (engine_term e) in
    let frame = map bar_lines c.args.frame.now in
    let bottom = is_bottom c.args.alignment in
    let columns = c.in_ok-window.ensures.0 in
    let rows_are = c.in_ok-window.ensures.1 in
    let p = planned_on _ s.columns _ s.rows _ _ _ _ _ _ columns rows_are c.in_ok-plan_drawing.ensures.planned in
    let f = p.frame_is in
    let o = f.is_laid in
    let win = c.in_ok-window.window in
    let l = c.plan_drawing.new.laid in
    let old = e.counts in
    let blanks : l.blanks ≡ blanks_for bottom old.live 0 l.plan.rows = rw c.is_bottom.ensures at (p.blanks_are.are old.live 0 (omega arith)) in
    let next = λ (x : Lists) (q : CountsOf old x). rw rows_are at (c.drawn-next.ensures s.columns c.args.pass bottom frame x q (rw (← rows_are) at f.plan_is) blanks) in
    let st = rw c.live.ensures at (c.stands.ensures c.if-stands.true) in
    let width = p.known (omega (arith, st.all, st.some)) ∙ sym columns in
    let z = is_still old e.failed _ win.columns c.drawn-next.result c.above-above.result e.shown l win.some (c.above-above.ensures.known width) width st in
    let ls = left (live_lines e.shown) in
    let put = z.put in
    let t : texts ls ≡ replicate l.blanks [] ++ take l.plan.lines (frame_lines c.args.frame.now) = put.texts_are ∙ o.texts_are in
    let known = fits_shown e x fits in
    let v' = g.T.TermLike.view (engine_term c.rest.new.self) in
    let right = subst (λ k. AreLines k ls) columns put.right in
    let below = c.drawn-next.result.below in
    let fill = draw_fill s.columns ls below _ _ right refl (ap (λ k. (whole_writing old e.failed c.fresh-fresh.result c.drawn-next.result k ls).fill) columns)
    ∙ ap (fill_bytes below s.columns) t in
    let height = put_height win.columns s.columns s.rows (live_lines e.shown) ls _ _ l o put in
    let d = still_draws old e.failed e.shown win.columns s.columns s.rows c.args.pass l.blanks _ bottom c.drawn-next.result c.args.frame.now l.plan ls c.fresh-fresh.result
    (still_writing old e.failed c.fresh-fresh.result c.drawn-next.result win.columns ls) x columns (rw columns at win.some) plain f.narrow f.plan_is next blanks t right
    (put_sits win.columns s.columns e.shown l x ls columns win.some put known) (rw rows_are at c.fresh-fresh.ensures) fill (fits_counts e x fits) known
    c.above-above.result l (live_lines e.shown) refl height width st refl in
    paints_by s v' old _ _ c.rest.result c.rest.new.self e.failed x (drawn s.columns s.rows bottom c.args.pass frame) d.0 c.rest.ensures.remembers (fits_failed e x fits)
    (subst (λ b. DrawWrites b s v' c.rest.result) (sym d.1) c.rest.ensures.draws) d.2 (fits_counts e x fits) (fits_forgets e x fits) (drawn-sound s.columns s.rows bottom c.args.pass frame x)
    (drawn-adds s.columns s.rows bottom c.args.pass frame x) (drawn-known s.columns s.rows bottom c.args.pass frame x)
