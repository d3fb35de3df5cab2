use Rattle.std.proofs.Common.{◌∙◌, ◌≡◌, ◌<◌, ap, arith, subst, Err}
use Rattle.std.specs.Prelude.{IfErr}
use Rattle.std.proofs.lemmas.Result.{err_from_is_err_and}
use Rattle.indicatif_text.specs.declared.refusal.Refusal.TheVariants.{Memory}
use Rattle.indicatif_term.proofs.SkippingLemmas.{some_lines}
use Rattle.indicatif_term.proofs.LaidLemmas.{blanks_or_refused, low_below}
use Rattle.indicatif_term.proofs.engine.layout.lay_out.Goals as goal

pub returns-in_err-beside_nothing-clause-laid : goal.returns-in_err-beside_nothing-clause-laid
returns-in_err-beside_nothing-clause-laid c =
    let x = err_from_is_err_and c.from_residual-in_err-beside_nothing.result c.from_residual-in_err-beside_nothing.ensures.1 in
    rw (x.1 ∙ ap Err x.2) (c.in_err-beside_nothing.ensures.laid c.args.beside.now.lines.now c.in_ok-lay_frame.ensures.laid)

pub returns-clause-laid : goal.returns-clause-laid
returns-clause-laid c =
    let w = c.args.window.columns in
    let h = c.args.window.rows in
    let pass = c.args.asked.now.pass in
    let on = c.args.beside.now.lines.now in
    let frame = c.args.asked.now.frame.now in
    let b = c.below_blanks.ensures in
    blanks_or_refused w h pass c.blanks_of-blanks.result on frame c.below_blanks.new.laid c.below_blanks.result b.memory
    (b.laid w h pass on frame (c.in_ok-beside_nothing.ensures.laid on c.in_ok-lay_frame.ensures.laid) c.in_ok-beside_nothing.ensures.blanks)

pub returns-clause-blanks : goal.returns-clause-blanks
returns-clause-blanks c =
    let w = c.args.window.columns in
    let h = c.args.window.rows in
    let pass = c.args.asked.now.pass in
    let on = c.args.beside.now.lines.now in
    let frame = c.args.asked.now.frame.now in
    let b = c.below_blanks.ensures in
    let f = c.in_ok-lay_frame.ensures.laid in
    low_below w h pass c.args.asked.now.taken c.blanks_of-blanks.result c.args.asked.now.bottom on on frame c.lay_frame.new.laid c.below_blanks.new.laid c.below_blanks.result f b.blanks
    (b.laid w h pass on frame (c.in_ok-beside_nothing.ensures.laid on f) c.in_ok-beside_nothing.ensures.blanks) c.blanks_of-blanks.ensures.blanks c.blanks_of-blanks.ensures.room

pub returns-clause-memory : goal.returns-clause-memory
returns-clause-memory c = λ e.
    let b = c.blanks_of-blanks.result in
    let some = (subst (λ r. IfErr r (λ x. (x ≡ Memory) × (0 < b))) e c.below_blanks.ensures.memory).1 in
    some_lines c.args.window.columns c.args.window.rows c.args.asked.now.pass b c.args.asked.now.taken 0 c.args.asked.now.bottom c.args.asked.now.frame.now c.lay_frame.new.laid.plan
    c.in_ok-lay_frame.ensures.laid.plan_is (c.blanks_of-blanks.ensures.blanks c.args.asked.now.taken 0 (omega arith)) (omega (arith, some))
