use Rattle.std.proofs.Common.{subst}
use Rattle.indicatif_term.specs.Inside.Layouts.{IsFrameLaid}
use Rattle.indicatif_term.proofs.LaidLemmas.{frame_live, none_stays}
use Rattle.indicatif_term.proofs.engine.layout.plan_drawing.Goals as goal

pub returns-in-Ok-clause-planned : goal.returns-in-Ok-clause-planned
returns-in-Ok-clause-planned c =
    let win = c.args.window in
    let live = frame_live win.columns win.rows c.args.asked.now.pass c.beside-beside.result.lines.now c.args.shown.now c.args.asked.now.frame.now c.lay_out.new.laid
    c.beside-beside.ensures.live c.in-Ok.ensures.laid in
    record { frame_is = live.0; blanks_are = c.in-Ok.ensures.blanks; known = live.1 }

pub returns-in-Ok-clause-whole : goal.returns-in-Ok-clause-whole
returns-in-Ok-clause-whole c = λ whole.
    let win = c.args.window in
    let pass = c.args.asked.now.pass in
    let frame = c.args.asked.now.frame.now in
    let l = c.lay_out.new.laid in
    none_stays win.columns win.rows pass frame l (subst (λ xs. IsFrameLaid win.columns win.rows pass xs frame l) (c.beside-beside.ensures.whole whole) c.in-Ok.ensures.laid)
