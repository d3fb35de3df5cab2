use Rattle.std.proofs.Common.{◌≡◌, subst}
use Rattle.std.specs.Prelude.{IfOk}
use Rattle.indicatif_term.specs.Inside.Layouts.{FrameLaid}
use Rattle.indicatif_term.proofs.LaidLemmas.{frame_on_any}
use Rattle.indicatif_term.proofs.engine.layout.beside_nothing.Goals as goal

pub returns-then-laid-eq0-2-clause-laid : goal.returns-then-laid-eq0-2-clause-laid
returns-then-laid-eq0-2-clause-laid c = λ on f. frame_on_any c.args.window.columns c.args.window.rows c.args.asked.now.pass on _ c.args.asked.now.frame.now c.args.laid.now c.if-laid-eq0.true f

pub returns-clause-laid : goal.returns-clause-laid
returns-clause-laid c = λ on f.
    subst (λ xs. FrameLaid c.args.window.columns c.args.window.rows c.args.asked.now.pass xs c.args.asked.now.frame.now c.lay_frame.new.laid c.lay_frame.result)
    c.nothing.ensures.lines c.lay_frame.ensures.laid

pub returns-clause-blanks : goal.returns-clause-blanks
returns-clause-blanks c = subst (λ n. IfOk c.lay_frame.result (λ _. c.lay_frame.new.laid.blanks ≡ n)) c.nothing.ensures.none c.lay_frame.ensures.blanks
