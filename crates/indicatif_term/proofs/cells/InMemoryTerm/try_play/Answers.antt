use Rattle.std.proofs.Common.{◌∙◌, ◌++◌, ap, subst}
use Rattle.indicatif_term.specs.Terminal.{Terminal, after}
use Rattle.indicatif_term.specs.Inside.Feeding.{ReadsBeginning}
use Rattle.indicatif_term.proofs.MemoryLemmas.{begins_none, begins_first, begins_second, read_both, at_err, under_err, under_ok}
use Rattle.indicatif_term.proofs.cells.InMemoryTerm.try_play.Goals as goal

pub returns-in_err-line-clause-stopped : goal.returns-in_err-line-clause-stopped
returns-in_err-line-clause-stopped c = at_err c.from_residual.result (begins_none _ c.args.self.now.terminal)

pub returns-in_err-push_str-clause-stopped : goal.returns-in_err-push_str-clause-stopped
returns-in_err-push_str-clause-stopped c =
    at_err c.from_residual-in_err-push_str.result
    (subst (λ (t : Terminal). ReadsBeginning (c.args.bytes.now ++ c.args.end.now) t c.self.inside.cells) (ap (λ m. m.terminal) c.self.view_is) (begins_none _ c.self.inside.cells))

pub returns-in_err-read-clause-stopped : goal.returns-in_err-read-clause-stopped
returns-in_err-read-clause-stopped c =
    at_err c.from_residual-in_err-read.result
    (begins_first c.args.bytes.now c.args.end.now c.args.self.now.terminal c.read.new.self.terminal
    (subst (λ (t : Terminal). ReadsBeginning c.args.bytes.now t c.read.new.self.terminal) (ap (λ m. m.terminal) c.self.view_is) c.in_err-read.ensures.stopped))

pub returns-clause-read : goal.returns-clause-read
returns-clause-read c =
    let first = c.in_ok-read.ensures.read ∙ ap (λ m. after m.terminal c.args.bytes.now) c.self.view_is in
    under_ok c.read-2.result (λ e. read_both c.args.bytes.now c.args.end.now c.args.self.now.terminal c.read.new.self.terminal c.read-2.new.self.terminal first e) c.read-2.ensures.read

pub returns-clause-stopped : goal.returns-clause-stopped
returns-clause-stopped c =
    let first = c.in_ok-read.ensures.read ∙ ap (λ m. after m.terminal c.args.bytes.now) c.self.view_is in
    under_err c.read-2.result (λ r. begins_second c.args.bytes.now c.args.end.now c.args.self.now.terminal c.read.new.self.terminal c.read-2.new.self.terminal first r) c.read-2.ensures.stopped
