use Rattle.std.proofs.Common.{◌∙◌, ap, take}
use Rattle.indicatif_term.specs.Terminal.{after}
use Rattle.indicatif_term.proofs.MemoryLemmas.{begins_at}
use Rattle.indicatif_term.proofs.cells.InMemoryTerm.read.Goals as goal

pub returns-in-Err-clause-stopped : goal.returns-in-Err-clause-stopped
returns-in-Err-clause-stopped c =
    begins_at c.args.bytes.now c.in-Err.field-0-0 c.args.self.now.terminal c.feed.new.self
    (c.in-Err.ensures.stopped ∙ ap (λ m. after m.terminal (take c.in-Err.field-0-0 c.args.bytes.now)) c.self.view_is)
