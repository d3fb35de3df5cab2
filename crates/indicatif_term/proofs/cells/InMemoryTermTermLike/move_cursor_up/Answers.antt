use Rattle.indicatif_term.specs.Calls.{UP}
use Rattle.indicatif_term.proofs.MemoryLemmas.{stays_put}
use Rattle.indicatif_term.proofs.cells.InMemoryTermTermLike.move_cursor_up.Goals as goal

pub returns-then-n-eq0-clause-writes : goal.returns-then-n-eq0-clause-writes
returns-then-n-eq0-clause-writes c = stays_put c.args.self.now UP c.args.n c.if-n-eq0.true
