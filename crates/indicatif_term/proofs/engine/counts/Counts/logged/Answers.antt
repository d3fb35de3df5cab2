use Rattle.std.proofs.Common.{arith}
use Rattle.indicatif_term.proofs.CountLemmas.{logged_counts_of}
use Rattle.indicatif_term.proofs.engine.counts.Counts.logged.Goals as goal

pub returns : goal.returns
returns c = λ w bottom lines frame l o q e b. logged_counts_of w c.args.height c.args.text bottom lines frame l c.args.self.now _ c.args.plan o q e (omega (arith, c.requires.plan.fit))
    (rw (← b, ← c.saturating_sub.ensures) c.settled.ensures)
