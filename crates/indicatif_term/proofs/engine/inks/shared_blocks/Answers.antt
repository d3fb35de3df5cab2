use Rattle.indicatif_term.proofs.SharedLemmas.{shared_none, shared_more}
use Rattle.indicatif_term.proofs.engine.inks.shared_blocks.Goals as goal

pub whole-init : goal.whole-init
whole-init c = shared_none c.args.a.now c.args.b.now

pub whole-preserved : goal.whole-preserved
whole-preserved c = shared_more c.whole.at 16 c.args.a.now c.args.b.now c.whole.invariant (c.is_block_shared.ensures c.whole-test.true)
