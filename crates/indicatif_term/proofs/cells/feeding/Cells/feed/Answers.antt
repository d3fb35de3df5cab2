use Rattle.std.proofs.Common.{sym, subst, drop, arith, length-drop}
use Rattle.std.specs.Prelude.{IsTrue}
use Rattle.indicatif_term.proofs.FeedLemmas.{after-nil}
use Rattle.indicatif_term.proofs.WholeCharLemmas.{after_some}
use Rattle.indicatif_term.specs.Feeding.{feeding_takes_memory}
use Rattle.indicatif_term.proofs.FeedMemoryLemmas.{left_takes}
use Rattle.indicatif_term.proofs.cells.feeding.Cells.feed.Goals as goal

pub loop-read-init : goal.loop-read-init
loop-read-init c = record { within = omega arith; fed = sym (after-nil c.args.self.now) }

pub loop-read-preserved : goal.loop-read-preserved
loop-read-preserved c = record {
  within = omega (arith, c.in-Ok.ensures.within, length-drop c.loop-read.read c.args.bytes.now, c.loop-read.invariant.within);
  fed = after_some c.args.self.now c.loop-read.self c.feed_front.new.self c.args.bytes.now c.loop-read.read c.in-Ok.taken c.loop-read.invariant.fed c.in-Ok.ensures.fed;
}

pub returns-in-Err-clause-memory : goal.returns-in-Err-clause-memory
returns-in-Err-clause-memory c =
    let rest = drop c.loop-read.read c.args.bytes.now in
    subst (λ t. IsTrue (feeding_takes_memory t rest)) (sym c.in-Err.ensures.err) (left_takes c.loop-read.self c.args.bytes.now c.loop-read.read c.in-Err.ensures.memory)
