use Rattle.std.proofs.Common.{arith, take}
use Rattle.indicatif_term.proofs.RunLemmas.{repeats_more}
use Rattle.indicatif_term.proofs.cells.run.repeats_of_three.Goals as goal

pub bytes-preserved : goal.bytes-preserved
bytes-preserved c = record {
  some = omega arith;
  few = omega arith;
  fits = omega (arith, c.stands_at.ensures.fits c.if-stands_at.true);
  repeats = repeats_more c.bytes.count c.args.bytes.now (take 3 c.args.bytes.now) c.bytes.invariant.repeats (c.stands_at.ensures.stands c.if-stands_at.true);
}
