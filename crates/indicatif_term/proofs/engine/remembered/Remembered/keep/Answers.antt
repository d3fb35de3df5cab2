use Rattle.std.proofs.Common.{length, ap, arith}
use Rattle.indicatif_term.proofs.RememberedLemmas.{still_right}
use Rattle.indicatif_term.proofs.engine.remembered.Remembered.keep.Goals as goal

pub invariant_of-self : goal.invariant_of-self
invariant_of-self c = record {
  within = omega (arith, ap length c.as_slice.ensures);
  small = c.args.self.now.small;
  right = still_right c.args.self.now.width c.args.width _ c.args.self.now.lines c.width_where-self.ensures c.args.self.now.right;
}
