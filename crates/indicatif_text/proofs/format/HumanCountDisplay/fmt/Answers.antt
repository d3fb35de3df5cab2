use Rattle.std.proofs.Common.{arith, length, ap}
use Rattle.indicatif_text.proofs.CountLemmas.{length-count}
use Rattle.indicatif_text.proofs.format.HumanCountDisplay.fmt.Goals as goal

pub prepend_count-requires : goal.prepend_count-requires
prepend_count-requires g c = omega (arith, length-count 20 c.args.self.now.0 (omega arith) (omega arith) (omega arith), ap length c.new-text.ensures)
