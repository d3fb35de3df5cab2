use Rattle.std.proofs.Common.{arith}
use Rattle.std.specs.Int.{IsInRange}
use Rattle.std.proofs.lemmas.List.Elements.{All-more}
use Rattle.indicatif_term.proofs.cells.run.printable_len.Goals as goal

pub bytes-preserved : goal.bytes-preserved
bytes-preserved c = record {
  printable = All-more (IsInRange 0x20 0x7E) c.args.bytes.now c.bytes.count 0 (omega arith) c.bytes.invariant.printable (omega arith, omega arith);
  fits = omega arith;
  few = omega arith;
}
