use Rattle.std.proofs.Common.{arith}
use Rattle.std.proofs.lemmas.List.Elements.{All-more}
use Rattle.indicatif_text.specs.Inside.Runs.{IsPrintable}
use Rattle.indicatif_text.proofs.runs.long_printable_len.Goals as goal

pub bytes-preserved : goal.bytes-preserved
bytes-preserved c = record {
  printable = All-more IsPrintable c.args.bytes.now c.bytes.count 0 (c.printable_at.ensures.within c.bytes-test.true) c.bytes.invariant.printable (c.printable_at.ensures.printable c.bytes-test.true);
  fits = omega (arith, c.printable_at.ensures.within c.bytes-test.true);
}
