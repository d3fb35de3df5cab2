use Rattle.std.proofs.Common.{ap, refl}
use Rattle.std.specs.Option.{option_map}
use Rattle.uses.proofs.ReceiptLemmas.{unbroken_entries}
use Rattle.uses.proofs.receipts.BothRecordReader.read.Goals as goal

pub returns-then-holds : goal.returns-then-holds
returns-then-holds g c = λ found. (
  c.in-Some.record.now,
  ap (option_map (λ r. r.now)) c.in-Some.is,
  c.if-holds.ensures.0 refl,
  c.holds-then-holds.ensures.0 found,
  unbroken_entries _ c.in-Some.record.now.steps c.entries.ensures (c.none_failed.ensures c.if-not-none_failed.false),
)
