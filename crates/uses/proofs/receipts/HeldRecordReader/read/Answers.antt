use Rattle.std.proofs.Common.{ap}
use Rattle.std.specs.Option.{option_map}
use Rattle.uses.proofs.receipts.HeldRecordReader.read.Goals as goal

pub returns-in-Some : goal.returns-in-Some
returns-in-Some g c = λ found. (c.in-Some.record.now, ap (option_map (λ r. r.now)) c.in-Some.is, c.holds.ensures.0 found)
