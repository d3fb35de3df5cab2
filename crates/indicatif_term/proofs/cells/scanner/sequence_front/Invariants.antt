use Rattle.std.proofs.Common.{length, ◌-◌}
use Rattle.indicatif_term.specs.Inside.Scanners.{IsSequenceFront}
use Rattle.indicatif_term.proofs.cells.scanner.sequence_front.Given as goal

abbrev pub invariant-bytes : goal.invariant-bytes
invariant-bytes l = IsSequenceFront l.bytes l.number l.len

abbrev pub decreases-bytes : goal.decreases-bytes
decreases-bytes l = length l.bytes - l.len
