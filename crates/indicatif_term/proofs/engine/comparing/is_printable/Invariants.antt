use Rattle.std.proofs.Common.{◌-◌, take}
use Rattle.std.specs.Prelude.{All}
use Rattle.std.specs.Int.{IsInRange}
use Rattle.indicatif_term.proofs.engine.comparing.is_printable.Given as goal

abbrev pub invariant-whole : goal.invariant-whole
invariant-whole l = All (IsInRange 0x20 0x7E) (take l.at l.bytes)

abbrev pub decreases-whole : goal.decreases-whole
decreases-whole l = l.last - l.at
