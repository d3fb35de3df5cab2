-- The exit status and the message of a fault. Texts are lists of bytes.
use Rattle.std.specs.Prelude.{ℕ, List, Option, Some, codes, decimal}
use Rattle.std.specs.Fmt.{◌++?◌}
use Rattle.indicatif_text.specs.Refusal.{refusal_number}
use Rattle.bars_run.specs.declared.fault.Fault.{Fault}
use Rattle.bars_run.specs.declared.fault.Fault.TheVariants.{Usage, BadCommand, Line, Refused, Input, Output}

-- 1 after a refusal, otherwise 2
abbrev pub status_of : Fault → ℕ
status_of (Line number refusal) = 1
status_of (Refused refusal) = 1
status_of _ = 2

-- the message
abbrev pub fault_text : Fault → Option (List ℕ)
fault_text Usage = Some (codes "usage: bars demo | bars run ROWS COLS [bottom]")
fault_text (BadCommand line) = Some (codes "bars: line ") ++? Some (decimal line) ++? Some (codes ": bad command")
fault_text (Line line refusal) = Some (codes "bars: line ") ++? Some (decimal line) ++? Some (codes ": E") ++? Some (decimal (refusal_number refusal))
fault_text (Refused refusal) = Some (codes "bars: E") ++? Some (decimal (refusal_number refusal))
fault_text Input = Some (codes "bars: input failed")
fault_text Output = Some (codes "bars: output failed")
