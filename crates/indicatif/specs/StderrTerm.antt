-- The terminal behind standard error.
use Rattle.std.specs.Prelude.{Option, Some, None}
use Rattle.std.specs.declared.alloc.Global.{Global}
use Rattle.std.specs.declared.io.Stderr.{Stderr}
use Rattle.std.specs.declared.io.buffered.BufWriter.{BufWriter}
use Rattle.indicatif_term.specs.Limiters.{Limiter}
use Rattle.indicatif_term.specs.Term.{WriterTerm}
use Rattle.indicatif_term.specs.declared.target.own_rows.OwnRows.{OwnRows}
use Rattle.indicatif.specs.declared.machine.stderr_term.StderrTerm.{StderrTerm}
use Rattle.indicatif.specs.declared.machine.until_gone.UntilGone.{UntilGone}

-- a target on an `OwnRows` over standard error, as one on a `StderrTerm`
abbrev pub stderr_target : Option (OwnRows (WriterTerm (BufWriter (UntilGone Stderr) Global)) × Option Limiter) → Option (StderrTerm × Option Limiter)
stderr_target (Some parts) = Some (record { rows = parts.0 }, parts.1)
stderr_target None = None
