-- Targets on the machine's terminals.
use Rattle.std.specs.Prelude.{◌≡◌, ℕ, ◌-◌, max, Option, Some, None, if◌then◌else◌}
use Rattle.std.specs.declared.alloc.Global.{Global}
use Rattle.std.specs.declared.io.Stderr.{Stderr}
use Rattle.std.specs.declared.io.buffered.BufWriter.{BufWriter}
use Rattle.indicatif_term.specs.Limiters.{Limiter, default_rate, draw_limiter}
use Rattle.indicatif_term.specs.Target.{hides, term_behind}
use Rattle.indicatif_term.specs.Term.{WriterTerm}
use Rattle.indicatif_term.specs.declared.target.Facts.{Facts}
use Rattle.indicatif_term.specs.OwnRows.{own_rows, left_rows}
use Rattle.indicatif_term.specs.declared.target.own_row.OwnRow.{OwnRow}
use Rattle.indicatif_term.specs.declared.target.own_rows.OwnRows.{OwnRows}
use Rattle.indicatif.specs.StderrTerm.{stderr_target}
use Rattle.indicatif.specs.declared.machine.stderr_term.StderrTerm.{StderrTerm}
use Rattle.indicatif.specs.declared.machine.until_gone.UntilGone.{UntilGone}

-- a target on the terminal behind some writer, which draws at most 20 times a second; a hidden one where the facts say that it is no terminal
abbrev pub IsBehind : {W : Type 0} → Option (WriterTerm W × Option Limiter) → Facts → Type 0
IsBehind {W} target facts = (w : W) × (now : ℕ) × (target ≡ (if hides facts then None else Some (term_behind w facts, Some (draw_limiter default_rate now))))

-- a new terminal of the given size, behind some writer
abbrev pub IsTermBehind : {W : Type 0} → WriterTerm W → Facts → Type 0
IsTermBehind {W} term facts = (w : W) × (term ≡ term_behind w facts)

-- the columns of rows that the program ends: one less than it was told, and at least one
abbrev pub own_columns : ℕ → ℕ
own_columns told = max (told - 1) 1

-- a target on the terminal behind some writer, whose full rows are ended by the program, on all of it or on one row
abbrev pub IsOwnTarget : {W : Type 0} → Option (OwnRows (WriterTerm W) × Option Limiter) → Option OwnRow → Facts → Type 0
IsOwnTarget {W} target row facts = (w : W) × (now : ℕ)
    × (target ≡ (if hides facts then None else Some (own_rows (term_behind w facts) row, Some (draw_limiter default_rate now))))

-- a target on all of a terminal behind some writer, whose full rows are ended by the program: rows have one column less than the terminal was said to have
abbrev pub IsOnStream : {W : Type 0} → Option (OwnRows (WriterTerm W) × Option Limiter) → ℕ → Facts → Type 0
IsOnStream target told facts = (facts.cols ≡ own_columns told) × IsOwnTarget target None facts

-- a target on a terminal of known size behind some writer: the terminal ends full rows
abbrev pub IsSizedTarget : {W : Type 0} → Option (OwnRows (WriterTerm W) × Option Limiter) → Facts → Type 0
IsSizedTarget {W} target facts = (w : W) × (now : ℕ)
    × (target ≡ (if hides facts then None else Some (left_rows (term_behind w facts), Some (draw_limiter default_rate now))))

-- a target on standard error, whose full rows are ended by the program
abbrev pub IsOwnStderr : Option (StderrTerm × Option Limiter) → Option OwnRow → Facts → Type 0
IsOwnStderr target row facts = (on : Option (OwnRows (WriterTerm (BufWriter (UntilGone Stderr) Global)) × Option Limiter))
    × IsOwnTarget on row facts × (target ≡ stderr_target on)

-- a target on all of standard error: rows have one column less than it was said to have
abbrev pub IsOnStderr : Option (StderrTerm × Option Limiter) → ℕ → Facts → Type 0
IsOnStderr target told facts = (on : Option (OwnRows (WriterTerm (BufWriter (UntilGone Stderr) Global)) × Option Limiter))
    × IsOnStream on told facts × (target ≡ stderr_target on)

-- a target on standard error of known size
abbrev pub IsSizedStderr : Option (StderrTerm × Option Limiter) → Facts → Type 0
IsSizedStderr target facts = (on : Option (OwnRows (WriterTerm (BufWriter (UntilGone Stderr) Global)) × Option Limiter))
    × IsSizedTarget on facts × (target ≡ stderr_target on)
