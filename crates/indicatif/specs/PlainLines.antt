-- Bars as plain lines: when a line is due. Moments and times are nanoseconds.
use Rattle.std.specs.Prelude.{ℕ, ◌-◌, Bool, true, false, not, nat_le, Option, Some, None, if◌then◌else◌}
use Rattle.indicatif.specs.declared.plain_lines.PlainLines.{PlainLines}

-- whether the line of an unfinished bar is due, and the state to keep: the interval counts from the first look, then from each line
abbrev pub due_meanwhile : PlainLines → ℕ → Bool × PlainLines
due_meanwhile lines now = elim lines.last [
  | None ↦ (false, record lines { last = Some now; is_over = false })
  | Some last ↦ if nat_le lines.every (now - last) then (true, record lines { last = Some now; is_over = false })
      else (false, record lines { is_over = false })
]

-- whether the line of a bar is due: that of a finished one is due once
abbrev pub due : PlainLines → Bool → ℕ → Bool × PlainLines
due lines true now = (not lines.is_over, record lines { is_over = true })
due lines false now = due_meanwhile lines now
