use Rattle.std.proofs.Common.{◌≡◌, ◌≤◌, length, take}
use Rattle.indicatif_text.specs.Columns.{glyphs_of}
use Rattle.indicatif_term.specs.Inside.Recutting.{without_spaces}
use Rattle.indicatif_term.proofs.engine.recutting.used_count.Given as goal

abbrev pub invariant-loop-used : goal.invariant-loop-used
invariant-loop-used l = record { within : l.used ≤ length l.row; same : without_spaces (glyphs_of (take l.used l.row)) ≡ without_spaces (glyphs_of l.row) }

abbrev pub decreases-loop-used : goal.decreases-loop-used
decreases-loop-used l = l.used
