-- What is laid out to be written.
use Rattle.std.specs.Prelude.{◌≡◌, ℕ, List, map, chars}
use Rattle.indicatif_term.specs.Lines.{bar_lines}
use Rattle.indicatif_term.specs.declared.target.lines.Segment.{Segment}
use Rattle.indicatif_bar.specs.Kinds.{Writing, NoFrame}

-- the bar's lines, as bytes, stand in a frame's segment, if they are to be written
abbrev pub StandInSegment : Writing → List (List ℕ) → Segment → Type 0
StandInSegment NoFrame lines segment = Unit
StandInSegment _ lines segment = bar_lines segment ≡ record { bar = 0; lines = map chars lines }
