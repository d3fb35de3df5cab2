-- Characters of one column that are written into a row together.
use Rattle.std.specs.Prelude.{◌≡◌, ℕ, false, List, [], map, replicate, Some}
use Rattle.unicode_width.specs.Width.{char_width}
use Rattle.indicatif_text.specs.Columns.{Cell, Written}
use Rattle.indicatif_term.specs.Screen.{Op, Put}
use Rattle.indicatif_term.specs.declared.cells.run.NarrowRun.{NarrowRun}
use Rattle.indicatif_term.specs.declared.cells.run.NarrowRun.TheVariants.{Ascii, Repeated}

-- the characters of a run
abbrev pub run_chars : NarrowRun → List ℕ
run_chars (Ascii text) = text.now
run_chars (Repeated c count) = replicate count c

-- a character of one column
abbrev pub TakesOneColumn : ℕ → Type 0
TakesOneColumn c = char_width false c ≡ Some 1

-- the cells of characters of one column without joiners
abbrev pub narrow_cells : List ℕ → List Cell
narrow_cells cs = map (λ c. Written (record { base = c; joiners = [] })) cs

-- characters that are shown one after another
abbrev pub puts : List ℕ → List Op
puts cs = map (λ c. Put c) cs
