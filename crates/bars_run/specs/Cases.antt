-- Worked cases of what lines mean, and of what is printed. Texts are lists of bytes.
use Rattle.std.specs.Prelude.{◌≡◌, ℕ, false, List, [], ◌∷◌, ◌++◌, map, Option, Some, None, codes}
use Rattle.indicatif_term.specs.Pictures.{row_text}
use Rattle.indicatif_term.specs.declared.target.MultiProgressAlignment.TheVariants.{Top, Bottom}
use Rattle.bars_run.specs.declared.arguments.Asked.{Asked}
use Rattle.bars_run.specs.declared.arguments.Size.{Size}
use Rattle.bars_run.specs.Arguments.{asked_by}
use Rattle.bars_run.specs.Commands.{Message, Tick, Drop, Spelled, Add, Log, Warn, Clear, Resize, OfBar, input_lines, spelled, each}
use Rattle.bars_run.specs.Player.{Step, script_step, script_outcome, any_refused, rows_after}
use Rattle.bars_run.specs.Printing.{printed}

-- a terminal's size
abbrev pub sized : ℕ → ℕ → Size
sized rows columns = record { rows = rows; columns = columns }

-- the words of a command line
abbrev pub WordsRead : Type 0
WordsRead =
    (asked_by (codes "run" ∷ codes "4" ∷ codes "010" ∷ []) ≡ Some (record { size = sized 4 10; alignment = Top }))
    × (asked_by (codes "run" ∷ codes "4" ∷ codes "10" ∷ codes "bottom" ∷ []) ≡ Some (record { size = sized 4 10; alignment = Bottom }))
    × (asked_by (codes "run" ∷ codes "4" ∷ codes "10" ∷ codes "top" ∷ []) ≡ None)
    × (asked_by (codes "run" ∷ codes "4" ∷ codes "65536" ∷ []) ≡ None)
    × (asked_by (codes "run" ∷ codes "4" ∷ codes "+9" ∷ []) ≡ None)
    × (asked_by (codes "demo" ∷ codes "4" ∷ codes "10" ∷ []) ≡ None)

-- lines: each ends at a newline, which the last may lack
abbrev pub LinesRead : Type 0
LinesRead =
    (input_lines [] ≡ [])
    × (input_lines (codes "a") ≡ codes "a" ∷ [])
    × (input_lines (codes "a\n") ≡ codes "a" ∷ [])
    × (input_lines (codes "ab\n\nc") ≡ codes "ab" ∷ [] ∷ codes "c" ∷ [])

-- commands, and lines that aren't commands
abbrev pub CommandsRead : Type 0
CommandsRead =
    (spelled (codes "add") ≡ Some (Add []))
    × (spelled (codes "add  a b") ≡ Some (Add (codes " a b")))
    × (spelled (codes "log a.txt") ≡ Some (Log (codes "a.txt")))
    × (spelled (codes "warn low") ≡ Some (Warn (codes "low")))
    × (spelled (codes "clear") ≡ Some Clear)
    × (spelled (codes "size 0004 3") ≡ Some (Resize (sized 4 3)))
    × (spelled (codes "msg 1") ≡ Some (OfBar (Some 1) (Message [])))
    × (spelled (codes "msg 12 a b") ≡ Some (OfBar (Some 12) (Message (codes "a b"))))
    × (spelled (codes "drop 18446744073709551616") ≡ Some (OfBar None Drop))
    × (spelled [] ≡ None)
    × (spelled (codes "clear ") ≡ None)
    × (spelled (codes "tick") ≡ None)
    × (spelled (codes "tick -1") ≡ None)
    × (spelled (codes "Tick 1") ≡ None)
    × (spelled (codes "size 3") ≡ None)
    × (spelled (codes "add " ++ 0xFF ∷ []) ≡ None)

-- a request for a terminal of 4 rows and 10 columns
abbrev pub small : Asked
small = record { size = sized 4 10; alignment = Top }

-- the lines of an input are these commands, whose steps no board refuses, and this is printed
abbrev pub Printed : List ℕ → List Spelled → List ℕ → Type 0
Printed input commands output =
    (each spelled (input_lines input) ≡ Some commands)
    × (steps : List Step) × (each script_step commands ≡ Some steps)
    × (any_refused (script_outcome small steps).0 ≡ false)
    × (printed (map row_text (rows_after small steps)) ≡ output)

-- a text above a bar
abbrev pub LogPrinted : Type 0
LogPrinted = Printed (codes "add x\ntick 1\nlog a.txt\n") (Add (codes "x") ∷ OfBar (Some 1) Tick ∷ Log (codes "a.txt") ∷ []) (codes "a.txt\nx\n")

-- a bar that wasn't drawn isn't printed; empty rows are printed only before one that isn't empty
abbrev pub EmptyPrinted : Type 0
EmptyPrinted =
    Printed (codes "add x") (Add (codes "x") ∷ []) []
    × Printed (codes "log\nlog a\nlog\n") (Log [] ∷ Log (codes "a") ∷ Log [] ∷ []) (codes "\na\n")

-- on 3 columns each row is wrapped by itself
abbrev pub SizePrinted : Type 0
SizePrinted =
    Printed (codes "add abcdef\ntick 1\nlog hello\nsize 4 3\n")
    (Add (codes "abcdef") ∷ OfBar (Some 1) Tick ∷ Log (codes "hello") ∷ Resize (sized 4 3) ∷ []) (codes "hel\nlo\nabc\ndef\n")
