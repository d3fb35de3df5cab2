-- What a blank terminal whose wrap can be turned off shows after bytes.
use Rattle.std.specs.Prelude.{ℕ, ◌-◌, Bool, true, List, ◌∷◌, codes}
use Rattle.indicatif_term.specs.Screen.{blank_screen, top}
use Rattle.indicatif_term.specs.Modes.{ModeTerminal, mode_resting, mode_after}
use Rattle.indicatif_term.specs.Pictures.{picture_text}

-- turns the wrap off
abbrev pub OFF : List ℕ
OFF = 0x1B ∷ codes "[?7l"

-- turns it on
abbrev pub ON : List ℕ
ON = 0x1B ∷ codes "[?7h"

-- a blank terminal that wraps, after these bytes
abbrev pub mode_fed : ℕ → ℕ → List ℕ → ModeTerminal
mode_fed rows columns bytes = mode_after (mode_resting true (blank_screen rows columns)) bytes

abbrev pub mode_picture : ℕ → ℕ → List ℕ → List (List ℕ)
mode_picture rows columns bytes = picture_text (mode_fed rows columns bytes).terminal.screen

abbrev pub mode_cursor : ℕ → ℕ → List ℕ → ℕ × ℕ
mode_cursor rows columns bytes = let s = (mode_fed rows columns bytes).terminal.screen in (s.row - top s, s.column)

abbrev pub wraps_then : ℕ → ℕ → List ℕ → Bool
wraps_then rows columns bytes = (mode_fed rows columns bytes).wraps
