-- Which bytes take memory on a terminal of cells.
use Rattle.std.specs.Prelude.{ℕ, ◌+◌, Bool, true, false, nat_le, List, [], ◌∷◌, ◌++◌, length, option_to_list}
use Rattle.indicatif_term.specs.Screen.{Screen, Op, Put, LineFeed}
use Rattle.indicatif_term.specs.Terminal.{Terminal, Reader, byte_step}

-- what may take memory on this screen: a character, and a line feed on the last row
abbrev pub op_takes_memory : Op → Screen → Bool
op_takes_memory (Put c) s = true
op_takes_memory LineFeed s = nat_le (length s.rows) (s.row + 1)
op_takes_memory _ s = false

-- whether the first operation may take memory
abbrev pub first_takes_memory : List Op → Screen → Bool
first_takes_memory [] s = false
first_takes_memory (op ∷ ops) s = op_takes_memory op s

-- the operations of bytes, in order
abbrev pub ops_of : Reader → List ℕ → List Op
ops_of r [] = []
ops_of r (b ∷ bytes) = let step = byte_step r b in option_to_list step.0 ++ ops_of step.1 bytes

-- whether the first operation of bytes on a terminal may take memory
unfoldable pub feeding_takes_memory : Terminal → List ℕ → Bool
feeding_takes_memory t bytes = first_takes_memory (ops_of t.reader bytes) t.screen
