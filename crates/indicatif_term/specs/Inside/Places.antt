-- Lines in rows that were there before.
use Rattle.std.specs.Prelude.{◌≡◌, ℕ, ◌+◌, ◌<◌, ◌≤◌, List, length, take}
use Rattle.indicatif_term.specs.Inside.Changing.{placed_height}
use Rattle.indicatif_term.specs.Standing.{placed}
use Rattle.indicatif_term.specs.declared.engine.remembered.StandingLine.{StandingLine}
use Rattle.indicatif_term.specs.declared.engine.beside.Room.{Room}

-- some lines from the front, and the rows that they leave free
pub record IsWithin (ls : List StandingLine) (rows : ℕ) (room : Room) : Type 0 where
  pub some : 0 < room.lines
  pub in_lines : room.lines ≤ length ls
  pub rows_are : placed_height (placed (take room.lines ls)) + room.free ≡ rows
