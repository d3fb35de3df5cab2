-- The rows of a terminal as they are kept.
use Rattle.indicatif_term.specs.Screen.{Screen, IsWhole, Op, Put, Return, LineFeed, Up, Down, Right, Left, EmptyRow}
use Rattle.indicatif_term.specs.declared.cells.grid.Grid.TheInside.{Inside}
use Rattle.indicatif_term.specs.declared.cells.grid.Op as stored
use Rattle.indicatif_term.specs.declared.cells.grid.Op.TheVariants as variants

-- the screen that a grid stands for
abbrev pub screen_of : Inside → Screen
screen_of g = record { columns = g.columns; height = g.height; rows = g.rows.items; row = g.row; column = g.column }

-- a grid whose rows have its columns, and whose cursor stands on one of them
abbrev pub IsSound : Inside → Type 0
IsSound g = IsWhole (screen_of g)

-- the operation, as its definition
abbrev pub op_of : stored.Op → Op
op_of (variants.Put c) = Put c
op_of variants.Return = Return
op_of variants.LineFeed = LineFeed
op_of (variants.Up n) = Up n
op_of (variants.Down n) = Down n
op_of (variants.Right n) = Right n
op_of (variants.Left n) = Left n
op_of variants.EmptyRow = EmptyRow
