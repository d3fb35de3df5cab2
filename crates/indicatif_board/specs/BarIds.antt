-- A bar by its number.
use Rattle.indicatif_board.specs.Boards.{Id}
use Rattle.indicatif_board.specs.declared.bar_id.BarId.{BarId}

-- a bar's id, as its definition
abbrev pub id_of : BarId → Id
id_of id = record { mark = id.mark; number = id.number }
