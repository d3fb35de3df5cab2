use Rattle.std.proofs.Common.{refl}
use Rattle.indicatif.proofs.shared.any_board.AnyBoard.set_move_cursor.Goals as goal

pub returns-in-Open-clause-moves : goal.returns-in-Open-clause-moves
returns-in-Open-clause-moves g c =
    let e = c.set_move_cursor.ensures in
    rw c.in-Open.is (refl, c.set_move_cursor.new.self, refl, record { moves = e.moves; terminal = e.terminal; records = e.records; state = e.state })
