use Rattle.std.proofs.Common.{refl}
use Rattle.indicatif.proofs.shared.any_board.AnyBoard.set_draw_target.Goals as goal

pub returns-in-Open-clause-turns : goal.returns-in-Open-clause-turns
returns-in-Open-clause-turns g c =
    let e = c.set_draw_target.ensures in
    rw c.in-Open.is (refl, c.set_draw_target.new.self, refl, record { terminal = e.new; records = e.records; state = e.state })
