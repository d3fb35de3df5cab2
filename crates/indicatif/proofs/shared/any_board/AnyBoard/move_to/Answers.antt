use Rattle.std.proofs.Common.{inl}
use Rattle.indicatif.proofs.shared.any_board.AnyBoard.move_to.Goals as goal

pub returns-clause-moves : goal.returns-clause-moves
returns-clause-moves g c = inl (c.draw-cleared.new.self, c.set_draw_target.result, c.draw-cleared.ensures.made, c.set_draw_target.ensures.turns)
