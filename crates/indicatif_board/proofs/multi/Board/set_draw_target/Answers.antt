use Rattle.std.proofs.Common.{◌≡◌, subst}
use Rattle.std.specs.Prelude.{IfSome}
use Rattle.indicatif_term.specs.Target.{is_bottom, limiter_of}
use Rattle.indicatif_term.specs.Lists.{opening_lists}
use Rattle.indicatif_board.specs.Multi.{IsIn}
use Rattle.indicatif_board.proofs.MemberLemmas.{held_with}
use Rattle.indicatif_board.proofs.multi.Board.set_draw_target.Goals as goal

pub returns-clause-old_limiter : goal.returns-clause-old_limiter
unfolding IsIn
returns-clause-old_limiter g c = λ mark s inside.
    subst (λ l. IfSome c.set_draw_target.result (λ t. t.1 ≡ l)) inside.2.0 c.set_draw_target.ensures.old_limiter

pub returns-clause-state : goal.returns-clause-state
unfolding IsIn
returns-clause-state g c = λ mark s inside.
    let b = c.args.self.now.shown in (
      inside.0,
      held_with b.frame.items b.members.items b.table.made (is_bottom b.alignment) s (limiter_of c.args.target) opening_lists inside.1,
      c.set_draw_target.ensures.staged,
    )
