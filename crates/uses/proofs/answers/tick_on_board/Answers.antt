use Rattle.std.proofs.Common.{ap}
use Rattle.indicatif_term.specs.Lists.{opening_lists}
use Rattle.indicatif_term.specs.Target.{limiter_of}
use Rattle.indicatif_bar.specs.Commands.{TickerTick}
use Rattle.indicatif_board.specs.Boards.{Tell, says}
use Rattle.indicatif_board.specs.BarIds.{id_of}
use Rattle.indicatif_board.specs.Multi.{known, mark_of}
use Rattle.uses.proofs.ExactLemmas.{unlimited_on}
use Rattle.uses.proofs.answers.tick_on_board.Goals as goal

pub returns : goal.returns
returns g c = λ limited.
    let m = g.K.ProgressTracker.means in
    let mark = mark_of c.args.board.now in
    let id = id_of c.args.id in
    let old = known g.T.TermLike.view c.set_draw_target-left.new.self in
    let new = known g.T.TermLike.view c.command.new.self in
    let s = c.order-in_some_state.ensures.some in
    let begun = record s.0 { limiter = limiter_of c.term_like.result; lists = opening_lists } in
    let made = c.command.ensures.leads mark begun (c.set_draw_target-left.ensures.state mark s.0 s.1) in
    unlimited_on m mark c.args.now begun c.command.result id old new
    (c.what_a_board_answers.ensures mark old new (Tell id TickerTick, c.args.now) begun (says c.command.result) made.0 made.2)
    (ap limiter_of c.term_like.ensures) limited
