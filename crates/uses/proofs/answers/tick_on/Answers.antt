use Rattle.std.proofs.Common.{ap}
use Rattle.indicatif_term.specs.Lists.{opening_lists}
use Rattle.indicatif_term.specs.Target.{limiter_of}
use Rattle.indicatif_bar.specs.Commands.{TickerTick}
use Rattle.indicatif_bar.specs.Lone.{Obey}
use Rattle.indicatif_bar.specs.LoneBars.{lone_known}
use Rattle.indicatif_bar.specs.Machines.{target_of}
use Rattle.uses.proofs.ExactLemmas.{unlimited}
use Rattle.uses.proofs.answers.tick_on.Goals as goal

pub returns : goal.returns
returns g c = λ limited.
    let m = g.K.ProgressTracker.means in
    let view = g.T.TermLike.view in
    let old = lone_known view c.set_draw_target-left.new.self in
    let new = lone_known view c.ticker_tick.new.self in
    let s = c.bar-in_some_state.ensures.some in
    let begun = record s.0 { limiter = limiter_of c.term_like.result; lists = opening_lists } in
    let made = c.ticker_tick.ensures.leads begun (c.set_draw_target-left.ensures.state s.0 s.1) in
    unlimited m c.args.now begun c.ticker_tick.result old new
    (c.what_a_lone_bar_answers.ensures old new (Obey TickerTick, c.args.now) begun c.ticker_tick.result made.0 made.2)
    (c.a_lone_bar_is_limited.ensures.free (target_of old) (Obey TickerTick) c.args.now begun (ap limiter_of c.term_like.ensures)) limited
