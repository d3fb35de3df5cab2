use Rattle.std.proofs.Common.{◌≡◌, refl, sym, ◌∙◌, ap}
use Rattle.indicatif_bar.specs.Machines.{outcomes}
use Rattle.indicatif_board.specs.BoardBars.{board_bars}
use Rattle.indicatif_board.specs.Boards.{opening_board, board}
use Rattle.indicatif_board.specs.Recorded.{answers_of, calls_of}
use Rattle.uses.proofs.histories.same_answers.Goals as goal

pub returns : goal.returns
returns g c = λ ids limiters targets calls fine fine'.
    let m = g.K.ProgressTracker.means in
    let one = c.args.one.now in
    let other = c.args.other.now in
    let a = c.what_a_history_says.ensures.answers _ one _ c.replays.ensures.2 fine in
    let b = c.what_a_history_says.ensures.answers _ other _ c.replays-2.ensures.2 fine' in
    let same : outcomes (board (board_bars m) other.mark) other.target (calls_of other.steps) (opening_board other.limiter)
    ≡ outcomes (board (board_bars m) one.mark) one.target (calls_of one.steps) (opening_board one.limiter) = rw (ids, limiters, targets, calls) refl in
    sym (ap (λ o. o.0) b) ∙ ap (λ o. o.0) same ∙ ap (λ o. o.0) a
