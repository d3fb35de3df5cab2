use Rattle.std.proofs.Common.{◌≡◌, refl, true, ap, subst, sym, ◌∙◌, option_map}
use Rattle.std.specs.Prelude.{◌≢◌, ◌↔◌}
use Rattle.indicatif_term.specs.Engines.{Paints, is_failure}
use Rattle.indicatif_bar.specs.Machines.{target_of}
use Rattle.indicatif_bar.specs.Runs.{CallMade}
use Rattle.indicatif_bar.specs.Says.{Says}
use Rattle.indicatif_board.specs.BoardBars.{board_bars}
use Rattle.indicatif_board.specs.Boards.{Clear, says, drawn_of_said, board}
use Rattle.indicatif_board.specs.Multi.{known, mark_of}
use Rattle.uses.proofs.ExactLemmas.{board_cleared_ample, board_cleared_so, stay_unless_cleared, leave_when_cleared}
use Rattle.uses.proofs.answers.take_bars_back.Goals as goal

pub returns-clause-done : goal.returns-clause-done
returns-clause-done g c = λ term there wide.
    let m = g.K.ProgressTracker.means in
    let view = g.T.TermLike.view in
    let mark = mark_of c.args.board.now in
    let new = known view c.clear-drawn.new.self in
    let s = c.order-before.ensures.some in
    let made = c.clear-drawn.ensures.leads mark s.0 s.1 in
    let w = c.what_a_board_answers.ensures mark (known view c.args.board.now) new (Clear, c.args.now) s.0 (says c.clear-drawn.result) made.0 made.2 in
    board_cleared_so m mark c.args.now s.0 c.clear-drawn.result (view term) new
    (subst (λ o. Says (board (board_bars m) mark) o new (Clear, c.args.now) s.0 (says c.clear-drawn.result)) (ap (option_map view) there) w) wide

pub returns-clause-memory : goal.returns-clause-memory
returns-clause-memory g c = λ short.
    let m = g.K.ProgressTracker.means in
    let view = g.T.TermLike.view in
    let mark = mark_of c.args.board.now in
    let old = known view c.args.board.now in
    let new = known view c.clear-drawn.new.self in
    let s = c.order-before.ensures.some in
    let made = c.clear-drawn.ensures.leads mark s.0 s.1 in
    board_cleared_ample m mark c.args.now s.0 c.clear-drawn.result old new (c.what_a_board_answers.ensures mark old new (Clear, c.args.now) s.0 (says c.clear-drawn.result) made.0 made.2) short

pub returns-clause-leave : goal.returns-clause-leave
returns-clause-leave g c = λ done.
    let m = g.K.ProgressTracker.means in
    let mark = mark_of c.args.board.now in
    let old = known g.T.TermLike.view c.args.board.now in
    let s = c.order-before.ensures.some in
    let made = c.clear-drawn.ensures.leads mark s.0 s.1 in
    let leave = leave_when_cleared m mark c.args.now s.0 c.clear-drawn.result (target_of old) made.0 made.2.leads done in
    (s.0, s.1, sym c.order-after.ensures.slots ∙ c.order-after.ensures.order mark made.0 made.1 ∙ leave)

pub returns-clause-stay : goal.returns-clause-stay
returns-clause-stay g c = λ other.
    let m = g.K.ProgressTracker.means in
    let mark = mark_of c.args.board.now in
    let old = known g.T.TermLike.view c.args.board.now in
    let s = c.order-before.ensures.some in
    let made = c.clear-drawn.ensures.leads mark s.0 s.1 in
    sym c.order-after.ensures.slots ∙ c.order-after.ensures.order mark made.0 made.1
    ∙ stay_unless_cleared m mark c.args.now s.0 c.clear-drawn.result (target_of old) made.0 made.2.leads other
    ∙ sym (c.order-before.ensures.order mark s.0 s.1) ∙ c.order-before.ensures.slots

pub returns-clause-failed : goal.returns-clause-failed
returns-clause-failed g c = λ term next there left.
    let view = g.T.TermLike.view in
    let mark = mark_of c.args.board.now in
    let old = known view c.args.board.now in
    let new = known view c.clear-drawn.new.self in
    let s = c.order-before.ensures.some in
    let made = c.clear-drawn.ensures.leads mark s.0 s.1 in
    let w = c.what_a_board_answers.ensures mark old new (Clear, c.args.now) s.0 (says c.clear-drawn.result) made.0 made.2 in
    subst (λ r. (is_failure r ≡ true) ↔ ((view next).faults ≢ (view term).faults)) (drawn_of_said c.clear-drawn.result)
    (w.failed (view term) (view next) (ap (option_map view) there) (ap (option_map view) left))

pub returns-clause-paints : goal.returns-clause-paints
returns-clause-paints g c = λ v at.
    let m = g.K.ProgressTracker.means in
    let view = g.T.TermLike.view in
    let mark = mark_of c.args.board.now in
    let new = known view c.clear-drawn.new.self in
    let s = c.order-before.ensures.some in
    let made = c.clear-drawn.ensures.leads mark s.0 s.1 in
    let answer = c.clear-drawn.result in
    let step = subst (λ o. CallMade (board (board_bars m) mark) o new (Clear, c.args.now) s.0 (says answer) made.0) at made.2 in
    let painted = subst (λ r. Paints v step.writes.0 (is_failure r) s.0.lists made.0.lists) (drawn_of_said answer) (step.writes.2.paints (λ _. refl)) in
    (s.0, made.0, s.1, made.1, step.writes.0, step.writes.1, painted)
