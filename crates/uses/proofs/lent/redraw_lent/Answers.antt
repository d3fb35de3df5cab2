use Rattle.std.proofs.Common.{ap, subst, false, option_map}
use Rattle.indicatif_bar.specs.Machines.{target_of}
use Rattle.indicatif_board.specs.Multi.{mark_of}
use Rattle.uses.proofs.LentLemmas.{Redraws, redrawn_hidden, redrawn_narrow}
use Rattle.uses.proofs.lent.redraw_lent.Goals as goal

pub returns-clause-hidden : goal.returns-clause-hidden
returns-clause-hidden g c = λ none.
    let m = g.K.ProgressTracker.means in
    let mark = mark_of c.args.board.now in
    let s = c.order-in_some_state.ensures.some in
    let made = c.redraw.ensures.leads mark s.0 s.1 in
    redrawn_hidden m mark c.args.now s.0 made.0 c.redraw.result
    (subst (λ o. Redraws m mark c.args.now s.0 made.0 c.redraw.result (target_of o)) (ap (option_map g.T.TermLike.view) none) made.2.leads)

pub returns-clause-no_columns : goal.returns-clause-no_columns
returns-clause-no_columns g c = λ term there narrow.
    let m = g.K.ProgressTracker.means in
    let view = g.T.TermLike.view in
    let mark = mark_of c.args.board.now in
    let s = c.order-in_some_state.ensures.some in
    let made = c.redraw.ensures.leads mark s.0 s.1 in
    let led = subst (λ o. Redraws m mark c.args.now s.0 made.0 c.redraw.result (target_of o)) (ap (option_map view) there) made.2.leads in
    redrawn_narrow m mark c.args.now s.0 made.0 c.redraw.result (view term).rows
    (subst (λ w. Redraws m mark c.args.now s.0 made.0 c.redraw.result (record { hidden = false; columns = w; rows = (view term).rows })) narrow led)
