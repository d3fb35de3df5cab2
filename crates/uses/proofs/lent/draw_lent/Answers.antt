use Rattle.std.proofs.Common.{ap, subst, false, Some, option_map}
use Rattle.indicatif_bar.specs.Machines.{target_of}
use Rattle.indicatif_bar.specs.Lone.{Obey}
use Rattle.indicatif_bar.specs.Commands.{ForceDraw}
use Rattle.indicatif_bar.specs.LoneBars.{lone_terminal}
use Rattle.uses.proofs.LentLemmas.{Forces, forced_hidden, forced_narrow, lent_faults}
use Rattle.uses.proofs.lent.draw_lent.Goals as goal

pub returns-clause-hidden : goal.returns-clause-hidden
returns-clause-hidden g c = λ none.
    let m = g.K.ProgressTracker.means in
    let s = c.bar-in_some_state.ensures.some in
    let made = c.force_draw.ensures.leads s.0 s.1 in
    forced_hidden m c.args.now s.0 made.0 c.force_draw.result
    (subst (λ o. Forces m c.args.now s.0 made.0 c.force_draw.result (target_of o)) (ap (option_map g.T.TermLike.view) none) made.2.leads)

pub returns-clause-no_columns : goal.returns-clause-no_columns
returns-clause-no_columns g c = λ term there narrow.
    let m = g.K.ProgressTracker.means in
    let view = g.T.TermLike.view in
    let s = c.bar-in_some_state.ensures.some in
    let made = c.force_draw.ensures.leads s.0 s.1 in
    let led = subst (λ o. Forces m c.args.now s.0 made.0 c.force_draw.result (target_of o)) (ap (option_map view) there) made.2.leads in
    forced_narrow m c.args.now s.0 made.0 c.force_draw.result (view term).rows
    (subst (λ w. Forces m c.args.now s.0 made.0 c.force_draw.result (record { hidden = false; columns = w; rows = (view term).rows })) narrow led)

pub returns-clause-failed : goal.returns-clause-failed
returns-clause-failed g c =
    let s = c.bar-in_some_state.ensures.some in
    let made = c.force_draw.ensures.leads s.0 s.1 in
    lent_faults g.K.ProgressTracker.means g.T.TermLike.view (lone_terminal c.args.bar.now) (lone_terminal c.force_draw.new.self) (Obey ForceDraw, c.args.now) s.0 made.0 c.force_draw.result made.2

pub returns-clause-kind : goal.returns-clause-kind
returns-clause-kind g c = λ kind next answered there.
    let view = g.T.TermLike.view in
    let s = c.bar-in_some_state.ensures.some in
    let made = c.force_draw.ensures.leads s.0 s.1 in
    let says = c.what_a_lone_bar_answers.ensures (option_map view (lone_terminal c.args.bar.now)) (option_map view (lone_terminal c.force_draw.new.self)) (Obey ForceDraw, c.args.now) s.0
    c.force_draw.result made.0 made.2 in
    says.kind kind (view next) answered (ap (option_map view) there)
