use Rattle.std.proofs.Common.{ap, subst, option_map}
use Rattle.indicatif_bar.specs.Lone.{Clear}
use Rattle.indicatif_bar.specs.LoneBars.{lone_bar, lone_known}
use Rattle.indicatif_bar.specs.Says.{Says}
use Rattle.uses.proofs.ExactLemmas.{cleared_ample, cleared_so}
use Rattle.uses.proofs.answers.take_back.Goals as goal

pub returns-clause-done : goal.returns-clause-done
returns-clause-done g c = λ term there wide.
    let m = g.K.ProgressTracker.means in
    let view = g.T.TermLike.view in
    let new = lone_known view c.clear.new.self in
    let s = c.bar-in_some_state.ensures.some in
    let made = c.clear.ensures.leads s.0 s.1 in
    let w = c.what_a_lone_bar_answers.ensures (lone_known view c.args.bar.now) new (Clear, c.args.now) s.0 c.clear.result made.0 made.2 in
    cleared_so m c.args.now s.0 c.clear.result (view term) new
    (subst (λ o. Says (lone_bar m) o new (Clear, c.args.now) s.0 c.clear.result) (ap (option_map view) there) w) wide

pub returns-clause-memory : goal.returns-clause-memory
returns-clause-memory g c = λ short.
    let m = g.K.ProgressTracker.means in
    let view = g.T.TermLike.view in
    let old = lone_known view c.args.bar.now in
    let new = lone_known view c.clear.new.self in
    let s = c.bar-in_some_state.ensures.some in
    let made = c.clear.ensures.leads s.0 s.1 in
    cleared_ample m c.args.now s.0 c.clear.result old new (c.what_a_lone_bar_answers.ensures old new (Clear, c.args.now) s.0 c.clear.result made.0 made.2) short

pub returns-clause-failed : goal.returns-clause-failed
returns-clause-failed g c = λ term next there left.
    let view = g.T.TermLike.view in
    let old = lone_known view c.args.bar.now in
    let new = lone_known view c.clear.new.self in
    let s = c.bar-in_some_state.ensures.some in
    let made = c.clear.ensures.leads s.0 s.1 in
    (c.what_a_lone_bar_answers.ensures old new (Clear, c.args.now) s.0 c.clear.result made.0 made.2).failed (view term) (view next) (ap (option_map view) there) (ap (option_map view) left)
