use Rattle.std.proofs.Common.{ap, subst, option_map, sym, ◌∙◌}
use Rattle.indicatif_bar.specs.Commands.{BarRecord}
use Rattle.indicatif_bar.specs.Lone.{Log}
use Rattle.indicatif_bar.specs.LoneBars.{lone_bar, lone_known}
use Rattle.indicatif_bar.specs.Progress.{is_hidden}
use Rattle.indicatif_bar.specs.Says.{Says}
use Rattle.uses.proofs.ExactLemmas.{logged_too_wide, log_takes}
use Rattle.uses.proofs.answers.log.Goals as goal

pub returns-clause-too_wide : goal.returns-clause-too_wide
returns-clause-too_wide g c = λ term there wide long ample.
    let m = g.K.ProgressTracker.means in
    let view = g.T.TermLike.view in
    let new = lone_known view c.println.new.self in
    let text = c.args.text.now in
    let s = c.bar-in_some_state.ensures.some in
    let made = c.println.ensures.leads s.0 s.1 in
    let w = c.what_a_lone_bar_answers.ensures (lone_known view c.args.bar.now) new (Log text, c.args.now) s.0 c.println.result made.0 made.2 in
    logged_too_wide m c.args.now s.0 c.println.result (view term) new text
    (subst (λ o. Says (lone_bar m) o new (Log text, c.args.now) s.0 c.println.result) (ap (option_map view) there) w) wide long ample

pub returns-clause-memory : goal.returns-clause-memory
returns-clause-memory g c = λ short.
    let m = g.K.ProgressTracker.means in
    let view = g.T.TermLike.view in
    let old = lone_known view c.args.bar.now in
    let new = lone_known view c.println.new.self in
    let text = c.args.text.now in
    let s = c.bar-in_some_state.ensures.some in
    let made = c.println.ensures.leads s.0 s.1 in
    let bar_is = sym c.bar-in_some_state.ensures.bar ∙ c.bar-in_some_state.ensures.state s.0 s.1 in
    ap (λ (b : BarRecord g.row.K.Denot). is_hidden b.progress) bar_is
    ∙ log_takes m c.args.now s.0 c.println.result old new text (c.what_a_lone_bar_answers.ensures old new (Log text, c.args.now) s.0 c.println.result made.0 made.2) short
