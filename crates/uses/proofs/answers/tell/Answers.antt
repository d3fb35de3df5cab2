use Rattle.indicatif_bar.specs.Lone.{Obey}
use Rattle.indicatif_bar.specs.Commands.{command_of}
use Rattle.indicatif_bar.specs.LoneBars.{lone_known}
use Rattle.uses.proofs.answers.tell.Goals as goal

pub returns : goal.returns
returns g c =
    let view = g.T.TermLike.view in
    let s = c.bar-in_some_state.ensures.some in
    let made = c.call.ensures.leads s.0 s.1 in
    (s.0, s.1, c.what_a_lone_bar_answers.ensures (lone_known view c.args.bar.now) (lone_known view c.call.new.self) (Obey (command_of c.args.command), c.args.now) s.0 c.call.result made.0 made.2)
