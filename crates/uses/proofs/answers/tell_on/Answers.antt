use Rattle.indicatif_bar.specs.Commands.{command_of}
use Rattle.indicatif_board.specs.BarIds.{id_of}
use Rattle.indicatif_board.specs.Boards.{Tell, says}
use Rattle.indicatif_board.specs.Multi.{known, mark_of}
use Rattle.uses.proofs.answers.tell_on.Goals as goal

pub returns : goal.returns
returns g c =
    let view = g.T.TermLike.view in
    let mark = mark_of c.args.board.now in
    let told = Tell (id_of c.args.id) (command_of c.args.command) in
    let s = c.order-in_some_state.ensures.some in
    let made = c.command.ensures.leads mark s.0 s.1 in
    (s.0, s.1, c.what_a_board_answers.ensures mark (known view c.args.board.now) (known view c.command.new.self) (told, c.args.now) s.0 (says c.command.result) made.0 made.2)
