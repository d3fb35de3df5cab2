use Rattle.std.proofs.Common.{ap}
use Rattle.indicatif_bar.specs.Scripts.{Size}
use Rattle.indicatif_board.specs.Boards as on
use Rattle.bars_run.specs.Commands.{command_of}
use Rattle.bars_run.specs.Player.{calling, script_step}
use Rattle.bars_run.proofs.PlayLemmas.{obeyed}
use Rattle.bars_run.proofs.player.Player.obey.Goals as goal

pub returns-in-Size : goal.returns-in-Size
returns-in-Size c =
    let size = c.in-Size.size in
    obeyed c.resize.result (command_of c.args.command) (Size size.columns size.rows) c.args.self.now.board c.resize.new.self.board
    (ap (λ command. script_step (command_of command)) c.in-Size.is) c.resize.ensures

pub returns-in-Clear : goal.returns-in-Clear
returns-in-Clear c =
    obeyed c.make.result (command_of c.args.command) (calling on.Clear) c.args.self.now.board c.make.new.self.board (ap (λ command. script_step (command_of command)) c.in-Clear.is) c.make.ensures.made
