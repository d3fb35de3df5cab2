use Rattle.std.proofs.Common.{ap, sym, Some}
use Rattle.indicatif_board.specs.Boards as on
use Rattle.bars_run.specs.Commands.{Add}
use Rattle.bars_run.specs.Player.{Bar, calling}
use Rattle.bars_run.proofs.PlayLemmas.{obeyed}
use Rattle.bars_run.proofs.player.Player.add.Goals as goal

pub returns : goal.returns
returns c =
    obeyed c.make.result (Add c.args.text.now) (calling (on.Insert on.End (on.New c.in_ok-bar.bar))) c.args.self.now.board c.make.new.self.board
    (ap (λ (bar : Bar). Some (calling (on.Insert on.End (on.New bar)))) (sym c.in_ok-bar.ensures)) c.make.ensures.made
