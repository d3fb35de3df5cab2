use Rattle.std.proofs.Common.{ap, sym, Some, string_bytes}
use Rattle.indicatif_board.specs.Boards as on
use Rattle.bars_run.specs.Commands.{Warn}
use Rattle.bars_run.specs.Player.{calling}
use Rattle.bars_run.proofs.PlayLemmas.{obeyed}
use Rattle.bars_run.proofs.player.Player.warn.Goals as goal

pub returns : goal.returns
returns c =
    obeyed c.make.result (Warn c.args.text.now) (calling (on.Log (string_bytes c.in_ok-line.line))) c.args.self.now.board c.make.new.self.board
    (ap (λ text. Some (calling (on.Log text))) (sym c.in_ok-line.ensures)) c.make.ensures.made
