use Rattle.bars_run.proofs.PlayLemmas.{resized}
use Rattle.bars_run.proofs.player.Player.resize.Goals as goal

pub returns : goal.returns
returns c =
    let size = c.args.size in
    resized c.resize.result size.columns size.rows c.args.self.now.board c.resize.new.self (λ s is. c.resize.ensures.plays 0 s is)
