use Rattle.std.proofs.Common.{subst}
use Rattle.indicatif_board.specs.Recorded.{IsOneRun}
use Rattle.indicatif_board.proofs.recorded.Recorded.replays.Goals as goal

pub returns : goal.returns
returns g c = subst (IsOneRun g.K.Tracks.means) c.self.view_is c.self.invariant
