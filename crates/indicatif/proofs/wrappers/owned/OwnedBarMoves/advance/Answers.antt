use Rattle.std.proofs.Common.{◌∙◌, ap, Some}
use Rattle.std.specs.Prelude.{◌+◌, ◌%◌, ◌^◌}
use Rattle.indicatif_bar.specs.LoneBars.{record_of}
use Rattle.indicatif.specs.Owned.{standing_of}
use Rattle.indicatif.proofs.OwnedLemmas.{moved_stands}
use Rattle.indicatif.proofs.wrappers.owned.OwnedBarMoves.advance.Goals as goal

pub returns-clause-goes : goal.returns-clause-goes
returns-clause-goes g c =
    let bar = record_of c.args.self.now.bar in
    ap (λ bar. Some (standing_of bar)) c.inc.ensures.bar
    ∙ ap Some (moved_stands g.K.Tracks.means ((bar.progress.position + c.args.n) % 2 ^ 64) bar c.now-now.result)
