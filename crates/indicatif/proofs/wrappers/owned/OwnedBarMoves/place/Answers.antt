use Rattle.std.proofs.Common.{◌∙◌, ap, Some}
use Rattle.indicatif_bar.specs.LoneBars.{record_of}
use Rattle.indicatif.specs.Owned.{standing_of}
use Rattle.indicatif.proofs.OwnedLemmas.{moved_stands}
use Rattle.indicatif.proofs.wrappers.owned.OwnedBarMoves.place.Goals as goal

pub returns-clause-goes : goal.returns-clause-goes
returns-clause-goes g c =
    let bar = record_of c.args.self.now.bar in
    ap (λ bar. Some (standing_of bar)) c.set_position.ensures.bar
    ∙ ap Some (moved_stands g.K.Tracks.means c.args.place bar c.now-now.result)
