use Rattle.indicatif.proofs.FrontLemmas.{cleared_answers}
use Rattle.indicatif.proofs.shared.locked_bar.pause_of.Goals as goal

pub invariant_of-result : goal.invariant_of-result
invariant_of-result g c = record {
  by_clear = cleared_answers g.K.Tracks.means g.T.TermLike.view c.args.bar.now c.clear-cleared.new.self c.args.now c.clear-cleared.result
      (record { was = c.bar.ensures.some; done = c.clear-cleared.ensures.bar; leads = c.clear-cleared.ensures.leads });
}
