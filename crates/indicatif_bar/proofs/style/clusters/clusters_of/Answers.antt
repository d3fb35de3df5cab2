use Rattle.std.proofs.Common.{◌∙◌, ap}
use Rattle.std.proofs.lemmas.Iterator.Consumers.{YieldsList-end}
use Rattle.unicode_segmentation.specs.Iter.{graphemes_left}
use Rattle.unicode_segmentation.proofs.SegmentsLemmas.{YieldsList-from_gives}
use Rattle.indicatif_bar.proofs.style.clusters.clusters_of.Goals as goal

pub returns-clause-texts : goal.returns-clause-texts
returns-clause-texts c =
    let t = YieldsList-end (YieldsList-from_gives _ _ c.into_iter-cluster-iterator.result) c.loop-cluster.yielded _ c.loop-cluster.yielded_by _ _ c.in-None.is c.next.ensures.steps in
    c.loop-cluster.invariant ∙ t.0 ∙ ap graphemes_left c.into_iter-cluster-iterator.ensures.into_iter_gives ∙ c.graphemes-cluster-items.ensures.left
