use Rattle.std.proofs.Common.{◌∙◌, ap, length}
use Rattle.std.specs.Prelude.{nat_lt}
use Rattle.std.proofs.lemmas.Iterator.Consumers.{nth_from_yields_List}
use Rattle.unicode_segmentation.specs.Iter.{graphemes_left}
use Rattle.unicode_segmentation.proofs.SegmentsLemmas.{YieldsList-from_gives}
use Rattle.indicatif_bar.proofs.SecondLemmas.{few}
use Rattle.indicatif_bar.proofs.style.clusters.has_few_clusters.Goals as goal

pub returns : goal.returns
returns c =
    let at = nth_from_yields_List c.nth.result c.nth.new.self 1 c.nth.ensures.ran (YieldsList-from_gives _ _ c.graphemes.result) in
    few _ c.nth.result (graphemes_left c.graphemes.result) c.is_none.result at c.is_none.ensures
    ∙ ap (λ xs. nat_lt (length xs) 2) c.graphemes.ensures.left
