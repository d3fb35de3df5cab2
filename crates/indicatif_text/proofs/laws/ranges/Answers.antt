use Rattle.indicatif_text.proofs.RangeLawLemmas.{whole_range}
use Rattle.indicatif_text.proofs.RangeWidthLemmas.{ranges_fit, sequences_stay, no_character_is_added, ranges_stay_plain}
use Rattle.indicatif_text.proofs.laws.ranges.Goals as goal

pub returns : goal.returns
returns c = record { whole = whole_range; fit = ranges_fit; sequences = sequences_stay; no_more = no_character_is_added; plain = ranges_stay_plain }
