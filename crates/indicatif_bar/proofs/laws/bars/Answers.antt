use Rattle.indicatif_bar.proofs.BarLawLemmas.{full_at_its_length, empty_at_its_start, never_fewer, never_more, cells_fit}
use Rattle.indicatif_bar.proofs.BarWidthLemmas.{filled_are_shown, never_shows_fewer, bars_take_their_cells, bars_fill, bars_fit, taken_are_plain}
use Rattle.indicatif_bar.proofs.ClusterLemmas.{first_are_taken}
use Rattle.indicatif_bar.proofs.laws.bars.Goals as goal

pub returns : goal.returns
returns c = record {
  full = full_at_its_length;
  empty = empty_at_its_start;
  fewer = never_fewer;
  more = never_more;
  fit = cells_fit;
  shown = filled_are_shown;
  shows_fewer = never_shows_fewer;
  cells = bars_take_their_cells;
  fills = bars_fill;
  within = bars_fit;
  plain = taken_are_plain;
  first = first_are_taken;
}
