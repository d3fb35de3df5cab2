use Rattle.indicatif_term.proofs.StandLemmas.{sized_place}
use Rattle.indicatif_term.proofs.StandingRowLemmas.{rows_taken, rows_placed, all_stand, rows_safe}
use Rattle.indicatif_term.proofs.laws.which_rows_a_size_leaves.Goals as goal

pub returns : goal.returns
returns c = record {
  cut = λ w h w' h' n l t p. rows_taken w' h' n t (sized_place p).inside.in_rows;
  all = all_stand;
  above = rows_safe;
  placed = rows_placed;
}
