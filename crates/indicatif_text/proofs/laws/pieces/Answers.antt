use Rattle.indicatif_text.proofs.PieceLawLemmas.{pieces_join, runs_are_visible, pieces_are_exact, no_empty_pieces, runs_are_longest}
use Rattle.indicatif_text.proofs.laws.pieces.Goals as goal

pub returns : goal.returns
returns c = record { join = pieces_join; visible = runs_are_visible; exact = pieces_are_exact; no_empty = no_empty_pieces; longest = runs_are_longest }
