use Rattle.indicatif_term.proofs.ResizeLemmas.{resized_rests}
use Rattle.indicatif_term.proofs.laws.what_a_resize_leaves.Goals as goal

pub returns : goal.returns
returns c = resized_rests
