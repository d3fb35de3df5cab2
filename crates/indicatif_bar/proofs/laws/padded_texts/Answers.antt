use Rattle.indicatif_bar.proofs.TextWidthLemmas.{padded_fills, never_narrower, never_wider}
use Rattle.indicatif_bar.proofs.laws.padded_texts.Goals as goal

pub returns : goal.returns
returns c = record { fills = padded_fills; no_narrower = never_narrower; no_wider = never_wider }
