use Rattle.indicatif_term.proofs.EndedRunLemmas.{line_leads, text_leads, clear_leads, up_leads}
use Rattle.indicatif_term.proofs.laws.how_far_calls_lead.Goals as goal

pub returns : goal.returns
returns c = record { line = line_leads; text = text_leads; cleared = clear_leads; up = up_leads }
