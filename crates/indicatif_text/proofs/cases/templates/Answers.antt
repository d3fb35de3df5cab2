use Rattle.indicatif_text.proofs.TemplateCaseLemmas.{templates}
use Rattle.indicatif_text.proofs.cases.templates.Goals as goal

pub returns : goal.returns
returns c = templates
