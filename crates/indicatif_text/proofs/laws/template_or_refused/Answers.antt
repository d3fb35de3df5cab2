use Rattle.indicatif_text.proofs.TemplateLemmas.{one_of_both, never_both, one_list, one_place}
use Rattle.indicatif_text.proofs.laws.template_or_refused.Goals as goal

pub returns-clause-one : goal.returns-clause-one
returns-clause-one c = one_of_both

pub returns-clause-never_both : goal.returns-clause-never_both
returns-clause-never_both c = never_both

pub returns-clause-one_list : goal.returns-clause-one_list
returns-clause-one_list c = one_list

pub returns-clause-one_place : goal.returns-clause-one_place
returns-clause-one_place c = one_place
