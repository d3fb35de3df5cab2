use Rattle.std.proofs.Common.{refl}
use Rattle.indicatif_bar.proofs.laws.tab_widths.Goals as goal

pub returns-clause-new : goal.returns-clause-new
returns-clause-new g c = λ m bar tab now. (refl, refl, refl, λ text. refl)

pub returns-clause-last : goal.returns-clause-last
returns-clause-last g c = λ m bar earlier tab now. refl
