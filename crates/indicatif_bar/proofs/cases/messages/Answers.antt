use Rattle.std.proofs.Common.{refl}
use Rattle.std.specs.Str.{chars}
use Rattle.std.proofs.Math.Utf8.{encode}
use Rattle.indicatif_bar.specs.Styles.{lines}
use Rattle.indicatif_bar.proofs.cases.messages.Goals as goal

pub returns : goal.returns
unfolding chars lines encode
returns c = record { lines = (refl, refl, refl, refl, refl) }
