use Rattle.std.proofs.Common.{arith}
use Rattle.std.proofs.Math.Nat.{one-le-pow}
use Rattle.indicatif_bar.proofs.KeyTextLemmas.{unit_fits}
use Rattle.indicatif_bar.proofs.style.keys.power_of_ten.Goals as goal

pub pow-requires : goal.pow-requires
pow-requires c =
    let small = unit_fits c.from.result (omega (arith, c.from.ensures, c.requires)) in
    omega (arith, small)

pub returns-clause-some : goal.returns-clause-some
returns-clause-some c = omega (arith, c.pow.ensures, one-le-pow c.from.result 10 (omega arith))

pub returns-clause-small : goal.returns-clause-small
returns-clause-small c = omega (arith, c.pow.ensures, unit_fits c.from.result (omega (arith, c.from.ensures, c.requires)))
