use Rattle.indicatif_text.proofs.RoundingLemmas.{rounded_by}
use Rattle.indicatif_text.proofs.format.rounding.nearest.Goals as goal

pub returns-then-rounds_up : goal.returns-then-rounds_up
returns-then-rounds_up c =
    let whole = rounded_by c.args.num c.args.den c.rounds_up.result (rw c.from-wide.ensures at c.rounds_up.ensures) in
    rw c.from-wide.ensures (rw c.if-rounds_up.true at whole)

pub returns-else-rounds_up : goal.returns-else-rounds_up
returns-else-rounds_up c =
    let whole = rounded_by c.args.num c.args.den c.rounds_up.result (rw c.from-wide.ensures at c.rounds_up.ensures) in
    rw c.from-wide.ensures (rw c.if-rounds_up.false at whole)
