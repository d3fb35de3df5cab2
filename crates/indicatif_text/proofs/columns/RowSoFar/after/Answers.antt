use Rattle.std.proofs.Common.{◌≡◌, ◌+◌, ◌-◌, ◌*◌, ◌/◌, ◌%◌, ◌<◌, arith, refl}
use Rattle.std.proofs.Math.Nat.{div-add-mod, mod-lt}
use Rattle.indicatif_text.specs.Inside.Runs.{Later}
use Rattle.indicatif_text.proofs.WrappingLemmas.{has_room}
use Rattle.indicatif_text.proofs.columns.RowSoFar.after.Goals as goal

pub returns-clause-ends : goal.returns-clause-ends
returns-clause-ends c =
    let first = c.fitting-first.result in
    let each = c.fitting-each.result in
    let over = c.args.run.count - first - 1 in
    let some : 0 < each = has_room c.args.self.width c.args.run.columns each c.requires.fits c.fitting-each.ensures.full in
    let parts : each * (over / each) + over % each ≡ over = div-add-mod over each in
    let last : over % each < each = mod-lt over some in
    Later first each (over / each) (over % each + 1) (omega (arith, c.requires.within, c.fitting-first.ensures.fits)) (omega (arith, c.requires.within, c.fitting-first.ensures.full))
    c.fitting-each.ensures.fits c.fitting-each.ensures.full (omega arith) (omega (arith, last)) (omega (arith, parts, c.if-run-first.false)) (omega arith) refl
