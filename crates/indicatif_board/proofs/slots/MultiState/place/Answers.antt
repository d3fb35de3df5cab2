use Rattle.std.proofs.Common.{◌≡◌, ◌<◌, ◌∙◌, sym, ap, subst, arith, length, get_or}
use Rattle.indicatif_board.specs.Slots.{SlotTable, IsSeated}
use Rattle.indicatif_board.proofs.BarRecordLemmas.{only_seat}
use Rattle.indicatif_board.proofs.slots.MultiState.place.Goals as goal

pub returns-then-index-number : goal.returns-then-index-number
returns-then-index-number c =
    let t = c.args.self.now in
    let at = c.last-at.result in
    let number = c.index.result.now in
    let order : c.self.inside.order.items ≡ t.order = ap (λ (x : SlotTable). x.order) c.self.view_is in
    let seats : IsSeated t = subst IsSeated c.self.view_is c.self.invariant.0 in
    let within : at < length t.order = omega (arith, c.if-at-len.true, c.len.ensures, c.self.inside.order.ok, ap length order) in
    only_seat c.args.number at number t.order (seats.apart c.args.number) within (ap (λ xs. get_or xs at number) (sym order) ∙ sym c.index.ensures ∙ c.if-index-number.true)
