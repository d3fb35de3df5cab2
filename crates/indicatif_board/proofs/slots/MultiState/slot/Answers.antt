use Rattle.std.proofs.Common.{◌≡◌, ◌∙◌, ◌<◌, ◌+◌, false, suc, ap, subst, arith, refl, length, drop, get_or, Some, if◌then◌else◌}
use Rattle.std.specs.Prelude.{◌==◌}
use Rattle.std.proofs.lemmas.Bool.{ne_eqb}
use Rattle.indicatif_board.specs.Slots.{IsSeated, SlotTable, slot_in}
use Rattle.indicatif_board.proofs.SlotLemmas.{slot_step}
use Rattle.indicatif_board.proofs.slots.MultiState.slot.Goals as goal

pub loop-at-preserved : goal.loop-at-preserved
loop-at-preserved l =
    let t = l.args.self.now in
    let at = l.loop-at.at in
    let number = l.args.number in
    let items_is : l.deref-bar-items.result.now ≡ t.order = l.deref-bar-items.ensures.value ∙ ap (λ (x : SlotTable). x.order) l.self.view_is in
    let seats : IsSeated t = subst IsSeated l.self.view_is l.self.invariant.0 in
    let within : at < length t.order = omega (arith, l.loop-at-test.true, ap length items_is) in
    let inside : at < length t.slots = omega (arith, within, seats.even) in
    let other : (get_or t.order at 0 == number) ≡ false = ne_eqb (get_or t.order at 0) number (λ e. l.if-bar-number.false (ap (λ xs. get_or xs at 0) items_is ∙ e)) in
    let next : suc at ≡ at + 1 = omega arith in
    l.loop-at.invariant ∙ slot_step number at (get_or t.slots at 0) 0 t.order t.slots within inside refl
    ∙ ap (λ b. if b then Some (get_or t.slots at 0) else slot_in number (drop (suc at) t.order) (drop (suc at) t.slots)) other
    ∙ ap (λ k. slot_in number (drop k t.order) (drop k t.slots)) next
