use Rattle.std.proofs.Common.{◌≡◌, ◌≤◌, ◌∙◌, ◌+◌, ap, sym, map, subst, false, length, arith}
use Rattle.std.specs.List.{insert}
use Rattle.indicatif_term.specs.Target.{is_bottom}
use Rattle.indicatif_term.specs.declared.target.lines.Segment.{Segment}
use Rattle.indicatif_board.specs.ShownBars.{HoldsState}
use Rattle.indicatif_board.specs.Slots.{SlotTable, occurrences}
use Rattle.indicatif_board.specs.declared.members.Member.{Member as MemberValue}
use Rattle.indicatif_board.proofs.MemberLemmas.{taken_holds, inserted_bars}
use Rattle.indicatif_board.proofs.BarRecordLemmas.{evenly, record_none, taken_record, taken_others}
use Rattle.indicatif_board.proofs.SeatLemmas.{slot_taken}
use Rattle.indicatif_board.proofs.shown_bars.ShownBars.take_in.Goals as goal

pub invariant_of-self-2-clause-seated : goal.invariant_of-self-2-clause-seated
invariant_of-self-2-clause-seated g c =
    let b = c.args.self.now in
    let number = c.in-Ok-insert.number in
    let segment : Segment = record { bar = number; lines = c.new-lines.result } in
    ap (map (λ (x : Segment). x.bar)) (c.queue_at-2.ensures ∙ ap (λ xs. insert xs c.args.at segment) c.reserve-2.ensures.items)
    ∙ inserted_bars b.frame.items b.table.order c.args.at segment b.seated
    ∙ ap (insert b.table.order c.args.at) c.in-Ok-insert.ensures.number
    ∙ sym (ap (λ (t : SlotTable). t.order) c.in-Ok-insert.ensures.inserted)

pub returns-clause-taken : goal.returns-clause-taken
returns-clause-taken g c = λ s spot holds here.
    let b = c.args.self.now in
    let number = c.in-Ok-insert.number in (
      sym holds.made_is ∙ sym c.in-Ok-insert.ensures.number,
      c.in-Ok-insert.ensures.fits,
      taken_holds b.frame.items c.queue_at-2.new.items.items b.members.items c.queue_at.new.items.items number c.insert.new.self.made
          (is_bottom b.alignment) s spot c.args.at c.args.bar c.new-lines.result
          (subst (λ n. HoldsState b.frame.items b.members.items n (is_bottom b.alignment) s) (sym c.in-Ok-insert.ensures.number) holds) here c.new-lines.ensures.items
          (c.queue_at-2.ensures ∙ ap (λ xs. insert xs c.args.at (record { bar = number; lines = c.new-lines.result })) c.reserve-2.ensures.items)
          (c.queue_at.ensures ∙ ap (λ xs. insert xs c.args.at c.in-Ok.member) c.reserve.ensures.items ∙ ap (insert b.members.items c.args.at) c.in-Ok.ensures)
          (ap (λ (t : SlotTable). t.made) c.in-Ok-insert.ensures.inserted ∙ ap (λ n. n + 1) (sym c.in-Ok-insert.ensures.number)),
    )

pub returns-clause-records : goal.returns-clause-records
returns-clause-records g c =
    let b = c.args.self.now in
    let number = c.in-Ok-insert.number in
    let item : MemberValue g.row.K.Denot = record { bar = c.args.bar; dropped = false } in
    let even = evenly b.frame.items b.table.order b.members.items (omega (arith, b.even, b.members.ok, b.frame.ok)) b.seated in
    let members = c.queue_at.ensures ∙ ap (λ xs. insert xs c.args.at c.in-Ok.member) c.reserve.ensures.items ∙ ap (insert b.members.items c.args.at) c.in-Ok.ensures in
    let order = ap (λ (t : SlotTable). t.order) c.in-Ok-insert.ensures.inserted ∙ ap (insert b.table.order c.args.at) (sym c.in-Ok-insert.ensures.number) in
    let none : occurrences number b.table.order ≡ 0 = c.in-Ok-insert.ensures.seated.given number (omega (arith, c.in-Ok-insert.ensures.number)) in
    let within : c.args.at ≤ length b.table.order = omega (arith, c.requires.within, even, b.members.ok) in (
      record_none number b.table.order b.members.items none,
      taken_record number c.args.at b.table.order b.members.items even c.insert.new.self.order c.queue_at.new.items.items item order members none within,
      taken_others number c.args.at b.table.order b.members.items even c.insert.new.self.order c.queue_at.new.items.items item order members within,
    )

pub returns-clause-slot : goal.returns-clause-slot
returns-clause-slot g c =
    let b = c.args.self.now in
    let even = evenly b.frame.items b.table.order b.members.items (omega (arith, b.even, b.members.ok, b.frame.ok)) b.seated in
    let within : c.args.at ≤ length b.table.order = omega (arith, c.requires.within, even, b.members.ok) in (
      slot_taken b.table c.insert.new.self c.in-Ok-insert.number c.args.at c.in-Ok-insert.ensures.seated c.in-Ok-insert.ensures.inserted c.in-Ok-insert.ensures.number within,
      c.in-Ok-insert.ensures.inserted,
    )
