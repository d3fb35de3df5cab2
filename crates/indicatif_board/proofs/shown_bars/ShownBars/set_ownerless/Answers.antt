use Rattle.std.proofs.Common.{◌≡◌, ◌<◌, ◌≤◌, ◌∙◌, ap, sym, subst, set, length, arith}
use Rattle.indicatif_term.specs.Target.{is_bottom}
use Rattle.indicatif_board.specs.Boards.{ownerless_on}
use Rattle.indicatif_board.specs.ShownBars.{HoldsState, owned_record}
use Rattle.indicatif_board.proofs.MemberLemmas.{place_is, frame_length}
use Rattle.indicatif_board.proofs.DropLemmas.{ownerless_nowhere, ownerless_there}
use Rattle.indicatif_board.proofs.BarRecordLemmas.{seat_is, evenly, record_past, told_record, told_others}
use Rattle.indicatif_board.specs.Inside.Standing.{seat_of}
use Rattle.indicatif_board.proofs.shown_bars.ShownBars.set_ownerless.Goals as goal

pub returns-then-at-len-clause-ownerless : goal.returns-then-at-len-clause-ownerless
returns-then-at-len-clause-ownerless g c = λ s holds.
    let b = c.args.self.now in
    let here = c.place-at.ensures.seat ∙ sym (seat_is b.frame.items b.table.order c.args.number b.seated) ∙ place_is b.frame.items s.members c.args.number holds.frame_is in
    let size = frame_length b.frame.items s.members holds.frame_is in
    let within : c.place-at.result < length s.members = omega (arith, size, c.len.ensures, c.if-at-len.true, b.even, b.members.ok, b.frame.ok) in
    subst (λ m. HoldsState b.frame.items (set b.members.items c.place-at.result m) b.table.made (is_bottom b.alignment) (ownerless_on c.args.number s)) (sym c.set_ownerless.ensures)
    (ownerless_there b.frame.items b.members.items b.table.made (is_bottom b.alignment) s c.args.number
    c.place-at.result holds here c.index_mut.result.now within c.index_mut.ensures.value)

pub returns-else-at-len-clause-ownerless : goal.returns-else-at-len-clause-ownerless
returns-else-at-len-clause-ownerless g c = λ s holds.
    let b = c.args.self.now in
    let here = c.place-at.ensures.seat ∙ sym (seat_is b.frame.items b.table.order c.args.number b.seated) ∙ place_is b.frame.items s.members c.args.number holds.frame_is in
    let size = frame_length b.frame.items s.members holds.frame_is in
    let none : c.place-at.result ≡ length s.members = omega (
      arith,
      size,
      c.place-at.ensures.most,
      c.len.ensures,
      c.if-at-len.false,
      b.even,
      b.members.ok,
      b.frame.ok,
    ) in
    ownerless_nowhere b.frame.items b.members.items b.table.made (is_bottom b.alignment) s c.args.number c.place-at.result holds here none

pub returns-then-at-len-clause-record : goal.returns-then-at-len-clause-record
returns-then-at-len-clause-record g c =
    let b = c.args.self.now in
    let here = c.place-at.ensures.seat in
    let even = evenly b.frame.items b.table.order b.members.items (omega (arith, b.even, b.members.ok, b.frame.ok)) b.seated in
    let within : c.place-at.result < length b.members.items = omega (arith, c.len.ensures, c.if-at-len.true, b.members.ok) in
    told_record c.args.number c.place-at.result b.table.order b.members.items even c.set_ownerless.new.self here within ∙ ap owned_record c.set_ownerless.ensures

pub returns-then-at-len-clause-others : goal.returns-then-at-len-clause-others
returns-then-at-len-clause-others g c =
    let b = c.args.self.now in
    let here = c.place-at.ensures.seat in
    let even = evenly b.frame.items b.table.order b.members.items (omega (arith, b.even, b.members.ok, b.frame.ok)) b.seated in
    told_others c.args.number c.place-at.result b.table.order b.members.items even c.set_ownerless.new.self here

pub returns-else-at-len-clause-record : goal.returns-else-at-len-clause-record
returns-else-at-len-clause-record g c =
    let b = c.args.self.now in
    let here = c.place-at.ensures.seat in
    let even = evenly b.frame.items b.table.order b.members.items (omega (arith, b.even, b.members.ok, b.frame.ok)) b.seated in
    let past : length b.table.order ≤ seat_of c.args.number b.table.order = omega (arith, here, even, c.len.ensures, c.if-at-len.false, b.members.ok) in
    record_past c.args.number b.table.order b.members.items past
