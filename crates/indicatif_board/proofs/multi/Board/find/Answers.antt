use Rattle.std.proofs.Common.{◌<◌, ◌≤◌, ◌∙◌, sym, length, arith, refl}
use Rattle.indicatif_term.specs.Target.{is_bottom}
use Rattle.indicatif_board.specs.BarIds.{id_of}
use Rattle.indicatif_board.specs.Multi.{IsIn}
use Rattle.indicatif_board.proofs.MemberLemmas.{placed_at, found_foreign, found_none, found_gone, found_there, frame_length}
use Rattle.indicatif_board.proofs.BarRecordLemmas.{seat_is, stands, dropped_on, absent_on}
use Rattle.indicatif_board.specs.Inside.Standing.{seat_of}
use Rattle.indicatif_board.proofs.multi.Board.find.Goals as goal

pub index-requires : goal.index-requires
index-requires g c =
    omega (arith, c.place-at.ensures.most, c.len.ensures, c.if-at-len.false)

pub returns-then-id-self-clause-found : goal.returns-then-id-self-clause-found
unfolding IsIn
returns-then-id-self-clause-found g c = λ mark s inside. found_foreign mark (id_of c.args.id) s (λ e. c.if-id-self.true (e ∙ sym inside.0))

pub returns-then-at-len-clause-found : goal.returns-then-at-len-clause-found
unfolding IsIn
returns-then-at-len-clause-found g c = λ mark s inside.
    let b = c.args.self.now.shown in
    let at_is = c.place-at.ensures.seat ∙ sym (seat_is b.frame.items b.table.order c.args.id.number b.seated) in
    found_none b.frame.items b.members.items b.table.made (is_bottom b.alignment) mark (id_of c.args.id) s c.place-at.result (c.if-id-self.false ∙ inside.0) inside.1 at_is
    (omega (arith, c.if-at-len.true, c.len.ensures, b.even, b.frame.ok))

pub returns-then-is_dropped-clause-found : goal.returns-then-is_dropped-clause-found
unfolding IsIn
returns-then-is_dropped-clause-found g c = λ mark s inside.
    let b = c.args.self.now.shown in
    let at_is = c.place-at.ensures.seat ∙ sym (seat_is b.frame.items b.table.order c.args.id.number b.seated) in
    let size = frame_length b.frame.items s.members inside.1.frame_is in
    let within : c.place-at.result < length s.members =
    omega (arith, size, c.place-at.ensures.most, c.len.ensures, c.if-at-len.false, b.even, b.frame.ok) in
    found_gone b.frame.items b.members.items b.table.made (is_bottom b.alignment) mark (id_of c.args.id) s c.place-at.result (c.if-id-self.false ∙ inside.0) inside.1 at_is
    c.index.result.now within c.index.ensures (sym c.is_dropped.ensures ∙ c.if-is_dropped.true)

pub returns-clause-found : goal.returns-clause-found
unfolding IsIn
returns-clause-found g c = λ mark s inside.
    let b = c.args.self.now.shown in
    let at_is = c.place-at.ensures.seat ∙ sym (seat_is b.frame.items b.table.order c.args.id.number b.seated) in
    let size = frame_length b.frame.items s.members inside.1.frame_is in
    let within : c.place-at.result < length s.members =
    omega (arith, size, c.place-at.ensures.most, c.len.ensures, c.if-at-len.false, b.even, b.frame.ok) in (
      found_there b.frame.items b.members.items b.table.made (is_bottom b.alignment) mark (id_of c.args.id) s c.place-at.result (c.if-id-self.false ∙ inside.0) inside.1 at_is
          c.index.result.now within c.index.ensures (sym c.is_dropped.ensures ∙ c.if-is_dropped.false),
      (placed_at b.frame.items b.members.items b.table.made (is_bottom b.alignment) mark (id_of c.args.id) s c.place-at.result (c.if-id-self.false ∙ inside.0) inside.1 at_is, within),
    )

pub returns-clause-within : goal.returns-clause-within
returns-clause-within g c =
    omega (arith, c.place-at.ensures.most, c.len.ensures, c.if-at-len.false)

pub returns-clause-own : goal.returns-clause-own
returns-clause-own g c =
    let b = c.args.self.now.shown in
    let here = c.place-at.ensures.seat in
    let within : c.place-at.result < length b.members.items =
    omega (arith, c.place-at.ensures.most, c.len.ensures, c.if-at-len.false, b.members.ok) in
    stands b c.args.id.number c.place-at.result c.index.result.now here within c.index.ensures (sym c.is_dropped.ensures ∙ c.if-is_dropped.false)

pub returns-then-is_dropped-clause-absent : goal.returns-then-is_dropped-clause-absent
returns-then-is_dropped-clause-absent g c = λ own.
    let b = c.args.self.now.shown in
    let here = c.place-at.ensures.seat in
    let within : c.place-at.result < length b.members.items =
    omega (arith, c.place-at.ensures.most, c.len.ensures, c.if-at-len.false, b.members.ok) in
    (refl, dropped_on b c.args.id.number c.place-at.result c.index.result.now here within c.index.ensures (sym c.is_dropped.ensures ∙ c.if-is_dropped.true))

pub returns-then-at-len-clause-absent : goal.returns-then-at-len-clause-absent
returns-then-at-len-clause-absent g c = λ own.
    let b = c.args.self.now.shown in
    let here = c.place-at.ensures.seat in
    let past : length b.members.items ≤ seat_of c.args.id.number b.table.order = omega (arith, here, c.if-at-len.true, c.len.ensures, b.even, b.members.ok) in
    (refl, absent_on b c.args.id.number past)
