use Rattle.std.proofs.Common.{◌<◌, ◌∙◌, Some, length, arith, sym, ap, subst, map}
use Rattle.indicatif_term.specs.Target.{is_bottom}
use Rattle.indicatif_term.specs.declared.target.lines.Segment.{Segment}
use Rattle.indicatif_board.specs.ShownBars.{HoldsState}
use Rattle.indicatif_board.specs.Slots.{SlotTable}
use Rattle.indicatif_board.proofs.MemberLemmas.{removed_with, removed_bars, said_of_place}
use Rattle.indicatif_board.proofs.BarRecordLemmas.{evenly, owned, there_record, out_record, out_others}
use Rattle.indicatif_board.proofs.shown_bars.ShownBars.take_out.Goals as goal

pub invariant_of-self-clause-seated : goal.invariant_of-self-clause-seated
invariant_of-self-clause-seated g c =
    let b = c.args.self.now in
    ap (map (λ (x : Segment). x.bar)) c.take_at.ensures.items ∙ removed_bars b.frame.items b.table.order c.args.at b.seated ∙ sym (ap (λ (t : SlotTable). t.order) c.remove.ensures.removed)

pub returns-clause-out : goal.returns-clause-out
returns-clause-out g c = λ s number holds here.
    let b = c.args.self.now in
    let made = sym (ap (λ (t : SlotTable). t.made) c.remove.ensures.removed) in
    removed_with b.frame.items c.take_at.new.items.items b.members.items c.take_at-member.new.items.items c.remove.new.self.made
    (is_bottom b.alignment) s number c.args.at (subst (λ n. HoldsState b.frame.items b.members.items n (is_bottom b.alignment) s) made holds) here
    c.take_at.ensures.items c.take_at-member.ensures.items

pub returns-clause-bar : goal.returns-clause-bar
returns-clause-bar g c = λ s number other holds here.
    let b = c.args.self.now in
    let within : c.args.at < length b.members.items = omega (arith, b.members.ok, c.requires.within) in
    c.into_bar.ensures ∙ said_of_place other (λ bar. bar) b.members.items s.members number c.args.at c.take_at-member.result holds.members_are here within c.take_at-member.ensures.value

pub returns-clause-record : goal.returns-clause-record
returns-clause-record g c = λ number stands.
    let b = c.args.self.now in
    let member = c.take_at-member.result in
    let even = evenly b.frame.items b.table.order b.members.items (omega (arith, b.even, b.members.ok, b.frame.ok)) b.seated in
    there_record number c.args.at b.table.order b.members.items even member stands.seat stands.within c.take_at-member.ensures.value ∙ owned member (stands.owned member c.take_at-member.ensures.value)
    ∙ ap Some (sym c.into_bar.ensures)

pub returns-clause-gone : goal.returns-clause-gone
returns-clause-gone g c = λ number here.
    let b = c.args.self.now in
    let even = evenly b.frame.items b.table.order b.members.items (omega (arith, b.even, b.members.ok, b.frame.ok)) b.seated in
    let within : c.args.at < length b.members.items = omega (arith, b.members.ok, c.requires.within) in
    out_record number c.args.at b.table.order b.members.items even c.remove.new.self.order c.take_at-member.new.items.items here
    (ap (λ (t : SlotTable). t.order) c.remove.ensures.removed) c.take_at-member.ensures.items (c.remove.ensures.seated.apart number) within

pub returns-clause-others : goal.returns-clause-others
returns-clause-others g c = λ number here.
    let b = c.args.self.now in
    let even = evenly b.frame.items b.table.order b.members.items (omega (arith, b.even, b.members.ok, b.frame.ok)) b.seated in
    out_others number c.args.at b.table.order b.members.items even c.remove.new.self.order c.take_at-member.new.items.items here
    (ap (λ (t : SlotTable). t.order) c.remove.ensures.removed) c.take_at-member.ensures.items
