use Rattle.std.proofs.Common.{◌≡◌, ◌-◌, ◌∙◌, min, length, ap, arith, refl}
use Rattle.std.specs.VecDeque.{deque_len}
use Rattle.indicatif_term.specs.Target.{is_bottom}
use Rattle.indicatif_board.specs.BarIds.{id_of}
use Rattle.indicatif_board.specs.Multi.{IsIn}
use Rattle.indicatif_board.proofs.AnchorLemmas.{anchored}
use Rattle.indicatif_board.proofs.BarRecordLemmas.{has_record}
use Rattle.indicatif_board.proofs.MemberLemmas.{members_length}
use Rattle.indicatif_board.proofs.multi.Board.seat.Goals as goal

pub returns-in-End-clause-found : goal.returns-in-End-clause-found
unfolding IsIn
returns-in-End-clause-found g c = λ mark s inside.
    let b = c.args.self.now.shown in
    let size : deque_len b.members ≡ length s.members = omega (arith, b.members.ok, members_length b.frame.items b.members.items b.table.made (is_bottom b.alignment) s inside.1) in
    rw c.in-End.is (refl, c.len-bars.ensures ∙ size)

pub returns-in-Index-clause-found : goal.returns-in-Index-clause-found
unfolding IsIn
returns-in-Index-clause-found g c = λ mark s inside.
    let b = c.args.self.now.shown in
    let size : deque_len b.members ≡ length s.members = omega (arith, b.members.ok, members_length b.frame.items b.members.items b.table.made (is_bottom b.alignment) s inside.1) in
    rw c.in-Index.is (refl, c.min.ensures ∙ ap (min c.in-Index.index) (c.len-bars.ensures ∙ size))

pub returns-in-FromBack-clause-found : goal.returns-in-FromBack-clause-found
unfolding IsIn
returns-in-FromBack-clause-found g c = λ mark s inside.
    let b = c.args.self.now.shown in
    let size : deque_len b.members ≡ length s.members = omega (arith, b.members.ok, members_length b.frame.items b.members.items b.table.made (is_bottom b.alignment) s inside.1) in
    rw c.in-FromBack.is (refl, c.saturating_sub.ensures ∙ ap (λ k. k - c.in-FromBack.count) (c.len-bars.ensures ∙ size))

pub returns-in-Before-clause-anchor : goal.returns-in-Before-clause-anchor
returns-in-Before-clause-anchor g c =
    let found = c.find.ensures in
    rw c.in-Before.is (anchored c.args.self.now (id_of c.in-Before.anchor) c.find.result found.own found.mine found.foreign found.absent)

pub returns-in-Ok-clause-anchor : goal.returns-in-Ok-clause-anchor
returns-in-Ok-clause-anchor g c =
    rw c.in-After.is (c.in-Ok.ensures.mine, has_record c.args.self.now.shown c.in-After.anchor.number c.in-Ok.at c.in-Ok.ensures.own)
