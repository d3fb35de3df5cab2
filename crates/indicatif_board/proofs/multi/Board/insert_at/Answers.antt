use Rattle.std.proofs.Common.{◌∙◌, refl, sym, ap}
use Rattle.indicatif_board.specs.declared.calls.Candidate.TheVariants.{New as New-value}
use Rattle.indicatif_board.specs.Boards.{taken_in}
use Rattle.indicatif_board.specs.Multi.{IsIn}
use Rattle.indicatif_board.specs.Slots.{seated}
use Rattle.indicatif_board.proofs.BoardCallLemmas.{new_leads, new_refused}
use Rattle.indicatif_board.proofs.BarRecordLemmas.{has_record}
use Rattle.indicatif_board.proofs.multi.Board.insert_at.Goals as goal

pub returns-in-Ok-clause-not_member : goal.returns-in-Ok-clause-not_member
returns-in-Ok-clause-not_member g c =
    rw c.in-Member.is (λ absent. absurd (has_record c.args.self.now.shown c.in-Member.id.number c.in-Ok.field-0 c.in-Ok.ensures.own absent.1))

pub returns-in-Ok-take_in-clause-inserted : goal.returns-in-Ok-take_in-clause-inserted
unfolding IsIn
returns-in-Ok-take_in-clause-inserted g c = λ mark s spot inside here.
    let tracks = g.K.Tracks.means in
    let t = c.in-Ok-take_in.ensures.taken s spot inside.1 here in (
      taken_in spot c.in-New.bar s,
      (inside.0, t.2, inside.2),
      refl,
      λ target. rw (c.in-New.is, inside.0) (new_leads tracks mark s spot c.in-New.bar c.in-Ok-take_in.number target t.0 t.1),
    )

pub returns-in-Err-take_in-clause-turned : goal.returns-in-Err-take_in-clause-turned
returns-in-Err-take_in-clause-turned g c = ap New-value c.in-Err-take_in.ensures.bar ∙ sym c.in-New.is

pub returns-in-Err-take_in-clause-inserted : goal.returns-in-Err-take_in-clause-inserted
unfolding IsIn
returns-in-Err-take_in-clause-inserted g c = λ mark s spot inside here.
    let tracks = g.K.Tracks.means in
    let t = c.in-Err-take_in.ensures.taken s spot inside.1 here in
    (s, (inside.0, t.1, inside.2), refl, λ target. rw c.in-New.is (new_refused tracks mark s spot c.in-New.bar target))

pub returns-in-Ok-take_in-clause-records : goal.returns-in-Ok-take_in-clause-records
returns-in-Ok-take_in-clause-records g c =
    let r = c.in-Ok-take_in.ensures.records in
    rw c.in-New.is (refl, r.0, r.1, r.2)

pub returns-in-Ok-take_in-clause-slot : goal.returns-in-Ok-take_in-clause-slot
returns-in-Ok-take_in-clause-slot g c = λ spot here.
    let taken = c.in-Ok-take_in.ensures.slot in
    rw c.in-New.is (taken.0, taken.1 ∙ ap (λ at. seated at c.args.self.now.shown.table) here)

pub returns-in-Err-take_in-clause-slot : goal.returns-in-Err-take_in-clause-slot
returns-in-Err-take_in-clause-slot g c = λ spot here. rw c.in-New.is c.in-Err-take_in.ensures.slot
