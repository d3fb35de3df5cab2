use Rattle.std.proofs.Common.{subst, ap, sym, ◌∙◌}
use Rattle.indicatif_board.specs.Boards.{Log, BarLog, says, drawn_of, drawn_of_said}
use Rattle.indicatif_board.specs.Multi.{LeadsBy}
use Rattle.indicatif_board.specs.Multi.{record_at, RecordObeys}
use Rattle.indicatif_bar.specs.Commands.{command_of}
use Rattle.indicatif_board.specs.BarIds.{id_of}
use Rattle.indicatif_board.proofs.RecordLemmas.{removed_is_back, said_slots}
use Rattle.indicatif_board.proofs.multi.Board.apply.Goals as goal

pub returns-in-Insert-clause-leads : goal.returns-in-Insert-clause-leads
returns-in-Insert-clause-leads g c = rw (c.in-Insert.is, c.insertion_answer.ensures.answer) (c.insert_by.ensures.leads c.args.now)

pub returns-in-Remove-clause-leads : goal.returns-in-Remove-clause-leads
returns-in-Remove-clause-leads g c = rw (c.in-Remove.is, c.removal_answer.ensures.answer) (c.remove.ensures.leads c.args.now)

pub returns-in-Remove-clause-back : goal.returns-in-Remove-clause-back
returns-in-Remove-clause-back g c = λ mark s other inside.
    rw (c.in-Remove.is, c.removal_answer.ensures.answer)
    (c.removal_answer.ensures.back ∙ removed_is_back c.remove.result (id_of c.in-Remove.id) other s.members (c.remove.ensures.bar mark s other inside))

pub returns-in-Drop-clause-leads : goal.returns-in-Drop-clause-leads
returns-in-Drop-clause-leads g c = rw (c.in-Drop.is, c.draw_answer.ensures) c.drop_bar.ensures.leads

pub returns-in-Log-clause-leads : goal.returns-in-Log-clause-leads
returns-in-Log-clause-leads g c = rw (c.in-Log.is, c.draw_answer-in-Log.ensures)
    (subst (λ t. LeadsBy g.K.Tracks.means g.T.TermLike.view c.args.self.now c.println.new.self (Log t) c.args.now (says c.println.result)) c.as_str.ensures.value c.println.ensures.leads)

pub returns-in-BarLog-clause-leads : goal.returns-in-BarLog-clause-leads
returns-in-BarLog-clause-leads g c = rw (c.in-BarLog.is, c.draw_answer-in-BarLog.ensures)
    (subst (λ t. LeadsBy g.K.Tracks.means g.T.TermLike.view c.args.self.now c.bar_println.new.self (BarLog (id_of c.in-BarLog.id) t) c.args.now (says c.bar_println.result))
    c.as_str-in-BarLog.ensures.value c.bar_println.ensures.leads)

pub returns-in-Clear-clause-leads : goal.returns-in-Clear-clause-leads
returns-in-Clear-clause-leads g c = rw (c.in-Clear.is, c.draw_answer-in-Clear.ensures) c.clear.ensures.leads

pub returns-in-Redraw-clause-leads : goal.returns-in-Redraw-clause-leads
returns-in-Redraw-clause-leads g c = rw (c.in-Redraw.is, c.draw_answer-in-Redraw.ensures) c.redraw.ensures.leads

pub returns-in-Align-clause-leads : goal.returns-in-Align-clause-leads
returns-in-Align-clause-leads g c = rw c.in-Align.is (c.set_alignment.ensures.leads c.args.now)

pub returns-in-Insert-clause-records : goal.returns-in-Insert-clause-records
returns-in-Insert-clause-records g c = rw (c.in-Insert.is, c.insertion_answer.ensures.answer) c.insert_by.ensures.records

pub returns-in-Remove-clause-records : goal.returns-in-Remove-clause-records
returns-in-Remove-clause-records g c =
    rw c.in-Remove.is (c.remove.ensures.gone, λ foreign number. ap (record_at number) (c.remove.ensures.foreign foreign).1, c.remove.ensures.others)

pub returns-in-Drop-clause-records : goal.returns-in-Drop-clause-records
returns-in-Drop-clause-records g c =
    rw c.in-Drop.is (c.drop_bar.ensures.gone, λ foreign number. ap (record_at number) (c.drop_bar.ensures.foreign foreign).1, c.drop_bar.ensures.others)

pub returns-in-Log-clause-records : goal.returns-in-Log-clause-records
returns-in-Log-clause-records g c = rw c.in-Log.is c.println.ensures.records

pub returns-in-BarLog-clause-records : goal.returns-in-BarLog-clause-records
returns-in-BarLog-clause-records g c = rw c.in-BarLog.is c.bar_println.ensures.records

pub returns-in-Clear-clause-records : goal.returns-in-Clear-clause-records
returns-in-Clear-clause-records g c = rw c.in-Clear.is c.clear.ensures.records

pub returns-in-Redraw-clause-records : goal.returns-in-Redraw-clause-records
returns-in-Redraw-clause-records g c = rw c.in-Redraw.is c.redraw.ensures.records

pub returns-in-Align-clause-records : goal.returns-in-Align-clause-records
returns-in-Align-clause-records g c = rw c.in-Align.is c.set_alignment.ensures.records

pub returns-in-Bar-clause-records : goal.returns-in-Bar-clause-records
returns-in-Bar-clause-records g c =
    let said = sym (ap drawn_of c.draw_answer-in-Bar.ensures ∙ drawn_of_said c.command.result) in
    rw c.in-Bar.is (
      λ own. subst (λ r. RecordObeys g.K.Tracks.means (id_of c.in-Bar.id).number (command_of c.in-Bar.command) c.args.now r c.args.self.now c.command.new.self) said
          (c.command.ensures.«record» own),
      λ foreign number. ap (record_at number) (c.command.ensures.foreign foreign).1,
      c.command.ensures.others,
    )

pub returns-in-Drop-clause-slots : goal.returns-in-Drop-clause-slots
returns-in-Drop-clause-slots g c = rw c.in-Drop.is c.drop_bar.ensures.slots

pub returns-in-Log-clause-slots : goal.returns-in-Log-clause-slots
returns-in-Log-clause-slots g c =
    rw c.in-Log.is (said_slots c.println.result _ c.args.self.now c.println.new.self c.draw_answer-in-Log.ensures c.println.ensures.slots c.println.ensures.head c.println.ensures.stay)

pub returns-in-BarLog-clause-slots : goal.returns-in-BarLog-clause-slots
returns-in-BarLog-clause-slots g c =
    rw c.in-BarLog.is
    (said_slots c.bar_println.result _ c.args.self.now c.bar_println.new.self c.draw_answer-in-BarLog.ensures c.bar_println.ensures.slots c.bar_println.ensures.head c.bar_println.ensures.stay)

pub returns-in-Clear-clause-slots : goal.returns-in-Clear-clause-slots
returns-in-Clear-clause-slots g c =
    rw c.in-Clear.is (said_slots c.clear.result _ c.args.self.now c.clear.new.self c.draw_answer-in-Clear.ensures c.clear.ensures.slots c.clear.ensures.head c.clear.ensures.stay)

pub returns-in-Redraw-clause-slots : goal.returns-in-Redraw-clause-slots
returns-in-Redraw-clause-slots g c =
    rw c.in-Redraw.is (said_slots c.redraw.result _ c.args.self.now c.redraw.new.self c.draw_answer-in-Redraw.ensures c.redraw.ensures.slots c.redraw.ensures.head c.redraw.ensures.stay)

pub returns-in-Bar-clause-slots : goal.returns-in-Bar-clause-slots
returns-in-Bar-clause-slots g c =
    rw c.in-Bar.is (said_slots c.command.result _ c.args.self.now c.command.new.self c.draw_answer-in-Bar.ensures c.command.ensures.slots c.command.ensures.head c.command.ensures.stay)

pub returns-in-Insert-clause-slots : goal.returns-in-Insert-clause-slots
returns-in-Insert-clause-slots g c = rw (c.in-Insert.is, c.insertion_answer.ensures.answer) c.insert_by.ensures.slot

pub returns-in-Align-clause-slots : goal.returns-in-Align-clause-slots
returns-in-Align-clause-slots g c = rw c.in-Align.is c.set_alignment.ensures.slots
