use Rattle.std.proofs.Common.{◌∙◌, ◌+◌, ◌%◌, ◌^◌, ap, sym, subst, ◌++◌}
use Rattle.std.specs.Prelude.{string_bytes}
use Rattle.indicatif_term.specs.Terminal.{Terminal}
use Rattle.indicatif_term.specs.Calls.{BreaksOff}
use Rattle.indicatif_term.specs.Cells.{MemoryTerm, view_of}
use Rattle.indicatif_term.specs.Inside.Feeding.{ReadsBeginning}
use Rattle.indicatif_term.proofs.MemoryLemmas.{leads_on, breaks_off}
use Rattle.indicatif_term.proofs.cells.InMemoryTerm.play.Goals as goal

pub returns-in-Ok-clause-writes : goal.returns-in-Ok-clause-writes
returns-in-Ok-clause-writes c = leads_on c.args.self.now c.try_play.new.self _ c.in-Ok.ensures.read c.in-Ok.ensures.faults

pub returns-in-Err-clause-writes : goal.returns-in-Err-clause-writes
returns-in-Err-clause-writes c =
    let i = c.self.inside in
    let new : MemoryTerm = record { terminal = i.cells; faults = (i.faults + 1) % 2 ^ 64; moves = string_bytes i.moves } in
    subst (λ kind. BreaksOff (c.args.bytes.now ++ c.args.end.now) kind (view_of c.args.self.now) (view_of new)) (sym c.from.ensures)
    (breaks_off c.args.self.now new (c.args.bytes.now ++ c.args.end.now)
    (subst (λ (t : Terminal). ReadsBeginning (c.args.bytes.now ++ c.args.end.now) c.args.self.now.terminal t) (sym (ap (λ m. m.terminal) c.self.view_is)) c.in-Err.ensures.stopped)
    (ap (λ n. (n + 1) % 2 ^ 64) (ap (λ m. m.faults) c.self.view_is ∙ c.in-Err.ensures.faults)))
