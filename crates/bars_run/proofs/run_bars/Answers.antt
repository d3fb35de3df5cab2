use Rattle.std.proofs.Common.{◌≡◌, ◌∙◌, ap, refl, sym}
use Rattle.bars_run.specs.declared.fault.Fault.TheVariants.{Usage}
use Rattle.bars_run.specs.Fault.{status_of}
use Rattle.bars_run.proofs.StandLemmas.{some_fault}
use Rattle.bars_run.proofs.run_bars.Goals as goal

pub returns-in-Err-clause-printed : goal.returns-in-Err-clause-printed
returns-in-Err-clause-printed g c = λ e. absurd (some_fault c.in-Err.fault (sym c.status.ensures ∙ e))

pub returns-in-Ok-clause-usage : goal.returns-in-Ok-clause-usage
returns-in-Ok-clause-usage g c = λ none. absurd (let e = (c.print_picture.ensures.usage none).0 in let f = c.in-Ok.is in cc (e, f))

pub returns-in-Ok-clause-fault : goal.returns-in-Ok-clause-fault
returns-in-Ok-clause-fault g c = λ other. absurd (other refl)

pub returns-in-Err-clause-usage : goal.returns-in-Err-clause-usage
returns-in-Err-clause-usage g c = λ none.
    let u = c.print_picture.ensures.usage none in
    let is : c.in-Err.fault ≡ Usage = let e = u.0 in let f = c.in-Err.is in cc (e, f) in
    (c.status.ensures ∙ ap status_of is, u.1)

pub returns-in-Err-clause-fault : goal.returns-in-Err-clause-fault
returns-in-Err-clause-fault g c = λ other. (c.in-Err.fault, c.status.ensures, c.in-Err.ensures.unprinted, c.in-Err.ensures.fault)
