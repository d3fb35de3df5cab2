use Rattle.indicatif.proofs.shared.locked_bar.finish_unfinished.Goals as goal

pub returns-clause-unfinished : goal.returns-clause-unfinished
returns-clause-unfinished g c = λ u. record { was = c.bar.ensures.some; done = c.call.ensures.bar; leads = c.call.ensures.leads }
