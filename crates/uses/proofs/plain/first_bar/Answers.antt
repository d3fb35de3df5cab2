use Rattle.uses.proofs.plain.first_bar.Goals as goal

pub returns-in-Ok : goal.returns-in-Ok
returns-in-Ok c = c.in-Ok.ensures.leads 0
