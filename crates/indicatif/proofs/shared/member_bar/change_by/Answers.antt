use Rattle.indicatif.proofs.shared.member_bar.change_by.Goals as goal

pub returns-in-Ok : goal.returns-in-Ok
returns-in-Ok g c = (c.state.result.now, c.told_of.ensures)
