use Rattle.indicatif.proofs.shared.position_change.PositionChange.apply_to.Goals as goal

pub returns-in-Up : goal.returns-in-Up
returns-in-Up g c = rw c.in-Up.is c.inc.ensures

pub returns-in-Down : goal.returns-in-Down
returns-in-Down g c = rw c.in-Down.is c.dec.ensures

pub returns-in-To : goal.returns-in-To
returns-in-To g c = rw c.in-To.is c.set_position.ensures
