-- What moves a bar's position, as a command.
use Rattle.indicatif_bar.specs.Commands.{Command, Inc, Dec, SetPosition}
use Rattle.indicatif.specs.declared.shared.position_change.PositionChange.{PositionChange}
use Rattle.indicatif.specs.declared.shared.position_change.PositionChange.TheVariants as change

-- the position goes up or down, or is set
abbrev pub position_command : {K : Type 0} → PositionChange → Command K
position_command (change.Up delta) = Inc delta
position_command (change.Down delta) = Dec delta
position_command (change.To position) = SetPosition position
