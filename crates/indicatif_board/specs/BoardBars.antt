-- The bars that a board holds.
use Rattle.std.specs.Prelude.{not, ◌&&◌}
use Rattle.indicatif_bar.specs.Trackers.{Tracking}
use Rattle.indicatif_bar.specs.Progress.{is_finished}
use Rattle.indicatif_bar.specs.Finishes.{finish_takes_memory}
use Rattle.indicatif_bar.specs.Commands.{BarRecord, Command, after_drop}
use Rattle.indicatif_bar.specs.Bars.{bar_kind}
use Rattle.indicatif_board.specs.Boards.{BoardKind}

-- bars with this meaning of their trackers, and all commands of a bar; one that loses its owner is finished by its stored finish, unless it is finished already
abbrev pub board_bars : {K : Type 0} → Tracking K → BoardKind (BarRecord K) (Command K)
board_bars m = record {
  bars = bar_kind m;
  left = λ now bar. (after_drop bar now).0;
  left_asked = λ now bar. (after_drop bar now).1;
  left_takes = λ now bar. not (is_finished bar.progress) && finish_takes_memory bar.on_finish;
}
