-- What is known of a bar or a board that was taken out of its lock.
use Rattle.std.specs.Prelude.{ℕ}
use Rattle.indicatif_bar.specs.Commands.{BarRecord}
use Rattle.indicatif_bar.specs.Lone.{LoneState}
use Rattle.indicatif_bar.specs.LoneBars.{LoneIsIn}
use Rattle.indicatif_bar.specs.Trackers.{Tracking}
use Rattle.indicatif_board.specs.Boards.{BoardState}
use Rattle.indicatif_board.specs.Multi.{IsIn}
use Rattle.indicatif_board.specs.Recorded.{IsOneRun}
use Rattle.indicatif.specs.declared.shared.unlocked.UnlockedBar.{UnlockedBar}
use Rattle.indicatif.specs.declared.shared.unlocked.UnlockedBar.TheVariants.{Alone, OnBoard}
use Rattle.indicatif.specs.declared.shared.unlocked.UnlockedBoard.{UnlockedBoard}
use Rattle.indicatif.specs.declared.shared.unlocked.UnlockedBoard.TheVariants.{Open, Recorded}

module _ {K T : Type 0} where
  -- a bar that stood alone is in some state, so the clauses of its calls apply
  abbrev pub BarIsSomewhere : UnlockedBar K T → Type 0
  BarIsSomewhere (Alone bar) = (s : LoneState (BarRecord K)) × LoneIsIn bar s
  BarIsSomewhere (OnBoard id) = Unit {0}

  -- a board is in some state; the history of one that keeps it is one run, at whose end the board is
  abbrev pub BoardIsSomewhere : Tracking K → UnlockedBoard K T → Type 0
  BoardIsSomewhere m (Open b) = (mark : ℕ) × (s : BoardState (BarRecord K)) × IsIn mark b s
  BoardIsSomewhere m (Recorded r) = IsOneRun m r
