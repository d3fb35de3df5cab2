-- Runs of a board whose texts are plain: of characters with a width and colour sequences. Texts are lists of bytes in UTF-8.
use Rattle.std.specs.Prelude.{ℕ, IsTrue, List, All, Option}
use Rattle.indicatif_term.specs.Calls.{TermView}
use Rattle.indicatif_term.specs.Lines.{are_plain, logged_lines}
use Rattle.indicatif_bar.specs.Trackers.{Tracking}
use Rattle.indicatif_bar.specs.StyleLaws.{IsPlainText}
use Rattle.indicatif_bar.specs.Commands.{BarRecord, Command}
use Rattle.indicatif_bar.specs.Runs.{Runs, AllPlain}
use Rattle.indicatif_bar.specs.PlainLaws.{IsPlainBar, IsPlainCommand}
use Rattle.indicatif_board.specs.Members.{Member}
use Rattle.indicatif_board.specs.Boards.{BoardState, Entrant, New, Old, Call, Insert, Log, BarLog, Tell, Answer, board}
use Rattle.indicatif_board.specs.BoardBars.{board_bars}

module _ {K : Type 0} (m : Tracking K) where
  -- the texts of a candidate are plain
  abbrev pub IsPlainEntrant : Entrant (BarRecord K) → Type 0
  IsPlainEntrant (New bar) = IsPlainBar m bar
  IsPlainEntrant (Old id) = Unit {0}

  -- the texts of a board's call are plain
  abbrev pub IsPlainCall : Call (BarRecord K) (Command K) → Type 0
  IsPlainCall (Insert at entrant) = IsPlainEntrant entrant
  IsPlainCall (Log text) = All IsPlainText (logged_lines text)
  IsPlainCall (BarLog id text) = All IsPlainText (logged_lines text)
  IsPlainCall (Tell id command) = IsPlainCommand m command
  IsPlainCall _ = Unit {0}

  -- the texts of a bar on a board are plain
  pub record IsPlainMember (member : Member (BarRecord K)) : Type 0 where
    pub bar : IsPlainBar m member.bar
    pub stored : IsTrue (are_plain member.stored)

  -- the texts of a board between two calls are plain
  abbrev pub IsPlainBoard : BoardState (BarRecord K) → Type 0
  IsPlainBoard s = All IsPlainMember s.members

-- if all these texts are plain, so is every run, and the headline holds of it; the board's texts are plain at its end too, so the next run can be plain as well
abbrev pub BoardRunsArePlain : {K : Type 0} → Tracking K → Type 0
BoardRunsArePlain {K} m = (mark : ℕ) (calls : List (Call (BarRecord K) (Command K) × ℕ)) (answers : List Answer) (old : Option TermView)
    (s : BoardState (BarRecord K)) (new : Option TermView) (next : BoardState (BarRecord K))
    (run : Runs (board (board_bars m) mark) calls answers old s new next) →
    IsPlainBoard m s → All (λ call. IsPlainCall m call.0) calls → AllPlain (board (board_bars m) mark) calls answers old s new next run × IsPlainBoard m next
