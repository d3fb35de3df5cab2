-- Where the texts of a board's bars and calls are plain, so is each run of a script.
use Rattle.std.proofs.Common.{ℕ, List, [], ◌∷◌, Option}
use Rattle.std.specs.List.{AllByRecursion}
use Rattle.std.proofs.lemmas.List.Elements.{All-from_recursion}
use Rattle.indicatif_term.specs.Calls.{TermView}
use Rattle.indicatif_bar.specs.Machines.{Machine, target_of}
use Rattle.indicatif_bar.specs.Scripts.{ScriptPart, Called, Size, Sizing, sized, Plays, AllRunsPlain}
use Rattle.indicatif_bar.specs.Trackers.{Tracking}
use Rattle.indicatif_bar.specs.Commands.{BarRecord, Command}
use Rattle.indicatif_board.specs.Boards.{BoardState, Call, Answer, board}
use Rattle.indicatif_board.specs.BoardBars.{board_bars}
use Rattle.indicatif_board.specs.Multi.{board_sizing}
use Rattle.indicatif_board.specs.PlainBoardLaws.{IsPlainCall, IsPlainBoard}
use Rattle.indicatif_board.proofs.PlainBoardLemmas.{board_runs_are_plain}

module _ {K : Type 0} (m : Tracking K) (mark : ℕ) where
  abbrev Bar : Type 0
  Bar = BarRecord K

  abbrev BarCall : Type 0
  BarCall = Call Bar (Command K)

  abbrev machine : Machine (BoardState Bar) BarCall Answer
  machine = board (board_bars m) mark

  abbrev sizing : Sizing machine
  sizing = board_sizing m mark

  -- the texts of a script's calls
  abbrev pub ArePlainParts : List (ScriptPart BarCall Answer) → Type 0
  ArePlainParts [] = Unit {0}
  ArePlainParts (Called calls answers ∷ parts) = AllByRecursion (λ call. IsPlainCall m call.0) calls × ArePlainParts parts
  ArePlainParts (Size w h ∷ parts) = ArePlainParts parts

  pub scripts_plain : (parts : List (ScriptPart BarCall Answer)) (old : Option TermView) (s : BoardState Bar) (new : Option TermView) (next : BoardState Bar)
      (plays : Plays machine sizing parts old s new next) → IsPlainBoard m s → ArePlainParts parts → AllRunsPlain machine sizing parts old s new next plays
  scripts_plain [] old s new next plays is all = tt
  scripts_plain (Called calls answers ∷ parts) old s new next plays is all =
      let run = board_runs_are_plain m mark calls answers old s plays.0 plays.1 plays.2 is (All-from_recursion (λ call. IsPlainCall m call.0) calls all.0) in
      (run.0, scripts_plain parts plays.0 plays.1 new next plays.3 run.1 all.1)
  scripts_plain (Size w h ∷ parts) old s new next plays is all = scripts_plain parts plays.0 (sized machine sizing w h (target_of old) s) new next plays.4 is all
