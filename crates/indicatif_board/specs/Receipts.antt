-- Receipts: what is claimed of an entry of a history, and what follows where the history holds it.
use Rattle.std.specs.Prelude.{◌≡◌, ℕ, suc, ◌<◌, List, ◌++◌, drop, flat_map, Option, Some, slice_get, string_bytes}
use Rattle.indicatif_text.specs.Columns.{Cell, rows_of}
use Rattle.indicatif_text.specs.declared.refusal.Drawn.TheVariants.{Yes}
use Rattle.indicatif_term.specs.Calls.{TermView}
use Rattle.indicatif_term.specs.Lines.{text_lines, logged_lines}
use Rattle.indicatif_bar.specs.Commands.{BarRecord, Command}
use Rattle.indicatif_bar.specs.Trackers.{Tracking}
use Rattle.indicatif_board.specs.Boards.{Call, Log, Answer, Drew}
use Rattle.indicatif_board.specs.Calls.{answer_of}
use Rattle.indicatif_board.specs.HistoryLaws.{AreUnbroken}
use Rattle.indicatif_board.specs.Recorded.{BoardStep, Record, IsRun, AddsCall}
use Rattle.indicatif_board.specs.declared.receipts.Receipt.{Receipt}

-- the step that is claimed: the text was logged at the moment, with the answer
abbrev pub step_claimed : {K : Type 0} → Receipt → BoardStep K
step_claimed receipt = record { call = Log (string_bytes receipt.text); now = receipt.moment; answer = answer_of receipt.answer }

-- a history has the receipt's mark, and its step of the receipt's number is the one that is claimed
abbrev pub Holds : {K T : Type 0} → Record K T → Receipt → Type 0
Holds r receipt = (r.mark ≡ receipt.mark) × (slice_get r.steps receipt.number ≡ Some (step_claimed receipt))

-- the rows of its text on a terminal of w columns
abbrev pub claimed_rows : ℕ → Receipt → List (List Cell)
claimed_rows w receipt = flat_map (rows_of w) (text_lines (logged_lines (string_bytes receipt.text)))

module _ {K : Type 0} (T : Type 0) (m : Tracking K) where
  -- what a history holds, it holds after one call more
  abbrev pub HeldStays : Type 0
  HeldStays =
      (view : T → TermView) (old new : Record K T) (call : Call (BarRecord K) (Command K)) (now : ℕ) (answer : Answer) (receipt : Receipt) →
      AddsCall m view old call now answer new → Holds old receipt → Holds new receipt

  -- a text that a history holds, answered `Yes`, and behind which the terminal broke no call off: its rows are above
  abbrev pub HeldRowsStand : Type 0
  HeldRowsStand =
      (opened : Option TermView) (r : Record K T) (last : Option TermView) (run : IsRun m opened r last) (receipt : Receipt) →
      Holds r receipt → answer_of receipt.answer ≡ Drew Yes → AreUnbroken (drop (suc receipt.number) r.steps) →
      (front : List (List Cell)) × (rest : List (List Cell)) × (run.state.lists.above ≡ front ++ claimed_rows r.target.columns receipt ++ rest)

  -- of two such texts the rows of the later entry are below those of the earlier one
  abbrev pub HeldRowsStandInOrder : Type 0
  HeldRowsStandInOrder =
      (opened : Option TermView) (r : Record K T) (last : Option TermView) (run : IsRun m opened r last) (one other : Receipt) → Holds r one → Holds r other → one.number < other.number →
      answer_of one.answer ≡ Drew Yes → answer_of other.answer ≡ Drew Yes → AreUnbroken (drop (suc one.number) r.steps) →
      (front : List (List Cell)) × (between : List (List Cell)) × (rest : List (List Cell))
      × (run.state.lists.above ≡ front ++ claimed_rows r.target.columns one ++ between ++ claimed_rows r.target.columns other ++ rest)
