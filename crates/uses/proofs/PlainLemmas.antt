-- What two logs of fixed texts leave on a new board.
use Rattle.std.proofs.Common.{◌≡◌, ℕ, List, [], ◌∷◌, map, arith, refl, sym, ◌∙◌, ap, None}
use Rattle.std.specs.Prelude.{codes, false, All}
use Rattle.std.specs.Int.{IsInRange}
use Rattle.std.specs.List.{AllByRecursion}
use Rattle.std.proofs.lemmas.List.Elements.{All-from_recursion}
use Rattle.std.specs.Str.{chars}
use Rattle.std.proofs.Math.Utf8.{encode}
use Rattle.unicode_width.specs.Width.{char_width}
use Rattle.unicode_width.proofs.Computing.{unicode_width}
use Rattle.indicatif_text.specs.Columns.{rows_of, visible, has_wide}
use Rattle.indicatif_text.specs.declared.refusal.Drawn.{Drawn}
use Rattle.indicatif_term.specs.Lists.{all_rows, drawn, logged, cleared, shown_rows, lines_of, fitting, grouped}
use Rattle.indicatif_term.specs.Pictures.{row_text}
use Rattle.indicatif_term.specs.Terminal.{blank_terminal}
use Rattle.indicatif_term.specs.Cells.{MemoryTerm}
use Rattle.indicatif_bar.specs.Machines.{Target, Machine, Leads, done_by, drawn_by}
use Rattle.indicatif_text.specs.ColumnLaws.{PrintedIsPlain}
use Rattle.indicatif_bar.specs.StyleLaws.{IsPlainText}
use Rattle.indicatif_bar.specs.Trackers.{Tracking}
use Rattle.indicatif_bar.specs.Commands.{BarRecord, Command}
use Rattle.indicatif_bar.proofs.RunLemmas.{made_of}
use Rattle.indicatif_board.specs.Boards.{BoardState, Call, Log, Answer, Drew, board, opening_board}
use Rattle.indicatif_board.specs.BoardBars.{board_bars}
use Rattle.indicatif_board.specs.PlainBoardLaws.{IsPlainCall}

abbrev pub first_name : List ℕ
first_name = codes "a.txt"

abbrev pub second_name : List ℕ
second_name = codes "b.txt"

-- a terminal of 4 rows and 10 columns
abbrev pub small : Target
small = record { hidden = false; columns = 10; rows = 4 }

-- such a terminal as it is made
abbrev pub new_memory : MemoryTerm
new_memory = record { terminal = blank_terminal 4 10; faults = 0; moves = [] }

module _ {K : Type 0} (m : Tracking K) where
  abbrev pub machine : Machine (BoardState (BarRecord K)) (Call (BarRecord K) (Command K)) Answer
  machine = board (board_bars m) 0

  -- what a log of a text comes to where nothing fails
  abbrev pub log_done : List ℕ → BoardState (BarRecord K) → Answer × BoardState (BarRecord K)
  log_done text s = done_by machine small (machine.deed small (Log text) 0 s)

  -- a log that was answered well comes to that
  pub log_made : (text : List ℕ) (s next : BoardState (BarRecord K)) (answered : Drawn) → Leads machine small s (machine.deed small (Log text) 0 s) (Drew answered) next →
      (Drew answered, next) ≡ log_done text s
  log_made text s next answered led = sym (made_of machine small s (machine.deed small (Log text) 0 s) (Drew answered) next led refl)

  -- the rows after both read as the names
  pub names_read : (x next : BoardState (BarRecord K)) (one other : Drawn) →
      Leads machine small (opening_board None) (machine.deed small (Log first_name) 0 (opening_board None)) (Drew one) x →
      Leads machine small x (machine.deed small (Log second_name) 0 x) (Drew other) next → map row_text (all_rows 10 next.lists) ≡ first_name ∷ second_name ∷ []
  unfolding char_width unicode_width rows_of visible has_wide drawn logged cleared shown_rows lines_of fitting grouped chars encode drawn_by
  names_read x next one other a b =
      let p = log_made first_name (opening_board None) x one a in
      let q = log_made second_name x next other b in
      let last : next ≡ (log_done second_name (log_done first_name (opening_board None)).1).1 = ap (λ o. o.1) q ∙ ap (λ o. (log_done second_name o.1).1) p in
      ap (λ n. map row_text (all_rows 10 n.lists)) last ∙ refl

-- ---- such names are plain

pub printed_plain : PrintedIsPlain → (text : List ℕ) → AllByRecursion (IsInRange 0x20 0x7E) text → IsPlainText text
printed_plain law text all = law text (All-from_recursion (IsInRange 0x20 0x7E) text all)

pub first_plain : PrintedIsPlain → IsPlainText first_name
first_plain law = printed_plain law first_name ((omega arith, omega arith), ((omega arith, omega arith), ((omega arith, omega arith), ((omega arith, omega arith), ((omega arith, omega arith), tt)))))

pub second_plain : PrintedIsPlain → IsPlainText second_name
second_plain law =
    printed_plain law second_name ((omega arith, omega arith), ((omega arith, omega arith), ((omega arith, omega arith), ((omega arith, omega arith), ((omega arith, omega arith), tt)))))

-- the calls
abbrev pub name_logs : {K : Type 0} → List (Call (BarRecord K) (Command K) × ℕ)
name_logs = (Log first_name, 0) ∷ (Log second_name, 0) ∷ []

pub logs_plain : PrintedIsPlain → {K : Type 0} (m : Tracking K) → All (λ call. IsPlainCall m call.0) name_logs
logs_plain law m = All-from_recursion (λ call. IsPlainCall m call.0) name_logs
    (All-from_recursion IsPlainText (first_name ∷ []) (first_plain law, tt), (All-from_recursion IsPlainText (second_name ∷ []) (second_plain law, tt), tt))
