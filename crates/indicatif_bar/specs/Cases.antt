-- Worked cases of a lone bar: the answers of calls at the moment 0, and the rows that stand afterwards. The terminal never fails unless a case says so.
use Rattle.indicatif_text.specs.Template.{KeyText, plain_layout}
use Rattle.indicatif_bar.specs.Styles.{BarStyle}
use Rattle.std.specs.Prelude.{◌≡◌, ℕ, true, false, List, [], ◌∷◌, ◌++◌, map, replicate, take, Option, Some, None, flat_map, codes, Result, Ok, Err}
use Rattle.std.specs.declared.io.ErrorKind.{ErrorKind}
use Rattle.indicatif_text.specs.declared.refusal.Refusal.{Refusal}
use Rattle.indicatif_text.specs.declared.refusal.Refusal.TheVariants.{NoColumns, TooWide, ElapsedBeyondClock, Terminal as Failure}
use Rattle.indicatif_text.specs.declared.refusal.Drawn.{Drawn}
use Rattle.indicatif_text.specs.declared.refusal.Drawn.TheVariants.{Yes, Limited, Hidden}
use Rattle.indicatif_text.specs.Columns.{Cell, rows_of}
use Rattle.indicatif_term.specs.Lists.{opening_lists, forgotten_lists, all_rows}
use Rattle.indicatif_bar.specs.Bars.{bar_kind, lines_of_bar}
use Rattle.indicatif_bar.specs.Trackers.{Tracking, writes_nothing}
use Rattle.indicatif_bar.specs.Commands.{BarRecord, Command, new_bar, obeyed, Tick, SetMessage, WithMessage, SetElapsed, ForceDraw}
use Rattle.indicatif_bar.specs.LoneBars.{lone_bar}
use Rattle.indicatif_term.specs.Calls.{TermView, UP, move_bytes, anew_bytes, clear_bytes, line_bytes}
use Rattle.indicatif_term.specs.Limiters.{draw_limiter}
use Rattle.indicatif_term.specs.Shows.{safe_rows}
use Rattle.indicatif_term.specs.Terminal.{Terminal, after, blank_terminal}
use Rattle.indicatif_bar.specs.Machines.{Target, Leads, outcomes}
use Rattle.indicatif_bar.specs.Runs.{Runs, RowsLast}
use Rattle.indicatif_bar.specs.Lone.{LoneState, LoneCall, Obey, Log, Clear, opening_state, draw_of_call}

-- ---- messages

-- ---- calls

-- a terminal with this many rows and columns
abbrev pub terminal_of_size : ℕ → ℕ → Target
terminal_of_size rows columns = record { hidden = false; columns = columns; rows = rows }

-- no terminal
abbrev pub nowhere : Target
nowhere = record { hidden = true; columns = 0; rows = 0 }

-- no trackers
abbrev pub untracked : Tracking (Unit {0})
untracked = writes_nothing

-- a style that shows the message alone
abbrev pub message_style : BarStyle (Unit {0})
message_style = record { parts = KeyText (codes "msg") plain_layout ∷ []; clusters = []; tick_strings = []; keys = []; colours = false; tab = 8 }

-- a lone bar without trackers, with this message, made at the moment 0
abbrev pub bar_saying : List ℕ → BarRecord (Unit {0})
bar_saying message = (obeyed untracked (WithMessage message) (new_bar message_style None 0) 0).0

-- an empty message has no line; otherwise each piece between newlines is a line
abbrev pub Lines : Type 0
Lines =
    let shown = λ (message : List ℕ). lines_of_bar untracked (bar_saying message) 0 80 in
    (shown [] ≡ [])
    × (shown (codes "a") ≡ codes "a" ∷ [])
    × (shown (codes "a\nb") ≡ codes "a" ∷ codes "b" ∷ [])
    × (shown (codes "a\n") ≡ codes "a" ∷ [] ∷ [])
    × (shown (codes "\n") ≡ [] ∷ [] ∷ [])

-- the answers of its calls, and its state after them
abbrev pub ran : Target → List ℕ → List (LoneCall (Command (Unit {0}))) → List (Result Drawn Refusal) × LoneState (BarRecord (Unit {0}))
ran target message calls = outcomes (lone_bar untracked) target (map (λ call. (call, 0)) calls) (opening_state (bar_saying message) None)

-- the rows of lines
abbrev pub rows_of_lines : ℕ → List (List ℕ) → List (List Cell)
rows_of_lines columns lines = flat_map (rows_of columns) lines

-- 4 rows, 10 columns: a message of 13 columns takes two rows; a shorter one replaces them
abbrev pub ShorterMessage : Type 0
ShorterMessage =
    let first = ran (terminal_of_size 4 10) (codes "progress bars") (Obey Tick ∷ []) in
    let both = ran (terminal_of_size 4 10) (codes "progress bars") (Obey Tick ∷ Obey (SetMessage (codes "x")) ∷ []) in
    (first.0 ≡ Ok Yes ∷ [])
    × (all_rows 10 first.1.lists ≡ rows_of_lines 10 (codes "progress b" ∷ codes "ars" ∷ []))
    × (both.0 ≡ Ok Yes ∷ Ok Yes ∷ [])
    × (all_rows 10 both.1.lists ≡ rows_of_lines 10 (codes "x" ∷ []))

-- an empty message has no row
abbrev pub EmptyMessage : Type 0
EmptyMessage =
    let first = ran (terminal_of_size 4 10) [] (Obey Tick ∷ []) in
    let both = ran (terminal_of_size 4 10) [] (Obey Tick ∷ Obey (SetMessage (codes "a")) ∷ []) in
    (first.0 ≡ Ok Yes ∷ []) × (all_rows 10 first.1.lists ≡ []) × (both.0 ≡ Ok Yes ∷ Ok Yes ∷ []) × (all_rows 10 both.1.lists ≡ rows_of_lines 10 (codes "a" ∷ []))

-- 3 rows, 1 column: a character of two columns is too wide; a message of one column is then drawn
abbrev pub WideCharacter : Type 0
WideCharacter =
    let first = ran (terminal_of_size 3 1) (0xE5 ∷ 0x9B ∷ 0xBD ∷ []) (Obey Tick ∷ []) in
    let both = ran (terminal_of_size 3 1) (0xE5 ∷ 0x9B ∷ 0xBD ∷ []) (Obey Tick ∷ Obey (SetMessage (codes "a")) ∷ []) in
    (first.0 ≡ Err TooWide ∷ [])
    × (first.1.lists ≡ opening_lists)
    × (both.0 ≡ Err TooWide ∷ Ok Yes ∷ [])
    × (all_rows 1 both.1.lists ≡ rows_of_lines 1 (codes "a" ∷ []))

-- no columns: the tick counts
abbrev pub NoColumn : Type 0
NoColumn =
    let ticked = ran (terminal_of_size 3 0) (codes "a") (Obey Tick ∷ []) in
    let logged = ran (terminal_of_size 3 0) (codes "a") (Log (codes "l") ∷ []) in
    (ticked.0 ≡ Err NoColumns ∷ [])
    × (ticked.1.bar.progress.ticks ≡ 1)
    × (ticked.1.lists ≡ opening_lists)
    × (logged.0 ≡ Err NoColumns ∷ [])

-- a hidden target: the record changes, and nothing else
abbrev pub Nowhere : Type 0
Nowhere =
    let both = ran nowhere (codes "a") (Obey ForceDraw ∷ Log (codes "l") ∷ Obey Tick ∷ []) in
    (both.0 ≡ Ok Hidden ∷ Ok Hidden ∷ Ok Hidden ∷ []) × (both.1.bar.progress.ticks ≡ 1) × (both.1.lists ≡ opening_lists)

-- 4 rows, 5 columns: two logged lines stand above the bar, and stay there
abbrev pub LogsAbove : Type 0
LogsAbove =
    let both = ran (terminal_of_size 4 5) (codes "x") (Obey Tick ∷ Log (codes "a\r\nb") ∷ Obey (SetMessage (codes "y")) ∷ []) in
    (both.0 ≡ Ok Yes ∷ Ok Yes ∷ Ok Yes ∷ [])
    × (both.1.lists.above ≡ rows_of_lines 5 (codes "a" ∷ codes "b" ∷ []))
    × (all_rows 5 both.1.lists ≡ rows_of_lines 5 (codes "a" ∷ codes "b" ∷ codes "y" ∷ []))

-- a text that is too wide is refused as a whole: no row above
abbrev pub WideLog : Type 0
WideLog =
    let both = ran (terminal_of_size 3 1) (codes "a") (Log (0xE5 ∷ 0x9B ∷ 0xBD ∷ []) ∷ []) in
    (both.0 ≡ Err TooWide ∷ []) × (both.1.lists ≡ opening_lists)

-- 4 rows, 5 columns: a clear erases the bar's row, and logged text stays; the next draw shows the bar again
abbrev pub Cleared : Type 0
Cleared =
    let cleared = ran (terminal_of_size 4 5) (codes "x") (Log (codes "a") ∷ Clear ∷ []) in
    let drawn = ran (terminal_of_size 4 5) (codes "x") (Log (codes "a") ∷ Clear ∷ Obey Tick ∷ []) in
    (cleared.0 ≡ Ok Yes ∷ Ok Yes ∷ [])
    × (all_rows 5 cleared.1.lists ≡ rows_of_lines 5 (codes "a" ∷ []))
    × (cleared.1.lists.below ≡ true)
    × (drawn.0 ≡ Ok Yes ∷ Ok Yes ∷ Ok Yes ∷ [])
    × (all_rows 5 drawn.1.lists ≡ rows_of_lines 5 (codes "a" ∷ codes "x" ∷ []))

-- an elapsed time beyond the moment is refused, and changes nothing
abbrev pub LateElapsed : Type 0
LateElapsed =
    let both = ran (terminal_of_size 4 5) (codes "x") (Obey (SetElapsed 1) ∷ Obey Tick ∷ []) in
    (both.0 ≡ Err ElapsedBeyondClock ∷ Ok Yes ∷ []) × (both.1.bar.progress.start ≡ 0) × (both.1.bar.progress.ticks ≡ 1)

-- ---- a terminal that fails

-- 4 rows, 5 columns: `a` is logged above the bar `x`; the draw of the message `y` is broken off, which leads to
-- a state whose rows are forgotten; then `b` is logged
abbrev pub BrokenOff : Type 0
BrokenOff =
    let target = terminal_of_size 4 5 in
    let logged = ran target (codes "x") (Log (codes "a") ∷ []) in
    let call = Obey (SetMessage (codes "y")) in
    let broken = (draw_of_call (bar_kind untracked) target call 0 logged.1).broken in
    let again = outcomes (lone_bar untracked) target ((Log (codes "b"), 0) ∷ []) broken in
    (all_rows 5 logged.1.lists ≡ rows_of_lines 5 (codes "a" ∷ codes "x" ∷ []))
    × ((kind : ErrorKind) → Leads (lone_bar untracked) target logged.1 ((lone_bar untracked).deed target call 0 logged.1) (Err (Failure kind)) broken)
    × (broken.lists ≡ forgotten_lists)
    × (again.0 ≡ Ok Yes ∷ [])
    × (again.1.lists.above ≡ rows_of_lines 5 (codes "b" ∷ []))
    × (all_rows 5 again.1.lists ≡ rows_of_lines 5 (codes "b" ∷ codes "y" ∷ []))

-- its states: `a` was logged above the bar `x`; after the failure `b` was logged above the bar `y`
abbrev pub logged_before : LoneState (BarRecord (Unit {0}))
logged_before = (ran (terminal_of_size 4 5) (codes "x") (Log (codes "a") ∷ [])).1

abbrev pub logged_behind : LoneState (BarRecord (Unit {0}))
logged_behind =
    let target = terminal_of_size 4 5 in
    (outcomes (lone_bar untracked) target ((Log (codes "b"), 0) ∷ []) (draw_of_call (bar_kind untracked) target (Obey (SetMessage (codes "y"))) 0 logged_before).broken).1

-- its terminals: `a` and the bar `x` stand; the bytes that write `y` over `x` break off after seven; a new row begins, on which `b`
-- and the bar `y` follow
abbrev pub terminal_before : Terminal
terminal_before = after (blank_terminal 4 5) (line_bytes (codes "a") ++ codes "x    ")

abbrev pub broken_bytes : List ℕ
broken_bytes = clear_bytes ++ codes "y    "

abbrev pub terminal_broken : Terminal
terminal_broken = after terminal_before (take 7 broken_bytes)

abbrev pub terminal_behind : Terminal
terminal_behind = after terminal_broken (anew_bytes ++ line_bytes (codes "b") ++ codes "y    ")

-- after each prefix of the bytes the first row is that of `a`. The row of `a` is safe; then also the one on which the terminal broke off; and then that of `b`
abbrev pub BrokenBytes : Type 0
BrokenBytes =
    (map (λ k. take 1 (after terminal_before (take k broken_bytes)).screen.rows) (0 ∷ 1 ∷ 2 ∷ 3 ∷ 4 ∷ 5 ∷ 6 ∷ 7 ∷ 8 ∷ 9 ∷ 10 ∷ []) ≡ replicate 11 (rows_of_lines 5 (codes "a" ∷ [])))
    × (terminal_behind.screen.rows ≡ rows_of_lines 5 (codes "a" ∷ codes "y " ∷ codes "b" ∷ codes "y    " ∷ []))
    × (safe_rows logged_before.lists terminal_before ≡ 1)
    × (safe_rows forgotten_lists terminal_broken ≡ 2)
    × (safe_rows logged_behind.lists terminal_behind ≡ 3)

-- a call that goes up to the row of `b` and empties it leaves the two rows above it unchanged, and is no call of any run: the third row was safe
abbrev pub EmptiedRow : Type 0
EmptiedRow =
    let bytes = move_bytes UP 1 ++ clear_bytes in
    let m = lone_bar untracked in
    ((after terminal_behind bytes).screen.rows ≡ rows_of_lines 5 (codes "a" ∷ codes "y " ∷ [] ∷ codes "y    " ∷ []))
    × ((call : LoneCall (Command (Unit {0})) × ℕ) (answer : Result Drawn Refusal) (old new : Option TermView) (next : LoneState (BarRecord (Unit {0})))
    (run : Runs m (call ∷ []) (answer ∷ []) old logged_behind new next) →
    RowsLast m (call ∷ []) (answer ∷ []) old logged_behind new next run terminal_behind bytes → ⊥)

-- ---- limiters

-- 4 rows, 10 columns, 20 draws a second: the 21st draw at once is limited, and the message after it; a forced draw shows it
abbrev pub LimitedDraws : Type 0
LimitedDraws =
    let both = outcomes (lone_bar untracked) (terminal_of_size 4 10) (map (λ call. (call, 0)) (replicate 21 (Obey Tick) ++ Obey (SetMessage (codes "x")) ∷ Obey ForceDraw ∷ []))
    (opening_state (bar_saying []) (Some (draw_limiter 20 0))) in
    (both.0 ≡ replicate 20 (Ok Yes) ++ Ok Limited ∷ Ok Limited ∷ Ok Yes ∷ []) × (all_rows 10 both.1.lists ≡ rows_of_lines 10 (codes "x" ∷ []))
