-- Worked cases of a board: the answers of calls at the moment 0, and the rows that stand afterwards. The terminal fails where a case says so.
use Rattle.std.specs.Prelude.{◌≡◌, ℕ, Bool, true, false, List, [], ◌∷◌, ◌++◌, map, replicate, codes, Option, Some, None}
use Rattle.std.specs.declared.io.ErrorKind.{ErrorKind}
use Rattle.indicatif_text.specs.declared.refusal.Refusal.TheVariants.{ForeignBar, NotMember, NoColumns, TooWide, Memory, ElapsedBeyondClock, Terminal as Failure}
use Rattle.indicatif_text.specs.declared.refusal.Drawn.TheVariants.{Yes, Limited, Hidden}
use Rattle.indicatif_term.specs.Lists.{forgotten_lists, all_rows}
use Rattle.indicatif_term.specs.Limiters.{Limiter, draw_limiter}
use Rattle.indicatif_bar.specs.Machines.{Target, Deed, outcomes, Leads}
use Rattle.indicatif_bar.specs.Says.{TakesMemory}
use Rattle.indicatif_bar.specs.Cases.{terminal_of_size, nowhere, rows_of_lines, bar_saying, untracked as no_trackers}
use Rattle.indicatif_bar.specs.Finishes.{AndLeave}
use Rattle.indicatif_bar.specs.Commands.{BarRecord, Command, Tick, SetElapsed, WithFinish}
use Rattle.indicatif_bar.specs.declared.ask.Ask.{Ask}
use Rattle.indicatif_bar.specs.declared.ask.Ask.TheVariants.{No, Unforced, Forced}
use Rattle.indicatif_board.specs.BoardBars.{board_bars}
use Rattle.indicatif_board.specs.Members.{order_of, Member}
use Rattle.indicatif_board.specs.Boards.{BoardKind, BoardState, opening_board, Id, End, Index, FromBack, Before, After, New, Old, Call, Insert, Remove, Drop, Log, BarLog, Clear, Redraw, Align, Tell, Answer, Given, Accepted, Drew, Refused, board}

-- ---- a plain bar

-- the stages of a plain bar
pub data PlainStage : Type 0 where
  Running : PlainStage
  Shown : PlainStage
  Gone : PlainStage

-- a plain bar: one line, a stage, and the stage that its finish leads to
pub record PlainBar : Type 0 where
  pub text : List ℕ
  pub stage : PlainStage
  pub at_finish : PlainStage

-- the commands of a plain bar
pub data Word : Type 0 where
  Touch : Word
  Say : (text : List ℕ) → Word
  FinishAs : (stage : PlainStage) → Word

-- the draw that a bar at this stage asks for
abbrev pub ask_at : PlainStage → Ask
ask_at Running = Unforced
ask_at _ = Forced

-- the bar after a command, and the draw that it asks for
abbrev pub plain_after : Word → PlainBar → ℕ → PlainBar × Ask
plain_after Touch b now = (b, ask_at b.stage)
plain_after (Say text) b now = (record b { text = text }, ask_at b.stage)
plain_after (FinishAs stage) b now = (record b { stage = stage }, Forced)

abbrev pub says_text : Word → PlainBar → ℕ → Bool
says_text (Say text) b now = true
says_text _ b now = false

-- a line; none if the text is empty
abbrev pub line_of : List ℕ → List (List ℕ)
line_of [] = []
line_of (c ∷ text) = (c ∷ text) ∷ []

abbrev pub lines_at : PlainStage → List ℕ → List (List ℕ)
lines_at Gone text = []
lines_at _ text = line_of text

-- the stage of a bar that loses its owner: finished by a draw, unless it is finished already
abbrev pub plain_end : PlainStage → PlainStage → PlainStage
plain_end Running at_finish = at_finish
plain_end stage at_finish = stage

abbrev pub end_asked : PlainStage → Ask
end_asked Running = Forced
end_asked _ = No

-- whether a bar at this stage takes memory for its line
abbrev pub is_seen : PlainStage → Bool
is_seen Gone = false
is_seen _ = true

abbrev pub plain_bars : BoardKind PlainBar Word
plain_bars = record {
  bars = record {
    refused = λ word b now. None;
    takes = says_text;
    after = plain_after;
    lines = λ b now columns. lines_at b.stage b.text;
    lays = λ b. is_seen b.stage;
  };
  left = λ now b. record b { stage = plain_end b.stage b.at_finish };
  left_asked = λ now b. end_asked b.stage;
  left_takes = λ now b. false;
}

-- ---- runs

abbrev pub PlainCall : Type 0
PlainCall = Call PlainBar Word

-- a bar of the board with the mark 1
abbrev pub id : ℕ → Id
id number = record { mark = 1; number = number }

-- a bar with this text, which finishes hidden by default
abbrev pub plain_bar : List ℕ → PlainBar
plain_bar text = record { text = text; stage = Running; at_finish = Gone }

abbrev pub add : List ℕ → PlainCall
add text = Insert End (New (plain_bar text))

abbrev pub touch : ℕ → PlainCall
touch number = Tell (id number) Touch

abbrev pub say : ℕ → List ℕ → PlainCall
say number text = Tell (id number) (Say text)

abbrev pub finish_it : ℕ → PlainCall
finish_it number = Tell (id number) (FinishAs Shown)

abbrev pub drop_it : ℕ → PlainCall
drop_it number = Drop (id number)

abbrev pub remove_it : ℕ → PlainCall
remove_it number = Remove (id number)

-- the answers of calls, and the state after them
abbrev pub ran_on : Option Limiter → Target → List PlainCall → List Answer × BoardState PlainBar
ran_on limiter target calls = outcomes (board plain_bars 1) target (map (λ call. (call, 0)) calls) (opening_board limiter)

abbrev pub ran_in : ℕ → ℕ → List PlainCall → List Answer × BoardState PlainBar
ran_in rows columns calls = ran_on None (terminal_of_size rows columns) calls

-- after these calls the rows of these lines stand
abbrev pub LeavesRows : ℕ → ℕ → List PlainCall → List (List ℕ) → Type 0
LeavesRows rows columns calls lines = all_rows columns (ran_in rows columns calls).1.lists ≡ rows_of_lines columns lines

-- ---- rows

-- a line of 8 columns on 6 takes two rows; a shorter one takes their place
abbrev pub TwoBars : Type 0
TwoBars =
    LeavesRows 4 6 (add (codes "aaaaaaaa") ∷ add (codes "b") ∷ touch 0 ∷ touch 1 ∷ []) (codes "aaaaaa" ∷ codes "aa" ∷ codes "b" ∷ [])
    × LeavesRows 4 6 (add (codes "aaaaaaaa") ∷ add (codes "b") ∷ touch 0 ∷ touch 1 ∷ say 0 (codes "a") ∷ []) (codes "a" ∷ codes "b" ∷ [])

-- of three bars on two rows the first two are shown
abbrev pub ThreeBarsOnTwo : Type 0
ThreeBarsOnTwo = LeavesRows 2 9 (add (codes "a") ∷ add (codes "b") ∷ add (codes "c") ∷ touch 0 ∷ touch 1 ∷ touch 2 ∷ []) (codes "a" ∷ codes "b" ∷ [])

-- a finished bar that is dropped leaves its row above
abbrev pub LeftAbove : Type 0
LeftAbove =
    LeavesRows 2 10 (add (codes "k") ∷ add (codes "x") ∷ touch 0 ∷ touch 1 ∷ finish_it 0 ∷ drop_it 0 ∷ add (codes "y") ∷ touch 2 ∷ Log (codes "l") ∷ [])
    (codes "k" ∷ codes "l" ∷ codes "x" ∷ codes "y" ∷ [])
    × LeavesRows 2 10 (Align true ∷ add (codes "k") ∷ add (codes "x") ∷ touch 0 ∷ touch 1 ∷ finish_it 0 ∷ drop_it 0 ∷ add (codes "y") ∷ touch 2 ∷ remove_it 1 ∷ Log (codes "l") ∷ [])
    (codes "k" ∷ codes "l" ∷ codes "y" ∷ [])

-- a bar that leaves its row and one that hides, both dropped: a log overwrites the kept row
abbrev pub BothDropped : Type 0
BothDropped = LeavesRows 10 9
    (Insert End (New (record { text = codes "A"; stage = Running; at_finish = Shown })) ∷ add (codes "B") ∷ touch 0 ∷ touch 1 ∷ drop_it 0 ∷ drop_it 1 ∷ Log (codes "L") ∷ [])
    (codes "L" ∷ [])

-- at the bottom: a removed bar leaves a blank row above; a dropped bar leaves with it
abbrev pub BoardAtTheBottom : Type 0
BoardAtTheBottom =
    let calls = Align true ∷ add (codes "m1") ∷ add (codes "m2") ∷ add (codes "m3") ∷ touch 0 ∷ touch 1 ∷ touch 2 ∷ remove_it 1 ∷ touch 0 ∷ [] in
    LeavesRows 6 9 calls ([] ∷ codes "m1" ∷ codes "m3" ∷ [])
    × LeavesRows 6 9 (calls ++ finish_it 0 ∷ drop_it 0 ∷ Log (codes "L") ∷ []) (codes "L" ∷ [] ∷ codes "m3" ∷ [])

-- the order after insertions at all places; a bar that is there keeps its place; a bar of another board, and one that is gone, are refused
abbrev pub Ordered : Type 0
Ordered =
    let p = New (plain_bar (codes "p")) in
    let foreign : Id = record { mark = 2; number = 0 } in
    let calls = add (codes "p") ∷ add (codes "p") ∷ add (codes "p") ∷ Insert (Before (id 0)) p ∷ Insert (After (id 3)) p ∷ Insert (After (id 3)) p ∷ Insert (Before (id 1)) p ∷ [] in
    let again = ran_in 5 9 (calls ++ Insert End (Old (id 4)) ∷ Insert (Before foreign) p ∷ drop_it 4 ∷ drop_it 4 ∷ touch 4
    ∷ Insert (Before (id 4)) p ∷ Insert (After (id 3)) (Old foreign) ∷ remove_it 4 ∷ []) in
    (order_of (ran_in 5 9 calls).1.members ≡ 3 ∷ 5 ∷ 4 ∷ 0 ∷ 6 ∷ 1 ∷ 2 ∷ [])
    × (again.0 ≡ map (λ n. Given (id n)) (0 ∷ 1 ∷ 2 ∷ 3 ∷ 4 ∷ 5 ∷ 6 ∷ [])
    ++ Given (id 4) ∷ Refused ForeignBar ∷ Drew Yes ∷ Refused NotMember ∷ Refused NotMember ∷ Refused NotMember ∷ Refused ForeignBar ∷ Accepted ∷ [])
    × (order_of again.1.members ≡ 3 ∷ 5 ∷ 4 ∷ 0 ∷ 6 ∷ 1 ∷ 2 ∷ [])
    × (order_of (ran_in 5 9 (add [] ∷ add [] ∷ Insert (Index 1) p ∷ Insert (Index 9) p ∷ Insert (FromBack 1) p ∷ Insert (FromBack 9) p ∷ [])).1.members ≡ 5 ∷ 0 ∷ 2 ∷ 1 ∷ 4 ∷ 3 ∷ [])

-- an empty text is one empty line above the bar
abbrev pub EmptyLog : Type 0
EmptyLog = LeavesRows 5 9 (add (codes "a") ∷ touch 0 ∷ Log [] ∷ []) ([] ∷ codes "a" ∷ [])

-- a removed bar stays shown until the next draw
abbrev pub RemovedLater : Type 0
RemovedLater =
    LeavesRows 4 10 (add (codes "a") ∷ add (codes "b") ∷ touch 0 ∷ touch 1 ∷ remove_it 0 ∷ []) (codes "a" ∷ codes "b" ∷ [])
    × LeavesRows 4 10 (add (codes "a") ∷ add (codes "b") ∷ touch 0 ∷ touch 1 ∷ remove_it 0 ∷ touch 1 ∷ []) (codes "b" ∷ [])

-- a dropped bar below the rows of a removed one waits for the next draw
abbrev pub WaitsBehind : Type 0
WaitsBehind = LeavesRows 4 10 (add (codes "a") ∷ add (codes "b") ∷ touch 0 ∷ finish_it 1 ∷ remove_it 0 ∷ drop_it 1 ∷ add (codes "c") ∷ touch 2 ∷ []) (codes "b" ∷ codes "c" ∷ [])

-- a long text takes all its rows; bars that don't fit are cut off
abbrev pub LongLog : Type 0
LongLog =
    LeavesRows 3 5 (add (codes "x") ∷ touch 0 ∷ Log (codes "abcdefghijk") ∷ []) (codes "abcde" ∷ codes "fghij" ∷ codes "k" ∷ codes "x" ∷ [])
    × LeavesRows 2 10 (add (codes "a") ∷ add (codes "b") ∷ add (codes "c") ∷ touch 0 ∷ touch 1 ∷ touch 2 ∷ Log (codes "l") ∷ []) (codes "l" ∷ codes "a" ∷ codes "b" ∷ [])

-- a bar removed twice is no refusal; a command of it finds no bar
abbrev pub RemovedTwice : Type 0
RemovedTwice = (ran_in 4 10 (add (codes "a") ∷ remove_it 0 ∷ remove_it 0 ∷ touch 0 ∷ [])).0 ≡ Given (id 0) ∷ Accepted ∷ Accepted ∷ Refused NotMember ∷ []

-- a line that is too wide for the terminal: no bar is drawn until its bar is removed
abbrev pub TooWideForAll : Type 0
TooWideForAll = (ran_in 1 1 (add (codes "a") ∷ touch 0 ∷ add (0xE5 ∷ 0x9B ∷ 0xBD ∷ []) ∷ touch 1 ∷ touch 0 ∷ remove_it 1 ∷ touch 0 ∷ [])).0
    ≡ Given (id 0) ∷ Drew Yes ∷ Given (id 1) ∷ Refused TooWide ∷ Refused TooWide ∷ Accepted ∷ Drew Yes ∷ []

-- 20 draws a second: the 21st at once is limited, a forced one isn't
abbrev pub TwentyDrawsAtOnce : Type 0
TwentyDrawsAtOnce = (ran_on (Some (draw_limiter 20 0)) (terminal_of_size 5 9) (add (codes "a") ∷ replicate 21 (touch 0) ++ say 0 (codes "b") ∷ Redraw ∷ finish_it 0 ∷ touch 0 ∷ [])).0
    ≡ Given (id 0) ∷ replicate 20 (Drew Yes) ++ Drew Limited ∷ Drew Limited ∷ Drew Yes ∷ Drew Yes ∷ Drew Yes ∷ []

-- a text of one bar stands above all bars, and that bar's lines are laid out again, here for the first time; rows of bars that are gone make room for it; a bar that isn't there has no text
abbrev pub OwnText : Type 0
OwnText =
    let both = add (codes "a") ∷ add (codes "b") ∷ touch 0 ∷ [] in
    let foreign : Id = record { mark = 2; number = 0 } in
    LeavesRows 4 10 (both ++ Log (codes "l") ∷ []) (codes "l" ∷ codes "a" ∷ [])
    × LeavesRows 4 10 (both ++ BarLog (id 1) (codes "l") ∷ []) (codes "l" ∷ codes "a" ∷ codes "b" ∷ [])
    × LeavesRows 4 10 (both ++ touch 1 ∷ finish_it 0 ∷ drop_it 0 ∷ BarLog (id 1) (codes "l") ∷ []) (codes "l" ∷ codes "b" ∷ [])
    × ((ran_in 4 10 (both ++ BarLog (id 1) [] ∷ remove_it 1 ∷ BarLog (id 1) [] ∷ BarLog foreign [] ∷ [])).0
    ≡ Given (id 0) ∷ Given (id 1) ∷ Drew Yes ∷ Drew Yes ∷ Accepted ∷ Refused NotMember ∷ Refused ForeignBar ∷ [])

-- a clear erases the bars' rows, and those of bars that are gone; texts stay, and the next draw shows the bars again
abbrev pub ClearedRows : Type 0
ClearedRows =
    let logged = add (codes "a") ∷ add (codes "b") ∷ touch 0 ∷ touch 1 ∷ Log (codes "l") ∷ [] in
    let left = finish_it 0 ∷ drop_it 0 ∷ [] in
    LeavesRows 4 10 (logged ++ Clear ∷ []) (codes "l" ∷ [])
    × LeavesRows 4 10 (logged ++ Clear ∷ touch 1 ∷ []) (codes "l" ∷ codes "a" ∷ codes "b" ∷ [])
    × LeavesRows 4 10 (logged ++ left) (codes "l" ∷ codes "a" ∷ codes "b" ∷ [])
    × LeavesRows 4 10 (logged ++ left ++ Clear ∷ []) (codes "l" ∷ [])
    × LeavesRows 4 10 (logged ++ left ++ Clear ∷ touch 1 ∷ []) (codes "l" ∷ codes "b" ∷ [])

-- a dropped bar that waited until it was the first: a draw leaves its row above; a clear removes it, and it isn't drawn again
abbrev pub ClearedHead : Type 0
ClearedHead =
    let waits = add (codes "a") ∷ add (codes "b") ∷ add (codes "c") ∷ touch 0 ∷ touch 1 ∷ touch 2 ∷ finish_it 1 ∷ drop_it 1 ∷ remove_it 0 ∷ [] in
    LeavesRows 4 10 (waits ++ Redraw ∷ []) (codes "b" ∷ codes "c" ∷ [])
    × LeavesRows 4 10 (waits ++ Clear ∷ []) []
    × LeavesRows 4 10 (waits ++ Clear ∷ Redraw ∷ []) (codes "c" ∷ [])
    × (order_of (ran_in 4 10 waits).1.members ≡ 1 ∷ 2 ∷ [])
    × (order_of (ran_in 4 10 (waits ++ Clear ∷ [])).1.members ≡ 2 ∷ [])

-- on a terminal without columns no line is laid out, a text is lost, and a dropped bar still leaves; afterwards, on a terminal with columns, a bar whose text was set shows it
abbrev pub WithoutColumns : Type 0
WithoutColumns =
    let first = ran_in 4 0 (add (codes "a") ∷ add (codes "b") ∷ touch 1 ∷ say 1 (codes "c") ∷ Log (codes "l") ∷ drop_it 0 ∷ []) in
    let then = outcomes (board plain_bars 1) (terminal_of_size 4 10) ((Redraw, 0) ∷ []) first.1 in
    let later = outcomes (board plain_bars 1) (terminal_of_size 4 10) ((touch 1, 0) ∷ []) first.1 in
    (first.0 ≡ Given (id 0) ∷ Given (id 1) ∷ Refused NoColumns ∷ Refused NoColumns ∷ Refused NoColumns ∷ Refused NoColumns ∷ [])
    × (order_of first.1.members ≡ 1 ∷ [])
    × (then.0 ≡ Drew Yes ∷ [])
    × (all_rows 10 then.1.lists ≡ [])
    × (later.0 ≡ Drew Yes ∷ [])
    × (all_rows 10 later.1.lists ≡ rows_of_lines 10 (codes "c" ∷ []))

-- on a hidden target a text is dropped, and a dropped bar leaves
abbrev pub Unseen : Type 0
Unseen =
    let both = ran_on None (nowhere) (add (codes "a") ∷ add (codes "b") ∷ touch 0 ∷ Log (codes "l") ∷ drop_it 1 ∷ drop_it 0 ∷ Clear ∷ []) in
    (both.0 ≡ Given (id 0) ∷ Given (id 1) ∷ Drew Hidden ∷ Drew Hidden ∷ Drew Hidden ∷ Drew Hidden ∷ Drew Hidden ∷ [])
    × (order_of both.1.members ≡ 1 ∷ [])

-- ---- a drop whose own draw is refused

-- one bar, with this finish, was drawn
abbrev pub one_shown : PlainStage → BoardState PlainBar
one_shown at_finish = (ran_in 4 10 (Insert End (New (record { text = codes "a"; stage = Running; at_finish = at_finish })) ∷ touch 0 ∷ [])).1

-- the drop of that bar
abbrev pub its_drop : PlainStage → Deed (BoardState PlainBar) Answer
its_drop at_finish = (board plain_bars 1).deed (terminal_of_size 4 10) (drop_it 0) 0 (one_shown at_finish)

-- it has no owner and stays, although it is the first, with these lines
abbrev pub stays_unowned : PlainStage → List (List ℕ) → List (Member PlainBar)
stays_unowned at_finish lines =
    let m : Member PlainBar = record { number = 0; bar = record { text = codes "a"; stage = at_finish; at_finish = at_finish }; stored = lines; dropped = true } in m ∷ []

-- if the terminal fails, its rows are forgotten; if memory is refused, they are unchanged; a bar that finishes hidden isn't refused memory, since it has no lines
abbrev pub DropRefused : Type 0
DropRefused =
    let machine = board plain_bars 1 in
    let target = terminal_of_size 4 10 in
    ((kind : ErrorKind) → Leads machine target (one_shown Gone) (its_drop Gone) (Refused (Failure kind)) (record (one_shown Gone) { members = stays_unowned Gone []; lists = forgotten_lists }))
    × Leads machine target (one_shown Shown) (its_drop Shown) (Refused Memory) (record (one_shown Shown) { members = stays_unowned Shown (codes "a" ∷ []) })
    × (TakesMemory machine target (its_drop Gone) → ⊥)

-- ---- a draw that the terminal breaks off

-- `a` is logged above the bar `x`, and the next draw is broken off: the rows are forgotten, so `a` is never erased, and the bar stays in the order; then `b` is logged, with the bar below
abbrev pub BrokenBelow : Type 0
BrokenBelow =
    let machine = board plain_bars 1 in
    let target = terminal_of_size 4 10 in
    let logged = (ran_in 4 10 (add (codes "x") ∷ touch 0 ∷ Log (codes "a") ∷ [])).1 in
    let broken = record logged { lists = forgotten_lists } in
    let again = outcomes machine target ((Log (codes "b"), 0) ∷ []) broken in
    (all_rows 10 logged.lists ≡ rows_of_lines 10 (codes "a" ∷ codes "x" ∷ []))
    × ((kind : ErrorKind) → Leads machine target logged (machine.deed target Redraw 0 logged) (Refused (Failure kind)) broken)
    × (order_of broken.members ≡ 0 ∷ [])
    × (again.0 ≡ Drew Yes ∷ [])
    × (all_rows 10 again.1.lists ≡ rows_of_lines 10 (codes "b" ∷ codes "x" ∷ []))

-- ---- bars of the product, without trackers

abbrev pub BarCall : Type 0
BarCall = Call (BarRecord (Unit {0})) (Command (Unit {0}))

-- the answers of calls on 4 rows and 10 columns, and the state after them
abbrev pub ran_bars : List BarCall → List Answer × BoardState (BarRecord (Unit {0}))
ran_bars calls = outcomes (board (board_bars no_trackers) 1) (terminal_of_size 4 10) (map (λ call. (call, 0)) calls) (opening_board None)

-- the insertion of a bar with this message
abbrev pub add_bar : List ℕ → BarCall
add_bar text = Insert End (New (bar_saying text))

-- an elapsed time beyond the moment is refused, and changes nothing; a missing bar is refused first
abbrev pub LateOnBoard : Type 0
LateOnBoard =
    let both = ran_bars (add_bar (codes "a") ∷ Tell (id 0) (SetElapsed 1) ∷ Tell (id 1) (SetElapsed 1) ∷ []) in
    (both.0 ≡ Given (id 0) ∷ Refused ElapsedBeyondClock ∷ Refused NotMember ∷ [])
    × (both.1.members ≡ (ran_bars (add_bar (codes "a") ∷ [])).1.members)

-- of two bars that lose their owners, the one that finishes with its row leaves it, and the other's row is gone
abbrev pub OneIsLeft : Type 0
OneIsLeft =
    let calls = add_bar (codes "a") ∷ add_bar (codes "b") ∷ Tell (id 0) (WithFinish AndLeave) ∷ Tell (id 0) Tick ∷ Tell (id 1) Tick ∷ Drop (id 0) ∷ Drop (id 1) ∷ [] in
    let both = ran_bars calls in
    (both.0 ≡ Given (id 0) ∷ Given (id 1) ∷ Drew Limited ∷ Drew Yes ∷ Drew Yes ∷ Drew Yes ∷ Drew Yes ∷ [])
    × (order_of both.1.members ≡ [])
    × (all_rows 10 both.1.lists ≡ rows_of_lines 10 (codes "a" ∷ []))
