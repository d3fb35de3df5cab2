-- A board: its states, its calls, and the effect of each call.
use Rattle.std.specs.Prelude.{◌≡◌, refl, ℕ, ◌+◌, ◌-◌, ◌^◌, min, Bool, true, false, not, ◌==◌, List, [], map, chars, length, Option, Some, None, Result, Ok, Err, if◌then◌else◌}
use Rattle.std.specs.List.{insert}
use Rattle.indicatif_text.specs.declared.refusal.Refusal.{Refusal}
use Rattle.indicatif_text.specs.declared.refusal.Refusal.TheVariants.{ForeignBar, NotMember, Memory}
use Rattle.indicatif_text.specs.declared.refusal.Drawn.{Drawn}
use Rattle.indicatif_text.specs.declared.refusal.Drawn.TheVariants.{Limited}
use Rattle.indicatif_term.specs.Lists.{Lists, opening_lists, forgotten_lists, fate, kept_of}
use Rattle.indicatif_term.specs.declared.target.Keep.{Keep}
use Rattle.indicatif_term.specs.declared.target.Keep.TheVariants.{Behind}
use Rattle.indicatif_term.specs.Lines.{text_lines, logged_lines}
use Rattle.indicatif_term.specs.Limiters.{Limiter}
use Rattle.indicatif_bar.specs.Machines.{Target, Machine, Draw, Deed, AtOnce, Draws}
use Rattle.indicatif_bar.specs.Kinds.{Kind, asked_of, Writing, Frame, TextAndFrame, NoFrame, rows_take, lines_to_write, written_lists}
use Rattle.indicatif_bar.specs.declared.ask.Ask.{Ask}
use Rattle.indicatif_bar.specs.declared.ask.Ask.TheVariants.{No, Forced}
use Rattle.indicatif_board.specs.Members.{Member, new_member, place_of, is_member, without, is_head, changed_at, ownerless, leaders, followers, frame_of, said_of}

-- ---- the bars of a board

-- a kind of bars: how a bar that loses its owner at a moment changes, the draw that it asks for, and whether it takes memory for a text
pub record BoardKind (B C : Type 0) : Type 0 where
  pub bars : Kind B C
  pub left : ℕ → B → B
  pub left_asked : ℕ → B → Ask
  pub left_takes : ℕ → B → Bool

-- ---- states

-- a board between two calls
pub record BoardState (B : Type 0) : Type 0 where
  pub members : List (Member B)
  -- how many bars were ever inserted: the next bar's number
  pub made : ℕ
  -- whether bars stand at the bottom
  pub bottom : Bool
  -- its limiter; none if it is drawn without limit
  pub limiter : Option Limiter
  -- the rows that it drew
  pub lists : Lists

-- before its first call
abbrev pub opening_board : {B : Type 0} → Option Limiter → BoardState B
opening_board limiter = record { members = []; made = 0; bottom = false; limiter = limiter; lists = opening_lists }

-- ---- calls

-- a bar by its board's mark and its number there
pub record Id : Type 0 where
  pub mark : ℕ
  pub number : ℕ

-- where to insert a bar
pub data Location : Type 0 where
  End : Location
  Index : (index : ℕ) → Location
  FromBack : (count : ℕ) → Location
  Before : (anchor : Id) → Location
  After : (anchor : Id) → Location

-- what to insert: a new bar, or one that is there already
pub data Entrant (B : Type 0) : Type 0 where
  New : (bar : B) → Entrant B
  Old : (id : Id) → Entrant B

-- a call of a board
pub data Call (B C : Type 0) : Type 0 where
  Insert : (at : Location) → (entrant : Entrant B) → Call B C
  Remove : (id : Id) → Call B C
  -- a bar lost its owner
  Drop : (id : Id) → Call B C
  -- lines of text above the bars; if a bar is named, its lines are laid out again
  Log : (text : List ℕ) → Call B C
  BarLog : (id : Id) → (text : List ℕ) → Call B C
  -- erases the bars' rows
  Clear : Call B C
  -- draws the bars as they were last laid out
  Redraw : Call B C
  Align : (bottom : Bool) → Call B C
  -- a command of a bar
  Tell : (id : Id) → (command : C) → Call B C

-- the answer of a call
pub data Answer : Type 0 where
  Given : (id : Id) → Answer
  Accepted : Answer
  Drew : (drawn : Drawn) → Answer
  Refused : (refusal : Refusal) → Answer

-- the answer of a draw
abbrev pub says : Result Drawn Refusal → Answer
says (Ok d) = Drew d
says (Err e) = Refused e

-- what an answer says of a draw; `Limited` if it says nothing of one
abbrev pub drawn_of : Answer → Result Drawn Refusal
drawn_of (Given id) = Ok Limited
drawn_of Accepted = Ok Limited
drawn_of (Drew d) = Ok d
drawn_of (Refused e) = Err e

-- reading the draw of a draw's answer gives the draw
abbrev pub drawn_of_said : (r : Result Drawn Refusal) → drawn_of (says r) ≡ r
drawn_of_said (Ok d) = refl
drawn_of_said (Err e) = refl

-- ---- which bar is meant

-- why a bar isn't one of this board's, if it isn't
abbrev pub turned_away : {B : Type 0} → ℕ → Id → BoardState B → Option Refusal
turned_away mark id s =
    if not (id.mark == mark) then Some ForeignBar
    else if is_member id.number s.members then None
    else Some NotMember

-- why a place's anchor isn't one of this board's bars, if it isn't
abbrev pub anchor_turned_away : {B : Type 0} → ℕ → Location → BoardState B → Option Refusal
anchor_turned_away mark (Before anchor) s = turned_away mark anchor s
anchor_turned_away mark (After anchor) s = turned_away mark anchor s
anchor_turned_away mark _ s = None

-- refused, and nothing changes; or done
abbrev pub or_refused : {B : Type 0} → Option Refusal → Deed (BoardState B) Answer → BoardState B → Deed (BoardState B) Answer
or_refused None deed s = deed
or_refused (Some e) deed s = AtOnce false (Refused e) s

-- ---- the order

-- how many members stand before a place
abbrev pub index_of : {B : Type 0} → Location → List (Member B) → ℕ
index_of End members = length members
index_of (Index i) members = min i (length members)
index_of (FromBack i) members = length members - i
index_of (Before anchor) members = place_of anchor.number members
index_of (After anchor) members = place_of anchor.number members + 1

-- the board with a new bar at a place
abbrev pub taken_in : {B : Type 0} → Location → B → BoardState B → BoardState B
taken_in at bar s = record s { members = insert s.members (index_of at s.members) (new_member s.made bar); made = s.made + 1 }

-- a new bar takes memory and the next number; numbers end before 2 ^ 64; a bar that is there already keeps its place
abbrev pub inserted : {B : Type 0} → ℕ → Location → Entrant B → BoardState B → Deed (BoardState B) Answer
inserted mark at (New bar) s =
    if s.made == 2 ^ 64 then AtOnce true (Refused Memory) s
    else AtOnce true (Given (record { mark = mark; number = s.made })) (taken_in at bar s)
inserted mark at (Old id) s = or_refused (turned_away mark id s) (AtOnce false (Given id) s) s

-- the board without a bar, if that is there
abbrev pub taken_out : {B : Type 0} → ℕ → BoardState B → BoardState B
taken_out number s = if is_member number s.members then record s { members = without number s.members } else s

-- a bar that isn't there is no refusal
abbrev pub removed : {B : Type 0} → ℕ → Id → BoardState B → Deed (BoardState B) Answer
removed mark id s = if not (id.mark == mark) then AtOnce false (Refused ForeignBar) s else AtOnce false Accepted (taken_out id.number s)

-- ---- the steps of a draw

-- once the terminal is written, the dropped members at the head leave
abbrev pub once_written : {B : Type 0} → Target → Writing → BoardState B → BoardState B
once_written target writing s = record s {
  lists = written_lists writing target s.bottom (leaders s.members) (frame_of s.members) s.lists;
  members = followers s.members;
}

-- a draw, from a state with changed bars to the state with its lines laid out too, which may take memory; if the terminal fails, the rows are forgotten, and no bar leaves the order
abbrev pub draw_of : {B : Type 0} → Target → Bool → Ask → ℕ → Writing → BoardState B → BoardState B → Bool → Draw (BoardState B)
draw_of target takes ask now writing s laid lays =
    let asked = asked_of ask now laid.limiter in
    let ready = record laid { limiter = asked.1 } in
    record {
      text_takes = takes;
      lines_take = lays;
      rows_take = rows_take writing (leaders ready.members) (frame_of ready.members);
      ask = ask;
      after_command = s;
      ready = ready;
      allowed = asked.0;
      lines = lines_to_write writing (leaders ready.members) (frame_of ready.members);
      written = once_written target writing ready;
      broken = record ready { lists = forgotten_lists };
    }

-- a draw after which nothing else happens
abbrev pub draws : {B : Type 0} → Draw (BoardState B) → Deed (BoardState B) Answer
draws d = Draws d (λ x. x) (λ x. x)

-- ---- a bar without an owner

-- the board with a bar without its owner
abbrev pub ownerless_on : {B : Type 0} → ℕ → BoardState B → BoardState B
ownerless_on number s = record s { members = ownerless number s.members }

-- the bar leaves, with its rows kept if they are the first that are live; or it stays without an owner, if another bar's rows stand above
abbrev pub left_by : {B : Type 0} → Target → ℕ → Keep → BoardState B → BoardState B
left_by target number Behind s = ownerless_on number s
left_by target number _ s = record s { members = without number s.members; lists = kept_of target.columns number s.lists }

-- the bar leaves if it is the first member and no other bar's rows stand above its own
abbrev pub left_on : {B : Type 0} → Target → ℕ → BoardState B → BoardState B
left_on target number s =
    if is_head number s.members then left_by target number (fate number s.lists) s
    else ownerless_on number s

-- ---- a board

-- a member's bar changed by a command
abbrev pub bar_changed : {B : Type 0} → ℕ → (B → B) → BoardState B → BoardState B
bar_changed number f s = record s { members = changed_at number (λ m. record m { bar = f m.bar }) s.members }

module _ {B C : Type 0} (kind : BoardKind B C) where
  -- a bar's lines laid out and stored
  abbrev pub laid_out : Target → ℕ → ℕ → BoardState B → BoardState B
  laid_out target now number s =
      record s { members = changed_at number (λ m. record m { stored = map chars (kind.bars.lines m.bar now target.columns) }) s.members }

  -- whether that takes memory
  abbrev pub layout_takes : ℕ → BoardState B → Bool
  layout_takes number s = said_of false kind.bars.lays number s.members

  -- the draw of a command of a bar
  abbrev pub draw_of_command : Target → ℕ → C → ℕ → BoardState B → Draw (BoardState B)
  draw_of_command target number command now s =
      let after = bar_changed number (λ bar. (kind.bars.after command bar now).0) s in
      draw_of target (said_of false (λ bar. kind.bars.takes command bar now) number s.members) (said_of No (λ bar. (kind.bars.after command bar now).1) number s.members) now Frame after
      (laid_out target now number after) (layout_takes number after)

  -- the draw of a bar that loses its owner
  abbrev pub last_draw : Target → ℕ → ℕ → BoardState B → Draw (BoardState B)
  last_draw target number now s =
      let after = bar_changed number (kind.left now) s in
      draw_of target (said_of false (kind.left_takes now) number s.members) (said_of No (kind.left_asked now) number s.members) now Frame after (laid_out target now number after)
      (layout_takes number after)

  -- the draw of a text above the bars
  abbrev pub log_of : Target → List ℕ → ℕ → BoardState B → BoardState B → Bool → Draw (BoardState B)
  log_of target text now s laid lays = draw_of target false Forced now (TextAndFrame (text_lines (logged_lines text))) s laid lays

  -- the effect of a call at a moment, on the board with a mark
  abbrev pub deed_of : ℕ → Target → Call B C → ℕ → BoardState B → Deed (BoardState B) Answer
  deed_of mark target (Insert at entrant) now s = or_refused (anchor_turned_away mark at s) (inserted mark at entrant s) s
  deed_of mark target (Remove id) now s = removed mark id s
  deed_of mark target (Drop id) now s =
      or_refused (turned_away mark id s) (Draws (last_draw target id.number now s) (left_on target id.number) (ownerless_on id.number)) s
  deed_of mark target (Log text) now s = draws (log_of target text now s s false)
  deed_of mark target (BarLog id text) now s = or_refused (turned_away mark id s) (draws (log_of target text now s (laid_out target now id.number s) (layout_takes id.number s))) s
  deed_of mark target Clear now s = draws (draw_of target false Forced now NoFrame s s false)
  deed_of mark target Redraw now s = draws (draw_of target false Forced now Frame s s false)
  deed_of mark target (Align bottom) now s = AtOnce false Accepted (record s { bottom = bottom })
  deed_of mark target (Tell id command) now s =
      or_refused (turned_away mark id s) (or_refused (said_of None (λ bar. kind.bars.refused command bar now) id.number s.members) (draws (draw_of_command target id.number command now s)) s) s

  -- the board with this mark, as a machine
  abbrev pub board : ℕ → Machine (BoardState B) (Call B C) Answer
  board mark = record { lists = λ s. s.lists; deed = deed_of mark; says = says; tells = drawn_of; tells_said = drawn_of_said }
