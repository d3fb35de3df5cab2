-- Which answers the calls of a lone bar and of a board have: those that the table of shared bars and boards allows.
use Rattle.std.proofs.Common.{◌≡◌, ℕ, ◌^◌, arith, List, [], ◌∷◌, Bool, true, false, refl, sym, ◌∙◌, ap, subst, Result, Ok, Err, Option, Some, None, inl, inr, if◌then◌else◌}
use Rattle.std.specs.Prelude.{◌==◌, ◌||◌, ◌&&◌, not, nat_lt, IfErr}
use Rattle.std.specs.declared.io.ErrorKind.{ErrorKind}
use Rattle.std.proofs.lemmas.Bool.{cond_both, false≢true, ltb-true, lt-ltb}
use Rattle.std.proofs.Math.Bool.{or-true}
use Rattle.indicatif_text.specs.declared.refusal.Refusal.{Refusal}
use Rattle.indicatif_text.specs.declared.refusal.Refusal.TheVariants.{NoColumns, TooWide, Memory, Terminal as Failure, ForeignBar, NotMember, ElapsedBeyondClock}
use Rattle.indicatif_text.specs.declared.refusal.Drawn.{Drawn}
use Rattle.indicatif_text.specs.declared.refusal.Drawn.TheVariants.{Yes, Limited, Hidden}
use Rattle.indicatif_term.specs.Calls.{TermView}
use Rattle.indicatif_term.specs.Lines.{some_wide}
use Rattle.indicatif_term.specs.Limiters.{Limiter}
use Rattle.indicatif_bar.specs.Trackers.{Tracking}
use Rattle.indicatif_bar.specs.Commands.{BarRecord, Command, Tick, SetElapsed, ForceDraw, obeyed, is_beyond_clock}
use Rattle.indicatif_bar.specs.Bars.{bar_kind}
use Rattle.indicatif_bar.specs.Kinds.{asked_of, Frame, NoFrame}
use Rattle.indicatif_bar.specs.Machines.{Target, target_of, Machine, Draw, Deed, AtOnce, Draws, Leads, is_no, drawn_by}
use Rattle.indicatif_bar.specs.Runs.{CallMade}
use Rattle.indicatif_bar.specs.Lone.{LoneState, LoneCall, Obey, Log, Clear, deed_unless, draw_of_call}
use Rattle.indicatif_bar.specs.LoneBars.{lone_bar}
use Rattle.indicatif_bar.specs.declared.ask.Ask.{Ask}
use Rattle.indicatif_bar.specs.declared.ask.Ask.TheVariants.{No, Unforced, Forced}
use Rattle.indicatif_board.specs.BoardBars.{board_bars}
use Rattle.indicatif_board.specs.Boards.{BoardState, Id, Location, Before, After, Entrant, New, Old, Insert, Remove, Drop, Log as LogAbove, BarLog, Clear as ClearBoard, Redraw, Align, Tell, Answer, Given, Accepted, Drew, Refused, drawn_of, or_refused, turned_away, anchor_turned_away, inserted, taken_in, taken_out, draws, draw_of_command, last_draw, log_of, draw_of, laid_out, layout_takes, left_on, ownerless_on, deed_of, board}
use Rattle.indicatif_board.specs.Members.{Member, is_member, said_of}
use Rattle.indicatif.specs.Fronts.{of_no_draw, of_a_draw, of_a_clear, of_draw, asked_by, is_late, has_no_bar, bar_answers, CanAnswer, IsMissing, MemoryOrForeign}
use Rattle.indicatif_board.specs.LoneLaws.{on_board}
use Rattle.indicatif.specs.Inside.SharedBoards.{SharedCall, SharedDraws, SharedAnswers, given_by, is_foreign, names_bar, board_answers}

pub or-left : (a b : Bool) → a ≡ true → (a || b) ≡ true
or-left a b e = rw e refl

pub or-right : (a b : Bool) → b ≡ true → (a || b) ≡ true
or-right a b e = rw e (or-true a)

or-wider : (a b c : Bool) → (a || b) ≡ true → (a || (b || c)) ≡ true
or-wider true b c e = refl
or-wider false b c e = or-left b c e

or-none : (a : Bool) → (a || false) ≡ true → a ≡ true
or-none true e = refl
or-none false e = e

-- ---- a draw

-- what a draw that is asked for in one of these ways was asked for, and whether the limiter allowed it
abbrev ComesAs : Ask → Ask → Bool → Type 0
ComesAs No ask allowed = ask ≡ No
ComesAs Unforced ask allowed = Unit {0}
ComesAs Forced ask allowed = (ask ≡ Forced) × (allowed ≡ true)

module _ {S : Type 0} (target : Target) (d : Draw S) where
  drawn_unasked : is_no d.ask ≡ true → of_no_draw (drawn_by target d).0 ≡ true
  unfolding drawn_by
  drawn_unasked none = rw none refl

  drawn_either : (of_no_draw (drawn_by target d).0 || of_a_draw (drawn_by target d).0) ≡ true
  unfolding drawn_by
  drawn_either =
      let P = λ (o : Result Drawn Refusal × S). (of_no_draw o.0 || of_a_draw o.0) ≡ true in
      cond_both (is_no d.ask) (Ok Limited, d.after_command) _ P (λ a. refl)
      (λ a. cond_both target.hidden (Ok Hidden, d.after_command) _ P (λ b. refl)
      (λ b. cond_both (target.columns == 0) (Err NoColumns, d.after_command) _ P (λ c. refl)
      (λ c. cond_both (not d.allowed) (Ok Limited, d.ready) _ P (λ f. refl)
      (λ f. cond_both (some_wide target.columns d.lines) (Err TooWide, d.ready) (Ok Yes, d.written) P (λ g. refl) (λ g. refl)))))

  drawn_forced : is_no d.ask ≡ false → not d.allowed ≡ false → of_a_draw (drawn_by target d).0 ≡ true
  unfolding drawn_by
  drawn_forced asked allowed =
      let P = λ (o : Result Drawn Refusal × S). of_a_draw o.0 ≡ true in
      cond_both (is_no d.ask) (Ok Limited, d.after_command) _ P (λ a. absurd (false≢true (sym asked ∙ a)))
      (λ a. cond_both target.hidden (Ok Hidden, d.after_command) _ P (λ b. refl)
      (λ b. cond_both (target.columns == 0) (Err NoColumns, d.after_command) _ P (λ c. refl)
      (λ c. cond_both (not d.allowed) (Ok Limited, d.ready) _ P (λ f. absurd (false≢true (sym allowed ∙ f)))
      (λ f. cond_both (some_wide target.columns d.lines) (Err TooWide, d.ready) (Ok Yes, d.written) P (λ g. refl) (λ g. refl)))))

  drawn_clear : is_no d.ask ≡ false → not d.allowed ≡ false → some_wide target.columns d.lines ≡ false → of_a_clear (drawn_by target d).0 ≡ true
  unfolding drawn_by
  drawn_clear asked allowed narrow =
      let P = λ (o : Result Drawn Refusal × S). of_a_clear o.0 ≡ true in
      cond_both (is_no d.ask) (Ok Limited, d.after_command) _ P (λ a. absurd (false≢true (sym asked ∙ a)))
      (λ a. cond_both target.hidden (Ok Hidden, d.after_command) _ P (λ b. refl)
      (λ b. cond_both (target.columns == 0) (Err NoColumns, d.after_command) _ P (λ c. refl)
      (λ c. cond_both (not d.allowed) (Ok Limited, d.ready) _ P (λ f. absurd (false≢true (sym allowed ∙ f)))
      (λ f. cond_both (some_wide target.columns d.lines) (Err TooWide, d.ready) (Ok Yes, d.written) P (λ g. absurd (false≢true (sym narrow ∙ g))) (λ g. refl)))))

  drawn_so : (asked : Ask) → ComesAs asked d.ask d.allowed → of_draw asked (drawn_by target d).0 ≡ true
  drawn_so No is = drawn_unasked (ap is_no is)
  drawn_so Unforced is = drawn_either
  drawn_so Forced is = drawn_forced (ap is_no is.0) (ap not is.1)

-- what holds of a draw's outcome, of want of memory and of the terminal's failure holds of the answer that a draw led to
module _ {S C A : Type 0} (m : Machine S C A) (target : Target) (s : S) (d : Draw S) (ends breaks : S → S) (answer : A) (next : S) (P : Result Drawn Refusal → Type 0) where
  draw_leads : P (drawn_by target d).0 → P (Err Memory) → ((kind : ErrorKind) → P (Ok Yes) → P (Err (Failure kind))) → Leads m target s (Draws d ends breaks) answer next → P (m.tells answer)
  draw_leads drawn short broken (inl made) = subst P (sym (ap (λ o. m.tells o.0) made ∙ m.tells_said (drawn_by target d).0)) drawn
  draw_leads drawn short broken (inr (inl made)) = subst P (sym (ap m.tells made.0 ∙ m.tells_said (Err Memory))) short
  draw_leads drawn short broken (inr (inr made)) = subst P (sym (ap m.tells made.1 ∙ m.tells_said (Err (Failure made.0)))) (broken made.0 (subst P made.2.0 drawn))

-- the answer of a call that answers at once: that, or want of memory
module _ {S C A : Type 0} (m : Machine S C A) (target : Target) (s : S) (takes : Bool) (said : A) (after : S) (answer : A) (next : S) (P : Result Drawn Refusal → Type 0) where
  at_once : P (m.tells said) → (takes ≡ true → P (Err Memory)) → Leads m target s (AtOnce takes said after) answer next → P (m.tells answer)
  at_once told short (inl made) = subst P (sym (ap (λ o. m.tells o.0) made)) told
  at_once told short (inr made) = subst P (sym (ap m.tells made.0 ∙ m.tells_said (Err Memory))) (short made.1)

short_so : (asked : Ask) → of_draw asked (Err Memory) ≡ true
short_so No = refl
short_so Unforced = refl
short_so Forced = refl

broken_so : (asked : Ask) (kind : ErrorKind) → of_draw asked (Ok Yes) ≡ true → of_draw asked (Err (Failure kind)) ≡ true
broken_so No kind wrote = absurd (false≢true wrote)
broken_so Unforced kind wrote = refl
broken_so Forced kind wrote = refl

module _ {S C A : Type 0} (m : Machine S C A) (target : Target) (s : S) (d : Draw S) (ends breaks : S → S) (answer : A) (next : S) where
  -- a draw that was asked for so
  asked_leads : (asked : Ask) → ComesAs asked d.ask d.allowed → Leads m target s (Draws d ends breaks) answer next → of_draw asked (m.tells answer) ≡ true
  asked_leads asked is led =
      draw_leads m target s d ends breaks answer next (λ r. of_draw asked r ≡ true) (drawn_so target d asked is) (short_so asked) (broken_so asked) led

  -- one that writes no lines, by force
  clear_leads : is_no d.ask ≡ false → not d.allowed ≡ false → some_wide target.columns d.lines ≡ false → Leads m target s (Draws d ends breaks) answer next → of_a_clear (m.tells answer) ≡ true
  clear_leads asked allowed narrow led =
      draw_leads m target s d ends breaks answer next (λ r. of_a_clear r ≡ true) (drawn_clear target d asked allowed narrow) refl (λ kind wrote. refl) led

-- ---- commands

-- what a command asks of a bar is what it may ask
abbrev AsksAs : Ask → Ask → Type 0
AsksAs No ask = ask ≡ No
AsksAs Unforced ask = ask ≡ ask
AsksAs Forced ask = ask ≡ Forced

command_asks : {K : Type 0} (m : Tracking K) (command : Command K) (bar : BarRecord K) (now : ℕ) → AsksAs (asked_by command) (obeyed m command bar now).1
command_asks m Tick bar now = refl
command_asks m _ bar now = refl

-- the limiter isn't asked for a draw by force
limiter_asked : (asked ask : Ask) (now : ℕ) (limiter : Option Limiter) → AsksAs asked ask → ComesAs asked ask (asked_of ask now limiter).0
limiter_asked No ask now limiter is = is
limiter_asked Unforced ask now limiter is = tt
limiter_asked Forced ask now limiter is = (is, ap (λ a. (asked_of a now limiter).0) is)

-- only a time that isn't 0 is beyond a clock
positive : (now nanos : ℕ) → nat_lt now nanos ≡ true → nat_lt 0 nanos ≡ true
positive now nanos beyond = let later = ltb-true now nanos beyond in lt-ltb 0 nanos (omega arith)

beyond_is_late : {K : Type 0} (command : Command K) (now : ℕ) → is_beyond_clock command now ≡ true → is_late command (Err ElapsedBeyondClock) ≡ true
beyond_is_late (SetElapsed nanos) now beyond = positive now nanos beyond
beyond_is_late _ now beyond = absurd (false≢true beyond)

-- ---- a lone bar

-- the answers of a call of a lone bar: a bar that may stand on a board has these too
abbrev pub lone_answers : {K : Type 0} → LoneCall (Command K) → Result Drawn Refusal → Bool
lone_answers (Obey command) answer = of_draw (asked_by command) answer || is_late command answer
lone_answers (Log text) answer = of_a_draw answer
lone_answers Clear answer = of_a_clear answer

pub anywhere : {K : Type 0} (call : LoneCall (Command K)) (answer : Result Drawn Refusal) → lone_answers call answer ≡ true → CanAnswer K call answer
unfolding CanAnswer
anywhere (Obey command) answer can = or-wider (of_draw (asked_by command) answer) (is_late command answer) (has_no_bar answer) can
anywhere (Log text) answer can = or-left (of_a_draw answer) (has_no_bar answer) can
anywhere Clear answer can = can

module _ {K : Type 0} (m : Tracking K) (target : Target) (now : ℕ) (s : LoneState (BarRecord K)) (answer : Result Drawn Refusal) (next : LoneState (BarRecord K)) where
  obey_answers : (command : Command K) (beyond : Bool) → is_beyond_clock command now ≡ beyond →
      Leads (lone_bar m) target s (deed_unless (bar_kind m) (if beyond then Some ElapsedBeyondClock else None) (draw_of_call (bar_kind m) target (Obey command) now s) s) answer next →
      lone_answers (Obey command) answer ≡ true
  obey_answers command true beyond led =
      at_once (lone_bar m) target s false (Err ElapsedBeyondClock) s answer next (λ r. lone_answers (Obey command) r ≡ true)
      (or-right (of_draw (asked_by command) (Err ElapsedBeyondClock)) (is_late command (Err ElapsedBeyondClock)) (beyond_is_late command now beyond)) (λ taken. absurd (false≢true taken)) led
  obey_answers command false beyond led =
      or-left (of_draw (asked_by command) answer) (is_late command answer)
      (asked_leads (lone_bar m) target s (draw_of_call (bar_kind m) target (Obey command) now s) (λ x. x) (λ x. x) answer next (asked_by command)
      (limiter_asked (asked_by command) (obeyed m command s.bar now).1 now s.limiter (command_asks m command s.bar now)) led)

  call_answers : (call : LoneCall (Command K)) → Leads (lone_bar m) target s ((lone_bar m).deed target call now s) answer next → lone_answers call answer ≡ true
  call_answers (Obey command) led = obey_answers command (is_beyond_clock command now) refl led
  call_answers (Log text) led = asked_leads (lone_bar m) target s (draw_of_call (bar_kind m) target (Log text) now s) (λ x. x) (λ x. x) answer next Forced (refl, refl) led
  call_answers Clear led = clear_leads (lone_bar m) target s (draw_of_call (bar_kind m) target Clear now s) (λ x. x) (λ x. x) answer next refl refl refl led

-- a clear's answers are a draw's
pub clear_is_draw : (answer : Result Drawn Refusal) → of_a_clear answer ≡ true → of_a_draw answer ≡ true
clear_is_draw (Err TooWide) can = refl
clear_is_draw _ can = can

module _ {K : Type 0} (m : Tracking K) (old new : Option TermView) (s next : LoneState (BarRecord K)) where
  pub made_alone : (call : LoneCall (Command K)) (now : ℕ) (answer : Result Drawn Refusal) → CallMade (lone_bar m) old new (call, now) s answer next → lone_answers call answer ≡ true
  made_alone call now answer made = call_answers m (target_of old) now s answer next call made.leads

  -- a bar that was drawn by force
  pub redrawn_alone : (now : ℕ) (answer : Result Drawn Refusal) → CallMade (lone_bar m) old new (Obey ForceDraw, now) s answer next → of_a_draw answer ≡ true
  redrawn_alone now answer made = or-none (of_a_draw answer) (made_alone (Obey ForceDraw) now answer made)

-- ---- a board

-- what is said of a member's bar
said_so : {B X : Type 0} (P : X → Type 0) (other : X) (f : B → X) → ((bar : B) → P (f bar)) → (number : ℕ) (members : List (Member B)) → is_member number members ≡ true →
    P (said_of other f number members)
said_so P other f each number [] there = absurd (false≢true there)
said_so P other f each number (m ∷ ms) there = cond_both (m.number == number) (f m.bar) (said_of other f number ms) P (λ here. each m.bar)
    (λ elsewhere. said_so P other f each number ms (sym (ap (λ b. if b then not m.dropped else is_member number ms) elsewhere) ∙ there))

-- an anchor is named, whatever is to be taken in
before_named : {B : Type 0} (anchor : Id) (entrant : Entrant B) → names_bar entrant (Before anchor) ≡ true
before_named anchor (Old id) = refl
before_named anchor (New bar) = refl

after_named : {B : Type 0} (anchor : Id) (entrant : Entrant B) → names_bar entrant (After anchor) ≡ true
after_named anchor (Old id) = refl
after_named anchor (New bar) = refl

or_none_named : {named : Bool} → named ≡ true → (named && true) ≡ true
or_none_named is = rw is refl

module _ {K : Type 0} (m : Tracking K) (mark : ℕ) (target : Target) (now : ℕ) (s : BoardState (BarRecord K)) (answer : Answer) (next : BoardState (BarRecord K)) where
  abbrev Led : Deed (BoardState (BarRecord K)) Answer → Type 0
  Led deed = Leads (board (board_bars m) mark) target s deed answer next

  -- the answer of a call that answers at once, and takes no memory
  said_at_once : (P : Result Drawn Refusal → Type 0) (said : Answer) (after : BoardState (BarRecord K)) → P (drawn_of said) → Led (AtOnce false said after) → P (drawn_of answer)
  said_at_once P said after told led = at_once (board (board_bars m) mark) target s false said after answer next P told (λ taken. absurd (false≢true taken)) led

  -- a draw that was asked for so
  drew_as : (d : Draw (BoardState (BarRecord K))) (ends breaks : BoardState (BarRecord K) → BoardState (BarRecord K)) (asked : Ask) → ComesAs asked d.ask d.allowed → Led (Draws d ends breaks) →
      of_draw asked (drawn_of answer) ≡ true
  drew_as d ends breaks asked is led = asked_leads (board (board_bars m) mark) target s d ends breaks answer next asked is led

  -- a board that hasn't a bar refuses it so; one that has it goes on
  named_answers : (P : Result Drawn Refusal → Type 0) (id : Id) (deed : Deed (BoardState (BarRecord K)) Answer) → P (Err ForeignBar) → P (Err NotMember) →
      (is_member id.number s.members ≡ true → Led deed → P (drawn_of answer)) → Led (or_refused (turned_away mark id s) deed s) → P (drawn_of answer)
  named_answers P id deed foreign gone on =
      let Q = λ (o : Option Refusal). Led (or_refused o deed s) → P (drawn_of answer) in
      cond_both (not (id.mark == mark)) (Some ForeignBar) (if is_member id.number s.members then None else Some NotMember) Q (λ other. said_at_once P (Refused ForeignBar) s foreign)
      (λ ours. cond_both (is_member id.number s.members) None (Some NotMember) Q on (λ left. said_at_once P (Refused NotMember) s gone))

  -- a bar that is taken in, behind an anchor or without one
  abbrev Takes : Location → Entrant (BarRecord K) → Result Drawn Refusal → Type 0
  Takes at entrant r = (of_no_draw r || (names_bar entrant at && has_no_bar r)) ≡ true

  entered : (at : Location) (entrant : Entrant (BarRecord K)) → Led (inserted mark at entrant s) → Takes at entrant (drawn_of answer)
  entered at (New bar) =
      cond_both (s.made == 2 ^ 64) (AtOnce true (Refused Memory) s) (AtOnce true (Given (record { mark = mark; number = s.made })) (taken_in at bar s))
      (λ deed. Led deed → Takes at (New bar) (drawn_of answer))
      (λ full. at_once (board (board_bars m) mark) target s true (Refused Memory) s answer next (Takes at (New bar)) refl (λ taken. refl))
      (λ free. at_once (board (board_bars m) mark) target s true (Given (record { mark = mark; number = s.made })) (taken_in at bar s) answer next (Takes at (New bar)) refl (λ taken. refl))
  entered at (Old id) = named_answers (Takes at (Old id)) id (AtOnce false (Given id) s) refl refl (λ there. said_at_once (Takes at (Old id)) (Given id) s refl)

  anchored : (at : Location) (entrant : Entrant (BarRecord K)) (deed : Deed (BoardState (BarRecord K)) Answer) → (Led deed → Takes at entrant (drawn_of answer)) →
      Led (or_refused (anchor_turned_away mark at s) deed s) → Takes at entrant (drawn_of answer)
  anchored (Before anchor) entrant deed on =
      named_answers (Takes (Before anchor) entrant) anchor deed (or_none_named (before_named anchor entrant)) (or_none_named (before_named anchor entrant)) (λ there. on)
  anchored (After anchor) entrant deed on =
      named_answers (Takes (After anchor) entrant) anchor deed (or_none_named (after_named anchor entrant)) (or_none_named (after_named anchor entrant)) (λ there. on)
  anchored _ entrant deed on = on

  -- a command of a member's bar
  told_answers : (id : Id) (command : Command K) → is_member id.number s.members ≡ true →
      Led (or_refused (said_of None (λ bar. if is_beyond_clock command now then Some ElapsedBeyondClock else None) id.number s.members)
      (draws (draw_of_command (board_bars m) target id.number command now s)) s) → bar_answers (Obey command) (drawn_of answer) ≡ true
  told_answers id command there =
      let P = λ (r : Result Drawn Refusal). bar_answers (Obey command) r ≡ true in
      let deed = draws (draw_of_command (board_bars m) target id.number command now s) in
      let Q = λ (o : Option Refusal). Led (or_refused o deed s) → P (drawn_of answer) in
      let late = or-left (is_late command (Err ElapsedBeyondClock)) false in
      let asks = said_so (AsksAs (asked_by command)) No (λ bar. (obeyed m command bar now).1) (λ bar. command_asks m command bar now) id.number s.members there in
      said_so Q None (λ bar. if is_beyond_clock command now then Some ElapsedBeyondClock else None)
      (λ bar. cond_both (is_beyond_clock command now) (Some ElapsedBeyondClock) None Q
      (λ beyond. said_at_once P (Refused ElapsedBeyondClock) s (or-right (of_draw (asked_by command) (Err ElapsedBeyondClock)) (is_late command (Err ElapsedBeyondClock) || false)
      (late (beyond_is_late command now beyond))))
      (λ in_time led. or-left (of_draw (asked_by command) (drawn_of answer)) (is_late command (drawn_of answer) || has_no_bar (drawn_of answer))
      (drew_as (draw_of_command (board_bars m) target id.number command now s) (λ x. x) (λ x. x) (asked_by command)
      (limiter_asked (asked_by command) (said_of No (λ bar. (obeyed m command bar now).1) id.number s.members) now s.limiter asks) led)))
      id.number s.members there

  -- no command is refused as a bar that the board hasn't is
  hasnt : (command : Command K) (e : Refusal) → has_no_bar (Err e) ≡ true → bar_answers (Obey command) (Err e) ≡ true
  hasnt command e is = or-right (of_draw (asked_by command) (Err e)) (is_late command (Err e) || has_no_bar (Err e)) (or-right (is_late command (Err e)) (has_no_bar (Err e)) is)

  board_call : (call : SharedCall K) → Led (deed_of (board_bars m) mark target call now s) → board_answers call (drawn_of answer) ≡ true
  board_call (Insert at entrant) led = anchored at entrant (inserted mark at entrant s) (entered at entrant) led
  board_call (Remove id) led =
      let P = λ (r : Result Drawn Refusal). (of_no_draw r || is_foreign r) ≡ true in
      cond_both (not (id.mark == mark)) (AtOnce false (Refused ForeignBar) s) (AtOnce false Accepted (taken_out id.number s)) (λ deed. Led deed → P (drawn_of answer))
      (λ other. said_at_once P (Refused ForeignBar) s refl) (λ ours. said_at_once P Accepted (taken_out id.number s) refl) led
  board_call (Drop id) led =
      named_answers (λ r. (of_no_draw r || (of_a_draw r || has_no_bar r)) ≡ true) id (Draws (last_draw (board_bars m) target id.number now s)
      (left_on target id.number) (ownerless_on id.number)) refl refl
      (λ there led. or-wider (of_no_draw (drawn_of answer)) (of_a_draw (drawn_of answer)) (has_no_bar (drawn_of answer))
      (drew_as (last_draw (board_bars m) target id.number now s) (left_on target id.number) (ownerless_on id.number) Unforced tt led)) led
  board_call (LogAbove text) led = drew_as (log_of (board_bars m) target text now s s false) (λ x. x) (λ x. x) Forced (refl, refl) led
  board_call (BarLog id text) led =
      let d = log_of (board_bars m) target text now s (laid_out (board_bars m) target now id.number s) (layout_takes (board_bars m) id.number s) in
      named_answers (λ r. (of_a_draw r || has_no_bar r) ≡ true) id (draws d) refl refl
      (λ there led. or-left (of_a_draw (drawn_of answer)) (has_no_bar (drawn_of answer)) (drew_as d (λ x. x) (λ x. x) Forced (refl, refl) led)) led
  board_call ClearBoard led =
      clear_leads (board (board_bars m) mark) target s (draw_of target false Forced now NoFrame s s false) (λ x. x) (λ x. x) answer next refl refl refl led
  board_call Redraw led = drew_as (draw_of target false Forced now Frame s s false) (λ x. x) (λ x. x) Forced (refl, refl) led
  board_call (Align bottom) led = said_at_once (λ r. of_no_draw r ≡ true) Accepted (record s { bottom = bottom }) refl led
  board_call (Tell id command) led =
      named_answers (λ r. bar_answers (Obey command) r ≡ true) id
      (or_refused (said_of None (λ bar. if is_beyond_clock command now then Some ElapsedBeyondClock else None) id.number s.members)
      (draws (draw_of_command (board_bars m) target id.number command now s)) s)
      (hasnt command ForeignBar refl) (hasnt command NotMember refl) (told_answers id command) led

pub made_on_board : {K : Type 0} (m : Tracking K) (mark : ℕ) (old new : Option TermView) (call : SharedCall K) (now : ℕ) (s : BoardState (BarRecord K)) (answer : Answer)
    (next : BoardState (BarRecord K)) → CallMade (board (board_bars m) mark) old new (call, now) s answer next → SharedDraws K call (drawn_of answer)
unfolding SharedDraws
made_on_board m mark old new call now s answer next made = board_call m mark (target_of old) now s answer next call made.leads

-- memory may always be wanting, for a history or for a text
pub no_memory : {K : Type 0} (call : SharedCall K) → SharedDraws K call (Err Memory)
unfolding SharedDraws
no_memory (Insert at entrant) = refl
no_memory (Remove id) = refl
no_memory (Drop id) = refl
no_memory (LogAbove text) = refl
no_memory (BarLog id text) = refl
no_memory ClearBoard = refl
no_memory Redraw = refl
no_memory (Align bottom) = refl
no_memory (Tell id command) = or-left (of_draw (asked_by command) (Err Memory)) (is_late command (Err Memory) || false) (short_so (asked_by command))

-- what a board answers that is asked for a bar, the bar can answer
pub seated : {K : Type 0} (id : Id) (call : LoneCall (Command K)) (answer : Result Drawn Refusal) → SharedDraws K (on_board id call) answer → CanAnswer K call answer
unfolding SharedDraws CanAnswer
seated id (Obey command) answer can = can
seated id (Log text) answer can = can
seated id Clear answer can = can

-- an insertion is refused for want of memory, or where the board hasn't the bar; a removal for want of memory, or of another board's bar; and another
-- alignment for want of memory
given_so : {K : Type 0} (at : Location) (entrant : Entrant (BarRecord K)) (told : Answer) (e : Refusal) → SharedAnswers K (Insert at entrant) told → given_by told ≡ Err e →
    SharedAnswers K (Insert at entrant) (Refused e)
given_so {K = K} at entrant (Refused refusal) e can given = subst (λ taken. IfErr taken (λ r. SharedAnswers K (Insert at entrant) (Refused r))) given can
given_so {K = K} at entrant (Given id) e can given = subst (λ taken. IfErr taken (λ r. SharedAnswers K (Insert at entrant) (Refused r))) given tt
given_so {K = K} at entrant Accepted e can given = subst (λ taken. IfErr taken (λ r. SharedAnswers K (Insert at entrant) (Refused r))) given (no_memory (Insert at entrant))
given_so {K = K} at entrant (Drew drawn) e can given = subst (λ taken. IfErr taken (λ r. SharedAnswers K (Insert at entrant) (Refused r))) given (no_memory (Insert at entrant))

pub turned_so : {K I : Type 0} (at : Location) (entrant : Entrant (BarRecord K)) (told : Answer) (taken : Result I Refusal) → IfErr taken (λ e. given_by told ≡ Err e) →
    SharedAnswers K (Insert at entrant) told → IfErr taken (λ e. SharedAnswers K (Insert at entrant) (Refused e))
turned_so at entrant told (Ok id) given can = tt
turned_so at entrant told (Err e) given can = given_so at entrant told e can given

no_bar : (named : Bool) (e : Refusal) → (named && has_no_bar (Err e)) ≡ true → IsMissing e
no_bar true ForeignBar can = inr (inl refl)
no_bar true NotMember can = inr (inr refl)
no_bar true _ can = absurd (false≢true can)
no_bar false e can = absurd (false≢true can)

pub not_taken : {K : Type 0} (at : Location) (entrant : Entrant (BarRecord K)) (e : Refusal) → SharedAnswers K (Insert at entrant) (Refused e) → IsMissing e
unfolding SharedDraws
not_taken at entrant Memory can = inl refl
not_taken at entrant e can = no_bar (names_bar entrant at) e can

pub removed_so : (K : Type 0) (id : Id) (e : Refusal) → SharedAnswers K (Remove id) (Refused e) → MemoryOrForeign e
unfolding SharedDraws
removed_so K id Memory can = inl refl
removed_so K id ForeignBar can = inr refl
removed_so K id _ can = absurd (false≢true can)

pub stays_so : (K : Type 0) (id : Id) (e : Refusal) → SharedAnswers K (Remove id) (Refused e) → IsMissing e
stays_so K id e can = elim (removed_so K id e can) [ inl memory ↦ inl memory | inr foreign ↦ inr (inl foreign) ]

pub aligned_so : (K : Type 0) (bottom : Bool) (e : Refusal) → SharedDraws K (Align bottom) (Err e) → e ≡ Memory
unfolding SharedDraws
aligned_so K bottom Memory can = refl
aligned_so K bottom _ can = absurd (false≢true can)
