-- A call of a board, from its draw, or from what it answers at once.
use Rattle.std.proofs.Common.{◌≡◌, ◌<◌, arith, ◌∙◌, ℕ, Bool, true, false, if◌then◌else◌, refl, sym, ap, subst, Result, Err, Option, Some, None, inl, inr}
use Rattle.std.specs.Prelude.{not, ◌==◌, ◌^◌, ◌≢◌, ◌↔◌, IsTrue, length}
use Rattle.std.proofs.lemmas.Bool.{cases_Bool, eq-eqb, ne_eqb}
use Rattle.indicatif_text.specs.declared.refusal.Refusal.{Refusal}
use Rattle.indicatif_text.specs.declared.refusal.Refusal.TheVariants.{ForeignBar, NotMember, Memory, ElapsedBeyondClock}
use Rattle.indicatif_text.specs.declared.refusal.Drawn.{Drawn}
use Rattle.indicatif_term.specs.Calls.{TermView}
use Rattle.indicatif_term.specs.Lines.{is_fault}
use Rattle.indicatif_term.specs.Lists.{Lists}
use Rattle.indicatif_bar.specs.Trackers.{Tracking}
use Rattle.indicatif_bar.specs.Commands.{BarRecord, Command, is_beyond_clock}
use Rattle.indicatif_bar.specs.declared.ask.Ask.{Ask}
use Rattle.indicatif_bar.specs.Machines.{Target, target_of, Draw, Deed, AtOnce, Leads}
use Rattle.indicatif_bar.specs.Runs.{CallMade, lines_by, wrote}
use Rattle.indicatif_bar.specs.Shown.{DrewOn, WritesLinesOn}
use Rattle.indicatif_bar.proofs.OutcomeLemmas.{writes_nothing}
use Rattle.indicatif_board.specs.BoardBars.{board_bars}
use Rattle.indicatif_board.specs.Boards.{BoardState, Call, Id, Location, Entrant, removed, Accepted, New, Insert, Given, inserted, taken_in, anchor_turned_away, Answer, Refused, Tell, says, drawn_of, drawn_of_said, turned_away, or_refused, draws, draw_of_command, deed_of, board}
use Rattle.indicatif_board.specs.Members.{place_of, is_member, without, said_of}
use Rattle.indicatif_board.proofs.MemberLemmas.{said_none, said_there}

module _ {K : Type 0} (tracks : Tracking K) (mark : ℕ) (old new : Option TermView) (call : Call (BarRecord K) (Command K)) (now : ℕ) (s : BoardState (BarRecord K)) where
  -- a call that answers at once
  pub made_at_once : (takes_memory : Bool) (answer : Answer) (next : BoardState (BarRecord K)) →
      deed_of (board_bars tracks) mark (target_of old) call now s ≡ AtOnce takes_memory answer next → wrote (drawn_of answer) ≡ false → next.lists ≡ s.lists →
      CallMade (board (board_bars tracks) mark) old old (call, now) s answer next
  made_at_once takes_memory answer next deed_is quiet stay = record {
    leads = subst (λ deed. Leads (board (board_bars tracks) mark) (target_of old) s deed answer next) (sym deed_is) (inl refl);
    writes = writes_nothing old (lines_by (deed_of (board_bars tracks) mark (target_of old) call now s)) s.lists next.lists (drawn_of answer) quiet stay;
  }

  -- a call that draws
  pub made_by_draw : (d : Draw (BoardState (BarRecord K))) (l : Lists) (answer : Result Drawn Refusal) (next : BoardState (BarRecord K)) →
      deed_of (board_bars tracks) mark (target_of old) call now s ≡ draws d → l ≡ s.lists →
      DrewOn (board (board_bars tracks) mark) old new d l answer next → CallMade (board (board_bars tracks) mark) old new (call, now) s (says answer) next
  made_by_draw d l answer next deed_is lists_are made = record {
    leads = subst (λ deed. Leads (board (board_bars tracks) mark) (target_of old) s deed (says answer) next) (sym deed_is) (made.leads s);
    writes = subst (λ deed. WritesLinesOn old new (lines_by deed) s.lists next.lists (drawn_of (says answer))) (sym deed_is)
        (subst (λ r. WritesLinesOn old new d.lines s.lists next.lists r) (sym (drawn_of_said answer))
        (subst (λ x. WritesLinesOn old new d.lines x next.lists answer) lists_are made.writes));
  }

  -- a call that was refused memory before anything changed
  pub made_short : (d : Draw (BoardState (BarRecord K))) → deed_of (board_bars tracks) mark (target_of old) call now s ≡ draws d → d.text_takes ≡ true →
      CallMade (board (board_bars tracks) mark) old old (call, now) s (Refused Memory) s
  made_short d deed_is text = record {
    leads = subst (λ deed. Leads (board (board_bars tracks) mark) (target_of old) s deed (Refused Memory) s) (sym deed_is) (inr (inl (refl, inl (text, refl))));
    writes = writes_nothing old (lines_by (deed_of (board_bars tracks) mark (target_of old) call now s)) s.lists s.lists (Err Memory) refl refl;
  }

  -- a call that names no bar of this board
  pub made_turned_away : (e : Refusal) → deed_of (board_bars tracks) mark (target_of old) call now s ≡ AtOnce false (Refused e) s → is_fault e ≡ false →
      CallMade (board (board_bars tracks) mark) old old (call, now) s (Refused e) s
  made_turned_away e deed_is fine = made_at_once false (Refused e) s deed_is fine refl

module _ {K : Type 0} (tracks : Tracking K) (mark : ℕ) (old : Option TermView) (id : Id) (command : Command K) (now : ℕ) (s : BoardState (BarRecord K)) where
  abbrev ask_of : Deed (BoardState (BarRecord K)) Answer
  ask_of = draws (draw_of_command (board_bars tracks) (target_of old) id.number command now s)

  -- why a command that is late or not is refused
  abbrev foreign_unless : Bool → Option Refusal
  foreign_unless late = said_of None (λ bar. if late then Some ElapsedBeyondClock else None) id.number s.members

  deed_is : turned_away mark id s ≡ None → (late : Bool) → is_beyond_clock command now ≡ late →
      deed_of (board_bars tracks) mark (target_of old) (Tell id command) now s ≡ or_refused (foreign_unless late) ask_of s
  deed_is there late e =
      ap (λ o. or_refused o (or_refused (foreign_unless (is_beyond_clock command now)) ask_of s) s) there ∙ ap (λ b. or_refused (foreign_unless b) ask_of s) e

  -- what a command of a bar that is there is about to do
  pub command_deed : turned_away mark id s ≡ None → is_beyond_clock command now ≡ false → deed_of (board_bars tracks) mark (target_of old) (Tell id command) now s ≡ ask_of
  command_deed there in_time = deed_is there false in_time ∙ ap (λ o. or_refused o ask_of s) (said_none None id.number s.members)

  -- the same where its elapsed time is beyond the moment
  pub late_deed : turned_away mark id s ≡ None → place_of id.number s.members < length s.members → is_beyond_clock command now ≡ true →
      deed_of (board_bars tracks) mark (target_of old) (Tell id command) now s ≡ AtOnce false (Refused ElapsedBeyondClock) s
  late_deed there within late = deed_is there true late ∙ ap (λ o. or_refused o ask_of s) (said_there None (Some ElapsedBeyondClock) id.number s.members within)

-- a command that is not refused for its elapsed time is not late
pub in_time_of : (late : Bool) (r : Result Ask Refusal) → (r ≡ Err ElapsedBeyondClock) ↔ IsTrue late → r ≢ Err ElapsedBeyondClock → late ≡ false
in_time_of true r beyond other = absurd (other (beyond.1 refl))
in_time_of false r beyond other = refl

turned_by : (a b : Bool) (e : Refusal) → (if a then Some ForeignBar else (if b then None else Some NotMember)) ≡ Some e → is_fault e ≡ false
turned_by true b e same = let q : ForeignBar ≡ e = cc in ap is_fault (sym q)
turned_by false true e same = absurd (cc)
turned_by false false e same = let q : NotMember ≡ e = cc in ap is_fault (sym q)

-- why a bar is turned away is no failure of the terminal
pub turned_quietly : {K : Type 0} → (mark : ℕ) (id : Id) (s : BoardState (BarRecord K)) (e : Refusal) → turned_away mark id s ≡ Some e → is_fault e ≡ false
turned_quietly mark id s e why = turned_by (not (id.mark == mark)) (is_member id.number s.members) e why

-- ---- insertions

-- a new bar is taken in
pub new_leads : {K : Type 0} (tracks : Tracking K) (mark : ℕ) (s : BoardState (BarRecord K)) (spot : Location) (bar : BarRecord K) (number : ℕ) (target : Target) →
    s.made ≡ number → number < 2 ^ 64 →
    Leads (board (board_bars tracks) mark) target s (inserted mark spot (New bar) s) (Given (record { mark = mark; number = number })) (taken_in spot bar s)
new_leads tracks mark s spot bar number target made some =
    let fewer : (s.made == 2 ^ 64) ≡ false = ne_eqb s.made (2 ^ 64) (λ e. omega (arith, made, some, e)) in
    rw fewer (inl (ap (λ n. let id : Id = record { mark = mark; number = n } in (Given id, taken_in spot bar s)) (sym made)))

-- a new bar is refused
pub new_refused : {K : Type 0} (tracks : Tracking K) (mark : ℕ) (s : BoardState (BarRecord K)) (spot : Location) (bar : BarRecord K) (target : Target) →
    Leads (board (board_bars tracks) mark) target s (inserted mark spot (New bar) s) (Refused Memory) s
new_refused tracks mark s spot bar target = elim (cases_Bool (s.made == 2 ^ 64)) [ inl all ↦ rw all (inl refl) | inr fewer ↦ rw fewer (inr (refl, refl, refl)) ]

-- an insertion whose anchor is there
pub made_by_insertion : {K : Type 0} (tracks : Tracking K) (mark : ℕ) (old : Option TermView) (spot : Location) (entrant : Entrant (BarRecord K)) (now : ℕ) (s : BoardState (BarRecord K))
    (answer : Answer) (next : BoardState (BarRecord K)) → anchor_turned_away mark spot s ≡ None →
    Leads (board (board_bars tracks) mark) (target_of old) s (inserted mark spot entrant s) answer next → wrote (drawn_of answer) ≡ false → next.lists ≡ s.lists →
    CallMade (board (board_bars tracks) mark) old old (Insert spot entrant, now) s answer next
made_by_insertion tracks mark old spot entrant now s answer next there led quiet stay = record {
  leads = subst (λ o. Leads (board (board_bars tracks) mark) (target_of old) s (or_refused o (inserted mark spot entrant s) s) answer next) (sym there) led;
  writes = writes_nothing old (lines_by (deed_of (board_bars tracks) mark (target_of old) (Insert spot entrant) now s)) s.lists next.lists (drawn_of answer) quiet stay;
}

-- ---- removals

membership_of : (a b : Bool) → (if a then Some ForeignBar else (if b then None else Some NotMember)) ≡ None → b ≡ true
membership_of true b e = absurd (cc)
membership_of false true e = refl
membership_of false false e = absurd (cc)

-- a bar that isn't turned away is a member
pub there_is_member : {K : Type 0} → (mark : ℕ) (id : Id) (s : BoardState (BarRecord K)) → turned_away mark id s ≡ None → is_member id.number s.members ≡ true
there_is_member mark id s e = membership_of (not (id.mark == mark)) (is_member id.number s.members) e

absence_of : (a b : Bool) (e : Refusal) → a ≡ false → (if a then Some ForeignBar else (if b then None else Some NotMember)) ≡ Some e → b ≡ false
absence_of true b e own same = absurd (cc)
absence_of false true e own same = absurd (cc)
absence_of false false e own same = refl

-- one of this board's id that is turned away is none
pub absent_is_none : {K : Type 0} → (mark : ℕ) (id : Id) (s : BoardState (BarRecord K)) (e : Refusal) → id.mark ≡ mark →
    turned_away mark id s ≡ Some e → is_member id.number s.members ≡ false
absent_is_none mark id s e own same = absence_of (not (id.mark == mark)) (is_member id.number s.members) e (ap not (eq-eqb id.mark mark own)) same

-- what a removal is about to do
pub removed_deed : {K : Type 0} → (mark : ℕ) (id : Id) (s : BoardState (BarRecord K)) (b : Bool) → id.mark ≡ mark → is_member id.number s.members ≡ b →
    removed mark id s ≡ AtOnce false Accepted (if b then record s { members = without id.number s.members } else s)
removed_deed mark id s b own e = rw (eq-eqb id.mark mark own, e) refl

pub removed_foreign : {K : Type 0} → (mark : ℕ) (id : Id) (s : BoardState (BarRecord K)) → id.mark ≢ mark → removed mark id s ≡ AtOnce false (Refused ForeignBar) s
removed_foreign mark id s other = rw (ne_eqb id.mark mark other) refl
