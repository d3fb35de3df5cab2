-- Where the texts of a board's bars and calls are plain, the lines of each draw are, so that every run is plain.
use Rattle.std.proofs.Common.{ℕ, zero, suc, ◌^◌, Bool, true, false, not, List, [], ◌∷◌, ◌++◌, map, chars, take, drop, refl, Option, Some, None, if◌then◌else◌}
use Rattle.std.specs.Prelude.{IsTrue, ◌==◌}
use Rattle.std.specs.List.{AllByRecursion, insert}
use Rattle.std.proofs.lemmas.Bool.{cond_both}
use Rattle.std.proofs.lemmas.List.Elements.{All-from_recursion, recursion_from_All}
use Rattle.indicatif_text.specs.declared.refusal.Refusal.{Refusal}
use Rattle.indicatif_term.specs.Calls.{TermView}
use Rattle.indicatif_term.specs.Lines.{are_plain, text_lines, logged_lines}
use Rattle.indicatif_term.specs.Lists.{fate}
use Rattle.indicatif_term.specs.declared.target.Keep.{Keep}
use Rattle.indicatif_term.specs.declared.target.Keep.TheVariants.{Absent, Passed, Behind}
use Rattle.indicatif_bar.specs.Machines.{Target, Deed, Draws}
use Rattle.indicatif_bar.specs.Runs.{Runs, AllPlain, lines_by}
use Rattle.indicatif_bar.specs.Kinds.{Writing, Frame, TextAndFrame, NoFrame}
use Rattle.indicatif_bar.specs.Progress.{is_finished}
use Rattle.indicatif_bar.specs.Trackers.{Tracking}
use Rattle.indicatif_bar.specs.Commands.{BarRecord, Command, finish, after_drop}
use Rattle.indicatif_bar.specs.PlainLaws.{IsPlainBar, IsPlainCommand}
use Rattle.indicatif_bar.specs.declared.ask.Ask.{Ask}
use Rattle.indicatif_bar.specs.declared.ask.Ask.TheVariants.{No, Forced}
use Rattle.indicatif_bar.proofs.PlainTextLemmas.{plain_lines_are_asked}
use Rattle.indicatif_bar.proofs.PreservingLemmas.{IsPreserved}
use Rattle.indicatif_bar.proofs.PlainRunLemmas.{runs_plain, ArePlainFrames, IsPlainWriting, written_plain, dropped_all, KeepsPlain, bars_keep_plain, finished_plain}
use Rattle.indicatif_board.specs.Members.{Member, new_member, is_member, is_head, place_of, without, changed_at, said_of, leaders, frame_of}
use Rattle.indicatif_board.specs.Boards.{BoardState, BoardKind, Call, Insert, Remove, Drop, Log, BarLog, Clear, Redraw, Align, Tell, Answer, Location, Entrant, New, Old, turned_away, anchor_turned_away, or_refused, index_of, inserted, taken_out, draws, draw_of, bar_changed, laid_out, layout_takes, left_by, left_on, ownerless_on, board}
use Rattle.indicatif_board.specs.BoardBars.{board_bars}
use Rattle.indicatif_board.specs.PlainBoardLaws.{IsPlainCall, IsPlainMember, BoardRunsArePlain}

-- ---- lists

both_all : {X : Type 0} (P : X → Type 0) (xs ys : List X) → AllByRecursion P xs → AllByRecursion P ys → AllByRecursion P (xs ++ ys)
both_all P [] ys a b = b
both_all P (x ∷ xs) ys a b = (a.0, both_all P xs ys a.1 b)

taken_all : {X : Type 0} (P : X → Type 0) (n : ℕ) (xs : List X) → AllByRecursion P xs → AllByRecursion P (take n xs)
taken_all P zero xs all = tt
taken_all P (suc n) [] all = tt
taken_all P (suc n) (x ∷ xs) all = (all.0, taken_all P n xs all.1)

-- ---- a board

module _ {B C : Type 0} (kind : BoardKind B C) (mark : ℕ) (IsBar : B → Type 0) (IsCommand : C → Type 0) (k : KeepsPlain kind.bars IsBar IsCommand)
    (left : (now : ℕ) (bar : B) → IsBar bar → IsBar (kind.left now bar)) where
  abbrev IsMember : Member B → Type 0
  IsMember m = IsBar m.bar × IsTrue (are_plain m.stored)

  abbrev AreMembers : List (Member B) → Type 0
  AreMembers ms = AllByRecursion IsMember ms

  abbrev IsState : BoardState B → Type 0
  IsState s = AreMembers s.members

  abbrev IsEntrant : Entrant B → Type 0
  IsEntrant (New bar) = IsBar bar
  IsEntrant (Old id) = Unit {0}

  abbrev IsCall : Call B C → Type 0
  IsCall (Insert at entrant) = IsEntrant entrant
  IsCall (Log text) = IsTrue (are_plain (text_lines (logged_lines text)))
  IsCall (BarLog id text) = IsTrue (are_plain (text_lines (logged_lines text)))
  IsCall (Tell id command) = IsCommand command
  IsCall _ = Unit {0}

  changed_plain : (number : ℕ) (f : Member B → Member B) (ms : List (Member B)) → ((m : Member B) → IsMember m → IsMember (f m)) → AreMembers ms → AreMembers (changed_at number f ms)
  changed_plain number f [] g all = tt
  changed_plain number f (m ∷ ms) g all =
      cond_both (m.number == number) (f m ∷ ms) (m ∷ changed_at number f ms) AreMembers (λ _. (g m all.0, all.1)) (λ _. (all.0, changed_plain number f ms g all.1))

  told_plain : (number : ℕ) (f : B → B) (s : BoardState B) → ((bar : B) → IsBar bar → IsBar (f bar)) → IsState s → IsState (bar_changed number f s)
  told_plain number f s g all = changed_plain number (λ m. record m { bar = f m.bar }) s.members (λ m p. (g m.bar p.0, p.1)) all

  laid_plain : (target : Target) (now number : ℕ) (s : BoardState B) → IsState s → IsState (laid_out kind target now number s)
  laid_plain target now number s all =
      changed_plain number (λ m. record m { stored = map chars (kind.bars.lines m.bar now target.columns) }) s.members (λ m p. (p.0, k.lines m.bar p.0 now target.columns)) all

  ownerless_plain : (number : ℕ) (s : BoardState B) → IsState s → IsState (ownerless_on number s)
  ownerless_plain number s all = changed_plain number (λ m. record m { dropped = true }) s.members (λ m p. p) all

  without_plain : (number : ℕ) (ms : List (Member B)) → AreMembers ms → AreMembers (without number ms)
  without_plain number ms all =
      let n = place_of number ms in
      both_all IsMember (take n ms) (drop (suc n) ms) (taken_all IsMember n ms all) (dropped_all IsMember (suc n) ms all)

  left_by_plain : (target : Target) (number : ℕ) (keep : Keep) (s : BoardState B) → IsState s → IsState (left_by target number keep s)
  left_by_plain target number Absent s all = without_plain number s.members all
  left_by_plain target number Passed s all = without_plain number s.members all
  left_by_plain target number Behind s all = ownerless_plain number s all

  left_plain : (target : Target) (number : ℕ) (s : BoardState B) → IsState s → IsState (left_on target number s)
  left_plain target number s all =
      cond_both (is_head number s.members) (left_by target number (fate number s.lists) s) (ownerless_on number s) IsState
      (λ _. left_by_plain target number (fate number s.lists) s all) (λ _. ownerless_plain number s all)

  frames_plain : (ms : List (Member B)) → AreMembers ms → ArePlainFrames (frame_of ms)
  frames_plain [] all = tt
  frames_plain (m ∷ ms) all = (all.0.1, frames_plain ms all.1)

  -- ---- deeds

  -- plain lines, and plain states on the way
  abbrev Goes : Deed (BoardState B) Answer → Type 0
  Goes deed = IsPreserved (board kind mark) IsState deed × IsTrue (are_plain (lines_by deed))

  unless_refused : (s : BoardState B) (refused : Option Refusal) (deed : Deed (BoardState B) Answer) → IsState s → Goes deed → Goes (or_refused refused deed s)
  unless_refused s None deed all goes = goes
  unless_refused s (Some e) deed all goes = (all, refl)

  either : (b : Bool) (one other : Deed (BoardState B) Answer) → Goes one → Goes other → Goes (if b then one else other)
  either true one other a b = a
  either false one other a b = b

  inserted_goes : (s : BoardState B) (at : Location) (entrant : Entrant B) → IsEntrant entrant → IsState s → Goes (inserted mark at entrant s)
  inserted_goes s at (New bar) new all =
      let n = index_of at s.members in
      let more : AreMembers (insert s.members n (new_member s.made bar)) =
      both_all IsMember (take n s.members) (new_member s.made bar ∷ drop n s.members) (taken_all IsMember n s.members all) ((new, refl), dropped_all IsMember n s.members all) in
      either (s.made == 2 ^ 64) _ _ (all, refl) (more, refl)
  inserted_goes s at (Old id) new all = unless_refused s (turned_away mark id s) _ all (all, refl)

  taken_out_plain : (s : BoardState B) (number : ℕ) → IsState s → IsState (taken_out number s)
  taken_out_plain s number all =
      cond_both (is_member number s.members) (record s { members = without number s.members }) s IsState (λ _. without_plain number s.members all) (λ _. all)

  draw_goes : (target : Target) (takes : Bool) (ask : Ask) (now : ℕ) (writing : Writing) (after laid : BoardState B) (lays : Bool) (ends breaks : BoardState B → BoardState B) →
      IsPlainWriting writing → IsState after → IsState laid → ((x : BoardState B) → IsState x → IsState (ends x)) → ((x : BoardState B) → IsState x → IsState (breaks x)) →
      Goes (Draws (draw_of target takes ask now writing after laid lays) ends breaks)
  draw_goes target takes ask now writing after laid lays ends breaks text all more e b = (
    (all, more, dropped_all IsMember (leaders laid.members) laid.members more, more, e, b),
    written_plain writing (leaders laid.members) (frame_of laid.members) text (frames_plain laid.members more),
  )

  only_draws : (target : Target) (takes : Bool) (ask : Ask) (now : ℕ) (writing : Writing) (after laid : BoardState B) (lays : Bool) →
      IsPlainWriting writing → IsState after → IsState laid → Goes (draws (draw_of target takes ask now writing after laid lays))
  only_draws target takes ask now writing after laid lays text all more =
      draw_goes target takes ask now writing after laid lays (λ x. x) (λ x. x) text all more (λ x p. p) (λ x p. p)

  deed_goes : (target : Target) (call : Call B C) (now : ℕ) (s : BoardState B) → IsCall call → IsState s → Goes ((board kind mark).deed target call now s)
  deed_goes target (Insert at entrant) now s c all = unless_refused s (anchor_turned_away mark at s) _ all (inserted_goes s at entrant c all)
  deed_goes target (Remove id) now s c all = either (not (id.mark == mark)) _ _ (all, refl) (taken_out_plain s id.number all, refl)
  deed_goes target (Drop id) now s c all =
      let after = bar_changed id.number (kind.left now) s in
      let told : IsState after = told_plain id.number (kind.left now) s (left now) all in
      unless_refused s (turned_away mark id s) _ all
      (draw_goes target (said_of false (kind.left_takes now) id.number s.members) (said_of No (kind.left_asked now) id.number s.members) now Frame after
      (laid_out kind target now id.number after) (layout_takes kind id.number after) (left_on target id.number) (ownerless_on id.number)
      tt told (laid_plain target now id.number after told) (left_plain target id.number) (ownerless_plain id.number))
  deed_goes target (Log text) now s c all = only_draws target false Forced now (TextAndFrame (text_lines (logged_lines text))) s s false c all all
  deed_goes target (BarLog id text) now s c all =
      unless_refused s (turned_away mark id s) _ all
      (only_draws target false Forced now (TextAndFrame (text_lines (logged_lines text))) s (laid_out kind target now id.number s) (layout_takes kind id.number s) c all
      (laid_plain target now id.number s all))
  deed_goes target Clear now s c all = only_draws target false Forced now NoFrame s s false tt all all
  deed_goes target Redraw now s c all = only_draws target false Forced now Frame s s false tt all all
  deed_goes target (Align bottom) now s c all = (all, refl)
  deed_goes target (Tell id command) now s c all =
      let after = bar_changed id.number (λ bar. (kind.bars.after command bar now).0) s in
      let told : IsState after = told_plain id.number (λ bar. (kind.bars.after command bar now).0) s (λ bar p. k.after command bar now c p) all in
      unless_refused s (turned_away mark id s) _ all
      (unless_refused s (said_of None (λ bar. kind.bars.refused command bar now) id.number s.members) _ all
      (only_draws target (said_of false (λ bar. kind.bars.takes command bar now) id.number s.members) (said_of No (λ bar. (kind.bars.after command bar now).1) id.number s.members) now Frame after
      (laid_out kind target now id.number after) (layout_takes kind id.number after) tt told (laid_plain target now id.number after told)))

  pub board_plain : (calls : List (Call B C × ℕ)) (answers : List Answer) (old : Option TermView) (s : BoardState B) (new : Option TermView) (next : BoardState B)
      (run : Runs (board kind mark) calls answers old s new next) → IsState s → AllByRecursion (λ call. IsCall call.0) calls →
      AllPlain (board kind mark) calls answers old s new next run × IsState next
  board_plain = runs_plain (board kind mark) IsState IsCall (λ target call now s c p. (deed_goes target call now s c p).0) (λ target call now s c p. (deed_goes target call now s c p).1)

-- ---- bars with a style

module _ {K : Type 0} (m : Tracking K) (mark : ℕ) where
  left_plainly : (now : ℕ) (bar : BarRecord K) → IsPlainBar m bar → IsPlainBar m (after_drop bar now).0
  left_plainly now bar h =
      cond_both {A = BarRecord K × Ask} (is_finished bar.progress) (bar, No) (finish bar.on_finish bar now) (λ o. IsPlainBar m o.0) (λ _. h)
      (λ _. finished_plain m bar.on_finish bar now h.on_finish h)

  call_asked : (call : Call (BarRecord K) (Command K)) → IsPlainCall m call → IsCall (board_bars m) mark (IsPlainBar m) (IsPlainCommand m) (bars_keep_plain m) left_plainly call
  call_asked (Insert at (New bar)) c = c
  call_asked (Insert at (Old id)) c = tt
  call_asked (Remove id) c = tt
  call_asked (Drop id) c = tt
  call_asked (Log text) c = plain_lines_are_asked (logged_lines text) c
  call_asked (BarLog id text) c = plain_lines_are_asked (logged_lines text) c
  call_asked Clear c = tt
  call_asked Redraw c = tt
  call_asked (Align bottom) c = tt
  call_asked (Tell id command) c = c

  calls_asked : (calls : List (Call (BarRecord K) (Command K) × ℕ)) → AllByRecursion (λ call. IsPlainCall m call.0) calls →
      AllByRecursion (λ call. IsCall (board_bars m) mark (IsPlainBar m) (IsPlainCommand m) (bars_keep_plain m) left_plainly call.0) calls
  calls_asked [] all = tt
  calls_asked (call ∷ calls) all = (call_asked call.0 all.0, calls_asked calls all.1)

  members_asked : (ms : List (Member (BarRecord K))) → AllByRecursion (IsPlainMember m) ms → AreMembers (board_bars m) mark (IsPlainBar m) (IsPlainCommand m) (bars_keep_plain m) left_plainly ms
  members_asked [] all = tt
  members_asked (x ∷ xs) all = ((all.0.bar, all.0.stored), members_asked xs all.1)

  members_left : (ms : List (Member (BarRecord K))) → AreMembers (board_bars m) mark (IsPlainBar m) (IsPlainCommand m) (bars_keep_plain m) left_plainly ms → AllByRecursion (IsPlainMember m) ms
  members_left [] all = tt
  members_left (x ∷ xs) all = (record { bar = all.0.0; stored = all.0.1 }, members_left xs all.1)

pub board_runs_are_plain : {K : Type 0} (m : Tracking K) → BoardRunsArePlain m
board_runs_are_plain m mark calls answers old s new next run h all =
    let r = board_plain (board_bars m) mark (IsPlainBar m) (IsPlainCommand m) (bars_keep_plain m) (left_plainly m mark) calls answers old s new next run
    (members_asked m mark s.members (recursion_from_All (IsPlainMember m) s.members h)) (calls_asked m mark calls (recursion_from_All (λ call. IsPlainCall m call.0) calls all)) in
    (r.0, All-from_recursion (IsPlainMember m) next.members (members_left m mark next.members r.1))
