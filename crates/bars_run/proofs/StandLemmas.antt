-- What stands once lines were played on a board, and what is printed then.
use Rattle.std.proofs.Common.{◌≡◌, ℕ, ◌<◌, Bool, true, false, List, [], ◌∷◌, ◌++◌, map, length, take, replicate, refl, sym, ◌∙◌, ap, subst, arith, Option, Some, None, option_map, if◌then◌else◌}
use Rattle.std.specs.Prelude.{◌||◌, ◌&&◌, ◌==◌, IfSome, All}
use Rattle.std.specs.Io.KnownBytes.{Appends}
use Rattle.std.specs.List.{AllByRecursion, list_any}
use Rattle.std.proofs.lemmas.Bool.{cond_both, or_parts}
use Rattle.std.proofs.lemmas.List.Elements.{All-from_recursion, recursion_from_All}
use Rattle.indicatif_term.specs.Screen.{Screen, blank_screen}
use Rattle.indicatif_term.specs.Terminal.{Terminal, blank_terminal}
use Rattle.indicatif_term.specs.Calls.{TermView, State}
use Rattle.indicatif_term.specs.Lists.{Lists, opening_lists, all_rows}
use Rattle.indicatif_term.specs.Cells.{MemoryTerm, view_of}
use Rattle.indicatif_term.specs.Pictures.{picture_text, row_text}
use Rattle.indicatif_term.specs.Resizes.{resized, resized_terminal, resized_lists, recut_all, recut_screen}
use Rattle.indicatif_term.specs.Shows.{Shows}
use Rattle.indicatif_term.proofs.ResizeLemmas.{opening_cut, resized_shows}
use Rattle.indicatif_bar.specs.Machines.{Target, target_of, outcomes}
use Rattle.indicatif_bar.specs.Runs.{broke, is_undisturbed}
use Rattle.indicatif_bar.specs.Scripts as script
use Rattle.indicatif_bar.specs.Scripts.{Called, Size, SizedOn, sized, sized_target, opening_then, Plays, script_broke, AllUndisturbed}
use Rattle.indicatif_bar.specs.Trackers.{writes_nothing}
use Rattle.indicatif_bar.proofs.RunLemmas.{run_target_stays}
use Rattle.indicatif_bar.proofs.ScriptLemmas.{unbroken_read, script_once}
use Rattle.indicatif_board.specs.Boards.{BoardState, Answer, Given, Accepted, Drew, Refused, drawn_of, opening_board}
use Rattle.indicatif_board.specs.BoardBars.{board_bars}
use Rattle.indicatif_board.specs.Multi.{known, terminal_of}
use Rattle.indicatif_board.specs.PlainBoardLaws.{IsPlainMember}
use Rattle.indicatif_board.proofs.BoardRunLemmas.{board_goes}
use Rattle.bars_run.specs.declared.arguments.Asked.{Asked}
use Rattle.bars_run.specs.declared.fault.Fault.{Fault}
use Rattle.bars_run.specs.declared.fault.Fault.TheVariants.{Usage, BadCommand, Line, Refused as Denied, Input, Output}
use Rattle.bars_run.specs.Arguments.{asked_by}
use Rattle.bars_run.specs.Commands.{input_lines}
use Rattle.bars_run.specs.Fault.{status_of}
use Rattle.bars_run.specs.Inside.Players.{Played, empty_memory, unanswered, HasPlayed, Stands}
use Rattle.bars_run.specs.Player as plays
use Rattle.bars_run.specs.Player.{Bar, Step, machine, sizing, script_of, script_outcome, rows_after, columns_after, is_refused, any_refused, SizesHaveCells, IsPlain}
use Rattle.bars_run.specs.Printing.{Prints, EndsOn, EndsBy, printed}
use Rattle.bars_run.proofs.PlainLemmas.{plain_made}
use Rattle.bars_run.proofs.PlainScriptLemmas.{scripts_plain}
use Rattle.bars_run.proofs.PrintLemmas.{ended, none_behind}

-- ---- answers

fine_answer : (answer : Answer) → is_refused answer ≡ false → (is_undisturbed (drawn_of answer) ≡ true) × (broke machine answer ≡ false)
fine_answer (Given id) e = (refl, refl)
fine_answer Accepted e = (refl, refl)
fine_answer (Drew d) e = (refl, refl)
fine_answer (Refused x) e = absurd (let q : true ≡ false = e in cc)

fine_answers : (answers : List Answer) → list_any is_refused answers ≡ false →
    AllByRecursion (λ answer. is_undisturbed (machine.tells answer) ≡ true) answers × (list_any (broke machine) answers ≡ false)
fine_answers [] e = (tt, refl)
fine_answers (a ∷ answers) e =
    let p = or_parts (is_refused a) (list_any is_refused answers) e in
    let one = fine_answer a p.0 in
    let others = fine_answers answers p.1 in
    ((one.0, others.0), rw (one.1, others.1) refl)

fine_steps : (made : List Step) → any_refused made ≡ false → AllUndisturbed machine sizing made × (script_broke machine sizing made ≡ false)
fine_steps [] e = (tt, refl)
fine_steps (Called calls answers ∷ made) e =
    let p = or_parts (list_any is_refused answers) (any_refused made) e in
    let one = fine_answers answers p.0 in
    let others = fine_steps made p.1 in
    ((All-from_recursion (λ answer. is_undisturbed (machine.tells answer) ≡ true) answers one.0, others.0), rw (one.1, others.1) refl)
fine_steps (Size w h ∷ made) e = fine_steps made e

-- what a script comes to hangs on no answers
played_apart : (made : List Step) (target : Target) (s : BoardState Bar) → script.played machine sizing target (map unanswered made) s ≡ script.played machine sizing target made s
played_apart [] target s = refl
played_apart (Called calls answers ∷ made) target s = let run = outcomes machine target calls s in ap (λ o. (Called calls run.0 ∷ o.0, o.1)) (played_apart made target run.1)
played_apart (Size w h ∷ made) target s = ap (λ o. (Size w h ∷ o.0, o.1)) (played_apart made (sized_target w h target) (sized machine sizing w h target s))

-- ---- sizes

shown_still : (o : Option TermView) (v : TermView) → target_of o ≡ target_of (Some v) → (u : TermView) × (o ≡ Some u) × (u.columns ≡ v.columns)
shown_still None v e = absurd (let q : true ≡ false = ap (λ t. t.hidden) e in cc)
shown_still (Some u) v e = (u, refl, ap (λ t. t.columns) e)

-- a terminal that is shown stays so, and has the columns of the last size
shown_after : (made : List Step) (v : TermView) (s : BoardState Bar) (new : Option TermView) (next : BoardState Bar) → Plays machine sizing made (Some v) s new next →
    (u : TermView) × (new ≡ Some u) × (u.columns ≡ columns_after v.columns made)
shown_after [] v s new next plays = (v, plays.0, refl)
shown_after (Called calls answers ∷ made) v s new next plays =
    let y = shown_still plays.0 v (run_target_stays machine calls answers (Some v) s plays.0 plays.1 plays.2) in
    let r = shown_after made y.0 plays.1 new next (subst (λ o. Plays machine sizing made o plays.1 new next) y.1 plays.3) in
    (r.0, r.1, r.2 ∙ ap (λ w. columns_after w made) y.2)
shown_after (Size w h ∷ made) v s new next plays =
    let y = plays.1 in
    let x = sized machine sizing w h (target_of (Some v)) s in
    let r = shown_after made y.0 x new next (subst (λ o. Plays machine sizing made o x new next) y.1 plays.4) in
    (r.0, r.1, r.2 ∙ ap (λ n. columns_after n made) y.2.columns_are)

columns_unanswered : (made : List Step) (w : ℕ) → columns_after w (map unanswered made) ≡ columns_after w made
columns_unanswered [] w = refl
columns_unanswered (Called calls answers ∷ made) w = columns_unanswered made w
columns_unanswered (Size columns rows ∷ made) w = columns_unanswered made columns

-- sizes that were taken have rows and columns, whatever the answers
sizes_taken : (made : List Step) (old : Option TermView) (s : BoardState Bar) (new : Option TermView) (next : BoardState Bar) → Plays machine sizing made old s new next →
    SizesHaveCells (map unanswered made)
sizes_taken [] old s new next plays = tt
sizes_taken (Called calls answers ∷ made) old s new next plays = sizes_taken made plays.0 plays.1 new next plays.3
sizes_taken (Size w h ∷ made) old s new next plays = (plays.2, plays.3, sizes_taken made plays.0 (sized machine sizing w h (target_of old) s) new next plays.4)

-- an opening on the first row stays there
first_row : (w h w' h' : ℕ) (opening : Screen) (l : Lists) (t : Terminal) → Shows w h opening l t → 0 < w → 0 < h' → opening.row ≡ 0 → (resized w' h' opening).row ≡ 0
unfolding resized
first_row w h w' h' opening l t shows some some' is =
    cond_both ((opening.columns == w') && (opening.height == h')) opening (recut_screen w' h' opening) (λ z. z.row ≡ 0)
    (λ _. is) (λ _. ap (λ z. z.row) (opening_cut w h w' h' opening l t shows some some') ∙ ap (λ n. length (recut_all w' (take n opening.rows))) is)

none_above : (made : List Step) (old : Option TermView) (s : BoardState Bar) (new : Option TermView) (next : BoardState Bar) → Plays machine sizing made old s new next →
    (w h : ℕ) (opening : Screen) (l : Lists) (t : Terminal) → Shows w h opening l t → 0 < w → opening.row ≡ 0 → (opening_then made opening).row ≡ 0
none_above [] old s new next plays w h opening l t shows some is = is
none_above (Called calls answers ∷ made) old s new next plays w h opening l t shows some is = none_above made plays.0 plays.1 new next plays.3 w h opening l t shows some is
none_above (Size w' h' ∷ made) old s new next plays w h opening l t shows some is =
    none_above made plays.0 (sized machine sizing w' h' (target_of old) s) new next plays.4 w' h' (resized w' h' opening) (resized_lists w h w' h' l) (resized_terminal w' h' t)
    (resized_shows w h w' h' opening l t shows some plays.3) plays.2 (first_row w h w' h' opening l t shows some plays.3 is)

-- ---- what stands

told_state : (m : MemoryTerm) (v : TermView) (t : Terminal) → Some (view_of m) ≡ Some v → v.told ≡ State t → m.terminal ≡ t
told_state m v t at told = let e : (view_of m).told ≡ v.told = cc in let f : State m.terminal ≡ State t = e ∙ told in cc

same_view : (o : Option TermView) (v u : TermView) → o ≡ Some v → o ≡ Some u → v ≡ u
same_view o v u a b = cc

some_term : (o : Option MemoryTerm) (v : TermView) → option_map view_of o ≡ Some v → (term : MemoryTerm) × (o ≡ Some term)
some_term None v e = absurd (cc)
some_term (Some term) v e = (term, refl)

-- a new terminal shows nothing
abbrev pub NewShows : Type 0
NewShows = (rows columns : ℕ) → 0 < rows → Shows columns rows (blank_screen rows columns) opening_lists (blank_terminal rows columns)

module _ (asked : Asked) (lines : List (List ℕ)) (b : Played) (p : HasPlayed asked lines b) where
  abbrev v : TermView
  v = view_of (empty_memory asked)

  once : script_outcome asked p.steps ≡ (p.made, p.next)
  once =
      let start : BoardState Bar = opening_board None in
      let target = plays.asked_target asked in
      ap (λ steps. script.played machine sizing target steps start) (sym p.made_are) ∙ played_apart p.made target start
      ∙ script_once machine sizing p.made (Some v) start (known view_of b) p.next p.plays (fine_steps p.made p.done).0

  wide : columns_after asked.size.columns p.made ≡ columns_after asked.size.columns p.steps
  wide = sym (columns_unanswered p.made asked.size.columns) ∙ ap (columns_after asked.size.columns) p.made_are

  -- each size was taken
  taken : SizesHaveCells p.steps
  taken = subst SizesHaveCells p.made_are (sizes_taken p.made (Some v) (opening_board None) (known view_of b) p.next p.plays)

  -- the texts of the rows that stand are those of the picture, but for empty ones behind
  stood : NewShows → (term : MemoryTerm) → terminal_of b ≡ Some term → AllByRecursion IsPlain p.commands →
      (blank : ℕ) × (picture_text term.terminal.screen ≡ map row_text (rows_after asked p.steps) ++ replicate blank [])
  stood shows term at all =
      let start : BoardState Bar = opening_board None in
      let new = known view_of b in
      let screen = blank_screen asked.size.rows asked.size.columns in
      let there = blank_terminal asked.size.rows asked.size.columns in
      let begins = shows asked.size.rows asked.size.columns p.some_rows in
      let texts = plain_made p.commands p.steps p.made _ p.steps_are p.made_are all in
      let plain = scripts_plain writes_nothing 0 p.made (Some v) start new p.next p.plays (All-from_recursion (IsPlainMember writes_nothing) start.members tt) texts in
      let goes = board_goes (board_bars writes_nothing) 0 in
      let r = unbroken_read machine sizing goes p.made v start new p.next p.plays p.some_columns refl (fine_steps p.made p.done).1 plain screen (there, refl, begins) in
      let u = shown_after p.made v start new p.next p.plays in
      let opening = opening_then p.made screen in
      let none = none_above p.made (Some v) start new p.next p.plays asked.size.columns asked.size.rows screen opening_lists there begins p.some_columns refl in
      let t = told_state term r.0 r.2.0 (ap (option_map view_of) (sym at) ∙ r.1) r.2.1 in
      let columns = ap (λ x. x.columns) (same_view new r.0 u.0 r.1 u.1) ∙ u.2 ∙ wide in (
        r.2.2,
        ap (λ x. picture_text x.screen) t ∙ r.2.3
            ∙ ap (λ n. map row_text (take n opening.rows ++ all_rows r.0.columns p.next.lists) ++ replicate r.2.2 []) none
            ∙ ap (λ n. map row_text (all_rows n p.next.lists) ++ replicate r.2.2 []) columns
            ∙ ap (λ o. map row_text (all_rows (columns_after asked.size.columns p.steps) o.1.lists) ++ replicate r.2.2 []) (sym once),
      )

-- the same where the input's bytes are known
pub stands_read : (asked : Asked) (o left : Option (List ℕ)) (b : Played) (texts : List (List ℕ)) → NewShows → left ≡ o → IfSome left (λ bytes. HasPlayed asked (input_lines bytes) b) →
    IfSome (terminal_of b) (λ term. texts ≡ picture_text term.terminal.screen) → IfSome o (λ bytes. Stands asked bytes texts)
stands_read asked o left b texts shows same played read = elim o as (λ y. IfSome y (λ bytes. HasPlayed asked (input_lines bytes) b) → IfSome y (λ bytes. Stands asked bytes texts)) [
  | None ↦ λ p. tt
  | Some bytes ↦ λ p.
      let lines = input_lines bytes in
      record {
        commands = p.commands;
        commands_are = p.commands_are;
        steps = p.steps;
        steps_are = p.steps_are;
        cells = (p.some_rows, p.some_columns);
        sizes = taken asked lines b p;
        done = ap (λ o. any_refused o.0) (once asked lines b p) ∙ p.done;
        shown = λ all.
            let u = shown_after p.made (view_of (empty_memory asked)) (opening_board None) (known view_of b) p.next p.plays in
            let there = some_term (terminal_of b) u.0 u.1 in
            let t = stood asked lines b p shows there.0 there.1 (recursion_from_All IsPlain p.commands all) in
            (t.0, subst (λ t. IfSome t (λ term. texts ≡ picture_text term.terminal.screen)) there.1 read ∙ t.1);
      }
] (subst (λ y. IfSome y (λ bytes. HasPlayed asked (input_lines bytes) b)) same played)

-- ---- what is printed

pub prints : (words : List (List ℕ)) (o : Option (List ℕ)) (asked : Asked) (texts : List (List ℕ)) (old new : Option (List ℕ)) → asked_by words ≡ Some asked →
    IfSome o (λ bytes. Stands asked bytes texts) → Appends old new (printed texts) → IfSome o (λ bytes. Prints words bytes old new)
prints words o asked texts old new is stood appended = elim o as (λ y. IfSome y (λ bytes. Stands asked bytes texts) → IfSome y (λ bytes. Prints words bytes old new)) [
  | None ↦ λ p. tt
  | Some bytes ↦ λ p. record {
    asked = asked;
    asked_is = is;
    commands = p.commands;
    commands_are = p.commands_are;
    steps = p.steps;
    steps_are = p.steps_are;
    cells = p.cells;
    sizes = p.sizes;
    done = p.done;
    shown = λ all.
        let t = p.shown all in
        subst (Appends old new) (ap printed t.1 ∙ ap ended (none_behind (map row_text (rows_after asked p.steps)) t.0)) appended;
  }
] stood

pub some_fault : (fault : Fault) → status_of fault ≡ 0 → ⊥
some_fault Usage e = omega (arith, e)
some_fault (BadCommand line) e = omega (arith, e)
some_fault (Line number refusal) e = omega (arith, e)
some_fault (Denied refusal) e = omega (arith, e)
some_fault Input e = omega (arith, e)
some_fault Output e = omega (arith, e)

-- ---- why a run ends early

-- words that ask for a terminal on which it ends so
pub ends_by : (words : List (List ℕ)) (asked : Asked) (o : Option (List ℕ)) (fault : Fault) → asked_by words ≡ Some asked → EndsOn asked o fault → EndsBy words o fault
ends_by words asked o Usage is ends = absurd ends
ends_by words asked o (BadCommand line) is ends = (asked, is, ends)
ends_by words asked o (Line number refusal) is ends = (asked, is, ends)
ends_by words asked o (Denied refusal) is ends = (asked, is, ends)
ends_by words asked o Input is ends = (asked, is, ends)
ends_by words asked o Output is ends = (asked, is, ends)

-- the same of the input itself, of which this is known to be left
pub same_ends : (asked : Asked) (left o : Option (List ℕ)) (fault : Fault) → left ≡ o → EndsOn asked left fault → EndsOn asked o fault
same_ends asked left o fault same ends = subst (λ y. EndsOn asked y fault) same ends
