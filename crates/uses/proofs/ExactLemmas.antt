-- What the answer of a clear, a log and a tick says of a lone bar or a board, and who leaves a board's order by a clear.
use Rattle.std.proofs.Common.{◌≡◌, ℕ, List, [], ◌∷◌, ◌++◌, map, drop, Bool, true, false, refl, sym, ◌∙◌, ap, subst, inl, inr, Option, Some, None, Result, Ok, Err, if◌then◌else◌}
use Rattle.std.specs.Prelude.{◌≢◌, ◌⊎◌, ◌==◌, ◌&&◌, ◌||◌, not, chars}
use Rattle.std.proofs.lemmas.Bool.{cases_Bool, cond_both, false≢true, ne_eqb}
use Rattle.std.proofs.lemmas.List.Folds.{list_any-append}
use Rattle.indicatif_text.specs.Columns.{has_wide}
use Rattle.indicatif_text.specs.declared.refusal.Refusal.{Refusal}
use Rattle.indicatif_text.specs.declared.refusal.Refusal.TheVariants.{NoColumns, TooWide, Memory, ForeignBar, NotMember}
use Rattle.indicatif_text.specs.declared.refusal.Drawn.{Drawn}
use Rattle.indicatif_text.specs.declared.refusal.Drawn.TheVariants.{Yes, Limited, Hidden}
use Rattle.indicatif_term.specs.Calls.{TermView}
use Rattle.indicatif_term.specs.Lines.{all_lines, logged_lines, some_wide, text_lines}
use Rattle.indicatif_term.specs.Engines.{is_failure}
use Rattle.indicatif_bar.specs.declared.ask.Ask.{Ask}
use Rattle.indicatif_bar.specs.declared.ask.Ask.TheVariants.{No, Unforced, Forced}
use Rattle.indicatif_bar.specs.Machines.{Target, target_of, Draw, Leads, is_no, comes_to_lines, drawn_by}
use Rattle.indicatif_term.specs.Limiters.{Limiter}
use Rattle.indicatif_bar.specs.Kinds.{asked_of, has_line, NoFrame}
use Rattle.indicatif_bar.specs.Runs.{wrote}
use Rattle.indicatif_bar.specs.Says.{Decided, DecidedBy, Says}
use Rattle.indicatif_bar.specs.Trackers.{Tracking}
use Rattle.indicatif_bar.specs.Progress.{is_finished, is_hidden}
use Rattle.indicatif_bar.specs.Commands.{BarRecord, TickerTick, obeyed}
use Rattle.indicatif_bar.specs.Styles.{lines, is_empty_style}
use Rattle.indicatif_bar.specs.Bars.{bar_kind}
use Rattle.indicatif_bar.specs.Lone.{LoneState, Obey, Log, Clear, draw_of_call, lone_frame}
use Rattle.indicatif_bar.specs.LoneBars.{lone_bar}
use Rattle.indicatif_board.specs.BoardBars.{board_bars}
use Rattle.indicatif_board.specs.Boards.{BoardState, Id, Clear as ClearBoard, Tell, Refused, says, drawn_of, drawn_of_said, draw_of, draw_of_command, draws, or_refused, turned_away, board}
use Rattle.indicatif_board.specs.Members.{Member, is_member, said_of, followers, order_of}

-- no conjunction with a false side holds
never_both : (a b : Bool) → b ≡ false → (a && b) ≡ true → ⊥
never_both true b lacks e = false≢true (sym lacks ∙ e)
never_both false b lacks e = false≢true e

-- a draw that wrote was answered so
wrote_so : (answer : Result Drawn Refusal) → wrote answer ≡ true → (answer ≡ Ok Yes) ⊎ (is_failure answer ≡ true)
wrote_so (Ok Yes) e = inl refl
wrote_so (Ok Limited) e = absurd (false≢true e)
wrote_so (Ok Hidden) e = absurd (false≢true e)
wrote_so (Err e) t = inr t

-- on a terminal with columns a draw that was asked comes as far as its lines
comes : {S : Type 0} (v : TermView) (d : Draw S) → is_no d.ask ≡ false → v.columns ≢ 0 → comes_to_lines (target_of (Some v)) d ≡ true
comes v d asked wide = rw (asked, ne_eqb v.columns 0 wide) refl

-- ---- a lone bar

module _ {K : Type 0} (m : Tracking K) (now : ℕ) (s : LoneState (BarRecord K)) (answer : Result Drawn Refusal) where
  pub cleared_ample : (old new : Option TermView) → Says (lone_bar m) old new (Clear, now) s answer → answer ≡ Err Memory → ⊥
  cleared_ample old new w e = never_both (comes_to_lines (target_of old) (draw_of_call (bar_kind m) (target_of old) Clear now s)) false refl (w.memory e)

  pub cleared_so : (v : TermView) (new : Option TermView) → Says (lone_bar m) (Some v) new (Clear, now) s answer → v.columns ≢ 0 → (answer ≡ Ok Yes) ⊎ (is_failure answer ≡ true)
  cleared_so v new w wide =
      let d = draw_of_call (bar_kind m) (target_of (Some v)) Clear now s in
      wrote_so answer ((w.decided (cleared_ample (Some v) new w)).wrote_is.1 (comes v d refl wide, refl, refl))

  pub logged_too_wide : (v : TermView) (new : Option TermView) (text : List ℕ) → Says (lone_bar m) (Some v) new (Log text, now) s answer → v.columns ≢ 0 →
      some_wide v.columns (text_lines (logged_lines text)) ≡ true → answer ≢ Err Memory → answer ≡ Err TooWide
  logged_too_wide v new text w wide long ample =
      let d = draw_of_call (bar_kind m) (target_of (Some v)) (Log text) now s in
      let others = all_lines (drop 0 (lone_frame (bar_kind m) (target_of (Some v)) now s.bar)) in
      let too : some_wide v.columns (text_lines (logged_lines text) ++ others) ≡ true =
      list_any-append (has_wide v.columns) (text_lines (logged_lines text)) others ∙ ap (λ b. b || some_wide v.columns others) long in
      (w.decided ample).too_wide.1 (comes v d refl wide, refl, too)

-- a bar that has no lines takes no memory for them
no_lines_take : (gone empty : Bool) (shown : List (List ℕ)) → gone ≡ true →
    ((not gone && not empty) || (has_line (drop 0 (record { bar = 0; lines = map chars (if gone then [] else shown) } ∷ [])) && true)) ≡ false
no_lines_take true empty shown e = refl
no_lines_take false empty shown e = absurd (false≢true e)

-- a tick asks for a draw
is_asked : (finished : Bool) → is_no (if finished then Forced else Unforced) ≡ false
is_asked true = refl
is_asked false = refl

module _ {K : Type 0} (m : Tracking K) (now : ℕ) (s : LoneState (BarRecord K)) (answer : Result Drawn Refusal) (old new : Option TermView) where
  pub log_takes : (text : List ℕ) → Says (lone_bar m) old new (Log text, now) s answer → answer ≡ Err Memory → is_hidden s.bar.progress ≡ false
  log_takes text w e = elim (cases_Bool (is_hidden s.bar.progress)) [
    | inl gone ↦
        let target = target_of old in
        absurd (never_both (comes_to_lines target (draw_of_call (bar_kind m) target (Log text) now s)) _
        (no_lines_take (is_hidden s.bar.progress) (is_empty_style s.bar.style s.bar.progress) (lines m s.bar.style s.bar.progress now target.columns) gone) (w.memory e))
    | inr there ↦ there
  ]

  pub unlimited : Says (lone_bar m) old new (Obey TickerTick, now) s answer → (draw_of_call (bar_kind m) (target_of old) (Obey TickerTick) now s).allowed ≡ true → answer ≡ Ok Limited → ⊥
  unlimited w free e =
      let asked = is_asked (is_finished (obeyed m TickerTick s.bar now).0.progress) in
      elim ((w.decided (λ q. let z = sym e ∙ q in cc)).limited.0 e) [ inl unasked ↦ false≢true (sym asked ∙ unasked) | inr held ↦ false≢true (sym held.1 ∙ free) ]

-- ---- a tick of a board's bar

-- a bar that is a member is asked what it asks for, and not the default
asked_there : (there owned rest : Bool) (its others : Ask) → is_no its ≡ false → (rest ≡ true → is_no others ≡ false) → (if there then owned else rest) ≡ true →
    is_no (if there then its else others) ≡ false
asked_there true owned rest its others one other e = one
asked_there false owned rest its others one other e = other e

-- without a limiter each draw is allowed
is_free : (ask : Ask) (now : ℕ) (limiter : Option Limiter) → limiter ≡ None → (asked_of ask now limiter).0 ≡ true
is_free No now limiter none = refl
is_free Forced now limiter none = refl
is_free Unforced now None none = refl
is_free Unforced now (Some limiter) none = absurd (cc none)

-- a bar that isn't turned away is a member
is_there : (foreign there : Bool) → (if foreign then Some ForeignBar else if there then None else Some NotMember) ≡ None → there ≡ true
is_there true there e = absurd (cc e)
is_there false true e = refl
is_there false false e = absurd (cc e)

module _ {K : Type 0} (m : Tracking K) (mark now : ℕ) (s : BoardState (BarRecord K)) (answer : Result Drawn Refusal) where
  member_asks : (number : ℕ) (members : List (Member (BarRecord K))) → is_member number members ≡ true → is_no (said_of No (λ bar. (obeyed m TickerTick bar now).1) number members) ≡ false
  member_asks number [] e = absurd (false≢true e)
  member_asks number (x ∷ xs) e =
      asked_there (x.number == number) (not x.dropped) (is_member number xs) (obeyed m TickerTick x.bar now).1 (said_of No (λ bar. (obeyed m TickerTick bar now).1) number xs)
      (is_asked (is_finished (obeyed m TickerTick x.bar now).0.progress)) (member_asks number xs) e

  -- a refusal isn't `Limited`
  no_refusal : (e : Refusal) → says answer ≡ Refused e → answer ≡ Ok Limited → ⊥
  no_refusal e w l = let q = sym (drawn_of_said answer) ∙ ap drawn_of w in let z = sym l ∙ q in cc

  unlimited_draw : (target : Target) (away refused : Option Refusal) (d : Draw (BoardState (BarRecord K))) → (away ≡ None → is_no d.ask ≡ false) → d.allowed ≡ true →
      DecidedBy (board (board_bars m) mark) target (or_refused away (or_refused refused (draws d) s) s) (says answer) → answer ≡ Ok Limited → ⊥
  unlimited_draw target (Some e) refused d asked free w l = no_refusal e w l
  unlimited_draw target None (Some e) d asked free w l = no_refusal e w l
  unlimited_draw target None None d asked free w l =
      elim (w.limited.0 (drawn_of_said answer ∙ l)) [ inl unasked ↦ false≢true (sym (asked refl) ∙ unasked) | inr held ↦ false≢true (sym held.1 ∙ free) ]

  pub unlimited_on : (id : Id) (old new : Option TermView) → Says (board (board_bars m) mark) old new (Tell id TickerTick, now) s (says answer) → s.limiter ≡ None → answer ≡ Ok Limited → ⊥
  unlimited_on id old new w free l =
      let target = target_of old in
      let d = draw_of_command (board_bars m) target id.number TickerTick now s in
      unlimited_draw target (turned_away mark id s) (said_of None (λ bar. (bar_kind m).refused TickerTick bar now) id.number s.members) d
      (λ away. member_asks id.number s.members (is_there _ _ away)) (is_free d.ask now s.limiter free) (w.decided (λ q. let z = sym (drawn_of_said answer ∙ l) ∙ q in cc)) l

-- ---- who leaves a board

module _ {S X : Type 0} (f : S → X) (target : Target) (d : Draw S) where
  -- where a draw isn't answered with `Yes`, what both its states before have in common stays
  stays_unless_yes : (x : X) → f d.after_command ≡ x → f d.ready ≡ x → ((drawn_by target d).0 ≡ Ok Yes → ⊥) → f (drawn_by target d).1 ≡ x
  unfolding drawn_by
  stays_unless_yes x a r =
      let P = λ (o : Result Drawn Refusal × S). (o.0 ≡ Ok Yes → ⊥) → f o.1 ≡ x in
      cond_both (is_no d.ask) (Ok Limited, d.after_command) _ P (λ p. λ q. a)
      (λ p. cond_both target.hidden (Ok Hidden, d.after_command) _ P (λ b. λ q. a)
      (λ b. cond_both (target.columns == 0) (Err NoColumns, d.after_command) _ P (λ k. λ q. a)
      (λ k. cond_both (not d.allowed) (Ok Limited, d.ready) _ P (λ h. λ q. r)
      (λ h. cond_both (some_wide target.columns d.lines) (Err TooWide, d.ready) (Ok Yes, d.written) P (λ g. λ q. r) (λ g. λ q. absurd (q refl))))))

  -- where it is, the lines were written
  written_by_yes : (drawn_by target d).0 ≡ Ok Yes → f (drawn_by target d).1 ≡ f d.written
  unfolding drawn_by
  written_by_yes =
      let P = λ (o : Result Drawn Refusal × S). o.0 ≡ Ok Yes → f o.1 ≡ f d.written in
      cond_both (is_no d.ask) (Ok Limited, d.after_command) _ P (λ p. λ q. absurd cc)
      (λ p. cond_both target.hidden (Ok Hidden, d.after_command) _ P (λ b. λ q. absurd cc)
      (λ b. cond_both (target.columns == 0) (Err NoColumns, d.after_command) _ P (λ k. λ q. absurd cc)
      (λ k. cond_both (not d.allowed) (Ok Limited, d.ready) _ P (λ h. λ q. absurd cc)
      (λ h. cond_both (some_wide target.columns d.lines) (Err TooWide, d.ready) (Ok Yes, d.written) P (λ g. λ q. absurd cc) (λ g. λ q. refl)))))

module _ {K : Type 0} (m : Tracking K) (mark now : ℕ) (s : BoardState (BarRecord K)) (answer : Result Drawn Refusal) where
  board_ample : (old new : Option TermView) → Says (board (board_bars m) mark) old new (ClearBoard, now) s (says answer) → drawn_of (says answer) ≡ Err Memory → ⊥
  board_ample old new w e = never_both (comes_to_lines (target_of old) (draw_of (target_of old) false Forced now NoFrame s s false)) false refl (w.memory e)

  pub board_cleared_ample : (old new : Option TermView) → Says (board (board_bars m) mark) old new (ClearBoard, now) s (says answer) → answer ≡ Err Memory → ⊥
  board_cleared_ample old new w e = board_ample old new w (drawn_of_said answer ∙ e)

  pub board_cleared_so : (v : TermView) (new : Option TermView) → Says (board (board_bars m) mark) (Some v) new (ClearBoard, now) s (says answer) → v.columns ≢ 0 →
      (answer ≡ Ok Yes) ⊎ (is_failure answer ≡ true)
  board_cleared_so v new w wide =
      let d = draw_of (target_of (Some v)) false Forced now NoFrame s s false in
      subst (λ r. (r ≡ Ok Yes) ⊎ (is_failure r ≡ true)) (drawn_of_said answer)
      (wrote_so (drawn_of (says answer)) ((w.decided (board_ample (Some v) new w)).wrote_is.1 (comes v d refl wide, refl, refl)))

  module _ (target : Target) (next : BoardState (BarRecord K)) where
    abbrev pub Clears : Type 0
    Clears = Leads (board (board_bars m) mark) target s ((board (board_bars m) mark).deed target ClearBoard now s) (says answer) next

    said : (r : Result Drawn Refusal) → says answer ≡ says r → answer ≡ r
    said r e = sym (drawn_of_said answer) ∙ ap drawn_of e ∙ drawn_of_said r

    pub stay_unless_cleared : Clears → answer ≢ Ok Yes → order_of next.members ≡ order_of s.members
    stay_unless_cleared (inl made) other =
        let d = draw_of target false Forced now NoFrame s s false in
        let a = said (drawn_by target d).0 (ap (λ o. o.0) made) in
        ap (λ (o : _ × BoardState (BarRecord K)). order_of o.1.members) made
        ∙ stays_unless_yes (λ (x : BoardState (BarRecord K)). order_of x.members) target d (order_of s.members) refl refl (λ e. other (a ∙ e))
    stay_unless_cleared (inr (inl short)) other = elim short.1 [
      | inl text ↦ ap (λ (x : BoardState (BarRecord K)). order_of x.members) text.1
      | inr shown ↦ elim shown.1 [
        | inl laid ↦ ap (λ (x : BoardState (BarRecord K)). order_of x.members) laid.1
        | inr planned ↦ ap (λ (x : BoardState (BarRecord K)). order_of x.members) planned.2
      ]
    ]
    stay_unless_cleared (inr (inr broken)) other = ap (λ (x : BoardState (BarRecord K)). order_of x.members) broken.2.1

    pub leave_when_cleared : Clears → answer ≡ Ok Yes → order_of next.members ≡ order_of (followers s.members)
    leave_when_cleared (inl made) done =
        let d = draw_of target false Forced now NoFrame s s false in
        let a = said (drawn_by target d).0 (ap (λ o. o.0) made) in
        ap (λ (o : _ × BoardState (BarRecord K)). order_of o.1.members) made ∙ written_by_yes (λ (x : BoardState (BarRecord K)). order_of x.members) target d (sym a ∙ done)
    leave_when_cleared (inr (inl short)) done = absurd (let z = sym done ∙ said (Err Memory) short.0 in cc)
    leave_when_cleared (inr (inr broken)) done = absurd (let z = ap says (sym done) ∙ broken.1 in cc)
