-- Every run of a lone bar is one of a board with that bar alone.
use Rattle.std.proofs.Common.{◌≡◌, ℕ, Bool, true, false, refl, sym, ◌∙◌, ap, subst, inl, inr, List, [], ◌∷◌, map, Option, Some, None, Result, Ok, Err, if◌then◌else◌}
use Rattle.std.specs.Prelude.{◌==◌, not, chars}
use Rattle.std.proofs.lemmas.Bool.{and_parts, eq-eqb}
use Rattle.indicatif_text.specs.declared.refusal.Refusal.{Refusal}
use Rattle.indicatif_text.specs.declared.refusal.Refusal.TheVariants.{NoColumns, TooWide}
use Rattle.indicatif_text.specs.declared.refusal.Drawn.{Drawn}
use Rattle.indicatif_text.specs.declared.refusal.Drawn.TheVariants.{Yes, Limited, Hidden}
use Rattle.indicatif_term.specs.Calls.{TermView}
use Rattle.indicatif_term.specs.Lines.{some_wide}
use Rattle.indicatif_bar.specs.Machines.{Target, target_of, Draw, Draws, Leads, is_no, drawn_by}
use Rattle.indicatif_bar.specs.Runs.{CallMade, lines_by}
use Rattle.indicatif_bar.specs.Shown.{WritesLinesOn}
use Rattle.indicatif_bar.specs.Lone.{LoneState, LoneCall, Obey, Log, Clear, draw_of_call, deed_unless, refused_at_once, lone}
use Rattle.indicatif_board.specs.Boards.{BoardKind, BoardState, says, drawn_of_said, turned_away, or_refused, draws, board}
use Rattle.indicatif_board.specs.LoneLaws.{first_bar, with_one, on_board, timed_on_board, OneIsTakenIn, LoneRunsAreBoardRuns}

pub one_taken_in : {B : Type 0} → OneIsTakenIn B
one_taken_in mark bar limiter = refl

-- both of a choice are alike where both of its sides are
if_both : {X Y : Type 0} (P : X → Y → Type 0) (b : Bool) (x x' : X) (y y' : Y) → P x y → P x' y' → P (if b then x else x') (if b then y else y')
if_both P true x x' y y' p q = p
if_both P false x x' y y' p q = q

module _ {B : Type 0} where
  -- the draw of the board: whether its layout takes memory, the lines that were stored before it, and those that are laid out for it
  abbrev drawn_on : Bool → List (List ℕ) → List (List ℕ) → Draw (LoneState B) → Draw (BoardState B)
  drawn_on lays stored laid d = record {
    text_takes = d.text_takes;
    lines_take = lays;
    rows_take = d.rows_take;
    ask = d.ask;
    after_command = with_one stored d.after_command;
    ready = with_one laid d.ready;
    allowed = d.allowed;
    lines = d.lines;
    written = with_one laid d.written;
    broken = with_one laid d.broken;
  }

  -- the outcomes are alike
  abbrev AreAlike : Result Drawn Refusal × LoneState B → Result Drawn Refusal × BoardState B → Type 0
  AreAlike o p = (p.0 ≡ o.0) × (kept : List (List ℕ)) × (p.1 ≡ with_one kept o.1)

  outcome_alike : (target : Target) (lays : Bool) (stored laid : List (List ℕ)) (d : Draw (LoneState B)) → AreAlike (drawn_by target d) (drawn_by target (drawn_on lays stored laid d))
  unfolding drawn_by
  outcome_alike target lays stored laid d =
      let before = with_one stored d.after_command in
      let ready = with_one laid d.ready in
      if_both AreAlike (is_no d.ask) (Ok Limited, d.after_command) _ (Ok Limited, before) _ (refl, stored, refl)
      (if_both AreAlike target.hidden (Ok Hidden, d.after_command) _ (Ok Hidden, before) _ (refl, stored, refl)
      (if_both AreAlike (target.columns == 0) (Err NoColumns, d.after_command) _ (Err NoColumns, before) _ (refl, stored, refl)
      (if_both AreAlike (not d.allowed) (Ok Limited, d.ready) _ (Ok Limited, ready) _ (refl, laid, refl)
      (if_both AreAlike (some_wide target.columns d.lines) (Err TooWide, d.ready) (Ok Yes, d.written) (Err TooWide, ready) (Ok Yes, with_one laid d.written)
      (refl, laid, refl) (refl, laid, refl)))))

module _ {B C : Type 0} (kind : BoardKind B C) (mark : ℕ) (target : Target) where
  -- what a draw of the lone bar leads to, that of the board does, whose layout takes memory where the lone bar's does
  draw_carried : (lays : Bool) (stored laid : List (List ℕ)) (d : Draw (LoneState B)) → (d.lines_take ≡ true → lays ≡ true) → (s next : LoneState B) (answer : Result Drawn Refusal) →
      Leads (lone kind.bars) target s (Draws d (λ x. x) (λ x. x)) answer next →
      (kept : List (List ℕ)) × Leads (board kind mark) target (with_one stored s) (draws (drawn_on lays stored laid d)) (says answer) (with_one kept next)
  draw_carried lays stored laid d take s next answer (inl made) =
      let o = drawn_by target d in
      let p = drawn_by target (drawn_on lays stored laid d) in
      let r = outcome_alike target lays stored laid d in
      let same : (says o.0, with_one r.1 o.1) ≡ (says p.0, p.1) = cc (r.0, r.2) in
      (r.1, inl (ap (λ (x : Result Drawn Refusal × LoneState B). (says x.0, with_one r.1 x.1)) made ∙ same))
  draw_carried lays stored laid d take s next answer (inr (inl short)) = elim short.1 [
    | inl text ↦ (stored, inr (inl (ap says short.0, inl (text.0, ap (with_one stored) text.1))))
    | inr shown ↦ elim shown.1 [
      | inl lines ↦ (stored, inr (inl (ap says short.0, inr (shown.0, inl (take lines.0, ap (with_one stored) lines.1)))))
      | inr planned ↦ (laid, inr (inl (ap says short.0, inr (shown.0, inr (planned.0, planned.1, ap (with_one laid) planned.2)))))
    ]
  ]
  draw_carried lays stored laid d take s next answer (inr (inr broken)) =
      (laid, inr (inr (broken.0, ap says broken.1, ((outcome_alike target lays stored laid d).0 ∙ broken.2.0, ap (with_one laid) broken.2.1))))

  -- the same of a call that may be refused at once
  deed_carried : (why : Option Refusal) (lays : Bool) (stored laid : List (List ℕ)) (d : Draw (LoneState B)) → (d.lines_take ≡ true → lays ≡ true) →
      (s next : LoneState B) (answer : Result Drawn Refusal) → Leads (lone kind.bars) target s (deed_unless kind.bars why d s) answer next →
      (kept : List (List ℕ)) × Leads (board kind mark) target (with_one stored s) (or_refused why (draws (drawn_on lays stored laid d)) (with_one stored s)) (says answer) (with_one kept next)
  deed_carried None lays stored laid d take s next answer led = draw_carried lays stored laid d take s next answer led
  deed_carried (Some e) lays stored laid d take s next answer (inl made) = (stored, inl (ap (λ (x : Result Drawn Refusal × LoneState B). (says x.0, with_one stored x.1)) made))
  deed_carried (Some e) lays stored laid d take s next answer (inr short) = (stored, inr (ap says short.0, short.1, ap (with_one stored) short.2))

  -- the lines to write are the same
  lines_carried : (why : Option Refusal) (lays : Bool) (stored laid : List (List ℕ)) (d : Draw (LoneState B)) (s : LoneState B) →
      lines_by (deed_unless kind.bars why d s) ≡ lines_by (or_refused why (draws (drawn_on lays stored laid d)) (with_one stored s))
  lines_carried None lays stored laid d s = refl
  lines_carried (Some e) lays stored laid d s = refl

  -- the one bar is meant
  is_meant : (stored : List (List ℕ)) (s : LoneState B) → turned_away mark (first_bar mark) (with_one stored s) ≡ None
  is_meant stored s = rw (eq-eqb mark mark refl) refl

  -- what the board stores of the bar for a call
  abbrev laid_for : LoneCall C → ℕ → LoneState B → List (List ℕ) → List (List ℕ)
  laid_for (Obey command) now s stored = map chars (kind.bars.lines (kind.bars.after command s.bar now).0 now target.columns)
  laid_for (Log text) now s stored = map chars (kind.bars.lines s.bar now target.columns)
  laid_for Clear now s stored = stored

  -- whether the board's layout takes memory then: also where the limiter won't allow the draw
  abbrev lays_for : LoneCall C → ℕ → LoneState B → Bool
  lays_for (Obey command) now s = kind.bars.lays (kind.bars.after command s.bar now).0
  lays_for (Log text) now s = kind.bars.lays s.bar
  lays_for Clear now s = false

  -- where the lone bar's lines take memory, the board's layout does
  lays_too : (call : LoneCall C) (now : ℕ) (s : LoneState B) → (draw_of_call kind.bars target call now s).lines_take ≡ true → lays_for call now s ≡ true
  lays_too (Obey command) now s take = (and_parts (draw_of_call kind.bars target (Obey command) now s).allowed (lays_for (Obey command) now s) take).1
  lays_too (Log text) now s take = (and_parts true (lays_for (Log text) now s) take).1
  lays_too Clear now s take = (and_parts true false take).1

  -- the board's deed is the lone bar's
  deed_is : (call : LoneCall C) (now : ℕ) (s : LoneState B) (stored : List (List ℕ)) →
      (board kind mark).deed target (on_board (first_bar mark) call) now (with_one stored s)
      ≡ or_refused (refused_at_once kind.bars call now s.bar)
      (draws (drawn_on (lays_for call now s) stored (laid_for call now s stored) (draw_of_call kind.bars target call now s))) (with_one stored s)
  deed_is (Obey command) now s stored = rw (is_meant stored s) refl
  deed_is (Log text) now s stored = rw (is_meant stored s) refl
  deed_is Clear now s stored = refl

module _ {B C : Type 0} (kind : BoardKind B C) where
  call_carried : (mark : ℕ) (call : LoneCall C) (now : ℕ) (old new : Option TermView) (s next : LoneState B) (answer : Result Drawn Refusal) (stored : List (List ℕ)) →
      CallMade (lone kind.bars) old new (call, now) s answer next →
      (kept : List (List ℕ)) × CallMade (board kind mark) old new (timed_on_board mark (call, now)) (with_one stored s) (says answer) (with_one kept next)
  call_carried mark call now old new s next answer stored made =
      let target = target_of old in
      let why = refused_at_once kind.bars call now s.bar in
      let d = draw_of_call kind.bars target call now s in
      let laid = laid_for kind mark target call now s stored in
      let lays = lays_for kind mark target call now s in
      let is = deed_is kind mark target call now s stored in
      let led = deed_carried kind mark target why lays stored laid d (lays_too kind mark target call now s) s next answer made.leads in
      let lines = lines_carried kind mark target why lays stored laid d s ∙ ap lines_by (sym is) in (
        led.0,
        record {
          leads = subst (λ deed. Leads (board kind mark) target (with_one stored s) deed (says answer) (with_one led.0 next)) (sym is) led.1;
          writes = subst (λ r. WritesLinesOn old new (lines_by ((board kind mark).deed target (on_board (first_bar mark) call) now (with_one stored s))) s.lists next.lists r)
              (sym (drawn_of_said answer))
              (subst (λ ls. WritesLinesOn old new ls s.lists next.lists answer) lines made.writes);
        },
      )

  pub lone_runs_carried : LoneRunsAreBoardRuns kind
  lone_runs_carried m [] [] old s new next stored run = (stored, (run.0, ap (with_one stored) run.1))
  lone_runs_carried m (call ∷ calls) [] old s new next stored run = absurd run
  lone_runs_carried m [] (answer ∷ answers) old s new next stored run = absurd run
  lone_runs_carried m (call ∷ calls) (answer ∷ answers) old s new next stored run =
      let made = call_carried m call.0 call.1 old run.0 s run.1 answer stored run.2 in
      let others = lone_runs_carried m calls answers run.0 run.1 new next made.0 run.3 in
      (others.0, (run.0, with_one made.0 run.1, made.1, others.1))
