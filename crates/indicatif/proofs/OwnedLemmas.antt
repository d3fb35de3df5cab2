-- What the moves of a loop are, and that moves of a bar with its clock are a run of it.
use Rattle.std.proofs.Common.{◌≡◌, ℕ, length, false, inl, inr, ⊎_elim, List, [], ◌∷◌, map, Option, Result, refl, sym, ap, subst, ◌∙◌}
use Rattle.std.specs.Iterator.{Yields}
use Rattle.indicatif_text.specs.declared.refusal.Drawn.{Drawn}
use Rattle.indicatif_text.specs.declared.refusal.Refusal.{Refusal}
use Rattle.indicatif_term.specs.Calls.{TermView}
use Rattle.std.proofs.lemmas.Bool.{cond_both}
use Rattle.indicatif_bar.specs.Trackers.{Tracking}
use Rattle.indicatif_bar.specs.declared.ask.Ask.TheVariants.{No}
use Rattle.indicatif_bar.specs.PositionLimiters.{allow_position}
use Rattle.indicatif_bar.specs.Commands.{BarRecord, Command, tick, ticker_tick, moved_to}
use Rattle.indicatif_bar.specs.Runs.{Runs}
use Rattle.indicatif_bar.specs.Lone.{LoneState, LoneCall, Obey}
use Rattle.indicatif_bar.specs.LoneBars.{lone_known, lone_bar, LoneIsIn, LoneLeadsBy}
use Rattle.indicatif_bar.proofs.RunLemmas.{headline}
use Rattle.indicatif.specs.declared.wrappers.owned.OwnedBar.{OwnedBar}
use Rattle.indicatif.specs.declared.wrappers.wrap.ProgressBarIter.{ProgressBarIter}
use Rattle.indicatif.specs.Moves.{Standing, MovedAlong, AreOfLoop, Move, Advance, Place, Finish}
use Rattle.indicatif.specs.Wrap.{CountsItem, NextGives}
use Rattle.indicatif.specs.Owned.{lone_of, standing_of, command_of_move, Commanded, IsRunOfMoves}

-- the moves of a loop
abbrev pub LoopMade : {P : Type 0} → (P → Move → Result Drawn Refusal → P → Type 0) → ℕ → P → P → Type 0
LoopMade leads items old new = (made : List (Move × Result Drawn Refusal)) × MovedAlong leads made old new × AreOfLoop items (map (λ x. x.0) made)

pub loop-made : {T P A : Type 0} (told : P → Option Standing) (leads : P → Move → Result Drawn Refusal → P → Type 0) (gives : T → Option A → T → Type 0)
    → (items : List A) (s m t : ProgressBarIter T P) → Yields (NextGives told leads gives) s items m → CountsItem told leads false m t
    → LoopMade leads (length items) s.progress t.progress
loop-made told leads gives [] s m t same end =
    let from : s.progress ≡ m.progress = ap (λ w. w.progress) same in
    ⊎_elim
    (λ made. ((Finish, made.0.answer) ∷ [], (t.progress, subst (λ p. leads p Finish made.0.answer t.progress) (sym from) made.0.led, refl), inl refl))
    (λ kept. ([], kept.0.0 ∙ sym from, inr refl))
    end
loop-made told leads gives (x ∷ items) s m t along end =
    let others = loop-made told leads gives items along.0 m t along.2 end in
    let made = along.1.1.0 in (
      (Advance 1, made.answer) ∷ others.0,
      (along.0.progress, made.led, others.1),
      ⊎_elim (λ e. inl (ap (λ xs. Advance 1 ∷ xs) e)) (λ e. inr (ap (λ xs. Advance 1 ∷ xs) e)) others.2,
    )

module _ {K T C : Type 0} (m : Tracking K) (view : T → TermView) where
  -- a move leads as its command does, at some moment
  command-leads : (old : OwnedBar K T C) (move : Move) (answer : Result Drawn Refusal) (new : OwnedBar K T C) → Commanded m view old move answer new
      → (now : ℕ) × LoneLeadsBy m view (lone_of old) (lone_of new) (Obey (command_of_move move)) now answer
  command-leads old (Advance n) answer new made = (made.0, made.1.leads)
  command-leads old (Place place) answer new made = (made.0, made.1.leads)
  command-leads old Finish answer new made = (made.0, made.1.leads)

  -- the run without its headline
  abbrev pub RunFrom : List (Move × Result Drawn Refusal) → OwnedBar K T C → OwnedBar K T C → LoneState (BarRecord K) → Type 0
  RunFrom made old new s =
      (calls : List (LoneCall (Command K) × ℕ)) × (map (λ call. call.0) calls ≡ map (λ x. Obey (command_of_move x.0)) made)
      × (next : LoneState (BarRecord K)) × LoneIsIn (lone_of new) next
      × Runs (lone_bar m) calls (map (λ x. x.1) made) (lone_known view (lone_of old)) s (lone_known view (lone_of new)) next

  run-from : (made : List (Move × Result Drawn Refusal)) (old new : OwnedBar K T C) → MovedAlong (Commanded m view) made old new
      → (s : LoneState (BarRecord K)) → LoneIsIn (lone_of old) s → RunFrom made old new s
  run-from [] old new same s inside =
      ([], refl, s, subst (λ b. LoneIsIn (lone_of b) s) (sym same) inside, (ap (λ b. lone_known view (lone_of b)) same, refl))
  run-from ((move, answer) ∷ made) old new along s inside =
      let step = command-leads old move answer along.0 along.1 in
      let led = step.1 s inside in
      let others = run-from made along.0 new along.2 led.0 led.1 in (
        (Obey (command_of_move move), step.0) ∷ others.0,
        ap (λ xs. Obey (command_of_move move) ∷ xs) others.1,
        others.2,
        others.3,
        (lone_known view (lone_of along.0), led.0, led.2, others.4),
      )

  pub moves-run : (made : List (Move × Result Drawn Refusal)) (old new : OwnedBar K T C) → MovedAlong (Commanded m view) made old new → IsRunOfMoves m view made old new
  moves-run made old new along s inside =
      let r = run-from made old new along s inside in
      (r.0, r.1, r.2, r.3, r.4, headline (lone_bar m) r.0 (map (λ x. x.1) made) (lone_known view (lone_of old)) s (lone_known view (lone_of new)) r.2 r.4)

-- ---- where a bar stands

module _ {K : Type 0} (m : Tracking K) where
  -- a tick leaves it there
  ticked_stands : (bar : BarRecord K) (now : ℕ) → standing_of (tick m bar now).0 ≡ standing_of bar
  ticked_stands bar now = cond_both bar.ticker (bar, No) (ticker_tick m bar now) (λ o. standing_of o.0 ≡ standing_of bar) (λ a. refl) (λ a. refl)

  -- a new position is all that is new
  pub moved_stands : (position : ℕ) (bar : BarRecord K) (now : ℕ) → standing_of (moved_to m position bar now).0 ≡ record (standing_of bar) { position = position }
  moved_stands position bar now =
      let asked = allow_position bar.limiter now in
      let next = record bar { progress = record bar.progress { position = position }; limiter = asked.1 } in
      cond_both asked.0 (tick m next now) (next, No) (λ o. standing_of o.0 ≡ record (standing_of bar) { position = position }) (λ a. ticked_stands next now) (λ a. refl)
