-- What is said of a shared bar is an answer that its call can have; and want of memory is one.
use Rattle.std.proofs.Common.{◌≡◌, ◌⊎◌, ◌||◌, ◌∙◌, ℕ, inl, inr, refl, sym, subst, Option, Some, None, IfSome, List, Result, Ok, Err, MatchResult}
use Rattle.std.specs.Prelude.{◌==◌, ◌≢◌, IsTrue}
use Rattle.std.proofs.lemmas.Bool.{cases_Bool, eqb-true, eq-eqb, false≢true}
use Rattle.indicatif_text.specs.declared.refusal.Refusal.{Refusal}
use Rattle.indicatif_text.specs.declared.refusal.Refusal.TheVariants.{Memory, ForeignBar, NotMember}
use Rattle.indicatif_text.specs.declared.refusal.Drawn.{Drawn}
use Rattle.indicatif_term.specs.Calls.{TermView}
use Rattle.indicatif_bar.specs.Commands.{Command, ForceDraw, Update}
use Rattle.indicatif_bar.specs.Trackers.{Tracking}
use Rattle.indicatif_bar.specs.Lone.{LoneCall, Obey, Log, Clear}
use Rattle.indicatif_bar.specs.LoneBars.{record_of, lone_known}
use Rattle.indicatif_bar.specs.Progress.{Progress, new_progress, eta, per_sec, duration, elapsed}
use Rattle.indicatif_bar.specs.declared.state.commands.Change.{Change as Changed}
use Rattle.indicatif_bar.specs.declared.lone.LoneBar.{LoneBar}
use Rattle.indicatif_board.specs.Boards.{Id, Tell}
use Rattle.indicatif_board.specs.BarIds.{id_of}
use Rattle.indicatif.specs.Fronts.{of_no_draw, of_a_draw, has_no_bar, CanAnswer, CanClear, CanDraw, CanMove, CanTurn, CanUpdate, IsMissing}
use Rattle.indicatif.specs.Inside.AnyBar.{MadeBy, BarMakes, BarTurns, BarUpdates, IsUntold}
use Rattle.indicatif.specs.Inside.SharedBoards.{SharedDraws}
use Rattle.indicatif.specs.Inside.Requests.{MatchTried, IfMade, BarRedraws, BarMovesTo}
use Rattle.indicatif.proofs.AnswerLemmas.{or-left, or-right, anywhere, clear_is_draw, made_alone, redrawn_alone, seated}
use Rattle.indicatif.specs.declared.shared.any_bar.AnyBar.{AnyBar}
use Rattle.indicatif.specs.declared.shared.any_bar.AnyBar.TheVariants.{Alone, Member}
use Rattle.indicatif.specs.declared.shared.request.Tried.{Tried}
use Rattle.indicatif.specs.declared.shared.request.Tried.TheVariants.{Made, ComeAgain}

module _ {K T : Type 0} (m : Tracking K) (view : T → TermView) where
  -- what a bar answered that made a call or was suspended: its call can have that answer
  module _ (old new : LoneBar K T) (now : ℕ) (answer : Result Drawn Refusal) where
    pub made_answers : (call : LoneCall (Command K)) → MadeBy m view old new call now answer → CanAnswer K call answer
    made_answers call made = let led = made.leads made.was.0 made.was.1 in
        anywhere call answer (made_alone m (lone_known view old) (lone_known view new) made.was.0 led.0 call now answer led.2)

    pub cleared_answers : MadeBy m view old new Clear now answer → CanClear answer
    cleared_answers made = let led = made.leads made.was.0 made.was.1 in
        made_alone m (lone_known view old) (lone_known view new) made.was.0 led.0 Clear now answer led.2

    pub redrawn_answers : MadeBy m view old new (Obey ForceDraw) now answer → CanDraw answer
    redrawn_answers made = let led = made.leads made.was.0 made.was.1 in
        redrawn_alone m (lone_known view old) (lone_known view new) made.was.0 led.0 now answer led.2

pub place_answers : {K T C : Type 0} (m : Tracking K) (view : T → TermView) (old new : AnyBar K T C) (call : LoneCall (Command K)) (answer : Result Drawn Refusal) →
    BarMakes m view old call answer new → CanAnswer K call answer
place_answers m view (Alone old) new call answer made = made_answers m view old made.0 made.2.0 answer call made.2.1
place_answers m view (Member member) new call answer made = seated (id_of member.id) call answer made.1

-- ---- requests, which are made or handed back

-- what holds of what became of one, if each part of it follows
pub tried_as : {A Q : Type 0} {P P' : A → Type 0} {B B' : Q → Type 0} (tried : Tried A Q) → ((a : A) → P a → P' a) → ((q : Q) → B q → B' q) → MatchTried tried P B → MatchTried tried P' B'
tried_as (Made answer) made back holds = made answer holds
tried_as (ComeAgain again) made back holds = back again holds

-- the same of an answer alone
pub made_as : {A Q : Type 0} {P P' : A → Type 0} (tried : Tried A Q) → ((a : A) → P a → P' a) → IfMade tried P → IfMade tried P'
made_as (Made answer) made holds = made answer holds
made_as (ComeAgain again) made holds = tt

-- the same of an answer alone, and of one that says nothing where it is handed back
pub made_or : {A Q : Type 0} {P P' : A → Type 0} {B : Q → Type 0} (tried : Tried A Q) → ((a : A) → P a → P' a) → ((q : Q) → B q) → IfMade tried P → MatchTried tried P' B
made_or (Made answer) made back holds = made answer holds
made_or (ComeAgain again) made back holds = back again

pub place_redraws : {K T C : Type 0} (m : Tracking K) (view : T → TermView) (old new : AnyBar K T C) (answer : Result Drawn Refusal) →
    BarRedraws m view old answer new → CanDraw answer
place_redraws m view (Alone old) new answer made = redrawn_answers m view old made.0 made.2.0 answer made.2.1
place_redraws m view (Member member) new answer made = made.1

-- what the end of a pause answers, by what its clear answered
pub resumed_draws : {K T C : Type 0} (m : Tracking K) (view : T → TermView) (old new : AnyBar K T C) (cleared answer : Result Drawn Refusal) → CanClear cleared →
    MatchResult cleared (λ _. BarRedraws m view old answer new) (λ e. (answer ≡ Err e) × (new ≡ old)) → CanDraw answer
resumed_draws m view old new (Ok drawn) answer can made = place_redraws m view old new answer made
resumed_draws m view old new (Err e) answer can made = subst CanDraw (sym made.0) (clear_is_draw (Err e) can)

can_stay : (e : Refusal) → IsMissing e → CanTurn (Err e)
unfolding CanTurn
can_stay e (inl memory) = rw memory refl
can_stay e (inr (inl foreign)) = rw foreign refl
can_stay e (inr (inr gone)) = rw gone refl

pub place_turns : {K T C : Type 0} (old new : AnyBar K T C) (term : Option T) (answer : Result Drawn Refusal) →
    BarTurns old term answer new → CanTurn answer
unfolding CanTurn
place_turns (Alone old) new term answer made = rw made.4 refl
place_turns (Member member) new term answer (inl made) = or-right (of_no_draw answer) (of_a_draw answer || has_no_bar answer) (or-left (of_a_draw answer) (has_no_bar answer) made.3)
place_turns (Member member) new term answer (inr made) = subst CanTurn (sym made.1) (can_stay made.0 made.3)

missing_moves : (e : Refusal) → IsMissing e → CanMove (Err e)
unfolding CanMove
missing_moves e (inl memory) = rw memory refl
missing_moves e (inr (inl foreign)) = rw foreign refl
missing_moves e (inr (inr gone)) = rw gone refl

pub place_moves : {K T C : Type 0} (m : Tracking K) (view : T → TermView) (old new : AnyBar K T C) (term : Option T) (answer : Result Drawn Refusal) →
    BarMovesTo m view old term answer new → CanMove answer
unfolding CanMove
place_moves m view (Alone old) new term answer made =
    or-left (of_a_draw answer) (has_no_bar answer) (clear_is_draw answer (cleared_answers m view old made.0 made.3.0 answer made.3.1))
place_moves m view (Member member) new term answer (inl made) = or-left (of_a_draw answer) (has_no_bar answer) made.3
place_moves m view (Member member) new term answer (inr made) = subst CanMove (sym made.1) (missing_moves made.0 made.3)

pub place_untold : {K T C : Type 0} (place : AnyBar K T C) (e : Refusal) → IsUntold place e → IsMissing e
place_untold (Alone bar) e untold = inl untold
place_untold (Member member) e untold = untold

-- memory is one of the reasons
pub memory_missing : IsMissing Memory
memory_missing = inl refl

-- what was found of a bar on a board, if it is there
pub seat_reads : {X A : Type 0} (R : Progress → A → Type 0) (state : X → Progress) (bar : Result X Refusal) (found : Option A) →
    MatchResult bar (λ b. (a : A) × (found ≡ Some a) × R (state b) a) (λ e. found ≡ None) → IfSome found (λ a. (shown : Progress) × R shown a)
seat_reads R state (Ok b) found made = subst (λ x. IfSome x (λ a. (shown : Progress) × R shown a)) (sym made.1) (state b, made.2)
seat_reads R state (Err e) found none = subst (λ x. IfSome x (λ a. (shown : Progress) × R shown a)) (sym none) tt

-- the measures of a bar without a length that has just begun are what is told where the board hasn't the bar
pub no_eta : (p : Progress) × (now : ℕ) × (0 ≡ eta p now)
no_eta = (new_progress None 0, 0, refl)

pub no_rate : (p : Progress) × (now : ℕ) × (record { steps = 0; nanos = 1 } ≡ per_sec p now)
no_rate = (new_progress None 0, 0, refl)

pub no_duration : (p : Progress) × (now : ℕ) × (0 ≡ duration p now)
no_duration = (new_progress None 0, 0, refl)

pub no_elapsed : (p : Progress) × (now : ℕ) × (0 ≡ elapsed p now)
no_elapsed = (new_progress None 0, 0, refl)

-- what an update can answer, wherever the bar stands
pub update_answers : {K T C : Type 0} (m : Tracking K) (view : T → TermView) (R : Progress → Changed → Type 0) (old new : AnyBar K T C) (answer : Result Drawn Refusal) →
    BarUpdates m view R old answer new → CanUpdate K R answer
update_answers m view R (Alone old) new answer made =
    inl ((record_of old).progress, made.0, made.1, place_answers m view (Alone old) new (Obey (Update made.0.pos made.0.len)) answer made.2)
update_answers m view R (Member member) new answer made = made.1

-- why a board doesn't lend a bar: it hasn't that
isnt_there : {X : Type 0} (P : X → Type 0) (N : Type 0) (mark own : ℕ) (bar : Result X Refusal) (e : Refusal) → (mark ≢ own → bar ≡ Err ForeignBar) →
    (mark ≡ own → MatchResult bar P (λ refusal. (refusal ≡ NotMember) × N)) → bar ≡ Err e → IsTrue (has_no_bar (Err e))
isnt_there P N mark own bar e foreign gone is = elim (cases_Bool (mark == own)) [
  | inl same ↦ let missing : (e ≡ NotMember) × N = subst (λ b. MatchResult b P (λ refusal. (refusal ≡ NotMember) × N)) is (gone (eqb-true mark own same)) in rw missing.0 refl
  | inr apart ↦
      let other = sym is ∙ foreign (λ same. false≢true (sym apart ∙ eq-eqb mark own same)) in
      let refused : e ≡ ForeignBar = cc other in
      rw refused refl
]

-- what a board can answer that told a bar what a closure gave of its state
pub updated_answers : (K : Type 0) {X : Type 0} (P : X → Type 0) (N : Type 0) (R : Progress → Changed → Type 0) (id : Id) (own : ℕ) (bar : Result X Refusal) (change : Result Changed Refusal)
    (answer : Result Drawn Refusal) → (id.mark ≢ own → bar ≡ Err ForeignBar) → (id.mark ≡ own → MatchResult bar P (λ refusal. (refusal ≡ NotMember) × N)) →
    MatchResult change (λ asked. (shown : Progress) × R shown asked) (λ e. bar ≡ Err e) →
    MatchResult change (λ asked. SharedDraws K (Tell id (Update asked.pos asked.len)) answer) (λ e. answer ≡ Err e) → CanUpdate K R answer
updated_answers K P N R id own bar (Ok asked) answer foreign gone given said =
    inl (given.0, asked, given.1, seated id (Obey (Update asked.pos asked.len)) answer said)
updated_answers K P N R id own bar (Err e) answer foreign gone given said =
    inr (subst (λ a. IsTrue (has_no_bar a)) (sym said) (isnt_there P N id.mark own bar e foreign gone given))

-- ---- lines that are written elsewhere where bars are hidden: the log's answer, or one that a draw can have

pub line_drawn : (drawn answer : Result Drawn Refusal) → CanDraw drawn → (answer ≡ drawn) ⊎ CanDraw answer → CanDraw answer
line_drawn drawn answer can (inl same) = subst CanDraw (sym same) can
line_drawn drawn answer can (inr other) = other

pub line_answers : (K : Type 0) (text : List ℕ) (drawn answer : Result Drawn Refusal) → CanAnswer K (Log text) drawn → (answer ≡ drawn) ⊎ CanDraw answer →
    CanAnswer K (Log text) answer
unfolding CanAnswer
line_answers K text drawn answer can (inl same) = subst (CanAnswer K (Log text)) (sym same) can
line_answers K text drawn answer can (inr other) = or-left (of_a_draw answer) (has_no_bar answer) other
