-- What a call changes in a shared bar, alone or on a board, and what can be read from it.
use Rattle.std.specs.Prelude.{◌≡◌, ◌⊎◌, ℕ, IsTrue, IsFalse, false, Option, Some, IfSome, Result, Ok, Err}
use Rattle.indicatif_text.specs.declared.refusal.Refusal.{Refusal}
use Rattle.indicatif_text.specs.declared.refusal.Refusal.TheVariants.{Memory}
use Rattle.indicatif_text.specs.declared.refusal.Drawn.{Drawn}
use Rattle.indicatif_text.specs.declared.refusal.Drawn.TheVariants.{Limited}
use Rattle.indicatif_term.specs.Calls.{TermView}
use Rattle.indicatif_bar.specs.Styles.{BarStyle}
use Rattle.indicatif_bar.specs.Trackers.{Tracking}
use Rattle.indicatif_bar.specs.Commands.{BarRecord, Command, Update, FinishUsingStyle}
use Rattle.indicatif_bar.specs.Progress.{Progress, is_finished}
use Rattle.indicatif_bar.specs.Lone.{LoneState, LoneCall, Obey}
use Rattle.indicatif_bar.specs.LoneBars.{LoneIsIn, LoneLeadsBy, CallDone, record_of, lone_terminal}
use Rattle.indicatif_bar.specs.declared.state.commands.Change.{Change as Changed}
use Rattle.indicatif_bar.specs.declared.lone.LoneBar.{LoneBar}
use Rattle.indicatif_board.specs.Boards.{Drop}
use Rattle.indicatif_board.specs.BarIds.{id_of}
use Rattle.indicatif.specs.Fronts.{CanDraw, CanUpdate, IsMissing}
use Rattle.indicatif_board.specs.LoneLaws.{on_board}
use Rattle.indicatif.specs.Inside.SharedBoards.{SharedDraws}
use Rattle.indicatif.specs.declared.shared.any_bar.AnyBar.{AnyBar}
use Rattle.indicatif.specs.declared.shared.any_bar.AnyBar.TheVariants.{Alone, Member}

-- there is a state that the bar is in
abbrev pub LoneIsSomewhere : {K T : Type 0} → LoneBar K T → Type 0
LoneIsSomewhere {K} b = (s : LoneState (BarRecord K)) × LoneIsIn b s

module _ {K T : Type 0} (m : Tracking K) (view : T → TermView) where
  -- a bar in some state made this call at this moment, with this answer: its record afterwards, and its step
  pub record MadeBy (old new : LoneBar K T) (call : LoneCall (Command K)) (now : ℕ) (answer : Result Drawn Refusal) : Type 0 where
    pub was : LoneIsSomewhere old
    pub done : CallDone m old new call now answer
    pub leads : LoneLeadsBy m view old new call now answer

  -- a bar made this call, with this answer, at some moment of its clock
  abbrev pub Makes : LoneBar K T → LoneBar K T → LoneCall (Command K) → Result Drawn Refusal → Type 0
  Makes old new call answer = (now : ℕ) × MadeBy old new call now answer

module _ {K T C : Type 0} where
  -- a bar after a call with this answer: alone, it made the call; on a board, it stays there, and the board can give this answer
  abbrev pub BarMakes : Tracking K → (T → TermView) → AnyBar K T C → LoneCall (Command K) → Result Drawn Refusal → AnyBar K T C → Type 0
  BarMakes m view (Alone old) call answer new = (bar : LoneBar K T) × (new ≡ Alone bar) × Makes m view old bar call answer
  BarMakes m view (Member member) call answer new = (new ≡ Member member) × SharedDraws K (on_board (id_of member.id) call) answer

  -- a bar after its end, with this answer: alone, a finished one stays as it is
  abbrev pub BarEnds : Tracking K → (T → TermView) → AnyBar K T C → Result Drawn Refusal → AnyBar K T C → Type 0
  BarEnds m view (Alone old) answer new =
      (IsTrue (is_finished (record_of old).progress) → new ≡ Alone old)
      × (IsFalse (is_finished (record_of old).progress) → (bar : LoneBar K T) × (new ≡ Alone bar) × Makes m view old bar (Obey FinishUsingStyle) answer)
  BarEnds m view (Member member) answer new = (new ≡ Member member) × SharedDraws K (Drop (id_of member.id)) answer

  -- what was read from the bar's state: alone, from its own; on a board, from some bar's, if the board has the bar
  abbrev pub ReadsBy : {A : Type 0} → (Progress → A → Type 0) → AnyBar K T C → Option A → Type 0
  ReadsBy {A} R (Alone bar) found = (a : A) × (found ≡ Some a) × R (record_of bar).progress a
  ReadsBy R (Member member) found = IfSome found (λ a. (shown : Progress) × R shown a)

  -- a value read from the bar at some moment; on a board, from some bar
  abbrev pub Measures : {A : Type 0} → (Progress → ℕ → A) → AnyBar K T C → A → Type 0
  Measures measure (Alone bar) found = (now : ℕ) × (found ≡ measure (record_of bar).progress now)
  Measures measure (Member member) found = (p : Progress) × (now : ℕ) × (found ≡ measure p now)

  -- a bar that stands alone has this style
  abbrev pub LooksSo : AnyBar K T C → BarStyle K → Type 0
  LooksSo (Alone bar) style = style ≡ (record_of bar).style
  LooksSo (Member member) style = Unit {0}

  -- a bar that stands alone is not finished
  abbrev pub IsUnfinished : AnyBar K T C → Type 0
  IsUnfinished (Alone bar) = is_finished (record_of bar).progress ≡ false
  IsUnfinished (Member member) = Unit {0}

  -- an update of a bar: alone, its closure was shown the bar's state, and the bar made the change that it returned by `R`; on a board, the bar stays
  -- there, and the answer is one that an update can give
  abbrev pub BarUpdates : Tracking K → (T → TermView) → (Progress → Changed → Type 0) → AnyBar K T C → Result Drawn Refusal → AnyBar K T C → Type 0
  BarUpdates m view R (Alone old) answer new =
      (change : Changed) × R (record_of old).progress change × ((bar : LoneBar K T) × (new ≡ Alone bar) × Makes m view old bar (Obey (Update change.pos change.len)) answer)
  BarUpdates m view R (Member member) answer new = (new ≡ Member member) × CanUpdate K R answer

  -- a board's bar was given another target: it stands alone there, and the others were drawn; or it keeps its place
  abbrev pub BarLeaves : AnyBar K T C → Option T → Result Drawn Refusal → AnyBar K T C → Type 0
  BarLeaves old term answer new =
      ((bar : LoneBar K T) × (new ≡ Alone bar) × (lone_terminal bar ≡ term) × CanDraw answer)
      ⊎ ((e : Refusal) × (answer ≡ Err e) × (new ≡ old) × IsMissing e)

  -- a bar was given another target: alone, it is unchanged, on that target; a board's bar leaves its board for it
  abbrev pub BarTurns : AnyBar K T C → Option T → Result Drawn Refusal → AnyBar K T C → Type 0
  BarTurns (Alone old) term answer new =
      (bar : LoneBar K T) × (new ≡ Alone bar) × (record_of bar ≡ record_of old) × (lone_terminal bar ≡ term) × (answer ≡ Ok Limited)
  BarTurns (Member member) term answer new = BarLeaves (Member member) term answer new

  -- why a text of the bar can't be read: there is no memory for it, or the board hasn't the bar
  abbrev pub IsUntold : AnyBar K T C → Refusal → Type 0
  IsUntold (Alone bar) e = e ≡ Memory
  IsUntold (Member member) e = IsMissing e
