-- What happens to a request of a shared bar: it is made, or it is handed back and nothing is done.
use Rattle.std.specs.Prelude.{◌≡◌, Option, Result, ⊤}
use Rattle.indicatif_text.specs.declared.refusal.Refusal.{Refusal}
use Rattle.indicatif_text.specs.declared.refusal.Drawn.{Drawn}
use Rattle.indicatif_term.specs.Calls.{TermView}
use Rattle.indicatif_bar.specs.Trackers.{Tracking}
use Rattle.indicatif_bar.specs.Commands.{Command, ForceDraw}
use Rattle.indicatif_bar.specs.Lone.{LoneCall, Obey, Clear}
use Rattle.indicatif_bar.specs.LoneBars.{record_of, lone_terminal}
use Rattle.indicatif_bar.specs.declared.lone.LoneBar.{LoneBar}
use Rattle.indicatif.specs.Fronts.{CanDraw, IsMissing}
use Rattle.indicatif.specs.Inside.AnyBar.{BarMakes, BarLeaves, Makes}
use Rattle.indicatif.specs.declared.shared.any_bar.AnyBar.{AnyBar}
use Rattle.indicatif.specs.declared.shared.any_bar.AnyBar.TheVariants.{Alone, Member}
use Rattle.indicatif.specs.declared.shared.locked_bar.Halt.{Halt}
use Rattle.indicatif.specs.declared.shared.locked_bar.Halt.TheVariants as halt
use Rattle.indicatif.specs.declared.shared.member_bar.Leaving.{Leaving}
use Rattle.indicatif.specs.declared.shared.member_bar.Leaving.TheVariants.{Left, Stays, Later}
use Rattle.indicatif.specs.declared.shared.request.Tried.{Tried}
use Rattle.indicatif.specs.declared.shared.request.Tried.TheVariants.{Made, ComeAgain}

-- the request was made, and the first holds of its answer; or it was handed back, and the second holds of it
abbrev pub MatchTried : {A Q : Type 0} → Tried A Q → (A → Type 0) → (Q → Type 0) → Type 0
MatchTried (Made answer) made back = made answer
MatchTried (ComeAgain again) made back = back again

-- if the request was made, this holds of its answer
abbrev pub IfMade : {A Q : Type 0} → Tried A Q → (A → Type 0) → Type 0
IfMade (Made answer) made = made answer
IfMade (ComeAgain again) made = ⊤

-- a bar that was to leave its board: what the draw of the others can answer, and why the bar can't leave
abbrev pub LeavesSo : {K : Type 0} → Leaving K → Type 0
LeavesSo (Left bar drawn) = CanDraw drawn
LeavesSo (Stays e) = IsMissing e
LeavesSo Later = ⊤

module _ {K T C : Type 0} (m : Tracking K) (view : T → TermView) where
  -- a call of a bar was made, or handed back
  abbrev pub BarTries : {Q : Type 0} → AnyBar K T C → LoneCall (Command K) → Tried (Result Drawn Refusal) Q → Q → AnyBar K T C → Type 0
  BarTries old call tried asked new = MatchTried tried (λ answer. BarMakes m view old call answer new) (λ again. (again ≡ asked) × (new ≡ old))

  -- the pause of a bar that stands alone begins with a clear; otherwise nothing is done
  abbrev pub BarHalts : AnyBar K T C → Halt K T C → AnyBar K T C → Type 0
  BarHalts old (halt.Alone pause) new = BarMakes m view old Clear pause.cleared new
  BarHalts old (halt.OnBoard now board) new = new ≡ old
  BarHalts old halt.NoMemory new = new ≡ old

  -- a bar, or all bars of its board, were drawn by a forced draw
  abbrev pub BarRedraws : AnyBar K T C → Result Drawn Refusal → AnyBar K T C → Type 0
  BarRedraws (Alone old) answer new = (bar : LoneBar K T) × (new ≡ Alone bar) × Makes m view old bar (Obey ForceDraw) answer
  BarRedraws (Member member) answer new = (new ≡ Member member) × CanDraw answer

  -- a bar was cleared and given another target: alone, it is unchanged, on that target; a board's bar leaves its board for it
  abbrev pub BarMovesTo : AnyBar K T C → Option T → Result Drawn Refusal → AnyBar K T C → Type 0
  BarMovesTo (Alone old) term answer new =
      (between : LoneBar K T) × (bar : LoneBar K T) × (new ≡ Alone bar) × Makes m view old between Clear answer × (record_of bar ≡ record_of between) × (lone_terminal bar ≡ term)
  BarMovesTo (Member member) term answer new = BarLeaves (Member member) term answer new
