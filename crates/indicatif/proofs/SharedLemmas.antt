-- What is said of a board under a lock: a call leads from some state to some state, and its answer is one that a board can give.
use Rattle.std.proofs.Common.{◌≡◌, ◌∙◌, ℕ, ◌⊎◌, List, inl, inr, refl, sym, subst, ap, Option, Some, None, Result, Ok, Err, IfOk, IfErr, IfSome, IfNone, MatchResult}
use Rattle.std.specs.Prelude.{string_bytes}
use Rattle.indicatif_text.specs.declared.refusal.Refusal.{Refusal}
use Rattle.indicatif_text.specs.declared.refusal.Refusal.TheVariants.{Memory}
use Rattle.indicatif_text.specs.declared.refusal.Drawn.{Drawn}
use Rattle.indicatif_term.specs.Calls.{TermView}
use Rattle.indicatif_bar.specs.Trackers.{Tracking}
use Rattle.indicatif_bar.specs.Commands.{BarRecord}
use Rattle.indicatif_board.specs.Boards.{Id, Remove, Answer, Accepted, Refused, says, drawn_of, drawn_of_said}
use Rattle.indicatif_board.specs.Calls.{answer_of, removal}
use Rattle.indicatif_board.specs.declared.calls.Answer.{Answer as AnswerValue}
use Rattle.indicatif_board.specs.declared.calls.Answer.TheVariants as answer
use Rattle.indicatif_board.specs.Multi.{IsIn, LeadsBy, known, mark_of}
use Rattle.indicatif_board.specs.Receipts.{Holds}
use Rattle.indicatif_board.specs.Recorded.{Record, IsOneRun, AddsCall}
use Rattle.indicatif_board.specs.declared.receipts.Receipt.{Receipt}
use Rattle.indicatif_board.specs.declared.multi.Board.{Board}
use Rattle.indicatif.specs.Receipts.{IsReceipt}
use Rattle.indicatif.specs.Inside.AnyBoard.{BoardDraws, BoardRemoves, refused_with}
use Rattle.indicatif.specs.declared.shared.any_board.AnyBoard.{AnyBoard}
use Rattle.indicatif.specs.declared.shared.any_board.AnyBoard.TheVariants as kind
use Rattle.indicatif.specs.Inside.SharedBoards.{SharedCall, SharedState, SharedAnswers, SharedDraws}
use Rattle.indicatif.proofs.AnswerLemmas.{made_on_board, no_memory}

module _ {K T : Type 0} (m : Tracking K) (view : T → TermView) where
  -- a board that is in some state answered so, and a board can
  pub can_answer : (old new : Board K T) (call : SharedCall K) (now : ℕ) (answer : Answer) (mark : ℕ) (s : SharedState K) →
      IsIn mark old s → LeadsBy m view old new call now answer → SharedAnswers K call answer
  can_answer old new call now answer mark s is led = let made = led mark s is in made_on_board m mark (known view old) (known view new) call now s answer made.0 made.2

  -- what a call that draws made of a board without a history, and what it answered
  pub open_made : (old new : Board K T) (call : SharedCall K) (now : ℕ) (drawn : Result Drawn Refusal) →
      LeadsBy m view old new call now (says drawn) → BoardDraws m view (kind.Open old) call now drawn (kind.Open new)
  open_made old new call now drawn led = (says drawn, sym (drawn_of_said drawn), (new, refl, led))

  pub open_can : (old new : Board K T) (call : SharedCall K) (now : ℕ) (drawn : Result Drawn Refusal) →
      (s : SharedState K) × IsIn (mark_of old) old s → LeadsBy m view old new call now (says drawn) → SharedDraws K call drawn
  open_can old new call now drawn some led =
      subst (SharedDraws K call) (drawn_of_said drawn) (can_answer old new call now (says drawn) (mark_of old) some.0 some.1 led)

  -- the same of a board with its history
  pub record_answers : (old new : Record K T) (call : SharedCall K) (now : ℕ) (answer : Answer) →
      IsOneRun m old → AddsCall m view old call now answer new ⊎ ((new ≡ old) × (answer ≡ Refused Memory)) → SharedAnswers K call answer
  record_answers old new call now answer run (inl grows) = can_answer old.board new.board call now answer old.mark run.2.state run.2.holds grows.leads
  record_answers old new call now answer run (inr same) = subst (SharedAnswers K call) (sym same.1) (no_memory call)

  -- what a history says of its growth, of the answer as its definition
  pub grows_so : (old new : Record K T) (call : SharedCall K) (now : ℕ) (told : AnswerValue) →
      AddsCall m view old call now (answer_of told) new ⊎ ((new ≡ old) × (told ≡ answer.Refused Memory)) →
      AddsCall m view old call now (answer_of told) new ⊎ ((new ≡ old) × (answer_of told ≡ Refused Memory))
  grows_so old new call now told (inl grows) = inl grows
  grows_so old new call now told (inr same) = inr (same.0, ap answer_of same.1)

  -- the same by whether there is a receipt
  pub by_receipt : {X : Type 0} (old new : Record K T) (call : SharedCall K) (now : ℕ) (told : AnswerValue) (receipt : Option X) →
      IfSome receipt (λ _. AddsCall m view old call now (answer_of told) new) → IfNone receipt ((new ≡ old) × (told ≡ answer.Refused Memory)) →
      AddsCall m view old call now (answer_of told) new ⊎ ((new ≡ old) × (answer_of told ≡ Refused Memory))
  by_receipt old new call now told (Some x) made none = inl made
  by_receipt old new call now told None made none = inr (none.0, ap answer_of none.1)

  -- a receipt of an entry that is this one
  pub handed_out : (text : List ℕ) (drawn : Result Drawn Refusal) (new : Record K T) (entry : Receipt) (receipt : Option Receipt) → IfSome receipt (λ r. r ≡ entry) → IfSome receipt (Holds new) →
      IsOneRun m new → string_bytes entry.text ≡ text → drawn ≡ drawn_of (answer_of entry.answer) → IfSome receipt (IsReceipt T m text drawn)
  handed_out text drawn new entry (Some r) is held run of_text said =
      (ap (λ x. string_bytes x.text) is ∙ of_text, ap (λ x. drawn_of (answer_of x.answer)) is ∙ sym said, new, run, held)
  handed_out text drawn new entry None is held run of_text said = tt

  -- a removal that was refused
  pub refused_so : (id : Id) (r : Result (Option (BarRecord K)) Refusal) → SharedAnswers K (Remove id) (removal r) → IfErr r (λ e. SharedAnswers K (Remove id) (Refused e))
  refused_so id (Ok bar) can = tt
  refused_so id (Err e) can = can

  -- the same of what a history answered
  pub refused_as : (id : Id) (r : Result (Option (BarRecord K)) Refusal) (told : AnswerValue) →
      MatchResult r (λ bar. refused_with (answer_of told) ≡ None) (λ e. told ≡ answer.Refused e) → SharedAnswers K (Remove id) (answer_of told) →
      IfErr r (λ e. SharedAnswers K (Remove id) (Refused e))
  refused_as id (Ok bar) told is can = tt
  refused_as id (Err e) told is can = subst (λ t. SharedAnswers K (Remove id) (answer_of t)) is can

  -- what a removal made of a board, and of one with its history, by whether it was refused
  pub removed_open : (old new : Board K T) (id : Id) (now : ℕ) (r : Result (Option (BarRecord K)) Refusal) →
      LeadsBy m view old new (Remove id) now (removal r) →
      MatchResult r (λ bar. BoardRemoves m view (kind.Open old) id now None (kind.Open new)) (λ e. BoardRemoves m view (kind.Open old) id now (Some e) (kind.Open new))
  removed_open old new id now (Ok bar) led = (Accepted, refl, (new, refl, led))
  removed_open old new id now (Err e) led = (Refused e, refl, (new, refl, led))

  pub removed_recorded : (old new : Record K T) (id : Id) (now : ℕ) (r : Result (Option (BarRecord K)) Refusal) (told : AnswerValue) →
      MatchResult r (λ bar. refused_with (answer_of told) ≡ None) (λ e. told ≡ answer.Refused e) →
      AddsCall m view old (Remove id) now (answer_of told) new ⊎ ((new ≡ old) × (answer_of told ≡ Refused Memory)) →
      MatchResult r (λ bar. BoardRemoves m view (kind.Recorded old) id now None (kind.Recorded new)) (λ e. BoardRemoves m view (kind.Recorded old) id now (Some e) (kind.Recorded new))
  removed_recorded old new id now (Ok bar) told is grows = (answer_of told, sym is, (new, refl, grows))
  removed_recorded old new id now (Err e) told is grows = (answer_of told, sym (ap (λ t. refused_with (answer_of t)) is), (new, refl, grows))

module _ {K T X : Type 0} (m : Tracking K) (view : T → TermView) (call_of : X → SharedCall K) (call : SharedCall K) (now : ℕ) where
  -- what a board with its history made of a call for which there was memory, or none
  pub kept_makes : (old : AnyBoard K T) (r : Record K T) (new : AnyBoard K T) (drawn : Result Drawn Refusal) (kept : Result X Refusal) → old ≡ kind.Recorded r →
      IfOk kept (λ x. call_of x ≡ call) → IfOk kept (λ x. BoardDraws m view old (call_of x) now drawn new) → IfErr kept (λ e. (drawn ≡ Err Memory) × (new ≡ old)) →
      BoardDraws m view old call now drawn new
  kept_makes old r new drawn (Ok x) is same made short = subst (λ c. BoardDraws m view old c now drawn new) same made
  kept_makes old r new drawn (Err e) is same made short = rw (short.0, short.1, is) (Refused Memory, refl, (r, refl, inr (refl, refl)))

  -- and what it answered
  pub kept_answers : (old new : AnyBoard K T) (drawn : Result Drawn Refusal) (kept : Result X Refusal) → IfOk kept (λ x. call_of x ≡ call) → IfOk kept (λ x. SharedDraws K (call_of x) drawn) →
      IfErr kept (λ e. (drawn ≡ Err Memory) × (new ≡ old)) → SharedDraws K call drawn
  kept_answers old new drawn (Ok x) same can short = subst (λ c. SharedDraws K c drawn) same can
  kept_answers old new drawn (Err e) same can short = subst (SharedDraws K call) (sym short.0) (no_memory call)
