-- What a run makes of the records, and how it answers calls that name other boards' bars: one call more.
use Rattle.std.proofs.Common.{◌≡◌, ℕ, ◌+◌, ◌<◌, Bool, true, false, List, [], ◌∷◌, ◌++◌, refl, sym, ◌∙◌, ap, subst, arith, Option, Some, None, inl, inr, ◌⊎◌}
use Rattle.std.specs.Prelude.{◌==◌, ◌&&◌, ◌||◌}
use Rattle.std.specs.List.{list_any}
use Rattle.std.proofs.lemmas.Bool.{cases_Bool, cases_lt, eqb-true, eq-eqb, false≢true}
use Rattle.indicatif_text.specs.declared.refusal.Refusal.TheVariants.{ForeignBar}
use Rattle.indicatif_bar.specs.Trackers.{Tracking}
use Rattle.indicatif_bar.specs.Commands.{BarRecord, Command}
use Rattle.indicatif_bar.proofs.LoneRunLemmas.{any-push}
use Rattle.indicatif_board.specs.Boards.{Id, Location, Entrant, New, Old, Call, Insert, Remove, Drop, Log, BarLog, Clear, Redraw, Align, Tell, Answer, Given, Accepted, Drew, Refused}
use Rattle.indicatif_board.specs.Calls.{NamesForeign, AreTurnedAway, answer_of, is_bar, acts_on, gives}
use Rattle.indicatif_board.specs.Multi.{record_at, mark_of, seat_in, slots_of, NamedGoes, RecordsTake, RecordsChange, SlotsTake, SlotsLeft, SlotsChange, StaysInSlot, StaysOrComes}
use Rattle.indicatif_board.specs.Slots.{SlotTable, IsSeated, LeavesHead, LeavesFrom, seated, slot_of}
use Rattle.indicatif_board.proofs.LeavingLemmas.{slot_behind_head, slot_beside_gone, slot_around_new}
use Rattle.indicatif_board.proofs.SeatLemmas.{without_slot}
use Rattle.indicatif_board.specs.declared.calls.Answer.{Answer as AnswerValue}
use Rattle.indicatif_board.specs.declared.multi.Board.{Board}

-- one answer more
pub turned_more : {K : Type 0} (mark : ℕ) (calls : List (Call (BarRecord K) (Command K) × ℕ)) (answers : List Answer) (call : Call (BarRecord K) (Command K) × ℕ) (answer : Answer) →
    AreTurnedAway mark calls answers → (NamesForeign mark call.0 → answer ≡ Refused ForeignBar) → AreTurnedAway mark (calls ++ call ∷ []) (answers ++ answer ∷ [])
turned_more mark [] [] call answer all this = (this, tt)
turned_more mark (c ∷ calls) (a ∷ answers) call answer all this = (all.0, turned_more mark calls answers call answer all.1 this)
turned_more mark [] (a ∷ answers) call answer all this = absurd all
turned_more mark (c ∷ calls) [] call answer all this = absurd all

or_last : (x : Bool) → (x || true) ≡ true
or_last true = refl
or_last false = refl

module _ {K T : Type 0} (number : ℕ) (answer : Answer) (old new : Board K T) where
  -- what one call makes of the record of a number that it doesn't act on
  abbrev Keeps : Type 0
  Keeps = (record_at number new ≡ record_at number old) ⊎ ((record_at number old ≡ None) × (gives number answer ≡ true))

  named_keeps : (id : Id) (goes : Type 0) → NamedGoes id goes old new → is_bar (mark_of old) number id ≡ false → Keeps
  named_keeps id goes named apart = elim (cases_Bool (id.mark == mark_of old)) [
    | inl own ↦
        let other : (id.number == number) ≡ false = sym (ap (λ b. b && id.number == number) own) ∙ apart in
        inl (named.2 number (λ e. false≢true (sym other ∙ eq-eqb id.number number (sym e))))
    | inr foreign ↦ inl (named.1 (λ e. false≢true (sym foreign ∙ eq-eqb id.mark (mark_of old) e)) number)
  ]

taken_keeps : {K T : Type 0} (number : ℕ) (entrant : Entrant (BarRecord K)) (answer : Answer) (old new : Board K T) → RecordsTake entrant answer old new → Keeps number answer old new
taken_keeps number (New bar) (Given id) old new took = elim (cases_Bool (id.number == number)) [
  | inl here ↦ inr (subst (λ n. record_at n old ≡ None) (eqb-true id.number number here) took.1, here)
  | inr apart ↦ inl (took.3 number (λ e. false≢true (sym apart ∙ eq-eqb id.number number (sym e))))
]
taken_keeps number (New bar) Accepted old new took = inl (took number)
taken_keeps number (New bar) (Drew drawn) old new took = inl (took number)
taken_keeps number (New bar) (Refused e) old new took = inl (took number)
taken_keeps number (Old id) answer old new took = inl (took number)

call_keeps : {K T : Type 0} (m : Tracking K) (number : ℕ) (call : Call (BarRecord K) (Command K)) (now : ℕ) (answer : Answer) (old new : Board K T) →
    RecordsChange m call now answer old new → acts_on (mark_of old) number call ≡ false → Keeps number answer old new
call_keeps m number (Insert at entrant) now answer old new went apart = taken_keeps number entrant answer old new went
call_keeps m number (Remove id) now answer old new went apart = named_keeps number answer old new id _ went apart
call_keeps m number (Drop id) now answer old new went apart = named_keeps number answer old new id _ went apart
call_keeps m number (Tell id command) now answer old new went apart = named_keeps number answer old new id _ went apart
call_keeps m number (Log text) now answer old new went apart = inl (went number)
call_keeps m number (BarLog id text) now answer old new went apart = inl (went number)
call_keeps m number Clear now answer old new went apart = inl (went number)
call_keeps m number Redraw now answer old new went apart = inl (went number)
call_keeps m number (Align bottom) now answer old new went apart = inl (went number)

module _ {K T : Type 0} (number : ℕ) (answers : List AnswerValue) (answer : AnswerValue) (a b c : Board K T) where
  kept_more : StaysOrComes number answers a b → Keeps number (answer_of answer) b c → StaysOrComes number (answers ++ answer ∷ []) a c
  kept_more (inl same) (inl stays) = inl (stays ∙ same)
  kept_more (inl same) (inr came) =
      let given = λ (x : AnswerValue). gives number (answer_of x) in
      inr (sym same ∙ came.0, any-push given answers answer ∙ ap (λ y. list_any given answers || y) came.1 ∙ or_last (list_any given answers))
  kept_more (inr came) next =
      let given = λ (x : AnswerValue). gives number (answer_of x) in
      inr (came.0, any-push given answers answer ∙ ap (λ y. y || given answer) came.1)

-- one call more that doesn't act on a bar
pub records_more : {K T : Type 0} (m : Tracking K) (number : ℕ) (answers : List AnswerValue) (call : Call (BarRecord K) (Command K)) (now : ℕ) (answer : AnswerValue) (a b c : Board K T) →
    StaysOrComes number answers a b → RecordsChange m call now (answer_of answer) b c → acts_on (mark_of b) number call ≡ false → StaysOrComes number (answers ++ answer ∷ []) a c
records_more m number answers call now answer a b c kept went apart = kept_more number answers answer a b c kept (call_keeps m number call now (answer_of answer) b c went apart)

-- ---- slots

-- a bar that has a slot was taken in
pub made_before : (t : SlotTable) (number slot : ℕ) → IsSeated t → slot_of number t ≡ Some slot → number < t.made
made_before t number slot seats some = elim (cases_lt number t.made) [
  | inl before ↦ before
  | inr after ↦ absurd (cc (sym (without_slot number t.order t.slots (seats.given number after)) ∙ some))
]

-- one call more: what has a slot then had it before, and was taken in
abbrev KeepsOne : ℕ → SlotTable → SlotTable → Type 0
KeepsOne number t t' = ((slot : ℕ) → slot_of number t' ≡ Some slot → slot_of number t ≡ Some slot) × (number < t'.made)

same_one : (number : ℕ) (t t' : SlotTable) → number < t.made → t' ≡ t → KeepsOne number t t'
same_one number t t' made e = subst (KeepsOne number t) (sym e) (λ slot some. some, made)

head_one : (number : ℕ) (t t' : SlotTable) → IsSeated t → number < t.made → LeavesHead t t' → KeepsOne number t t'
head_one number t t' seats made left = subst (KeepsOne number t) (sym left.1) (λ slot some. slot_behind_head t left.0 number slot seats some, made)

from_one : (number : ℕ) (t t' : SlotTable) → IsSeated t → number < t.made → LeavesFrom t t' → KeepsOne number t t'
from_one number t t' seats made left = subst (KeepsOne number t) (sym left.1) (λ slot some. slot_beside_gone t left.0 number slot seats some, made)

new_one : (number at : ℕ) (t t' : SlotTable) → IsSeated t → number < t.made → t' ≡ seated at t → KeepsOne number t t'
new_one number at t t' seats made e =
    let later : number < t.made + 1 = omega (arith, made) in
    subst (KeepsOne number t) (sym e) (λ slot some. sym (slot_around_new t at number seats (λ same. omega (arith, same, made))) ∙ some, later)

module _ {K T : Type 0} (b c : Board K T) (number : ℕ) (seats : IsSeated (slots_of b)) (made : number < (slots_of b).made) where
  taken_one : (at : Location) (entrant : Entrant (BarRecord K)) (answer : Answer) → SlotsTake at entrant answer b c → KeepsOne number (slots_of b) (slots_of c)
  taken_one at (New bar) (Given id) took = new_one number (seat_in at (slots_of b).order) (slots_of b) (slots_of c) seats made took.1
  taken_one at (New bar) Accepted took = same_one number (slots_of b) (slots_of c) made took
  taken_one at (New bar) (Drew drawn) took = same_one number (slots_of b) (slots_of c) made took
  taken_one at (New bar) (Refused e) took = same_one number (slots_of b) (slots_of c) made took
  taken_one at (Old id) answer took = same_one number (slots_of b) (slots_of c) made took

  out_one : (slots_of c ≡ slots_of b) ⊎ LeavesFrom (slots_of b) (slots_of c) → KeepsOne number (slots_of b) (slots_of c)
  out_one (inl same) = same_one number (slots_of b) (slots_of c) made same
  out_one (inr left) = from_one number (slots_of b) (slots_of c) seats made left

  left_one : SlotsLeft b c → KeepsOne number (slots_of b) (slots_of c)
  left_one left = head_one number (slots_of b) (slots_of c) seats made left

  call_one : (call : Call (BarRecord K) (Command K)) (answer : Answer) → SlotsChange call answer b c → KeepsOne number (slots_of b) (slots_of c)
  call_one (Insert at entrant) answer went = taken_one at entrant answer went
  call_one (Remove id) answer went = out_one went
  call_one (Drop id) answer went = left_one went
  call_one (Log text) answer went = left_one went.0
  call_one (BarLog id text) answer went = left_one went.0
  call_one Clear answer went = left_one went.0
  call_one Redraw answer went = left_one went.0
  call_one (Align bottom) answer went = same_one number (slots_of b) (slots_of c) made went
  call_one (Tell id command) answer went = left_one went.0

kept_or_none : (o o' : Option ℕ) (slot : ℕ) → ((s : ℕ) → o' ≡ Some s → o ≡ Some s) → (o ≡ Some slot) ⊎ (o ≡ None) → (o' ≡ Some slot) ⊎ (o' ≡ None)
kept_or_none o None slot keeps before = inr refl
kept_or_none o (Some s) slot keeps (inl some) = inl (sym (keeps s refl) ∙ some)
kept_or_none o (Some s) slot keeps (inr none) = absurd (cc (sym (keeps s refl) ∙ none))

-- a bar that keeps its slot, or left, does so after one call more
pub slots_more : {K T : Type 0} (call : Call (BarRecord K) (Command K)) (answer : Answer) (b c : Board K T) (number slot : ℕ) → IsSeated (slots_of b) → SlotsChange call answer b c →
    StaysInSlot number slot b → number < (slots_of b).made → StaysInSlot number slot c × (number < (slots_of c).made)
slots_more call answer b c number slot seats went kept made =
    let one = call_one b c number seats made call answer went in
    (kept_or_none (slot_of number (slots_of b)) (slot_of number (slots_of c)) slot one.0 kept, one.1)
