-- Receipts that a history holds: what stands at a number stays there, and a text's rows stand as those of any entry.
use Rattle.std.proofs.Common.{◌≡◌, ◌≢◌, ◌⊎◌, ℕ, zero, suc, ◌+◌, ◌-◌, List, [], ◌∷◌, ◌++◌, length, take, drop, map, refl, sym, ap, subst, arith, ◌∙◌, Some, inl, inr}
use Rattle.std.specs.Prelude.{slice_get}
use Rattle.std.specs.List.{list_any}
use Rattle.std.proofs.lemmas.Bool.{or_parts}
use Rattle.std.proofs.lemmas.List.{length-map}
use Rattle.indicatif_text.specs.declared.refusal.Drawn.TheVariants.{Yes}
use Rattle.indicatif_term.specs.Calls.{TermView}
use Rattle.indicatif_term.specs.Engines.{is_failure}
use Rattle.indicatif_bar.specs.Commands.{BarRecord, Command}
use Rattle.indicatif_bar.specs.Runs.{Runs}
use Rattle.indicatif_bar.specs.Trackers.{Tracking}
use Rattle.indicatif_board.specs.BoardBars.{board_bars}
use Rattle.indicatif_board.specs.Boards.{Call, Answer, Drew, drawn_of, opening_board, board}
use Rattle.indicatif_board.specs.HistoryLaws.{AreUnbroken}
use Rattle.indicatif_board.specs.Receipts.{HeldStays, HeldRowsStand, HeldRowsStandInOrder, step_claimed}
use Rattle.indicatif_board.specs.Recorded.{BoardStep, Record, AddsCall, step_of, calls_of, answers_of}
use Rattle.indicatif_board.specs.declared.recorded.Entry.{Entry}
use Rattle.indicatif_board.proofs.HistoryLemmas.{logged_stand, logged_in_order}

-- what stands at a number, in front of others
get_front : {X : Type 0} (xs ys : List X) (k : ℕ) (x : X) → slice_get xs k ≡ Some x → slice_get (xs ++ ys) k ≡ Some x
get_front [] ys k x e = absurd (cc)
get_front (y ∷ xs) ys zero x e = e
get_front (y ∷ xs) ys (suc k) x e = get_front xs ys k x e

-- what stands behind all others
get_last : {X : Type 0} (xs : List X) (x : X) → slice_get (xs ++ x ∷ []) (length xs) ≡ Some x
get_last [] x = refl
get_last (y ∷ xs) x = get_last xs x

-- a list is what stands before a number, what stands there, and the rest
parted : {X : Type 0} (xs : List X) (k : ℕ) (x : X) → slice_get xs k ≡ Some x → xs ≡ take k xs ++ x ∷ drop (suc k) xs
parted [] k x e = absurd (cc)
parted (y ∷ xs) zero x e = let same : y ≡ x = cc e in ap (λ z. z ∷ xs) same
parted (y ∷ xs) (suc k) x e = ap (λ rest. y ∷ rest) (parted xs k x e)

-- what stands at a number, counted from a later place
get_behind : {X : Type 0} (xs : List X) (n k i : ℕ) (x : X) → i ≡ n + k → slice_get xs i ≡ Some x → slice_get (drop n xs) k ≡ Some x
get_behind xs zero k i x at e = let same : i ≡ k = omega (arith, at) in subst (λ j. slice_get xs j ≡ Some x) same e
get_behind [] (suc n) k i x at e = absurd (cc)
get_behind (y ∷ xs) (suc n) k zero x at e = absurd (omega (arith, at))
get_behind (y ∷ xs) (suc n) k (suc i) x at e = get_behind xs n k i x (omega (arith, at)) e

-- where no step was broken off, none of the first or the last ones was
unbroken_parts : {K : Type 0} (before : List (BoardStep K)) (e : BoardStep K) (after : List (BoardStep K)) → AreUnbroken (before ++ e ∷ after) → AreUnbroken before × AreUnbroken after
unbroken_parts [] e after fine =
    (refl, (or_parts (is_failure (drawn_of e.answer)) (list_any (λ answer. is_failure (drawn_of answer)) (answers_of after)) fine).1)
unbroken_parts (x ∷ before) e after fine =
    let p = or_parts (is_failure (drawn_of x.answer)) (list_any (λ answer. is_failure (drawn_of answer)) (answers_of (before ++ e ∷ after))) fine in
    let q = unbroken_parts before e after p.1 in
    (rw (p.0, q.0) refl, q.1)

-- how many entries are stored
pub entries_count : {K : Type 0} (entries : List (Entry K)) (steps : List (BoardStep K)) → map step_of entries ≡ steps → length entries ≡ length steps
entries_count entries steps same = sym (length-map entries step_of) ∙ ap length same

module _ {K T : Type 0} (m : Tracking K) (view : T → TermView) (old new : Record K T) (call : Call (BarRecord K) (Command K)) (now : ℕ) (answer : Answer) where
  -- a call was made, or not: that is told by how many steps there are
  pub was_made : {X : Type 0} → AddsCall m view old call now answer new ⊎ ((new ≡ old) × X) → length new.steps ≢ length old.steps → AddsCall m view old call now answer new
  was_made (inl adds) more = adds
  was_made (inr same) more = absurd (more (ap (λ r. length r.steps) same.0))

  -- its step stands behind all others
  pub stands_last : (number : ℕ) → number ≡ length old.steps → AddsCall m view old call now answer new → slice_get new.steps number ≡ Some (record { call = call; now = now; answer = answer })
  stands_last number is adds = ap (λ n. slice_get new.steps n) is ∙ ap (λ steps. slice_get steps (length old.steps)) adds.steps ∙ get_last old.steps _

module _ {K T : Type 0} (m : Tracking K) where
  pub held_stays : HeldStays T m
  held_stays view old new call now answer receipt adds held =
      (adds.mark ∙ held.0, ap (λ steps. slice_get steps receipt.number) adds.steps ∙ get_front old.steps _ receipt.number (step_claimed receipt) held.1)

  pub held_rows_stand : HeldRowsStand T m
  held_rows_stand opened r last run receipt held said fine =
      let claimed = step_claimed receipt in
      let split = parted r.steps receipt.number claimed held.1 in
      logged_stand m opened r last run (take receipt.number r.steps) (drop (suc receipt.number) r.steps) claimed.call claimed.now _ refl
      (split ∙ ap (λ a. take receipt.number r.steps ++ record claimed { answer = a } ∷ drop (suc receipt.number) r.steps) said) fine

  pub held_in_order : HeldRowsStandInOrder T m
  held_in_order opened r last run one other held held' less said said' fine =
      let claimed : BoardStep K = step_claimed one in
      let claimed' : BoardStep K = step_claimed other in
      let n = suc one.number in
      let k = other.number - n in
      let behind = drop n r.steps in
      let at : other.number ≡ n + k = omega (arith, less) in
      let there = get_behind r.steps n k other.number claimed' at held'.1 in
      let split = parted r.steps one.number claimed held.1 in
      let split' = parted behind k claimed' there in
      let parts = unbroken_parts (take k behind) claimed' (drop (suc k) behind) (subst AreUnbroken split' fine) in
      let whole = split ∙ ap (λ z. take one.number r.steps ++ claimed ∷ z) split'
      ∙ ap (λ a. take one.number r.steps ++ record claimed { answer = a } ∷ (take k behind ++ claimed' ∷ drop (suc k) behind)) said
      ∙ ap (λ a. take one.number r.steps ++ record claimed { answer = Drew Yes } ∷ (take k behind ++ record claimed' { answer = a } ∷ drop (suc k) behind)) said' in
      logged_in_order m r.mark r.target (take one.number r.steps) (take k behind) (drop (suc k) behind) claimed.call claimed'.call claimed.now claimed'.now _ _ opened (opening_board r.limiter) last
      run.state refl refl run.size parts.0 parts.1
      (subst (λ steps. Runs (board (board_bars m) r.mark) (calls_of steps) (answers_of steps) opened (opening_board r.limiter) last run.state) whole run.runs)
