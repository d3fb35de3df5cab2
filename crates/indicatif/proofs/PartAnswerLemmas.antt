-- Pieces of a list's answers, and how they come together.
use Rattle.std.proofs.Common.{◌≡◌, ℕ, ◌+◌, ◌-◌, ◌≤◌, ◌⊎◌, List, ◌++◌, length, take, drop, sym, ap, subst, arith, All, inl, inr}
use Rattle.std.specs.Prelude.{Result, Ok, Err, IfOk, IsOkAnd, Vec}
use Rattle.std.specs.declared.alloc.Global.{Global}
use Rattle.std.specs.List.{AllZip}
use Rattle.std.proofs.lemmas.List.{length-drop, take-append-drop, take_all}
use Rattle.std.proofs.lemmas.List.Elements.{All-append, All-same}
use Rattle.indicatif.specs.Inside.PartAnswers.{AnswersPart}
use Rattle.indicatif.specs.declared.parallel.part_answers.PartAnswers.{PartAnswers}
use Rattle.indicatif.proofs.BlockLemmas.{zip_both, zip_more}

module _ {X : Type 0} (Q : X → Type 0) where
  -- what holds of each of two lists holds of both together, if both are there
  pub all_together : {E F G : Type 0} (first : Result (Vec X Global) E) (second : Result (Vec X Global) F) (both : Result (Vec X Global) G)
      → IfOk first (λ front. All Q front.items) → IfOk second (λ back. All Q back.items)
      → IfOk both (λ made. IsOkAnd first (λ front. IsOkAnd second (λ back. made.items ≡ front.items ++ back.items)))
      → IfOk both (λ made. All Q made.items)
  all_together first second (Err e) a b together = tt
  all_together (Err e) second (Ok made) a b together = absurd together
  all_together (Ok front) (Err e) (Ok made) a b together = absurd together
  all_together (Ok front) (Ok back) (Ok made) a b together = All-same Q made.items _ together (All-append Q front.items back.items a b)

module _ {T A : Type 0} (R : T → A → Type 0) (items : List T) where
  -- one piece more, if it begins where the others end
  pub piece_behind : (piece : PartAnswers A) (place end : ℕ) (made new : List A) → place ≤ length items → AllZip R (take place items) made → AnswersPart R items piece
      → ((end ≡ place) × (new ≡ made)) ⊎ ((piece.start ≡ place) × (piece.end ≡ end) × (new ≡ made ++ piece.answers.items))
      → (end ≤ length items) × AllZip R (take end items) new
  piece_behind piece place end made new within answered is step =
      elim step [
        | inl s ↦ (omega (arith, s.0, within), rw (s.0, s.1) answered)
        | inr s ↦
            let count = piece.end - piece.start in
            let to : place + count ≡ end = omega (arith, s.0, s.1, is.0) in
            let part = ap (λ k. take count (drop k items)) s.0 in
            let both = zip_more R items _ place count made piece.answers.items new part s.2 answered is.2 in
            (omega (arith, s.1, is.1), subst (λ k. AllZip R (take k items) new) to both)
      ]

  -- the answers at what is left
  pub rest_behind : (place : ℕ) (made rest all : List A) → AllZip R (take place items) made → AllZip R (take (length items - place) (drop place items)) rest → all ≡ made ++ rest
      → AllZip R items all
  rest_behind place made rest all front back whole =
      let left = drop place items in
      let long : length left ≤ length items - place = omega (arith, length-drop place items) in
      zip_both R items (take place items) left made rest all (sym (take-append-drop place items)) whole front (rw (sym (take_all (length items - place) left long)) back)
