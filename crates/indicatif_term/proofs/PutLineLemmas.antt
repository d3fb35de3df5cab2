-- Lines that are put one after another are put as one list, and a failure is one of the whole.
use Rattle.std.proofs.Common.{◌≡◌, ℕ, ◌<◌, ◌+◌, Bool, List, [], ◌∷◌, ◌++◌, ◌||◌, length, take, drop, get_or, Result, Ok, Err, refl, sym, ◌∙◌, ap, subst, length-append}
use Rattle.std.specs.Prelude.{nat_lt, IsErrAnd}
use Rattle.std.specs.declared.io.ErrorKind.{ErrorKind}
use Rattle.std.proofs.Math.Bool.{or-false}
use Rattle.std.proofs.lemmas.List.{take_more, take-append-drop}
use Rattle.indicatif_term.specs.Calls.{TermView, BreaksOff}
use Rattle.indicatif_term.specs.Inside.MoveBytes.{lines_bytes, AreWritten, Puts, Sends}
use Rattle.indicatif_term.proofs.CallTurnLemmas.{reaches_none, reaches_then, breaks_then, breaks_early, lines-append, or_lt_sum}

pub put_none : (x : Bool) (s : TermView) → AreWritten x [] x s s
put_none x s = record { leads = reaches_none s; ended_is = sym (or-false x) }

-- lines behind others
behind : (x y : Bool) (a b : List (List ℕ)) → y ≡ (x || nat_lt 0 (length a)) → lines_bytes x a ++ lines_bytes y b ≡ lines_bytes x (a ++ b)
behind x y a b e = ap (λ v. lines_bytes x a ++ lines_bytes v b) e ∙ sym (lines-append x a b)

pub put_then : {x y z : Bool} {a b : List (List ℕ)} {s t u : TermView} → AreWritten x a y s t → AreWritten y b z t u → AreWritten x (a ++ b) z s u
put_then {x} {y} {z} {a} {b} {s} {t} {u} p q = record {
  leads = rw (behind x y a b p.ended_is) at (reaches_then p.leads q.leads);
  ended_is = q.ended_is ∙ ap (λ v. v || nat_lt 0 (length b)) p.ended_is ∙ sym (or_lt_sum x (length a) (length b)) ∙ ap (λ n. x || nat_lt 0 n) (sym (length-append a b));
}

-- some of all lines, others that fail, and the rest
pub put_breaks : {x y : Bool} {a : List (List ℕ)} (b rest all : List (List ℕ)) {kind : ErrorKind} {s t u : TermView} → (a ++ b) ++ rest ≡ all → AreWritten x a y s t →
    BreaksOff (lines_bytes y b) kind t u → BreaksOff (lines_bytes x all) kind s u
put_breaks {x} {y} {a} b rest all {kind} {s} {t} {u} e p q =
    let some : BreaksOff (lines_bytes x (a ++ b)) kind s u = rw (behind x y a b p.ended_is) at (breaks_then p.leads q) in
    rw (behind x (x || nat_lt 0 (length (a ++ b))) (a ++ b) rest refl, e) at (breaks_early (lines_bytes (x || nat_lt 0 (length (a ++ b))) rest) some)

pub puts_fail : (x : Bool) (lines : List (List ℕ)) (ended : Bool) {s t : TermView} (e : ErrorKind) (r : Result Unit ErrorKind) → IsErrAnd r (λ z. z ≡ e) →
    BreaksOff (lines_bytes x lines) e s t → Puts x lines ended s t r
puts_fail x lines ended e (Ok u) h q = absurd h
puts_fail x lines ended {s} {t} e (Err z) h q = subst (λ y. BreaksOff (lines_bytes x lines) y s t) (sym h) q

pub puts_of : (x : Bool) (lines : List (List ℕ)) (ended : Bool) (s t : TermView) (r : Result Unit ErrorKind) → ended ≡ (x || nat_lt 0 (length lines)) → Sends (lines_bytes x lines) s t r →
    Puts x lines ended s t r
puts_of x lines ended s t (Ok u) e w = record { leads = w; ended_is = e }
puts_of x lines ended s t (Err z) e w = w

-- all lines, at one of them
module _ (ys : List (List ℕ)) (i : ℕ) (y : List ℕ) (h : i < length ys) (at : get_or ys i y ≡ y) where
  up_to : take i ys ++ y ∷ [] ≡ take (i + 1) ys
  up_to = sym (take_more ys i y h ∙ ap (λ z. take i ys ++ z ∷ []) at)

  pub put_next : {x p q : Bool} {s t u : TermView} → AreWritten x (take i ys) p s t → AreWritten p (y ∷ []) q t u → AreWritten x (take (i + 1) ys) q s u
  put_next m n = rw up_to at (put_then m n)

  pub put_stops : {x p : Bool} {kind : ErrorKind} {s t u : TermView} → AreWritten x (take i ys) p s t → BreaksOff (lines_bytes p (y ∷ [])) kind t u → BreaksOff (lines_bytes x ys) kind s u
  put_stops m n = put_breaks (y ∷ []) (drop (i + 1) ys) ys (ap (λ z. z ++ drop (i + 1) ys) up_to ∙ take-append-drop (i + 1) ys) m n
