-- The bytes that a terminal behind a writer is known to have got.
use Rattle.std.proofs.Common.{◌≡◌, ◌≤◌, ◌-◌, ◌+◌, ◌++◌, ◌∷◌, Bool, true, Result, Ok, Err, ℕ, List, [], Option, Some, None, IfSome, option_map, length, map, take, refl, sym, ◌∙◌, ap, arith}
use Rattle.std.specs.Prelude.{IsTrue, IfOk}
use Rattle.std.proofs.Math.Seq.{take-append-add}
use Rattle.indicatif_text.specs.declared.refusal.Refusal.{Refusal}
use Rattle.indicatif_text.specs.Columns.{Cell}
use Rattle.indicatif_term.specs.Calls.{TermView, Told, Bytes, led_on}
use Rattle.indicatif_term.specs.Calm.{is_quiet}
use Rattle.indicatif_term.specs.Engines.{Paints}
use Rattle.indicatif_term.specs.Lists.{Lists}
use Rattle.indicatif_term.specs.CellCases.{AnyCut}
use Rattle.indicatif_term.specs.Terminal.{Terminal, after}
use Rattle.indicatif_term.specs.Pictures.{picture_text, row_text}
use Rattle.indicatif_term.specs.Term.{WriterTerm, view_behind}
use Rattle.uses.specs.Readings.{BeginAs}

-- what stands in the writer is what the terminal tells
pub bytes_told : {W : Type 0} (items_of : W → List ℕ) (o : Option (WriterTerm W)) (v : TermView) (items bytes : List ℕ) → option_map (view_behind (λ w. Some (items_of w))) o ≡ Some v →
    v.told ≡ Bytes bytes → IfSome o (λ t. items_of t.writer ≡ items) → items ≡ bytes
bytes_told items_of None v items bytes known_is told is = absurd (cc)
bytes_told items_of (Some t) v items bytes known_is told is =
    let e : view_behind (λ w. Some (items_of w)) t ≡ v = cc in
    let f : Bytes items ≡ Bytes bytes = ap Bytes (sym is) ∙ ap (λ u. u.told) e ∙ told in
    cc

-- bytes of a terminal that tells quiet ones are quiet
pub quiet_told : {W A : Type 0} (items_of : W → List ℕ) (bytes_of : A → List ℕ) (o : Option (WriterTerm W)) (v : TermView) (bytes : List ℕ) (result : Result A Refusal) →
    option_map (view_behind (λ w. Some (items_of w))) o ≡ Some v → v.told ≡ Bytes bytes → is_quiet bytes ≡ true → IfOk result (λ a. IfSome o (λ t. items_of t.writer ≡ bytes_of a)) →
    IfOk result (λ a. IsTrue (is_quiet (bytes_of a)))
quiet_told items_of bytes_of o v bytes (Ok a) known_is told quiet is = ap is_quiet (bytes_told items_of o v (bytes_of a) bytes known_is told is) ∙ quiet
quiet_told items_of bytes_of o v bytes (Err e) known_is told quiet is = tt

-- a beginning that goes past the first of two parts
pub cut_at : AnyCut → (t : Terminal) (a b bytes : List ℕ) (k : ℕ) → bytes ≡ a ++ b → length a ≤ k → after t (take k bytes) ≡ after (after t a) (take (k - length a) b)
cut_at any t a b bytes k is enough =
    let at : k ≡ length a + (k - length a) = omega (arith, enough) in
    ap (λ xs. after t (take k xs)) is ∙ ap (λ n. after t (take n (a ++ b))) at ∙ ap (after t) (take-append-add a b (k - length a)) ∙ any t a (take (k - length a) b)

-- rows that are read first behind each byte of the second part are, of both parts
pub read_behind : AnyCut → (t : Terminal) (a b bytes : List ℕ) (k : ℕ) → bytes ≡ a ++ b → length a ≤ k → (rows : List (List Cell)) (text : List ℕ) →
    BeginAs (picture_text (after (after t a) (take (k - length a) b)).screen) rows → map row_text rows ≡ text ∷ [] →
    (others : List (List ℕ)) × (picture_text (after t (take k bytes)).screen ≡ text ∷ others)
read_behind any t a b bytes k is enough rows text begins reads =
    (begins.0, ap (λ u. picture_text u.screen) (cut_at any t a b bytes k is enough) ∙ begins.1 ∙ ap (λ xs. xs ++ begins.0) reads)

-- what a terminal tells behind each of two drawings, where it told no bytes before
pub both_told : (v w u : TermView) (one other : Bool) (l m n : Lists) (p : Paints v w one l m) (q : Paints w u other m n) → v.told ≡ Bytes [] →
    (w.told ≡ Bytes p.bytes) × (u.told ≡ Bytes (p.bytes ++ q.bytes))
both_told v w u one other l m n p q start =
    let first : w.told ≡ Bytes p.bytes = p.told_is (rw start refl) ∙ ap (λ x. led_on x p.bytes) start in
    (first, q.told_is (rw first refl) ∙ ap (λ x. led_on x q.bytes) first)
