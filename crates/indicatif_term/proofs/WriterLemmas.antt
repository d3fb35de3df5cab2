-- A terminal behind a writer tells the bytes that were sent to the writer.
use Rattle.std.proofs.Common.{◌≡◌, ℕ, ◌-◌, length, List, [], ◌++◌, Option, Some, None, Result, Ok, Err, refl, sym, ◌∙◌, ap, subst, append_assoc, append-nil, take, drop, take-append-drop}
use Rattle.std.specs.Prelude.{IsTrue}
use Rattle.std.specs.declared.io.Error.{Error}
use Rattle.std.specs.Io.KnownBytes.{Appends, Keeps}
use Rattle.std.proofs.lemmas.Bool.{false≢true}
use Rattle.std.proofs.lemmas.List.{take_rest}
use Rattle.indicatif_term.specs.Calls.{Bytes, is_told, led_on, Writes}
use Rattle.indicatif_term.specs.Term.{WriterTerm, told_by, view_behind, counted_as, AppendsAllOrFront}

-- ---- what a writer holds

pub appends_more : (a b c : Option (List ℕ)) (bs cs : List ℕ) → Appends a b bs → Appends b c cs → Appends a c (bs ++ cs)
appends_more None b c bs cs p q = tt
appends_more (Some x) None c bs cs p q = absurd p
appends_more (Some x) (Some y) None bs cs p q = absurd q
appends_more (Some x) (Some y) (Some z) bs cs p q = q ∙ ap (λ l. l ++ cs) p ∙ append_assoc x bs cs

pub appends_kept : (a b c : Option (List ℕ)) (bs : List ℕ) → Appends a b bs → Keeps b c → Appends a c bs
appends_kept None b c bs p q = tt
appends_kept (Some x) None c bs p q = absurd p
appends_kept (Some x) (Some y) None bs p q = absurd q
appends_kept (Some x) (Some y) (Some z) bs p q = q ∙ p

pub moves_on : (all done rest : List ℕ) (n : ℕ) → all ≡ done ++ rest → all ≡ (done ++ take n rest) ++ take (length rest - n) (drop n rest)
moves_on all done rest n e =
    e ∙ ap (λ l. done ++ l) (sym (take-append-drop n rest)) ∙ sym (append_assoc done (take n rest) (drop n rest)) ∙ ap (λ l. (done ++ take n rest) ++ l) (sym (take_rest rest n))

pub appends_none : (a : Option (List ℕ)) → Appends a a []
appends_none None = tt
appends_none (Some x) = sym (append-nil x)

told_appended : (old new : Option (List ℕ)) (bytes : List ℕ) → Appends old new bytes → IsTrue (is_told (told_by old)) → told_by new ≡ led_on (told_by old) bytes
told_appended None new bytes p h = absurd (false≢true h)
told_appended (Some x) None bytes p h = absurd p
told_appended (Some x) (Some y) bytes p h = ap Bytes p

pub kept_all : {E : Type 0} (a b : Option (List ℕ)) (r : Result Unit E) → Keeps a b → AppendsAllOrFront a b [] r
kept_all a b (Ok u) k = appends_kept a a b [] (appends_none a) k
kept_all a b (Err e) k = record { front = []; rest = []; whole = refl; appended = appends_kept a a b [] (appends_none a) k }

-- ---- what the terminal tells

module _ {W : Type 0} (contents : W → Option (List ℕ)) (t : WriterTerm W) (w' : W) (bytes : List ℕ) where
  -- the terminal with this writer, and then after a call that came to this
  abbrev went : Result Unit Error → WriterTerm W
  went r = counted_as r (record t { writer = w' })

  written : (r : Result Unit Error) → AppendsAllOrFront (contents t.writer) (contents w') bytes r → Writes bytes (view_behind contents t) (view_behind contents (went r)) r
  written (Ok u) p = record { told_is = told_appended (contents t.writer) (contents w') bytes p; columns_are = refl; rows_are = refl; faults_are = refl; kind_is = refl }
  written (Err x) p = record {
    front = p.front;
    rest = p.rest;
    whole = p.whole;
    told_is = told_appended (contents t.writer) (contents w') p.front p.appended;
    columns_are = refl;
    rows_are = refl;
    faults_are = refl;
    kind_is = refl;
  }

  pub sent : (old new : WriterTerm W) (done r : Result Unit Error) → t ≡ old → new ≡ went done → AppendsAllOrFront (contents t.writer) (contents w') bytes done → r ≡ done →
      Writes bytes (view_behind contents old) (view_behind contents new) r
  sent old new done r at to p same =
      subst (λ x. Writes bytes (view_behind contents old) (view_behind contents new) x) (sym same)
      (subst (λ x. Writes bytes (view_behind contents old) (view_behind contents x) done) (sym to)
      (subst (λ x. Writes bytes (view_behind contents x) (view_behind contents (went done)) done) at (written done p)))
