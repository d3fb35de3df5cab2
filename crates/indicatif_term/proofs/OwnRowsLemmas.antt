-- One call of a terminal after another, and a failure handed on, where only the size and the faults are told.
use Rattle.std.proofs.Common.{◌≡◌, ◌∙◌, ◌+◌, ◌%◌, ◌^◌, ℕ, List, [], Result, Ok, Err, refl, sym, ap}
use Rattle.std.specs.Prelude.{IsErrAnd}
use Rattle.std.specs.IoError.{error_kind}
use Rattle.std.specs.declared.io.Error.{Error}
use Rattle.std.proofs.lemmas.Bool.{false≢true}
use Rattle.indicatif_term.specs.Calls.{TermView, Writes}
use Rattle.indicatif_term.specs.OwnRows.{quiet, Quietly}

pub unmoved : (u : TermView) → Quietly u u (Ok tt)
unmoved u = record { columns_are = refl; rows_are = refl; faults_are = refl; kind_is = refl }

module _ {u v : TermView} where
  pub fails : {e : Error} (r : Result Unit Error) → IsErrAnd r (λ x. x ≡ e) → Quietly u v (Err e) → Quietly u v r
  fails (Ok x) h q = absurd h
  fails (Err x) h q = record { columns_are = q.columns_are; rows_are = q.rows_are; faults_are = q.faults_are; kind_is = q.kind_is ∙ ap error_kind (sym h) }

  pub goes_on : {w : TermView} (r : Result Unit Error) → Quietly u v (Ok tt) → Quietly v w r → Quietly u w r
  goes_on (Ok x) p q = record {
    columns_are = q.columns_are ∙ p.columns_are;
    rows_are = q.rows_are ∙ p.rows_are;
    faults_are = q.faults_are ∙ p.faults_are;
    kind_is = q.kind_is ∙ p.kind_is;
  }
  goes_on (Err x) p q = record {
    columns_are = q.columns_are ∙ p.columns_are;
    rows_are = q.rows_are ∙ p.rows_are;
    faults_are = q.faults_are ∙ ap (λ n. (n + 1) % 2 ^ 64) p.faults_are;
    kind_is = q.kind_is;
  }

  -- whatever the bytes are, since nothing is told of them
  pub writes_quietly : (bytes : List ℕ) (r : Result Unit Error) → Quietly u v r → Writes bytes (quiet u) (quiet v) r
  writes_quietly bytes (Ok x) q = record { told_is = λ h. absurd (false≢true h); columns_are = q.columns_are; rows_are = q.rows_are; faults_are = q.faults_are; kind_is = q.kind_is }
  writes_quietly bytes (Err x) q = record {
    front = [];
    rest = bytes;
    whole = refl;
    told_is = λ h. absurd (false≢true h);
    columns_are = q.columns_are;
    rows_are = q.rows_are;
    faults_are = q.faults_are;
    kind_is = q.kind_is;
  }
