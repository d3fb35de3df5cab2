-- A terminal behind a writer, and what contracts see of the writer's bytes.
use Rattle.std.specs.Prelude.{◌≡◌, ℕ, ◌+◌, ◌%◌, ◌^◌, List, ◌++◌, Option, Some, None, Result, Ok, Err, MatchResult}
use Rattle.std.specs.IoError.{error_kind}
use Rattle.std.specs.declared.io.Error.{Error}
use Rattle.std.specs.declared.io.ErrorKind.{ErrorKind}
use Rattle.std.specs.Io.KnownBytes.{Appends}
use Rattle.indicatif_term.specs.Calls.{Told, Bytes, Nothing, TermView}

-- the writer, its terminal's size, how often a call has failed, modulo 2^64, and the kind of the last failure; `Other` before the first
pub record WriterTerm (W : Type 0) : Type 0 where
  pub writer : W
  pub columns : ℕ
  pub rows : ℕ
  pub faults : ℕ
  pub kind : ErrorKind

-- the bytes of a writer, or nothing if they can't be read
abbrev pub told_by : Option (List ℕ) → Told
told_by None = Nothing
told_by (Some bytes) = Bytes bytes

-- what contracts see of a terminal behind a writer
abbrev pub view_behind : {W : Type 0} → (W → Option (List ℕ)) → WriterTerm W → TermView
view_behind contents t = record { told = told_by (contents t.writer); columns = t.columns; rows = t.rows; faults = t.faults; kind = t.kind }

-- a prefix of these bytes was appended
pub record AppendsFront (old new : Option (List ℕ)) (bytes : List ℕ) : Type 0 where
  pub front : List ℕ
  pub rest : List ℕ
  pub whole : front ++ rest ≡ bytes
  pub appended : Appends old new front

-- all of these bytes were appended, or a prefix of them if the call failed
abbrev pub AppendsAllOrFront : {E : Type 0} → Option (List ℕ) → Option (List ℕ) → List ℕ → Result Unit E → Type 0
AppendsAllOrFront old new bytes result = MatchResult result (λ _. Appends old new bytes) (λ _. AppendsFront old new bytes)

-- the terminal after a call with this result: a failure is counted, and its kind kept
abbrev pub counted_as : {W : Type 0} → Result Unit Error → WriterTerm W → WriterTerm W
counted_as (Ok u) t = t
counted_as (Err e) t = record t { faults = (t.faults + 1) % 2 ^ 64; kind = error_kind e }
