-- Bytes passed on from a reader to a writer, if theirs can be read in contracts.
use Rattle.std.specs.Prelude.{ℕ, List, [], ◌++◌, ◌≢◌, Option, Result, Ok, Err}
use Rattle.std.specs.Io.KnownBytes.{Consumes, Appends, IsAtEnd}
use Rattle.std.specs.IoError.{error_kind}
use Rattle.std.specs.declared.io.Error.{Error}
use Rattle.std.specs.declared.io.ErrorKind.TheVariants.{Interrupted, WouldBlock}
use Rattle.meter_parts.specs.declared.passing.Broken.{Broken}
use Rattle.meter_parts.specs.declared.passing.Broken.TheVariants.{Input, Output}

-- the bytes of the reader went to the writer, each once and in order, except the last of them, which wait
pub record Passes (left left_now held held_now : Option (List ℕ)) (waiting : List ℕ) : Type 0 where
  pub handed_on : List ℕ
  pub came : Consumes left left_now (handed_on ++ waiting)
  pub went : Appends held held_now handed_on

module _ (left left_now held held_now : Option (List ℕ)) where
  -- all bytes that were read were passed on, unless the writer failed
  abbrev pub PassedOr : Broken → Type 0
  PassedOr (Input error) = Passes left left_now held held_now []
  PassedOr (Output error) = (waiting : List ℕ) × Passes left left_now held held_now waiting

  -- all bytes of the reader were passed on
  abbrev pub PassedAll : Result Unit Broken → Type 0
  PassedAll (Ok done) = Passes left left_now held held_now [] × IsAtEnd left_now
  PassedAll (Err broken) = PassedOr broken

-- a failure after which the call isn't repeated: it wasn't interrupted, and wouldn't block
abbrev pub IsFinal : Error → Type 0
IsFinal error = (error_kind error ≢ Interrupted) × (error_kind error ≢ WouldBlock)

-- such a failure of either end
abbrev pub EndsAt : Broken → Type 0
EndsAt (Input error) = IsFinal error
EndsAt (Output error) = IsFinal error
