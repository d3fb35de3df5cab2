-- The bytes of one read, passed on.
use Rattle.std.specs.Prelude.{ℕ, List, [], Option, Result, Ok, Err, Bool, true, false}
use Rattle.std.specs.Io.KnownBytes.{IsAtEnd}
use Rattle.meter_parts.specs.declared.passing.Broken.{Broken}
use Rattle.meter_parts.specs.Passing.{Passes, PassedOr}

module _ (left left_now held held_now : Option (List ℕ)) where
  -- the bytes of one read were passed on, and whether it was the last
  abbrev pub PassedSome : Result Bool Broken → Type 0
  PassedSome (Ok true) = Passes left left_now held held_now [] × IsAtEnd left_now
  PassedSome (Ok false) = Passes left left_now held held_now []
  PassedSome (Err broken) = PassedOr left left_now held held_now broken
