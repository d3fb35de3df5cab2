-- The errors that mean that a terminal is gone.
use Rattle.std.specs.Prelude.{◌≡◌, ◌⊎◌, Some, pos}
use Rattle.std.specs.IoError.{error_kind, raw_os_error}
use Rattle.std.specs.declared.io.Error.{Error}
use Rattle.std.specs.declared.io.ErrorKind.TheVariants.{BrokenPipe, ConnectionReset, WouldBlock}

-- a closed pipe or connection, a terminal that would block, or an input/output error (`EIO`, 5 on Linux), as from a closed terminal
abbrev pub IsGone : Error → Type 0
IsGone e = (error_kind e ≡ BrokenPipe) ⊎ (error_kind e ≡ ConnectionReset) ⊎ (error_kind e ≡ WouldBlock) ⊎ (raw_os_error e ≡ Some (pos 5))
