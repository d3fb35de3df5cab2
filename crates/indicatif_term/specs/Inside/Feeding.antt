-- What a terminal in memory has read when it stopped.
use Rattle.std.specs.Prelude.{◌≡◌, ℕ, List, ◌++◌}
use Rattle.indicatif_term.specs.Terminal.{Terminal, after}

-- the terminal has read a prefix of these bytes
pub record ReadsBeginning (bytes : List ℕ) (old new : Terminal) : Type 0 where
  pub front : List ℕ
  pub rest : List ℕ
  pub whole : front ++ rest ≡ bytes
  pub is : new ≡ after old front
