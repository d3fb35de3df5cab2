-- The effect of a call whose draw no limiter refuses.
use Rattle.std.specs.Prelude.{IsTrue}
use Rattle.indicatif_bar.specs.Machines.{Deed, AtOnce, Draws}

-- the limiter allows the draw, if there is one
abbrev pub IsAllowed : {State Answer : Type 0} → Deed State Answer → Type 0
IsAllowed (AtOnce takes answer next) = Unit {0}
IsAllowed (Draws d ends breaks) = IsTrue d.allowed
