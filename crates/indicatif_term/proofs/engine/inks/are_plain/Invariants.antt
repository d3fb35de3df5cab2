use Rattle.std.proofs.Common.{◌≡◌, true}
use Rattle.indicatif_term.specs.Inside.Rests.{AreShared}
use Rattle.indicatif_term.proofs.engine.inks.are_plain.Given as goal

abbrev pub invariant-loop-at : goal.invariant-loop-at
invariant-loop-at l = record { same : l.same ≡ true → AreShared l.at l.a l.b }
