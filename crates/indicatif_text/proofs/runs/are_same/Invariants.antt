use Rattle.std.proofs.Common.{◌≡◌, take, true}
use Rattle.indicatif_text.proofs.runs.are_same.Given as goal

abbrev pub invariant-loop-at : goal.invariant-loop-at
invariant-loop-at l = record { same : l.same ≡ true → take l.at l.a ≡ take l.at l.b }
