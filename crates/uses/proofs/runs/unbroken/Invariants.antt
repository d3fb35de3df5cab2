use Rattle.std.proofs.Common.{take}
use Rattle.std.specs.Prelude.{IsFalse}
use Rattle.std.specs.List.{list_any}
use Rattle.indicatif_term.specs.Engines.{is_failure}
use Rattle.uses.proofs.runs.unbroken.Given as goal

abbrev pub invariant-loop-answer : goal.invariant-loop-answer
invariant-loop-answer l = IsFalse (list_any is_failure (take l.answer-index l.answers))
