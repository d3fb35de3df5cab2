use Rattle.std.proofs.Common.{take}
use Rattle.std.specs.Prelude.{IsFalse}
use Rattle.std.specs.List.{list_any}
use Rattle.indicatif_term.specs.Engines.{is_failure}
use Rattle.indicatif_board.specs.Boards.{drawn_of}
use Rattle.indicatif_board.specs.Calls.{answer_of}
use Rattle.uses.proofs.runs.none_failed.Given as goal

abbrev pub invariant-loop-answer : goal.invariant-loop-answer
invariant-loop-answer l = IsFalse (list_any (λ answer. is_failure (drawn_of (answer_of answer))) (take l.answer-index l.answers))
