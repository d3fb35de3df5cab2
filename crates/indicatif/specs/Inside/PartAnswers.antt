-- Answers at a part of a list.
use Rattle.std.specs.Prelude.{◌-◌, ◌≤◌, List, length, take, drop}
use Rattle.std.specs.List.{AllZip}
use Rattle.indicatif.specs.declared.parallel.part_answers.PartAnswers.{PartAnswers}

-- the part's answers are those at its items
abbrev pub AnswersPart : {T A : Type 0} → (T → A → Type 0) → List T → PartAnswers A → Type 0
AnswersPart R items piece = (piece.start ≤ piece.end) × (piece.end ≤ length items) × AllZip R (take (piece.end - piece.start) (drop piece.start items)) piece.answers.items
