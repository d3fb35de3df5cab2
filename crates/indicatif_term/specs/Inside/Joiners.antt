-- The joiners of a row as they are kept.
use Rattle.std.specs.Prelude.{ℕ, suc, ◌==◌, List, [], ◌∷◌, ◌++◌, length, if◌then◌else◌}
use Rattle.indicatif_term.specs.declared.cells.joiners.Joiner.{Joiner}

-- the joiners that lead to place k, in a list with the newest first: that at k, and before it those that lead to the place that it names
abbrev pub chain : List Joiner → ℕ → List ℕ
chain [] k = []
chain (m ∷ older) k = if k == suc (length older) then chain older m.before ++ m.character ∷ [] else chain older k
