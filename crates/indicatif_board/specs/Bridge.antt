-- Lines of a log: a record's level and its text.
use Rattle.std.specs.Prelude.{ℕ, List, [], ◌∷◌, ◌++◌, ◌-◌, length, replicate}
use Rattle.log.specs.declared.level.Level.{Level}
use Rattle.log.specs.Level.{level_name}

-- a level's name, filled with spaces on the right to five columns
abbrev pub level_column : Level → List ℕ
level_column level = level_name level ++ replicate (5 - length (level_name level)) 0x20

-- a record's line: its level, a space, its text
abbrev pub bridge_bytes : Level → List ℕ → List ℕ
bridge_bytes level text = (level_column level ++ 0x20 ∷ []) ++ text
