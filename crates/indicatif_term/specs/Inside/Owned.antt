-- Lines of one bar below one another.
use Rattle.std.specs.Prelude.{◌==◌, ℕ, zero, suc, ◌+◌, List, [], ◌∷◌, false, if◌then◌else◌}
use Rattle.indicatif_term.specs.Counts.{RowCount}
use Rattle.indicatif_term.specs.declared.engine.layout.Plan.{Plan}

-- how many of these are a bar's, from the first one on
abbrev pub run_length : ℕ → List RowCount → ℕ
run_length bar [] = 0
run_length bar (c ∷ cs) = if c.bar == bar then suc (run_length bar cs) else 0

-- how many the first n are, with those behind them of the same bar as the last one
abbrev pub through : ℕ → List RowCount → ℕ
through zero cs = 0
through (suc n) [] = 0
through (suc zero) (c ∷ cs) = suc (run_length c.bar cs)
through (suc (suc n)) (c ∷ cs) = suc (through (suc n) cs)

-- a blank line
abbrev pub blank_count : RowCount
blank_count = record { bar = 0; rows = 1 }

-- how many lines become kept ones where lines of this plan are drawn below blank ones
abbrev pub kept_below : Plan → ℕ → ℕ
kept_below p blanks = if p.passing == 0 then 0 else blanks + p.passing

-- nothing planned yet
abbrev pub no_plan : Plan
no_plan = record { rows = 0; lines = 0; full = false; passing = 0; passing_rows = 0 }
