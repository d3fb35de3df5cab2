-- The size of a terminal with columns.
use Rattle.std.specs.Prelude.{◌≡◌, Result, MatchResult}
use Rattle.indicatif_text.specs.declared.refusal.Refusal.{Refusal}
use Rattle.indicatif_text.specs.declared.refusal.Refusal.TheVariants.{NoColumns}
use Rattle.indicatif_term.specs.Calls.{TermView}
use Rattle.indicatif_term.specs.declared.target.window.Window.{Window}

-- it is the terminal's, or there is none
abbrev pub WindowOf : TermView → Result Window Refusal → Type 0
WindowOf v result = MatchResult result (λ window. (window.columns ≡ v.columns) × (window.rows ≡ v.rows)) (λ e. (e ≡ NoColumns) × (v.columns ≡ 0))
