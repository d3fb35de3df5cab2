-- Texts of a bar with another tab width.
use Rattle.std.specs.Prelude.{◌≡◌, IsTrue, string_bytes, List, ℕ}
use Rattle.indicatif_bar.specs.declared.progress.Widened.{Widened}
use Rattle.indicatif_bar.specs.Progress.{Progress}
use Rattle.indicatif_bar.specs.Tabs.{expanded, has_tab}

-- a text is another one with a tab width, if that has a tab
abbrev pub IsAtWidth : ℕ → List ℕ → List ℕ → Type 0
IsAtWidth tab text other = IsTrue (has_tab text) → other ≡ expanded tab text

-- the texts are those of the bar with their tab width
abbrev pub IsWidened : Widened → Progress → Type 0
IsWidened w p = IsAtWidth w.tab p.message (string_bytes w.message) × IsAtWidth w.tab p.prefix (string_bytes w.prefix)
