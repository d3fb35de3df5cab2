-- How a text with tabs is shown. Texts are lists of bytes in UTF-8.
use Rattle.std.specs.Prelude.{ℕ, List}
use Rattle.indicatif_bar.specs.Tabs.{TabbedText, expanded}

-- the text as it is shown
abbrev pub expanded_text : TabbedText → List ℕ
expanded_text t = expanded t.tab t.text
