-- Worked cases of styles.
use Rattle.std.specs.Prelude.{◌≡◌, true, false, [], ◌∷◌, ◌++◌, codes}
use Rattle.indicatif_text.specs.ColumnCases.{escape}
use Rattle.indicatif_text.specs.StyleWords.{style_of, styled}

-- a later colour replaces an earlier one, attributes are sorted, other words are ignored
abbrev pub StyleNumbers : Type 0
StyleNumbers = style_of (codes "hidden.red.bold.on_blue.green.foo.on_foo") ≡ 32 ∷ 44 ∷ 1 ∷ 8 ∷ []

-- each number is its own sequence; a reset stands after the text, also after an empty one
abbrev pub StyledText : Type 0
StyledText = (styled true (style_of (codes "red.on_blue")) (codes " XXX ") ≡ escape ++ codes "[31m" ++ escape ++ codes "[44m XXX " ++ escape ++ codes "[0m")
    × (styled true (style_of (codes "red")) [] ≡ escape ++ codes "[31m" ++ escape ++ codes "[0m") × (styled true (style_of []) (codes "x") ≡ codes "x")
    × (styled false (style_of (codes "red.on_blue")) (codes " XXX ") ≡ codes " XXX ")
