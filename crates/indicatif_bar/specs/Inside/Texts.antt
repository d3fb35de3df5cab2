-- A style's lists of texts. Texts are lists of bytes in UTF-8.
use Rattle.std.specs.Prelude.{ℕ, List, map}
use Rattle.indicatif_bar.specs.Inside.Bars.{bytes_of_strings}
use Rattle.indicatif_bar.specs.declared.style.texts.Texts.{Texts}
use Rattle.indicatif_bar.specs.declared.style.texts.Texts.TheVariants.{Fixed, Own}

-- the texts that a list has
abbrev pub texts_in : Texts → List (List ℕ)
texts_in (Fixed texts) = map (λ text. text.now) texts.now
texts_in (Own texts) = bytes_of_strings texts.items
