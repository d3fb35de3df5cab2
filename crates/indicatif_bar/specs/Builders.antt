-- Which characters and tick strings a style takes, and what a new style has. Texts are lists of bytes in UTF-8.
use Rattle.std.specs.Prelude.{ℕ, true, false, not, ◌==◌, nat_lt, List, [], ◌∷◌, map, length, Option, Some, None, if◌then◌else◌, encode_utf8}
use Rattle.std.specs.Str.{chars}
use Rattle.std.specs.List.{list_all}
use Rattle.unicode_segmentation.specs.Grapheme.{graphemes}
use Rattle.indicatif_text.specs.declared.refusal.Refusal.{Refusal}
use Rattle.indicatif_text.specs.declared.refusal.Refusal.TheVariants.{FewTicks, FewProgressChars, UnequalWidths, ZeroWidthChars}
use Rattle.indicatif_text.specs.Template.{TemplatePart}
use Rattle.indicatif_bar.specs.Layout.{text_columns, cluster}
use Rattle.indicatif_bar.specs.Styles.{BarStyle}

-- the grapheme clusters of a text (Unicode, UAX #29)
abbrev pub clusters_of : List ℕ → List (List ℕ)
clusters_of text = graphemes true text

-- each character of a text by itself
abbrev pub characters_of : List ℕ → List (List ℕ)
characters_of text = map encode_utf8 (chars text)

-- why these tick strings are refused, if they are
abbrev pub tick_fault : List (List ℕ) → Option Refusal
tick_fault strings = if nat_lt (length strings) 2 then Some FewTicks else None

-- why these clusters are refused, if they are
abbrev pub progress_fault : List (List ℕ) → Option Refusal
progress_fault clusters =
    let width = text_columns (cluster clusters 0) in
    if nat_lt (length clusters) 2 then Some FewProgressChars
    else if not (list_all (λ c. text_columns c == width) clusters) then Some UnequalWidths
    else if width == 0 then Some ZeroWidthChars
    else None

-- the trackers after one was added: it comes before an earlier one with its name
abbrev pub with_key : {K : Type 0} → List ℕ → K → List (List ℕ × K) → List (List ℕ × K)
with_key name tracker keys = (name, tracker) ∷ keys

-- ---- a new style

-- the default characters of a bar: a full block, and a light shade
abbrev pub first_clusters : List (List ℕ)
first_clusters = encode_utf8 0x2588 ∷ encode_utf8 0x2591 ∷ []

-- a new style with a template
abbrev pub first_style : {K : Type 0} → List ℕ → List TemplatePart → BarStyle K
first_style ticks parts = record { parts = parts; clusters = first_clusters; tick_strings = characters_of ticks; keys = []; colours = false; tab = 8 }
