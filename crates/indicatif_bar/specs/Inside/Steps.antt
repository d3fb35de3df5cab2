-- What the parts of a style do, found once. Texts are lists of bytes in UTF-8.
use Rattle.std.specs.declared.string.String.{String}
use Rattle.std.specs.declared.alloc.Global.{Global}
use Rattle.std.specs.Prelude.{map, ℕ, Bool, true, false, ◌&&◌, ◌==◌, length, List, [], Option, Some, None, encode_utf8_all, bytes_eq, position, option_map, string_bytes}
use Rattle.std.specs.Option.{option_map_or}
use Rattle.std.specs.List.{slice_get}
use Rattle.indicatif_text.specs.Template.{Layout, TemplatePart, LiteralText, LineBreak, KeyText}
use Rattle.indicatif_text.specs.StyleWords.{numbers_of}
use Rattle.indicatif_bar.specs.Tabs.{expanded}
use Rattle.indicatif_bar.specs.Progress.{Progress}
use Rattle.indicatif_bar.specs.Trackers.{Tracking}
use Rattle.indicatif_bar.specs.Keys.{key_named}
use Rattle.indicatif_bar.specs.Styles.{BarStyle, Wide, WideBarOf, WideTextOf, wide_of, key_text, in_layout, is_bare_layout, is_empty_key}
use Rattle.indicatif_bar.specs.declared.style.steps.Source.{Source}
use Rattle.indicatif_bar.specs.declared.style.steps.Source.TheVariants.{Tracker, Known, Nothing}
use Rattle.indicatif_bar.specs.declared.style.steps.Placeholder.{Placeholder}
use Rattle.indicatif_bar.specs.declared.style.steps.WideKey.{WideKey}
use Rattle.indicatif_bar.specs.declared.style.steps.WideKey.TheVariants as wide_key
use Rattle.indicatif_bar.specs.declared.style.steps.Step.{Step}
use Rattle.indicatif_bar.specs.declared.style.steps.Step.TheVariants as step

-- what a part does
pub data Effect : Type 0 where
  WritesText : (text : List ℕ) → Effect
  Breaks : Effect
  PutsSource : (source : Source) → (layout : Layout) → Effect

-- the layout of a placeholder
abbrev pub placeholder_layout : Placeholder → Layout
placeholder_layout h = record { align = h.align; width = h.width; truncate = h.truncate; style = option_map numbers_of h.style; alternative = option_map numbers_of h.alternative }

-- the text of a literal part
abbrev pub literal_text : Option TemplatePart → List ℕ
literal_text (Some (LiteralText text)) = encode_utf8_all text
literal_text _ = []

-- what a step of these parts does
abbrev pub effect_of : List TemplatePart → Step → Effect
effect_of parts (step.Text text) = WritesText (string_bytes text)
effect_of parts (step.Literal place) = WritesText (literal_text (slice_get parts place))
effect_of parts step.Break = Breaks
effect_of parts (step.Placeholder placeholder) = PutsSource placeholder.source (placeholder_layout placeholder)

-- the names of trackers
abbrev pub names_of : {K : Type 0} → List (String Global × K) → List (List ℕ)
names_of keys = map (λ entry. string_bytes entry.0) keys

-- where the text of a name comes from, if the first tracker of the name stands at this place
abbrev pub source_at : List ℕ → Option ℕ → Source
source_at name (Some k) = Tracker k
source_at name None = option_map_or Known (key_named name) Nothing

-- where the text of a name comes from: the first tracker with the name, or otherwise its key
abbrev pub source_of : List (List ℕ) → List ℕ → Source
source_of names name = source_at name (position (bytes_eq name) names)

-- what a part of a template does
abbrev pub effect_of_part : List (List ℕ) → ℕ → TemplatePart → Effect
effect_of_part names tab (LiteralText text) = WritesText (expanded tab (encode_utf8_all text))
effect_of_part names tab LineBreak = Breaks
effect_of_part names tab (KeyText key layout) = PutsSource (source_of names (encode_utf8_all key)) layout

-- the wide placeholder of an effect
abbrev pub wide_source : Layout → Source → Option Wide
wide_source layout (Known key) = wide_of layout key
wide_source layout _ = None

-- the wide placeholder of a value
abbrev pub wide_found : WideKey → Wide
wide_found (wide_key.Bar bar placeholder) = WideBarOf bar (placeholder_layout placeholder.now)
wide_found (wide_key.Text text placeholder) = WideTextOf text (placeholder_layout placeholder.now)

module _ {K : Type 0} (m : Tracking K) (style : BarStyle K) (p : Progress) (now : ℕ) where
  -- the text from a source
  abbrev pub source_text : Layout → Source → List ℕ
  source_text layout (Tracker k) = option_map_or (λ entry. expanded style.tab (m.text entry.1 p now)) (slice_get style.keys k) []
  source_text layout (Known key) = key_text m style p now layout key
  source_text layout Nothing = []

  -- the text of an effect
  abbrev pub effect_text : Effect → List ℕ
  effect_text (WritesText text) = text
  effect_text Breaks = []
  effect_text (PutsSource source layout) = in_layout m style p now layout (source_text layout source)

module _ {K : Type 0} (style : BarStyle K) (p : Progress) where
  -- whether a source has no text
  abbrev pub is_empty_source : Layout → Source → Bool
  is_empty_source layout (Tracker k) = false
  is_empty_source layout (Known key) = is_empty_key style p layout key
  is_empty_source layout Nothing = true

  -- whether an effect writes nothing
  abbrev pub is_empty_effect : Effect → Bool
  is_empty_effect (WritesText text) = length text == 0
  is_empty_effect Breaks = false
  is_empty_effect (PutsSource source layout) = is_bare_layout style.colours layout && is_empty_source layout source
