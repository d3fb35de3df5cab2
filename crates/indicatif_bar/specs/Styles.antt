-- The lines of a bar. Texts are lists of bytes in UTF-8; those in the parts of a template are characters.
use Rattle.std.specs.Prelude.{ℕ, ◌-◌, Bool, true, false, not, ◌&&◌, ◌==◌, is_some, List, [], ◌∷◌, ◌++◌, length, Option, Some, None, if◌then◌else◌, unwrap_or, flat_map, filter_map, find, option_and_then, encode_utf8_all}
use Rattle.std.specs.Str.{chars, drop_trailing_whitespace}
use Rattle.std.specs.List.{slice_split, slice_get, last_or, list_any, list_all}
use Rattle.std.specs.Option.{option_map_or}
use Rattle.indicatif_text.specs.StyleWords.{styled}
use Rattle.indicatif_text.specs.Template.{Layout, TemplatePart, LiteralText, LineBreak, KeyText}
use Rattle.indicatif_bar.specs.Tabs.{expanded}
use Rattle.indicatif_bar.specs.Progress.{Progress}
use Rattle.indicatif_bar.specs.Trackers.{Tracking}
use Rattle.indicatif_bar.specs.Layout.{text_columns, padded, bar_text}
use Rattle.indicatif_bar.specs.Keys.{named, key_named, bar_fraction, shown_text, number_text}
use Rattle.indicatif_bar.specs.declared.style.keys.BarKey.{BarKey}
use Rattle.indicatif_bar.specs.declared.style.keys.TextKey.{TextKey}
use Rattle.indicatif_bar.specs.declared.style.keys.Key.{Key}
use Rattle.indicatif_bar.specs.declared.style.keys.Key.TheVariants.{Bar, WideBar, Text, WideText, Number}

-- how a bar looks, with trackers under your own keys
pub record BarStyle (K : Type 0) : Type 0 where
  -- the parts of its template
  pub parts : List TemplatePart
  -- the characters of a bar: done, the shades between, not done
  pub clusters : List (List ℕ)
  -- the texts of a spinner, the last one for a finished bar
  pub tick_strings : List (List ℕ)
  pub keys : List (List ℕ × K)
  pub colours : Bool
  -- its tab width
  pub tab : ℕ

-- ---- keys

-- the placeholder of a wide key, as it is laid out
pub data Wide : Type 0 where
  WideBarOf : (bar : BarKey) → (layout : Layout) → Wide
  WideTextOf : (text : TextKey) → (layout : Layout) → Wide

abbrev pub wide_of : Layout → Key → Option Wide
wide_of layout (WideBar bar) = Some (WideBarOf bar layout)
wide_of layout (WideText text) = Some (WideTextOf text layout)
wide_of layout _ = None

-- the filler that marks the place of a wide key
abbrev pub filler : List ℕ
filler = 0 ∷ []

abbrev pub is_filler : ℕ → Bool
is_filler b = b == 0

-- the text's last character is a filler
abbrev pub ends_in_filler : List ℕ → Bool
ends_in_filler text = option_map_or is_filler (slice_get text (length text - 1)) false

abbrev pub is_newline : ℕ → Bool
is_newline b = b == 0x0A

abbrev pub is_line_break : TemplatePart → Bool
is_line_break LineBreak = true
is_line_break _ = false

-- the columns that the first line with a filler leaves free
abbrev pub columns_left : ℕ → List ℕ → ℕ
columns_left columns text = columns - option_map_or text_columns (find (list_any is_filler) (slice_split is_newline text)) 0

-- a text with each filler replaced
abbrev pub with_fillers_as : List ℕ → List ℕ → List ℕ
with_fillers_as shown text = flat_map (λ b. if is_filler b then shown else b ∷ []) text

module _ {K : Type 0} (style : BarStyle K) (p : Progress) where
  -- the text that replaces each filler
  abbrev pub wide_text : ℕ → List ℕ → Wide → List ℕ
  wide_text columns text (WideBarOf bar layout) = bar_text style.clusters style.colours (unwrap_or layout.alternative []) (bar_fraction p bar) (columns_left columns text)
  wide_text columns text (WideTextOf key layout) =
      let shown = padded (shown_text style.tick_strings p key) (columns_left columns text) layout.align true in
      if ends_in_filler text then encode_utf8_all (drop_trailing_whitespace (chars shown)) else shown

  -- a text with its fillers replaced, by the latest wide key
  abbrev pub filled : ℕ → Option Wide → List ℕ → List ℕ
  filled columns None text = text
  filled columns (Some wide) text = with_fillers_as (wide_text columns text wide) text

  -- the lines of a text, by the latest wide key
  abbrev pub lines_with : ℕ → Option Wide → List ℕ → List (List ℕ)
  lines_with columns wide text = slice_split is_newline (filled columns wide text)

-- the columns of a bar without a width
abbrev pub bar_columns : ℕ
bar_columns = 20

module _ {K : Type 0} (m : Tracking K) (style : BarStyle K) (p : Progress) (now : ℕ) where
  -- the text of a key, for a placeholder's layout
  abbrev pub key_text : Layout → Key → List ℕ
  key_text layout (Bar bar) = bar_text style.clusters style.colours (unwrap_or layout.alternative []) (bar_fraction p bar) (unwrap_or layout.width bar_columns)
  key_text layout (WideBar bar) = filler
  key_text layout (Text key) = shown_text style.tick_strings p key
  key_text layout (WideText key) = filler
  key_text layout (Number key) = number_text p now layout.width key

  -- the text of a name: its tracker's, its key's, or none if it is unknown
  abbrev pub named_text : List ℕ → Layout → List ℕ
  named_text name layout = elim (named name style.keys) [
    | Some k ↦ expanded style.tab (m.text k p now)
    | None ↦ option_map_or (key_text layout) (key_named name) []
  ]

  -- a text at the placeholder's width, if it has one, and in its style
  abbrev pub in_layout : Layout → List ℕ → List ℕ
  in_layout layout text =
      styled style.colours (unwrap_or layout.style []) (option_map_or (λ width. padded text width layout.align layout.truncate) layout.width text)

  -- the text of a part of the template
  abbrev pub part_text : TemplatePart → List ℕ
  part_text (LiteralText text) = expanded style.tab (encode_utf8_all text)
  part_text LineBreak = []
  part_text (KeyText key layout) = in_layout layout (named_text (encode_utf8_all key) layout)

  -- ---- wide keys

  -- the wide placeholder of a part, if no tracker has its name
  abbrev pub wide_part : TemplatePart → Option Wide
  wide_part (LiteralText text) = None
  wide_part LineBreak = None
  wide_part (KeyText key layout) = elim (named (encode_utf8_all key) style.keys) [
    | Some k ↦ None
    | None ↦ option_and_then (wide_of layout) (key_named (encode_utf8_all key))
  ]

  -- the latest wide placeholder of the parts, or otherwise the one before
  abbrev pub latest_wide : Option Wide → List TemplatePart → Option Wide
  latest_wide before parts = last_or before (filter_map wide_part parts)

  -- ---- lines

  -- the lines of parts between line breaks, group by group; the last group gives none if its text is empty
  abbrev pub lines_of_groups : ℕ → Option Wide → List (List TemplatePart) → List (List ℕ)
  lines_of_groups columns wide [] = []
  lines_of_groups columns wide (parts ∷ []) =
      if length (flat_map part_text parts) == 0 then [] else lines_with style p columns (latest_wide wide parts) (flat_map part_text parts)
  lines_of_groups columns wide (parts ∷ next ∷ groups) =
      lines_with style p columns (latest_wide wide parts) (flat_map part_text parts) ++ lines_of_groups columns (latest_wide wide parts) (next ∷ groups)

  -- the lines of a bar on a terminal of the given width
  unfoldable pub lines : ℕ → List (List ℕ)
  lines columns = lines_of_groups columns None (slice_split is_line_break style.parts)

-- ---- styles that show nothing

-- a layout that adds nothing to an empty text: no columns, and no colours
abbrev pub is_bare_layout : Bool → Layout → Bool
is_bare_layout colours layout = (unwrap_or layout.width 0 == 0) && not (colours && is_some layout.style)

module _ {K : Type 0} (style : BarStyle K) (p : Progress) where
  -- a key whose text is empty at each moment: a bar of no columns, or a text that is empty
  abbrev pub is_empty_key : Layout → Key → Bool
  is_empty_key layout (Bar bar) = (unwrap_or layout.width bar_columns == 0) && not (style.colours && is_some layout.alternative)
  is_empty_key layout (Text key) = length (shown_text style.tick_strings p key) == 0
  is_empty_key layout _ = false

  -- a name that has no tracker, and such a key or none
  abbrev pub is_empty_name : List ℕ → Layout → Bool
  is_empty_name name layout = elim (named name style.keys) [
    | Some k ↦ false
    | None ↦ option_map_or (is_empty_key layout) (key_named name) true
  ]

  -- a part of a template that shows nothing
  abbrev pub is_empty_part : TemplatePart → Bool
  is_empty_part (LiteralText text) = length (expanded style.tab (encode_utf8_all text)) == 0
  is_empty_part LineBreak = false
  is_empty_part (KeyText key layout) = is_bare_layout style.colours layout && is_empty_name (encode_utf8_all key) layout

  -- a style that shows nothing: no part of its template does
  unfoldable pub is_empty_style : Bool
  is_empty_style = list_all is_empty_part style.parts
