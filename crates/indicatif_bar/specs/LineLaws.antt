-- Laws of a bar's lines, and of tabs in them. Texts are lists of bytes in UTF-8.
use Rattle.std.specs.Prelude.{◌≡◌, ℕ, ◌≤◌, IsTrue, map, true, false, List, [], ◌∷◌, ◌++◌, length, Some, None, All, IfSome, flat_map, filter_map, encode_utf8_all}
use Rattle.std.specs.Str.{chars}
use Rattle.indicatif_text.specs.Columns.{rows_of}
use Rattle.indicatif_text.specs.Template.{Layout, TemplatePart, LiteralText, LineBreak, KeyText}
use Rattle.indicatif_term.specs.Lines.{are_plain}
use Rattle.indicatif_bar.specs.Tabs.{expanded}
use Rattle.indicatif_bar.specs.Progress.{Progress, shown_message, shown_prefix}
use Rattle.indicatif_bar.specs.Trackers.{Tracking}
use Rattle.indicatif_bar.specs.Layout.{text_columns, cluster}
use Rattle.indicatif_bar.specs.Keys.{named, key_named, shown_text}
use Rattle.indicatif_bar.specs.declared.style.keys.BarKey.{BarKey}
use Rattle.indicatif_bar.specs.declared.style.keys.Key.TheVariants.{WideBar}
use Rattle.indicatif_bar.specs.Styles.{BarStyle, Wide, WideBarOf, WideTextOf, wide_part, part_text, is_line_break, lines, is_empty_style}
use Rattle.indicatif_bar.specs.Commands.{BarRecord, SetTabWidth, obeyed}
use Rattle.indicatif_bar.specs.StyleLaws.{IsPlainText, AreTaken}

-- ---- a line with a wide bar

module _ {K : Type 0} (m : Tracking K) (style : BarStyle K) (p : Progress) (now : ℕ) where
  -- the text of a template's parts, with a filler for each wide key
  abbrev pub parts_text : List TemplatePart → List ℕ
  parts_text parts = flat_map (part_text m style p now) parts

  -- a template of one line with one wide bar, of clusters of one column, between texts of characters with a width that have room
  pub record HasWideBar (columns : ℕ) : Type 0 where
    pub front : List TemplatePart
    pub back : List TemplatePart
    pub name : List ℕ
    pub layout : Layout
    pub bar : BarKey
    pub parts : style.parts ≡ front ++ KeyText name layout ∷ back
    pub one_line : All (λ part. is_line_break part ≡ false) style.parts
    pub is_bar : key_named (encode_utf8_all name) ≡ Some (WideBar bar)
    pub no_tracker : named (encode_utf8_all name) style.keys ≡ None
    pub alone : filter_map (wide_part m style p now) style.parts ≡ WideBarOf bar layout ∷ []
    pub plain_front : IsPlainText (parts_text front)
    pub plain_back : IsPlainText (parts_text back)
    pub clusters : AreTaken style.clusters
    pub narrow : text_columns (cluster style.clusters 0) ≡ 1
    pub room : text_columns (parts_text style.parts) ≤ columns

-- a line of characters with a width that takes exactly this many columns, and one row
pub record FillsRow (columns : ℕ) (line : List ℕ) : Type 0 where
  pub plain : IsPlainText line
  pub columns_are : text_columns line ≡ columns
  pub one_row : length (rows_of columns (chars line)) ≡ 1

-- such a template gives one line, which fills a row exactly, so that it never wraps
abbrev pub WideBarsFill : Type 0 → Type 0
WideBarsFill K = (m : Tracking K) (style : BarStyle K) (p : Progress) (now columns : ℕ) → HasWideBar m style p now columns
    → (line : List ℕ) × (lines m style p now columns ≡ line ∷ []) × FillsRow columns line

-- ---- plain lines

module _ {K : Type 0} (m : Tracking K) (style : BarStyle K) (p : Progress) (now : ℕ) where
  -- if a wide key shows a text, it consists of characters with a width and colour sequences
  abbrev pub IsPlainWide : Wide → Type 0
  IsPlainWide (WideBarOf bar layout) = Unit {0}
  IsPlainWide (WideTextOf key layout) = IsPlainText (shown_text style.tick_strings p key)

  -- so does what a part of a template writes, if it is no wide key, and otherwise what the wide key shows
  abbrev pub IsPlainPart : TemplatePart → Type 0
  IsPlainPart part = (wide_part m style p now part ≡ None → IsPlainText (part_text m style p now part)) × IfSome (wide_part m style p now part) IsPlainWide

  -- this holds of all parts, and a style takes the clusters
  pub record HasPlainParts : Type 0 where
    pub parts : All IsPlainPart style.parts
    pub clusters : AreTaken style.clusters

-- then it holds of the lines, whatever the wide keys are and however wide the terminal is
abbrev pub PlainPartsGivePlainLines : Type 0 → Type 0
PlainPartsGivePlainLines K = (m : Tracking K) (style : BarStyle K) (p : Progress) (now columns : ℕ) → HasPlainParts m style p now
    → All IsPlainText (lines m style p now columns)

-- a literal text of a template consists of such characters, with its tabs as spaces
abbrev pub IsPlainLiteral : {K : Type 0} → BarStyle K → TemplatePart → Type 0
IsPlainLiteral style (LiteralText text) = IsPlainText (expanded style.tab (encode_utf8_all text))
IsPlainLiteral style LineBreak = Unit {0}
IsPlainLiteral style (KeyText key layout) = Unit {0}

-- this holds of all texts of a style and a bar: literals, spinner, trackers, message and prefix; and a style takes the clusters
pub record HasPlainTexts {K : Type 0} (m : Tracking K) (style : BarStyle K) (p : Progress) (now : ℕ) : Type 0 where
  pub literals : All (IsPlainLiteral style) style.parts
  pub ticks : All IsPlainText style.tick_strings
  pub clusters : AreTaken style.clusters
  pub trackers : All (λ entry. IsPlainText (expanded style.tab (m.text entry.1 p now))) style.keys
  pub message : IsPlainText (shown_message p)
  pub prefix : IsPlainText (shown_prefix p)

-- then it holds of the lines, whatever keys the template has
abbrev pub PlainTextsGivePlainLines : Type 0 → Type 0
PlainTextsGivePlainLines K = (m : Tracking K) (style : BarStyle K) (p : Progress) (now columns : ℕ) → HasPlainTexts m style p now
    → All IsPlainText (lines m style p now columns)

-- and such lines are plain in the sense of the headline, which has them as characters
abbrev pub PlainLinesAreAsked : Type 0
PlainLinesAreAsked = (ls : List (List ℕ)) → All IsPlainText ls → IsTrue (are_plain (map chars ls))

-- ---- no lines

-- a style that shows nothing gives no lines, at any moment, however wide the terminal is
abbrev pub EmptyStylesHaveNoLines : Type 0 → Type 0
EmptyStylesHaveNoLines K = (m : Tracking K) (style : BarStyle K) (p : Progress) (now columns : ℕ) → is_empty_style style p ≡ true → lines m style p now columns ≡ []

-- ---- tabs

-- after another tab width, message, prefix and the template's literals are as if they were set with that width, whatever widths were set before
abbrev pub NewTabWidths : Type 0 → Type 0
NewTabWidths K = (m : Tracking K) (bar : BarRecord K) (tab now : ℕ) →
    let next = (obeyed m (SetTabWidth tab) bar now).0 in
    (shown_message next.progress ≡ expanded tab bar.progress.message) × (shown_prefix next.progress ≡ expanded tab bar.progress.prefix)
    × (next.style.parts ≡ bar.style.parts) × ((text : List ℕ) → part_text m next.style next.progress now (LiteralText text) ≡ expanded tab (encode_utf8_all text))

-- only the last tab width counts
abbrev pub LastTabWidthCounts : Type 0 → Type 0
LastTabWidthCounts K = (m : Tracking K) (bar : BarRecord K) (earlier tab now : ℕ) →
    obeyed m (SetTabWidth tab) (obeyed m (SetTabWidth earlier) bar now).0 now ≡ obeyed m (SetTabWidth tab) bar now
