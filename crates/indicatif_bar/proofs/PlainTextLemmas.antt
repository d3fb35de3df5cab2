-- A style and a bar without control characters give parts without them, and so lines.
use Rattle.std.proofs.Common.{◌≡◌, arith, ℕ, zero, suc, ◌*◌, ◌++◌, Bool, true, List, [], ◌∷◌, refl, Option, Some, None}
use Rattle.std.specs.Prelude.{map, nat_le, IfSome, bytes_eq, unwrap_or, decimal, encode_utf8_all, option_and_then}
use Rattle.std.specs.Option.{option_map_or}
use Rattle.std.specs.Int.{IsInRange, is_in_range}
use Rattle.std.specs.List.{list_all, slice_index_or, AllByRecursion}
use Rattle.std.specs.Str.{chars}
use Rattle.std.proofs.lemmas.Bool.{cond_both, and_parts, leb-true}
use Rattle.std.proofs.lemmas.List.Elements.{All-append, All-from_recursion, recursion_from_All}
use Rattle.indicatif_text.specs.Columns.{is_plain}
use Rattle.indicatif_text.specs.FormatLaws.{IsPrinted}
use Rattle.indicatif_text.specs.StyleWords.{styled}
use Rattle.indicatif_text.specs.Format.{human_count, human_float_count, fixed_point, binary_bytes, decimal_bytes, formatted_duration, short_duration}
use Rattle.indicatif_text.specs.Template.{Layout, TemplatePart, LiteralText, LineBreak, KeyText}
use Rattle.indicatif_text.proofs.PrintedLemmas.{formatted_is_printed, printed_is_plain}
use Rattle.indicatif_bar.specs.Progress.{Progress, shown_prefix, shown_message}
use Rattle.indicatif_bar.specs.Tabs.{expanded}
use Rattle.indicatif_bar.specs.Trackers.{Tracking}
use Rattle.indicatif_bar.specs.Layout.{padded, cluster, text_columns}
use Rattle.indicatif_bar.specs.Keys.{named, key_named, shown_text, number_text}
use Rattle.indicatif_bar.specs.Styles.{BarStyle, Wide, WideBarOf, WideTextOf, wide_of, wide_part, key_text, named_text, in_layout}
use Rattle.indicatif_bar.specs.StyleLaws.{IsPlainText, cells_in}
use Rattle.indicatif_bar.specs.LineLaws.{IsPlainLiteral, IsPlainWide, IsPlainPart, HasPlainParts, HasPlainTexts, PlainTextsGivePlainLines, PlainLinesAreAsked}
use Rattle.indicatif_bar.specs.declared.style.keys.TextKey.{TextKey}
use Rattle.indicatif_bar.specs.declared.style.keys.NumberKey.{NumberKey}
use Rattle.indicatif_bar.specs.declared.style.keys.Key.{Key}
use Rattle.indicatif_bar.specs.declared.style.keys.Key.TheVariants.{Bar, WideBar, Text, WideText, Number}
use Rattle.indicatif_bar.proofs.BarWidthLemmas.{takes_bar}
use Rattle.indicatif_bar.proofs.PlainLineLemmas.{none_plain, plain_parts_give_plain_lines}
use Rattle.indicatif_bar.proofs.TextWidthLemmas.{takes_styled, plain_takes, taken_plain, plain_padded}

-- ---- keys

-- a text that is written out, of printable ASCII
abbrev is_written : List ℕ → Bool
is_written text = list_all (is_in_range 0x20 0x7E) text

written_printed : (text : List ℕ) → is_written text ≡ true → AllByRecursion (IsInRange 0x20 0x7E) text
written_printed [] e = tt
written_printed (c ∷ cs) e =
    let parts = and_parts (is_in_range 0x20 0x7E c) (is_written cs) e in
    let range = and_parts (nat_le 0x20 c) (nat_le c 0x7E) parts.0 in
    ((leb-true 0x20 c range.0, leb-true c 0x7E range.1), written_printed cs parts.1)

written : (text : List ℕ) → is_written text ≡ true → IsPrinted text
written text e = All-from_recursion (IsInRange 0x20 0x7E) text (written_printed text e)

-- a text that a key shows is one of a spinner's, the prefix, the message, or written out
text_as : (P : List ℕ → Type 0) (strings : List (List ℕ)) (p : Progress) → ((n : ℕ) → P (slice_index_or strings n [])) → P (shown_prefix p) → P (shown_message p)
    → ((text : List ℕ) → is_written text ≡ true → P text) → (key : TextKey) → P (shown_text strings p key)
text_as P strings p ticks prefix message written key = grind (arith, ticks, written)

-- a number that a key shows consists of texts of formatters, and of some that are written out
number_as : (P : List ℕ → Type 0) → ((n : ℕ) → P (decimal n)) → ((n : ℕ) → P (human_count n)) → ((n : ℕ) → P (binary_bytes n)) → ((n : ℕ) → P (decimal_bytes n))
    → ((nanos : ℕ) → P (formatted_duration nanos)) → ((nanos : ℕ) → P (short_duration nanos)) → ((num den places : ℕ) → P (fixed_point num den places))
    → ((num den places : ℕ) → P (human_float_count num den places)) → ((text : List ℕ) → is_written text ≡ true → P text) → ((front back : List ℕ) → P front → P back → P (front ++ back))
    → (p : Progress) (now : ℕ) (width : Option ℕ) (key : NumberKey) → P (number_text p now width key)
number_as P numerals counts binary thousands clocks shorts decimals float_counts written joined p now width key =
    grind (arith, numerals, counts, binary, thousands, clocks, shorts, decimals, float_counts, written, joined)

number_plain : (p : Progress) (now : ℕ) (width : Option ℕ) (key : NumberKey) → IsPlainText (number_text p now width key)
number_plain p now width key =
    let all = formatted_is_printed in
    printed_is_plain (number_text p now width key)
    (number_as IsPrinted all.numerals all.counts all.binary all.thousands all.clocks all.shorts all.decimals all.float_counts written
    (λ front back. All-append (IsInRange 0x20 0x7E) front back) p now width key)

-- ---- lists

index_plain : (texts : List (List ℕ)) (n : ℕ) → AllByRecursion IsPlainText texts → IsPlainText (slice_index_or texts n [])
index_plain [] n all = none_plain
index_plain (text ∷ texts) zero all = all.0
index_plain (text ∷ texts) (suc n) all = index_plain texts n all.1

named_such : {K : Type 0} (Q : K → Type 0) (name : List ℕ) (keys : List (List ℕ × K)) → AllByRecursion (λ entry. Q entry.1) keys → IfSome (named name keys) Q
named_such Q name [] all = tt
named_such Q name (entry ∷ keys) all =
    cond_both (bytes_eq name entry.0) (Some entry.1) (named name keys) (λ o. IfSome o Q) (λ _. all.0) (λ _. named_such Q name keys all.1)

module _ {K : Type 0} (m : Tracking K) (style : BarStyle K) (p : Progress) (now : ℕ) (h : HasPlainTexts m style p now) where
  ticks : AllByRecursion IsPlainText style.tick_strings
  ticks = recursion_from_All IsPlainText style.tick_strings h.ticks

  shown_plain : (key : TextKey) → IsPlainText (shown_text style.tick_strings p key)
  shown_plain key = text_as (λ t. IsPlainText t) style.tick_strings p (λ n. index_plain style.tick_strings n ticks) h.prefix h.message (λ text e. printed_is_plain text (written text e)) key

  wide_plain : (wide : Option Wide) → IfSome wide (IsPlainWide m style p now)
  wide_plain None = tt
  wide_plain (Some (WideBarOf bar layout)) = tt
  wide_plain (Some (WideTextOf key layout)) = shown_plain key

  key_plain : (layout : Layout) (key : Key) → wide_of layout key ≡ None → IsPlainText (key_text m style p now layout key)
  key_plain layout (WideBar bar) e = absurd (cc e)
  key_plain layout (WideText key) e = absurd (cc e)
  key_plain layout (Bar bar) e =
      let width = unwrap_or layout.width 20 in
      taken_plain (cells_in style.clusters width * text_columns (cluster style.clusters 0)) _
      (takes_bar style.clusters style.colours (unwrap_or layout.alternative []) p bar width h.clusters)
  key_plain layout (Text key) e = shown_plain key
  key_plain layout (Number key) e = number_plain p now layout.width key

  known_plain : (layout : Layout) (o : Option Key) → option_and_then (wide_of layout) o ≡ None → IsPlainText (option_map_or (key_text m style p now layout) o [])
  known_plain layout None e = none_plain
  known_plain layout (Some key) e = key_plain layout key e

  -- the text of a name, by what stands under it
  text_plain : (layout : Layout) (name : List ℕ) (o : Option K) → IfSome o (λ k. IsPlainText (expanded style.tab (m.text k p now)))
      → (elim o as (λ _. Option Wide) [ Some k ↦ None | None ↦ option_and_then (wide_of layout) (key_named name) ]) ≡ None
      → IsPlainText (elim o as (λ _. List ℕ) [ Some k ↦ expanded style.tab (m.text k p now) | None ↦ option_map_or (key_text m style p now layout) (key_named name) [] ])
  text_plain layout name (Some k) all e = all
  text_plain layout name None all e = known_plain layout (key_named name) e

  sized_plain : (layout : Layout) (text : List ℕ) (width : Option ℕ) → IsPlainText text → IsPlainText (option_map_or (λ w. padded text w layout.align layout.truncate) width text)
  sized_plain layout text None t = t
  sized_plain layout text (Some w) t = plain_padded text w layout.align layout.truncate t

  layout_plain : (layout : Layout) (text : List ℕ) → IsPlainText text → IsPlainText (in_layout m style p now layout text)
  layout_plain layout text t =
      let sized = option_map_or (λ w. padded text w layout.align layout.truncate) layout.width text in
      let numbers = unwrap_or layout.style [] in
      taken_plain (text_columns sized) (styled style.colours numbers sized)
      (takes_styled (text_columns sized) style.colours numbers sized (plain_takes sized (sized_plain layout text layout.width t)))

  part_plain : (part : TemplatePart) → IsPlainLiteral style part → IsPlainPart m style p now part
  part_plain (LiteralText text) literal = (λ e. literal, tt)
  part_plain LineBreak literal = (λ e. none_plain, tt)
  part_plain (KeyText key layout) literal =
      let name = encode_utf8_all key in
      let such = named_such (λ k. IsPlainText (expanded style.tab (m.text k p now))) name style.keys
      (recursion_from_All (λ entry. IsPlainText (expanded style.tab (m.text entry.1 p now))) style.keys h.trackers) in
      (λ e. layout_plain layout (named_text m style p now name layout) (text_plain layout name (named name style.keys) such e), wide_plain (wide_part m style p now (KeyText key layout)))

  parts_plain : (parts : List TemplatePart) → AllByRecursion (IsPlainLiteral style) parts → AllByRecursion (IsPlainPart m style p now) parts
  parts_plain [] all = tt
  parts_plain (x ∷ xs) all = (part_plain x all.0, parts_plain xs all.1)

  has_plain_parts : HasPlainParts m style p now
  has_plain_parts = record {
    parts = All-from_recursion (IsPlainPart m style p now) style.parts (parts_plain style.parts (recursion_from_All (IsPlainLiteral style) style.parts h.literals));
    clusters = h.clusters;
  }

pub plain_texts_give_plain_lines : {K : Type 0} → PlainTextsGivePlainLines K
plain_texts_give_plain_lines m style p now columns h = plain_parts_give_plain_lines m style p now columns (has_plain_parts m style p now h)

-- ---- in characters

asked : (ls : List (List ℕ)) → AllByRecursion IsPlainText ls → list_all is_plain (map chars ls) ≡ true
asked [] all = refl
asked (l ∷ ls) all = rw all.0.1 (asked ls all.1)

pub plain_lines_are_asked : PlainLinesAreAsked
plain_lines_are_asked ls all = asked ls (recursion_from_All IsPlainText ls all)
