-- A style that shows nothing has no lines, and its steps are seen to show nothing one by one.
use Rattle.std.proofs.Common.{◌≡◌, ℕ, zero, suc, ◌/◌, Bool, true, false, List, [], ◌∷◌, Option, Some, None, refl, ◌∙◌, sym, ap, ap₂, map, drop, drop-cons, get_or, length, ◌<◌, ◌≤◌, arith}
use Rattle.std.specs.Prelude.{not, ◌&&◌, ◌==◌, is_some, unwrap_or, encode_utf8_all}
use Rattle.std.specs.Option.{option_map_or}
use Rattle.std.specs.Str.{chars}
use Rattle.std.specs.List.{list_all}
use Rattle.std.proofs.Math.Nat.{zero-div}
use Rattle.std.proofs.Math.ListN.{drop_of_length-le}
use Rattle.std.proofs.lemmas.Bool.{and_parts, false≢true, eqb-true}
use Rattle.indicatif_text.specs.Template.{Layout, TemplatePart, LiteralText, LineBreak, KeyText}
use Rattle.unicode_width.proofs.Computing.{unicode_width}
use Rattle.indicatif_text.specs.Columns.{visible}
use Rattle.indicatif_text.specs.StyleWords.{styled}
use Rattle.indicatif_text.specs.declared.template.Alignment.{Alignment}
use Rattle.indicatif_text.specs.declared.template.Alignment.TheVariants as alignment
use Rattle.indicatif_bar.specs.declared.measures.Fraction.{Fraction}
use Rattle.indicatif_bar.specs.Layout.{padded, bar_text, text_columns, cluster}
use Rattle.indicatif_bar.specs.Progress.{Progress}
use Rattle.indicatif_bar.specs.Trackers.{Tracking}
use Rattle.indicatif_bar.specs.Keys.{key_named, bar_fraction}
use Rattle.indicatif_bar.specs.declared.style.keys.Key.{Key}
use Rattle.indicatif_bar.specs.declared.style.keys.Key.TheVariants.{Bar, Text}
use Rattle.indicatif_bar.specs.Styles.{BarStyle, Wide, key_text, in_layout, is_bare_layout, is_empty_key, is_empty_name, is_empty_part, is_empty_style}
use Rattle.indicatif_bar.specs.declared.style.steps.Source.{Source}
use Rattle.indicatif_bar.specs.declared.style.steps.Source.TheVariants.{Tracker, Known, Nothing}
use Rattle.indicatif_bar.specs.Inside.Steps.{Effect, WritesText, Breaks, PutsSource, source_of, effect_of_part, source_text, effect_text, is_empty_source, is_empty_effect}
use Rattle.indicatif_bar.specs.StyleLaws.{cells_in}
use Rattle.indicatif_bar.specs.LineLaws.{EmptyStylesHaveNoLines}
use Rattle.indicatif_bar.proofs.BarLawLemmas.{without_cells}
use Rattle.indicatif_bar.proofs.LinesLemmas.{names, lines_from, wide_after, lines_by_steps, source_cases, ByTracker, ByKey}

-- ---- empty texts

empty_text : (text : List ℕ) → (length text == 0) ≡ true → text ≡ []
empty_text [] e = refl
empty_text (b ∷ text) e = absurd (omega (arith, eqb-true (length (b ∷ text)) 0 e))

-- a width that is none or 0 adds nothing to an empty text
empty_padded : (width : Option ℕ) (align : Alignment) (truncate : Bool) → (unwrap_or width 0 == 0) ≡ true →
    option_map_or (λ n. padded [] n align truncate) width [] ≡ []
unfolding unicode_width visible chars padded
empty_padded None align truncate e = refl
empty_padded (Some zero) alignment.Left truncate e = refl
empty_padded (Some zero) alignment.Right truncate e = refl
empty_padded (Some zero) alignment.Center truncate e = refl
empty_padded (Some (suc n)) align truncate e = absurd (omega (arith, eqb-true (suc n) 0 e))

-- nor does a style that isn't named, or with colours off
empty_styled : (colours : Bool) (style : Option (List ℕ)) → not (colours && is_some style) ≡ true → styled colours (unwrap_or style []) [] ≡ []
empty_styled colours None e = refl
empty_styled false (Some []) e = refl
empty_styled false (Some (n ∷ ns)) e = refl
empty_styled true (Some ns) e = absurd (false≢true e)

-- a bar of no columns
empty_bar : (clusters : List (List ℕ)) (colours : Bool) (alternative : Option (List ℕ)) (f : Fraction) (width : ℕ) → (width == 0) ≡ true →
    not (colours && is_some alternative) ≡ true → bar_text clusters colours (unwrap_or alternative []) f width ≡ []
empty_bar clusters colours alternative f width none plain =
    let cells : cells_in clusters width ≡ 0 = ap (λ n. n / text_columns (cluster clusters 0)) (eqb-true width 0 none) ∙ zero-div (text_columns (cluster clusters 0)) in
    without_cells clusters colours (unwrap_or alternative []) f width cells ∙ empty_styled colours alternative plain

module _ {K : Type 0} (m : Tracking K) (style : BarStyle K) (p : Progress) (now : ℕ) where
  empty_key : (layout : Layout) (key : Key) → is_empty_key style p layout key ≡ true → key_text m style p now layout key ≡ []
  empty_key layout (Bar bar) e =
      let parts = and_parts _ _ e in
      empty_bar style.clusters style.colours layout.alternative (bar_fraction p bar) (unwrap_or layout.width 20) parts.0 parts.1
  empty_key layout (Text key) e = empty_text _ e
  empty_key layout _ e = absurd (false≢true e)

  empty_source : (layout : Layout) (source : Source) → is_empty_source style p layout source ≡ true → source_text m style p now layout source ≡ []
  empty_source layout (Tracker k) e = absurd (false≢true e)
  empty_source layout (Known key) e = empty_key layout key e
  empty_source layout Nothing e = refl

  empty_effect : (deed : Effect) → is_empty_effect style p deed ≡ true → effect_text m style p now deed ≡ []
  empty_effect (WritesText text) e = empty_text text e
  empty_effect Breaks e = refl
  empty_effect (PutsSource source layout) e =
      let parts = and_parts _ _ e in
      let bare = and_parts _ _ parts.0 in
      ap (in_layout m style p now layout) (empty_source layout source parts.1)
      ∙ ap (styled style.colours (unwrap_or layout.style [])) (empty_padded layout.width layout.align layout.truncate bare.0)
      ∙ empty_styled style.colours layout.style bare.1

  -- deeds that write nothing give no line
  no_lines : (columns : ℕ) (wide : Option Wide) (deeds : List Effect) → list_all (is_empty_effect style p) deeds ≡ true → lines_from m style p now columns wide [] deeds ≡ []
  no_lines columns wide [] e = refl
  no_lines columns wide (Breaks ∷ deeds) e = absurd (false≢true e)
  no_lines columns wide (WritesText text ∷ deeds) e =
      let parts = and_parts _ _ e in
      ap (λ t. lines_from m style p now columns wide t deeds) (empty_text text parts.0) ∙ no_lines columns wide deeds parts.1
  no_lines columns wide (PutsSource source layout ∷ deeds) e =
      let parts = and_parts _ _ e in
      ap (λ t. lines_from m style p now columns (wide_after wide (PutsSource source layout)) t deeds) (empty_effect (PutsSource source layout) parts.0)
      ∙ no_lines columns (wide_after wide (PutsSource source layout)) deeds parts.1

-- ---- what is said of a template's parts is said of its steps

module _ {K : Type 0} (style : BarStyle K) (p : Progress) where
  known_empty : (layout : Layout) (o : Option Key) → option_map_or (is_empty_key style p layout) o true ≡ is_empty_source style p layout (option_map_or Known o Nothing)
  known_empty layout None = refl
  known_empty layout (Some key) = refl

  abbrev empty_at : Layout → List ℕ → Option K → Bool
  empty_at layout name o = elim o [ Some k ↦ false | None ↦ option_map_or (is_empty_key style p layout) (key_named name) true ]

  name_says : (layout : Layout) (name : List ℕ) → is_empty_name style p name layout ≡ is_empty_source style p layout (source_of (names style.keys) name)
  name_says layout name = elim (source_cases style.keys name) [
    | ByTracker k entry at named_is source_is ↦ ap (empty_at layout name) named_is ∙ ap (is_empty_source style p layout) (sym source_is)
    | ByKey named_is source_is ↦ ap (empty_at layout name) named_is ∙ known_empty layout (key_named name) ∙ ap (is_empty_source style p layout) (sym source_is)
  ]

  part_says : (part : TemplatePart) → is_empty_part style p part ≡ is_empty_effect style p (effect_of_part (names style.keys) style.tab part)
  part_says (LiteralText text) = refl
  part_says LineBreak = refl
  part_says (KeyText key layout) = ap (λ b. is_bare_layout style.colours layout && b) (name_says layout (encode_utf8_all key))

  parts_say : (parts : List TemplatePart) → list_all (is_empty_part style p) parts ≡ list_all (is_empty_effect style p) (map (effect_of_part (names style.keys) style.tab) parts)
  parts_say [] = refl
  parts_say (part ∷ parts) = ap₂ (λ a b. a && b) (part_says part) (parts_say parts)

  -- whether a style shows nothing is found step by step
  pub empty_by_steps : is_empty_style style p ≡ list_all (is_empty_effect style p) (map (effect_of_part (names style.keys) style.tab) style.parts)
  unfolding is_empty_style
  empty_by_steps = parts_say style.parts

pub empty_styles_have_no_lines : {K : Type 0} → EmptyStylesHaveNoLines K
empty_styles_have_no_lines m style p now columns e =
    lines_by_steps m style p now columns
    ∙ no_lines m style p now columns None (map (effect_of_part (names style.keys) style.tab) style.parts) (sym (empty_by_steps style p) ∙ e)

-- ---- step by step

module _ {X Y : Type 0} (test : Y → Bool) (does : X → Y) (steps : List X) (at : ℕ) where
  -- a step that shows something is met
  pub some_step : (step : X) → at < length steps → step ≡ get_or steps at step → test (does step) ≡ false → list_all test (map does (drop at steps)) ≡ false
  some_step step within is shows =
      ap (λ xs. list_all test (map does xs)) (drop-cons steps at step within) ∙ ap (λ x. test (does x) && list_all test (map does (drop (suc at) steps))) (sym is)
      ∙ ap (λ b. b && list_all test (map does (drop (suc at) steps))) shows

  -- none was
  pub no_step : length steps ≤ at → list_all test (map does (drop at steps)) ≡ true
  no_step past = ap (λ xs. list_all test (map does xs)) (drop_of_length-le steps past)
