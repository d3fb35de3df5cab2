-- Lines of parts without control characters have none.
use Rattle.std.proofs.Common.{◌≡◌, ℕ, ◌*◌, Bool, true, false, List, [], ◌∷◌, ◌++◌, append_assoc, length, refl, sym, ◌∙◌, ap, subst, if◌then◌else◌, Option, Some, None}
use Rattle.std.specs.Prelude.{◌==◌, IfSome, flat_map, unwrap_or, encode_utf8_all}
use Rattle.std.specs.List.{list_any, slice_split, onto_first, AllByRecursion}
use Rattle.std.specs.Str.{chars, drop_trailing_whitespace}
use Rattle.std.proofs.lemmas.Bool.{cond_both}
use Rattle.std.proofs.lemmas.List.Concat.{flat_map-append}
use Rattle.std.proofs.lemmas.List.Elements.{All-from_recursion, recursion_from_All}
use Rattle.std.proofs.lemmas.List.Folds.{list_any_none}
use Rattle.std.proofs.lemmas.List.Splits.{slice_split_none}
use Rattle.indicatif_text.specs.Template.{Layout, TemplatePart, LiteralText, LineBreak, KeyText}
use Rattle.indicatif_bar.specs.Progress.{Progress}
use Rattle.indicatif_bar.specs.Trackers.{Tracking}
use Rattle.indicatif_bar.specs.Layout.{padded, cluster, text_columns}
use Rattle.indicatif_bar.specs.Styles.{BarStyle, Wide, WideBarOf, WideTextOf, is_filler, is_newline, is_line_break, filler, ends_in_filler, columns_left, with_fillers_as, wide_text, filled, lines_with, in_layout, part_text, wide_part, latest_wide, lines_of_groups, lines}
use Rattle.indicatif_bar.specs.StyleLaws.{IsPlainText, cells_in}
use Rattle.indicatif_bar.specs.Keys.{shown_text}
use Rattle.indicatif_bar.specs.LineLaws.{IsPlainWide, IsPlainPart, HasPlainParts, PlainPartsGivePlainLines}
use Rattle.indicatif_bar.specs.Inside.Steps.{wide_source, source_text, source_of}
use Rattle.indicatif_bar.specs.declared.style.keys.Key.TheVariants.{WideBar, WideText}
use Rattle.indicatif_bar.specs.declared.style.steps.Source.{Source}
use Rattle.indicatif_bar.specs.declared.style.steps.Source.TheVariants.{Known}
use Rattle.indicatif_bar.proofs.BarWidthLemmas.{takes_bar}
use Rattle.indicatif_bar.proofs.FillingLemmas.{no_fillers}
use Rattle.indicatif_bar.proofs.LinesLemmas.{names, text_of_name, wide_of_name, latest_by}
use Rattle.indicatif_bar.proofs.TextWidthLemmas.{takes_none, plain_takes, taken_plain, plain_both, plain_padded, plain_trimmed}
use Rattle.indicatif_bar.proofs.WideBarLemmas.{SomeFiller, strange_filler, strange_newline, takes_without, filler_styled, sized_filler}

pub none_plain : IsPlainText []
none_plain = taken_plain 0 [] takes_none

-- ---- plain texts with fillers between them

data Mixed : List ℕ → Type 0 where
  one : {text : List ℕ} → IsPlainText text → Mixed text
  more : {front text : List ℕ} → IsPlainText front → Mixed text → Mixed (front ++ 0 ∷ text)

mixed_behind : (front text : List ℕ) → IsPlainText front → Mixed text → Mixed (front ++ text)
mixed_behind front text p (one q) = one (plain_both front text p q)
mixed_behind front text p (more {front = first} {text = rest} q x) =
    subst Mixed (append_assoc front first (0 ∷ rest)) (more (plain_both front first p q) x)

mixed_both : (xs ys : List ℕ) → Mixed xs → Mixed ys → Mixed (xs ++ ys)
mixed_both xs ys (one p) y = mixed_behind xs ys p y
mixed_both xs ys (more {front} {text} p x) y =
    subst Mixed (sym (append_assoc front (0 ∷ text) ys)) (more p (mixed_both text ys x y))

mixed_filler : (text : List ℕ) → SomeFiller text → Mixed text
mixed_filler text x =
    subst Mixed (sym x.is.parts) (more (taken_plain x.is.before x.is.front x.is.takes_front) (one (taken_plain x.is.behind x.is.back x.is.takes_back)))

no_filler : (text : List ℕ) → IsPlainText text → list_any is_filler text ≡ false
no_filler text p = list_any_none is_filler text (takes_without 0 (text_columns text) text strange_filler (plain_takes text p))

-- with a plain text in the place of each filler, it is plain
mixed_filled : (shown text : List ℕ) → IsPlainText shown → Mixed text → IsPlainText (with_fillers_as shown text)
mixed_filled shown text s (one p) = subst IsPlainText (sym (no_fillers shown text (no_filler text p))) p
mixed_filled shown text s (more {front} {text = rest} p x) =
    let whole : with_fillers_as shown (front ++ 0 ∷ rest) ≡ front ++ (shown ++ with_fillers_as shown rest) =
    flat_map-append (λ b. if is_filler b then shown else b ∷ []) front (0 ∷ rest)
    ∙ ap (λ y. y ++ (shown ++ with_fillers_as shown rest)) (no_fillers shown front (no_filler front p)) in
    subst IsPlainText (sym whole) (plain_both front (shown ++ with_fillers_as shown rest) p (plain_both shown (with_fillers_as shown rest) s (mixed_filled shown rest s x)))

-- ---- lists of lists

all_both : {X : Type 0} (P : X → Type 0) (xs ys : List X) → AllByRecursion P xs → AllByRecursion P ys → AllByRecursion P (xs ++ ys)
all_both P [] ys x y = y
all_both P (a ∷ xs) ys x y = (x.0, all_both P xs ys x.1 y)

onto_all : {X : Type 0} (P : X → Type 0) (a : X) (groups : List (List X)) → P a → AllByRecursion (λ g. AllByRecursion P g) groups → AllByRecursion (λ g. AllByRecursion P g) (onto_first a groups)
onto_all P a [] p all = ((p, tt), tt)
onto_all P a (g ∷ gs) p all = ((p, all.0), all.1)

split_all : {X : Type 0} (P : X → Type 0) (ends : X → Bool) (xs : List X) → AllByRecursion P xs → AllByRecursion (λ g. AllByRecursion P g) (slice_split ends xs)
split_all P ends [] all = (tt, tt)
split_all P ends (x ∷ xs) all =
    let rest = split_all P ends xs all.1 in
    cond_both (ends x) ([] ∷ slice_split ends xs) (onto_first x (slice_split ends xs)) (λ gs. AllByRecursion (λ g. AllByRecursion P g) gs)
    (λ _. (tt, rest)) (λ _. onto_all P x (slice_split ends xs) all.0 rest)

module _ {K : Type 0} (m : Tracking K) (style : BarStyle K) (p : Progress) (now : ℕ) where
  -- ---- parts

  -- a wide key leaves a filler
  leaves_filler : (layout : Layout) (source : Source) (wide : Wide) → wide_source layout source ≡ Some wide → source_text m style p now layout source ≡ filler
  leaves_filler layout (Known (WideBar bar)) wide e = refl
  leaves_filler layout (Known (WideText text)) wide e = refl
  leaves_filler layout source wide e = absurd (cc e)

  key_mixed : (key : List ℕ) (layout : Layout) (o : Option Wide) → wide_part m style p now (KeyText key layout) ≡ o → IsPlainPart m style p now (KeyText key layout)
      → Mixed (part_text m style p now (KeyText key layout))
  key_mixed key layout None is h = one (h.0 is)
  key_mixed key layout (Some wide) is h =
      let name = encode_utf8_all key in
      let source = source_of (names style.keys) name in
      let leaves = text_of_name m style p now layout name ∙ leaves_filler layout source wide (sym (wide_of_name m style p now layout key) ∙ is) in
      subst (λ t. Mixed (in_layout m style p now layout t)) (sym leaves)
      (mixed_filler (in_layout m style p now layout filler) (filler_styled style.colours (unwrap_or layout.style []) _ (sized_filler layout.align layout.truncate layout.width)))

  part_mixed : (part : TemplatePart) → IsPlainPart m style p now part → Mixed (part_text m style p now part)
  part_mixed (LiteralText text) h = one (h.0 refl)
  part_mixed LineBreak h = one (h.0 refl)
  part_mixed (KeyText key layout) h = key_mixed key layout (wide_part m style p now (KeyText key layout)) refl h

  group_mixed : (parts : List TemplatePart) → AllByRecursion (IsPlainPart m style p now) parts → Mixed (flat_map (part_text m style p now) parts)
  group_mixed [] h = one none_plain
  group_mixed (x ∷ xs) h = mixed_both (part_text m style p now x) (flat_map (part_text m style p now) xs) (part_mixed x h.0) (group_mixed xs h.1)

  -- a wide key that has stood stays the latest one, or another is
  stays_by : (x : TemplatePart) (xs : List TemplatePart) (wide : Wide) (o : Option Wide) → wide_part m style p now x ≡ o → ((w : Wide) → latest_wide m style p now (Some w) xs ≡ None → ⊥)
      → latest_wide m style p now (Some wide) (x ∷ xs) ≡ None → ⊥
  stays_by x xs wide None is rest e = rest wide (sym (latest_by m style p now (Some wide) None x xs is) ∙ e)
  stays_by x xs wide (Some w) is rest e = rest w (sym (latest_by m style p now (Some wide) (Some w) x xs is) ∙ e)

  stays_wide : (parts : List TemplatePart) (wide : Wide) → latest_wide m style p now (Some wide) parts ≡ None → ⊥
  stays_wide [] wide e = absurd (cc e)
  stays_wide (x ∷ xs) wide e = stays_by x xs wide (wide_part m style p now x) refl (stays_wide xs) e

  -- where none has, the text is plain
  plain_by : (x : TemplatePart) (xs : List TemplatePart) (wide o : Option Wide) → wide_part m style p now x ≡ o → IsPlainPart m style p now x
      → (latest_wide m style p now wide xs ≡ None → IsPlainText (flat_map (part_text m style p now) xs))
      → latest_wide m style p now wide (x ∷ xs) ≡ None → IsPlainText (flat_map (part_text m style p now) (x ∷ xs))
  plain_by x xs wide None is h rest e =
      plain_both (part_text m style p now x) (flat_map (part_text m style p now) xs) (h.0 is) (rest (sym (latest_by m style p now wide None x xs is) ∙ e))
  plain_by x xs wide (Some w) is h rest e = absurd (stays_wide xs w (sym (latest_by m style p now wide (Some w) x xs is) ∙ e))

  group_plain : (parts : List TemplatePart) (wide : Option Wide) → AllByRecursion (IsPlainPart m style p now) parts → latest_wide m style p now wide parts ≡ None
      → IsPlainText (flat_map (part_text m style p now) parts)
  group_plain [] wide h e = none_plain
  group_plain (x ∷ xs) wide h e = plain_by x xs wide (wide_part m style p now x) refl h.0 (group_plain xs wide h.1) e

  -- what the latest wide key shows is plain
  abbrev ShowsPlain : Option Wide → Type 0
  ShowsPlain wide = IfSome wide (IsPlainWide m style p now)

  latest_by_part : (x : TemplatePart) (xs : List TemplatePart) (wide o : Option Wide) → wide_part m style p now x ≡ o → ShowsPlain o → ShowsPlain wide
      → ((w : Option Wide) → ShowsPlain w → ShowsPlain (latest_wide m style p now w xs)) → ShowsPlain (latest_wide m style p now wide (x ∷ xs))
  latest_by_part x xs wide None is shows before rest = subst ShowsPlain (sym (latest_by m style p now wide None x xs is)) (rest wide before)
  latest_by_part x xs wide (Some w) is shows before rest = subst ShowsPlain (sym (latest_by m style p now wide (Some w) x xs is)) (rest (Some w) shows)

  latest_plain : (parts : List TemplatePart) (wide : Option Wide) → AllByRecursion (IsPlainPart m style p now) parts → ShowsPlain wide → ShowsPlain (latest_wide m style p now wide parts)
  latest_plain [] wide all before = before
  latest_plain (x ∷ xs) wide all before = latest_by_part x xs wide (wide_part m style p now x) refl all.0.1 before (λ w shows. latest_plain xs w all.1 shows)

  -- ---- lines

  module _ (h : HasPlainParts m style p now) (columns : ℕ) where
    wide_plain : (text : List ℕ) (wide : Wide) → IsPlainWide m style p now wide → IsPlainText (wide_text style p columns text wide)
    wide_plain text (WideBarOf bar layout) shows =
        let left = columns_left columns text in
        taken_plain (cells_in style.clusters left * text_columns (cluster style.clusters 0)) _
        (takes_bar style.clusters style.colours (unwrap_or layout.alternative []) p bar left h.clusters)
    wide_plain text (WideTextOf key layout) shows =
        let shown = padded (shown_text style.tick_strings p key) (columns_left columns text) layout.align true in
        let plain = plain_padded (shown_text style.tick_strings p key) (columns_left columns text) layout.align true shows in
        cond_both (ends_in_filler text) (encode_utf8_all (drop_trailing_whitespace (chars shown))) shown (λ x. IsPlainText x) (λ _. plain_trimmed shown plain) (λ _. plain)

    filled_plain : (text : List ℕ) (wide : Option Wide) → ShowsPlain wide → Mixed text → (wide ≡ None → IsPlainText text) → IsPlainText (filled style p columns wide text)
    filled_plain text None shows x none = none refl
    filled_plain text (Some wide) shows x none = mixed_filled (wide_text style p columns text wide) text (wide_plain text wide shows) x

    line_plain : (text : List ℕ) (wide : Option Wide) → IsPlainText (filled style p columns wide text) → AllByRecursion IsPlainText (lines_with style p columns wide text)
    line_plain text wide plain =
        let line = filled style p columns wide text in
        let alone = slice_split_none is_newline line (takes_without 0x0A (text_columns line) line strange_newline (plain_takes line plain)) in
        subst (AllByRecursion IsPlainText) (sym alone) (plain, tt)

    group_lines : (parts : List TemplatePart) (wide : Option Wide) → AllByRecursion (IsPlainPart m style p now) parts → ShowsPlain wide
        → AllByRecursion IsPlainText (lines_with style p columns (latest_wide m style p now wide parts) (flat_map (part_text m style p now) parts))
    group_lines parts wide all before =
        line_plain (flat_map (part_text m style p now) parts) (latest_wide m style p now wide parts)
        (filled_plain (flat_map (part_text m style p now) parts) (latest_wide m style p now wide parts) (latest_plain parts wide all before) (group_mixed parts all) (group_plain parts wide all))

    groups_plain : (groups : List (List TemplatePart)) (wide : Option Wide) → AllByRecursion (λ g. AllByRecursion (IsPlainPart m style p now) g) groups → ShowsPlain wide
        → AllByRecursion IsPlainText (lines_of_groups m style p now columns wide groups)
    groups_plain [] wide all before = tt
    groups_plain (g ∷ []) wide all before =
        let text = flat_map (part_text m style p now) g in
        cond_both (length text == 0) [] (lines_with style p columns (latest_wide m style p now wide g) text) (AllByRecursion IsPlainText) (λ _. tt) (λ _. group_lines g wide all.0 before)
    groups_plain (g ∷ n ∷ gs) wide all before =
        let next = latest_wide m style p now wide g in
        all_both IsPlainText (lines_with style p columns next (flat_map (part_text m style p now) g)) (lines_of_groups m style p now columns next (n ∷ gs))
        (group_lines g wide all.0 before) (groups_plain (n ∷ gs) next all.1 (latest_plain g wide all.0 before))

pub plain_parts_give_plain_lines : {K : Type 0} → PlainPartsGivePlainLines K
unfolding lines
plain_parts_give_plain_lines m style p now columns h =
    let split = split_all (IsPlainPart m style p now) is_line_break style.parts (recursion_from_All (IsPlainPart m style p now) style.parts h.parts) in
    All-from_recursion IsPlainText (lines_of_groups m style p now columns None (slice_split is_line_break style.parts))
    (groups_plain m style p now h columns (slice_split is_line_break style.parts) None split tt)
