-- The lines of a style's parts, found step by step.
use Rattle.std.proofs.Common.{◌≡◌, ℕ, zero, suc, ◌+◌, ◌<◌, List, [], ◌∷◌, ◌++◌, refl, ◌∙◌, sym, ap, map, length, Some, None, Option, Bool, true, false, if◌then◌else◌, append-nil, append_assoc, arith}
use Rattle.std.specs.Prelude.{not, bytes_eq, nat_lt, option_map, flat_map, encode_utf8_all, ◌==◌, option_and_then}
use Rattle.std.specs.Option.{option_map_or}
use Rattle.std.specs.List.{position_or_len, slice_get, slice_split, onto_first}
use Rattle.std.proofs.lemmas.List.{length-map}
use Rattle.std.proofs.lemmas.List.Splits.{length-slice_split}
use Rattle.std.proofs.lemmas.Option.{slice_get_within}
use Rattle.std.proofs.lemmas.Bool.{lt-ltb, ltb-true, false≢true}
use Rattle.indicatif_text.specs.Template.{Layout, TemplatePart, LiteralText, LineBreak, KeyText}
use Rattle.indicatif_bar.specs.Tabs.{expanded}
use Rattle.indicatif_bar.specs.Progress.{Progress}
use Rattle.std.specs.Prelude.{string_bytes}
use Rattle.std.specs.declared.string.String.{String}
use Rattle.std.specs.declared.alloc.Global.{Global}
use Rattle.indicatif_bar.specs.Trackers.{Tracking, entries, changed_trackers}
use Rattle.indicatif_bar.specs.Keys.{named, key_named}
use Rattle.indicatif_bar.specs.declared.style.keys.Key.{Key}
use Rattle.indicatif_bar.specs.Styles.{BarStyle, Wide, wide_of, key_text, named_text, in_layout, part_text, wide_part, latest_wide, lines_with, lines_of_groups, lines, is_line_break}
use Rattle.indicatif_bar.specs.Inside.Steps.{Effect, WritesText, Breaks, PutsSource, source_at, source_of, names_of, effect_of_part, wide_source, source_text, effect_text}
use Rattle.indicatif_bar.specs.declared.style.steps.Source.TheVariants.{Tracker, Known, Nothing}

-- ---- the lines of deeds, one after another

-- the wide placeholder that a deed is
abbrev pub wide_effect : Effect → Option Wide
wide_effect (PutsSource source layout) = wide_source layout source
wide_effect _ = None

-- the latest wide placeholder behind a further deed
abbrev pub wide_after : Option Wide → Effect → Option Wide
wide_after before deed = elim (wide_effect deed) [ Some wide ↦ Some wide | None ↦ before ]

module _ {K : Type 0} (m : Tracking K) (style : BarStyle K) (p : Progress) (now : ℕ) where
  -- the lines of deeds, where a wide key has stood so far and the line at hand has this text
  abbrev pub lines_from : ℕ → Option Wide → List ℕ → List Effect → List (List ℕ)
  lines_from columns wide text [] = if length text == 0 then [] else lines_with style p columns wide text
  lines_from columns wide text (Breaks ∷ deeds) = lines_with style p columns wide text ++ lines_from columns wide [] deeds
  lines_from columns wide text (WritesText more ∷ deeds) = lines_from columns wide (text ++ more) deeds
  lines_from columns wide text (PutsSource source layout ∷ deeds) =
      lines_from columns (wide_after wide (PutsSource source layout)) (text ++ effect_text m style p now (PutsSource source layout)) deeds

-- ---- names

past : {K : Type 0} (xs : List K) (n : ℕ) → slice_get xs n ≡ None → n < length xs → ⊥
past [] n e h = omega (arith, h)
past (x ∷ xs) zero e h = absurd (cc e)
past (x ∷ xs) (suc n) e h = past xs n e (omega (arith, h))

not_not : (b : Bool) (n : ℕ) → (if b then 0 else 1 + n) ≡ (if not b then 1 + n else 0)
not_not true n = refl
not_not false n = refl

module _ {K : Type 0} where
  -- the names of entries
  abbrev pub names : List (List ℕ × K) → List (List ℕ)
  names keys = map (λ entry. entry.0) keys

  found_by : (b : Bool) (e : List ℕ × K) (es : List (List ℕ × K)) (n : ℕ) (rest : Option K) → rest ≡ option_map (λ x. x.1) (slice_get es n)
      → (if b then Some e.1 else rest) ≡ option_map (λ x. x.1) (slice_get (e ∷ es) (if b then 0 else 1 + n))
  found_by true e es n rest h = refl
  found_by false e es n rest h =
      let next : 1 + n ≡ suc n = omega arith in
      h ∙ ap (λ k. option_map (λ x. x.1) (slice_get (e ∷ es) k)) (sym next)

  pub found : (name : List ℕ) (keys : List (List ℕ × K)) → named name keys ≡ option_map (λ x. x.1) (slice_get keys (position_or_len (bytes_eq name) (names keys)))
  found name [] = refl
  found name (e ∷ es) =
      found_by (bytes_eq name e.0) e es (position_or_len (bytes_eq name) (names es)) (named name es) (found name es)
      ∙ ap (λ k. option_map (λ x. x.1) (slice_get (e ∷ es) k)) (not_not (bytes_eq name e.0) (position_or_len (bytes_eq name) (names es)))

-- where a name's text comes from: its first tracker, or else its key
pub data Named {K : Type 0} (keys : List (List ℕ × K)) (name : List ℕ) : Type 0 where
  ByTracker : (k : ℕ) → (entry : List ℕ × K) → (at : slice_get keys k ≡ Some entry) → (named_is : named name keys ≡ Some entry.1) →
      (source_is : source_of (names keys) name ≡ Tracker k) → Named keys name
  ByKey : (named_is : named name keys ≡ None) → (source_is : source_of (names keys) name ≡ option_map_or Known (key_named name) Nothing) → Named keys name

module _ {K : Type 0} (keys : List (List ℕ × K)) (name : List ℕ) where
  cases_by : (n : ℕ) (o : Option (List ℕ × K)) (b : Bool) → slice_get keys n ≡ o → nat_lt n (length (names keys)) ≡ b
      → named name keys ≡ option_map (λ x. x.1) o → source_of (names keys) name ≡ source_at name (if b then Some n else None) → Named keys name
  cases_by n (Some e) true at within named_is source_is = ByTracker n e at named_is source_is
  cases_by n (Some e) false at within named_is source_is = absurd (false≢true (sym within
      ∙ lt-ltb n (length (names keys)) (omega (arith, slice_get_within keys n e at, length-map keys (λ x. x.0)))))
  cases_by n None true at within named_is source_is = absurd (past keys n at (omega (arith, ltb-true n (length (names keys)) within, length-map keys (λ x. x.0))))
  cases_by n None false at within named_is source_is = ByKey named_is source_is

  pub source_cases : Named keys name
  source_cases =
      let n = position_or_len (bytes_eq name) (names keys) in
      cases_by n (slice_get keys n) (nat_lt n (length (names keys))) refl refl (found name keys) refl

module _ {K : Type 0} (m : Tracking K) (style : BarStyle K) (p : Progress) (now : ℕ) where
  known_text : (layout : Layout) (o : Option Key) → option_map_or (key_text m style p now layout) o [] ≡ source_text m style p now layout (option_map_or Known o Nothing)
  known_text layout None = refl
  known_text layout (Some key) = refl

  known_wide : (layout : Layout) (o : Option Key) → option_and_then (wide_of layout) o ≡ wide_source layout (option_map_or Known o Nothing)
  known_wide layout None = refl
  known_wide layout (Some key) = refl

  abbrev text_at : Layout → List ℕ → Option K → List ℕ
  text_at layout name o = elim o [ Some k ↦ expanded style.tab (m.text k p now) | None ↦ option_map_or (key_text m style p now layout) (key_named name) [] ]

  pub text_of_name : (layout : Layout) (name : List ℕ) → named_text m style p now name layout ≡ source_text m style p now layout (source_of (names style.keys) name)
  text_of_name layout name = elim (source_cases style.keys name) [
    | ByTracker k entry at named_is source_is ↦
        ap (text_at layout name) named_is ∙ ap (λ o. option_map_or (λ entry. expanded style.tab (m.text entry.1 p now)) o []) (sym at) ∙ ap (source_text m style p now layout) (sym source_is)
    | ByKey named_is source_is ↦ ap (text_at layout name) named_is ∙ known_text layout (key_named name) ∙ ap (source_text m style p now layout) (sym source_is)
  ]

  abbrev wide_at : Layout → List ℕ → Option K → Option Wide
  wide_at layout name o = elim o [ Some k ↦ None | None ↦ option_and_then (wide_of layout) (key_named name) ]

  pub wide_of_name : (layout : Layout) (key : List ℕ) → wide_part m style p now (KeyText key layout) ≡ wide_source layout (source_of (names style.keys) (encode_utf8_all key))
  wide_of_name layout key = elim (source_cases style.keys (encode_utf8_all key)) [
    | ByTracker k entry at named_is source_is ↦ ap (wide_at layout (encode_utf8_all key)) named_is ∙ ap (wide_source layout) (sym source_is)
    | ByKey named_is source_is ↦
        ap (wide_at layout (encode_utf8_all key)) named_is ∙ known_wide layout (key_named (encode_utf8_all key)) ∙ ap (wide_source layout) (sym source_is)
  ]

  -- ---- groups

  -- the lines of groups, the first of which has a text in front of it
  abbrev groups_from : ℕ → Option Wide → List ℕ → List (List TemplatePart) → List (List ℕ)
  groups_from columns wide text [] = []
  groups_from columns wide text (g ∷ []) =
      if length (text ++ flat_map (part_text m style p now) g) == 0 then [] else lines_with style p columns (latest_wide m style p now wide g) (text ++ flat_map (part_text m style p now) g)
  groups_from columns wide text (g ∷ h ∷ gs) =
      lines_with style p columns (latest_wide m style p now wide g) (text ++ flat_map (part_text m style p now) g) ++ lines_of_groups m style p now columns (latest_wide m style p now wide g) (h ∷ gs)

  without_text : (columns : ℕ) (wide : Option Wide) (groups : List (List TemplatePart)) → groups_from columns wide [] groups ≡ lines_of_groups m style p now columns wide groups
  without_text columns wide [] = refl
  without_text columns wide (g ∷ []) = refl
  without_text columns wide (g ∷ h ∷ gs) = refl

  -- a line break ends the group in front
  broken : (columns : ℕ) (wide : Option Wide) (text : List ℕ) (groups : List (List TemplatePart)) → 0 < length groups
      → groups_from columns wide text ([] ∷ groups) ≡ lines_with style p columns wide text ++ lines_of_groups m style p now columns wide groups
  broken columns wide text [] some = absurd (omega (arith, some))
  broken columns wide text (h ∷ gs) some = ap (λ t. lines_with style p columns wide t ++ lines_of_groups m style p now columns wide (h ∷ gs)) (append-nil text)

  -- the latest wide placeholder behind one part
  abbrev pub wide_behind : Option Wide → Option Wide → Option Wide
  wide_behind before wide = elim wide [ Some w ↦ Some w | None ↦ before ]

  pub latest_by : (before o : Option Wide) (x : TemplatePart) (g : List TemplatePart) → wide_part m style p now x ≡ o →
      latest_wide m style p now before (x ∷ g) ≡ latest_wide m style p now (wide_behind before o) g
  latest_by before None x g e = rw e refl
  latest_by before (Some w) x g e = rw e refl

  -- a part in front of the first group
  onto : (columns : ℕ) (wide : Option Wide) (text : List ℕ) (x : TemplatePart) (groups : List (List TemplatePart)) → 0 < length groups
      → groups_from columns wide text (onto_first x groups) ≡ groups_from columns (wide_behind wide (wide_part m style p now x)) (text ++ part_text m style p now x) groups
  onto columns wide text x [] some = absurd (omega (arith, some))
  onto columns wide text x (g ∷ []) some =
      let t = part_text m style p now x in
      let ts = flat_map (part_text m style p now) g in
      ap (λ w. if length (text ++ (t ++ ts)) == 0 then [] else lines_with style p columns w (text ++ (t ++ ts))) (latest_by wide (wide_part m style p now x) x g refl)
      ∙ ap (λ all. if length all == 0 then [] else lines_with style p columns (latest_wide m style p now (wide_behind wide (wide_part m style p now x)) g) all) (sym (append_assoc text t ts))
  onto columns wide text x (g ∷ h ∷ gs) some =
      let t = part_text m style p now x in
      let ts = flat_map (part_text m style p now) g in
      ap (λ w. lines_with style p columns w (text ++ (t ++ ts)) ++ lines_of_groups m style p now columns w (h ∷ gs)) (latest_by wide (wide_part m style p now x) x g refl)
      ∙ ap (λ all. lines_with style p columns (latest_wide m style p now (wide_behind wide (wide_part m style p now x)) g) all
      ++ lines_of_groups m style p now columns (latest_wide m style p now (wide_behind wide (wide_part m style p now x)) g) (h ∷ gs)) (sym (append_assoc text t ts))

  some_groups : (parts : List TemplatePart) → 0 < length (slice_split is_line_break parts)
  some_groups parts = omega (arith, length-slice_split is_line_break parts)

  abbrev deeds : List TemplatePart → List Effect
  deeds parts = map (effect_of_part (names style.keys) style.tab) parts

  stepwise : (columns : ℕ) (parts : List TemplatePart) (wide : Option Wide) (text : List ℕ)
      → groups_from columns wide text (slice_split is_line_break parts) ≡ lines_from m style p now columns wide text (deeds parts)
  stepwise columns [] wide text = ap (λ t. if length t == 0 then [] else lines_with style p columns wide t) (append-nil text)
  stepwise columns (LineBreak ∷ parts) wide text =
      broken columns wide text (slice_split is_line_break parts) (some_groups parts)
      ∙ ap (λ ls. lines_with style p columns wide text ++ ls) (sym (without_text columns wide (slice_split is_line_break parts)) ∙ stepwise columns parts wide [])
  stepwise columns (LiteralText more ∷ parts) wide text =
      onto columns wide text (LiteralText more) (slice_split is_line_break parts) (some_groups parts)
      ∙ stepwise columns parts wide (text ++ expanded style.tab (encode_utf8_all more))
  stepwise columns (KeyText key layout ∷ parts) wide text =
      let source = source_of (names style.keys) (encode_utf8_all key) in
      onto columns wide text (KeyText key layout) (slice_split is_line_break parts) (some_groups parts)
      ∙ ap (λ w. groups_from columns (wide_behind wide w) (text ++ part_text m style p now (KeyText key layout)) (slice_split is_line_break parts)) (wide_of_name layout key)
      ∙ ap (λ t. groups_from columns (wide_after wide (PutsSource source layout)) (text ++ in_layout m style p now layout t) (slice_split is_line_break parts))
      (text_of_name layout (encode_utf8_all key))
      ∙ stepwise columns parts (wide_after wide (PutsSource source layout)) (text ++ effect_text m style p now (PutsSource source layout))

  -- the lines of a style are those of its steps
  pub lines_by_steps : (columns : ℕ) → lines m style p now columns ≡ lines_from m style p now columns None [] (deeds style.parts)
  unfolding lines
  lines_by_steps columns = sym (without_text columns None (slice_split is_line_break style.parts)) ∙ stepwise columns style.parts None []

-- ---- names of trackers

names_are : {K : Type 0} (items : List (String Global × K)) → names (entries items) ≡ names_of items
names_are [] = refl
names_are (x ∷ xs) = ap (λ ns. string_bytes x.0 ∷ ns) (names_are xs)

names_stay : {K : Type 0} (change : K → K) (keys : List (List ℕ × K)) → names (changed_trackers change keys) ≡ names keys
names_stay change [] = refl
names_stay change (x ∷ xs) = ap (λ ns. x.0 ∷ ns) (names_stay change xs)

-- trackers that change keep their names
pub keys_stay : {K : Type 0} (change : K → K) (old new : List (String Global × K)) → entries new ≡ changed_trackers change (entries old) → names_of old ≡ names_of new
keys_stay change old new e = sym (names_are old) ∙ sym (names_stay change (entries old)) ∙ ap names (sym e) ∙ names_are new

-- what a style's parts do, as its fields say it
pub deeds_are : {K : Type 0} (items : List (String Global × K)) (view style : BarStyle K) (ds : List Effect) → view.keys ≡ entries items →
    ds ≡ map (effect_of_part (names_of items) view.tab) view.parts → view ≡ style
    → ds ≡ map (effect_of_part (names style.keys) style.tab) style.parts
deeds_are items view style ds keys is same =
    is ∙ ap (λ ns. map (effect_of_part ns view.tab) view.parts) (sym (names_are items) ∙ ap names (sym keys)) ∙ ap (λ s. map (effect_of_part (names s.keys) s.tab) s.parts) same

-- behind the last step only the line at hand is left
pub ended : {K : Type 0} (m : Tracking K) (style : BarStyle K) (p : Progress) (now columns : ℕ) (wide : Option Wide) (text : List ℕ) (ds : List Effect) (b : Bool) → ds ≡ [] → (length text == 0) ≡ b
    → lines_from m style p now columns wide text ds ≡ (if b then [] else lines_with style p columns wide text)
ended m style p now columns wide text ds b e f = ap (lines_from m style p now columns wide text) e ∙ ap (λ x. if x then [] else lines_with style p columns wide text) f
