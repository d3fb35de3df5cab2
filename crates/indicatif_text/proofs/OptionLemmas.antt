-- That a placeholder's options, read piece by piece, are those of the grammar.
use Rattle.std.proofs.Common.{◌≡◌, ℕ, ◌+◌, ◌-◌, ◌*◌, ◌<◌, ◌≤◌, true, false, List, [], ◌∷◌, length, refl, sym, ◌∙◌, ap, subst, arith, eqb, Option, Some, None}
use Rattle.std.specs.Prelude.{◌==◌, chars, filter, IsUtf8, take_while, unwrap_or}
use Rattle.std.specs.List.{list_any}
use Rattle.std.specs.Char.{is_ascii_digit, digit_value}
use Rattle.std.specs.Str.Parse.{digits_value_after}
use Rattle.std.specs.Prelude.{Result}
use denote.Ref.{Bor}
use Rattle.std.proofs.Math.Utf8.{encodes}
use Rattle.std.proofs.lemmas.Bool.{eqb-true, eq-eqb, ne_eqb, lt-ltb, le-ltb, false≢true}
use Rattle.std.proofs.lemmas.Bool.Decides.{nat_tests}
use Rattle.std.proofs.lemmas.Str.{encodes-chars}
use Rattle.indicatif_text.specs.declared.refusal.TemplateState.{TemplateState}
use Rattle.indicatif_text.specs.declared.refusal.TemplateState.TheVariants.{Align, Width}
use Rattle.indicatif_text.specs.declared.template.Alignment.{Alignment}
use Rattle.indicatif_text.specs.declared.template.reading.Mix.{Mix}
use Rattle.indicatif_text.specs.declared.template.TemplateError.{TemplateError}
use Rattle.indicatif_text.specs.declared.template.TemplateError.TheVariants.{Unexpected, WidthTooLarge}
use Rattle.indicatif_text.proofs.WrappingLemmas.{chars_none}
use Rattle.indicatif_text.specs.StyleWords.{style_of}
use Rattle.indicatif_text.specs.Template.{Layout, with_options, plain_layout, alignment_of, aligned, Takes, Stops, after_run, is_alternative_char, alternative_ends, with_alternative, is_style_char, style_ends, with_style, is_width_char, width_ends, with_width, style_named, number_of, is_too_wide, state_after}
use Rattle.indicatif_text.specs.Inside.Reading.{IsFrontRead, number_after, IsMix}

-- a text with no characters has no bytes
pub some_chars : (bs : List ℕ) → IsUtf8 bs → chars bs ≡ [] → length bs ≡ 0
some_chars bs u e = ap length (sym (encodes-chars bs u) ∙ ap encodes e)

-- a style text with a character is a style
pub some_style : (cs : List ℕ) → (cs ≡ [] → ⊥) → Some (style_of cs) ≡ style_named cs
some_style [] some = absurd (some refl)
some_style (c ∷ cs) some = refl

-- ---- an alternative style

module _ (layout : Layout) (text after : List ℕ) (a : after ≡ after_run is_alternative_char text) where
  pub alternative_open : after ≡ [] → with_alternative layout text ≡ Takes after layout
  unfolding with_alternative
  alternative_open none = ap (alternative_ends layout (take_while is_alternative_char text)) (sym a ∙ none) ∙ ap (λ r. Takes r layout) (sym none)

  pub alternative_closed : (rest : List ℕ) (c : ℕ) (s : Option (List ℕ)) → after ≡ c ∷ rest → s ≡ style_named (take_while is_alternative_char text) →
      with_alternative layout text ≡ Takes rest (record layout { alternative = s })
  unfolding with_alternative
  alternative_closed rest c s e named =
      ap (alternative_ends layout (take_while is_alternative_char text)) (sym a ∙ e) ∙ ap (λ o. Takes rest (record layout { alternative = o })) (sym named)

-- ---- a style

module _ (layout : Layout) (text after : List ℕ) (a : after ≡ after_run is_style_char text) where
  pub style_open : after ≡ [] → with_style layout text ≡ Takes after layout
  unfolding with_style
  style_open none = ap (style_ends layout (take_while is_style_char text)) (sym a ∙ none) ∙ ap (λ r. Takes r layout) (sym none)

  module _ (rest : List ℕ) (c : ℕ) (s : Option (List ℕ)) (e : after ≡ c ∷ rest) (named : s ≡ style_named (take_while is_style_char text)) where
    ends_at : with_style layout text ≡ style_ends layout (take_while is_style_char text) (c ∷ rest)
    unfolding with_style
    ends_at = ap (style_ends layout (take_while is_style_char text)) (sym a ∙ e)

    pub style_closed : c ≡ 0x7D → with_style layout text ≡ Takes rest (record layout { style = s })
    style_closed brace =
        let test : eqb c 0x7D ≡ true = eq-eqb c 0x7D brace in
        ends_at ∙ rw test (ap (λ o. Takes rest (record layout { style = o })) (sym named))

    pub style_slashed : (c ≡ 0x7D → ⊥) → with_style layout text ≡ with_alternative (record layout { style = s }) rest
    style_slashed slash =
        let test : eqb c 0x7D ≡ false = ne_eqb c 0x7D slash in
        ends_at ∙ rw test (ap (λ o. with_alternative (record layout { style = o }) rest) (sym named))

-- ---- a width

module _ (layout : Layout) (state : TemplateState) (text after : List ℕ) (mix : Mix) (m : IsMix state (take_while is_width_char text) mix) (a : after ≡ after_run is_width_char text) where
  width_by : with_width layout state text ≡ width_ends (record layout { truncate = mix.truncate }) (number_of (filter is_ascii_digit (take_while is_width_char text))) mix.state after
  unfolding with_width
  width_by =
      let run = take_while is_width_char text in
      let number = number_of (filter is_ascii_digit run) in
      ap (λ b. width_ends (record layout { truncate = b }) number (state_after state run) (after_run is_width_char text)) (sym m.truncate_is)
      ∙ ap (λ s. width_ends (record layout { truncate = mix.truncate }) number s (after_run is_width_char text)) (sym m.state_is)
      ∙ ap (width_ends (record layout { truncate = mix.truncate }) number mix.state) (sym a)

  pub width_open : after ≡ [] → with_width layout state text ≡ Takes after (record layout { truncate = mix.truncate })
  width_open none =
      width_by ∙ ap (width_ends (record layout { truncate = mix.truncate }) (number_of (filter is_ascii_digit (take_while is_width_char text))) mix.state) none
      ∙ ap (λ r. Takes r (record layout { truncate = mix.truncate })) (sym none)

  module _ (c : ℕ) (rest : List ℕ) (e : after ≡ c ∷ rest) where
    width_at : with_width layout state text ≡ width_ends (record layout { truncate = mix.truncate }) (number_of (filter is_ascii_digit (take_while is_width_char text))) mix.state (c ∷ rest)
    width_at = width_by ∙ ap (width_ends (record layout { truncate = mix.truncate }) (number_of (filter is_ascii_digit (take_while is_width_char text))) mix.state) e

    module _ (fits : mix.too_large ≡ false) where
      sized_at : (is_too_wide mix.width ≡ false) × (with_width layout state text ≡ width_ends (record layout { truncate = mix.truncate }) mix.width mix.state (c ∷ rest))
      sized_at = (
        ap is_too_wide (m.width_is fits) ∙ sym m.too_large_is ∙ fits,
        width_at ∙ ap (λ o. width_ends (record layout { truncate = mix.truncate }) o mix.state (c ∷ rest)) (sym (m.width_is fits)),
      )

      pub width_closed : c ≡ 0x7D → with_width layout state text ≡ Takes rest (record layout { truncate = mix.truncate; width = mix.width })
      width_closed brace =
          let test : eqb c 0x7D ≡ true = eq-eqb c 0x7D brace in
          let narrow : is_too_wide mix.width ≡ false = sized_at.0 in
          sized_at.1 ∙ rw (test, narrow) refl

      pub width_styled : c ≡ 0x2E → with_width layout state text ≡ with_style (record layout { truncate = mix.truncate; width = mix.width }) rest
      width_styled dot =
          let other : eqb c 0x7D ≡ false = ne_eqb c 0x7D (λ brace. absurd (omega (arith, brace, dot))) in
          let test : eqb c 0x2E ≡ true = eq-eqb c 0x2E dot in
          let narrow : is_too_wide mix.width ≡ false = sized_at.0 in
          sized_at.1 ∙ rw (other, test, narrow) refl

    module _ (large : mix.too_large ≡ true) where
      wide : is_too_wide (number_of (filter is_ascii_digit (take_while is_width_char text))) ≡ true
      wide = sym m.too_large_is ∙ large

      pub width_closed_wide : c ≡ 0x7D → with_width layout state text ≡ Stops (c ∷ rest) WidthTooLarge
      width_closed_wide brace =
          let test : eqb c 0x7D ≡ true = eq-eqb c 0x7D brace in
          let too_wide : is_too_wide (number_of (filter is_ascii_digit (take_while is_width_char text))) ≡ true = wide in
          width_at ∙ rw (test, too_wide) refl

      pub width_styled_wide : c ≡ 0x2E → with_width layout state text ≡ Stops (c ∷ rest) WidthTooLarge
      width_styled_wide dot =
          let other : eqb c 0x7D ≡ false = ne_eqb c 0x7D (λ brace. absurd (omega (arith, brace, dot))) in
          let test : eqb c 0x2E ≡ true = eq-eqb c 0x2E dot in
          let too_wide : is_too_wide (number_of (filter is_ascii_digit (take_while is_width_char text))) ≡ true = wide in
          width_at ∙ rw (other, test, too_wide) refl

    pub width_unexpected : (c ≡ 0x7D → ⊥) → (c ≡ 0x2E → ⊥) → with_width layout state text ≡ Stops (c ∷ rest) (Unexpected c mix.state)
    width_unexpected no_brace no_dot =
        let brace : eqb c 0x7D ≡ false = ne_eqb c 0x7D no_brace in
        let dot : eqb c 0x2E ≡ false = ne_eqb c 0x2E no_dot in
        width_at ∙ rw (brace, dot) refl

-- ---- numbers

number_after_some : (n : ℕ) (ds : List ℕ) → number_after (Some n) ds ≡ Some (digits_value_after 10 n ds)
number_after_some n [] = refl
number_after_some n (d ∷ ds) = number_after_some (n * 10 + digit_value d) ds

pub number_from_none : (ds : List ℕ) → number_of ds ≡ number_after None ds
number_from_none [] = refl
number_from_none (d ∷ ds) = sym (number_after_some (0 * 10 + digit_value d) ds)

grows : (n : ℕ) (ds : List ℕ) → n ≤ digits_value_after 10 n ds
grows n [] = omega arith
grows n (d ∷ ds) = omega (arith, grows (n * 10 + digit_value d) ds)

pub stays_wide : (n : ℕ) (ds : List ℕ) → 65535 < n → is_too_wide (number_after (Some n) ds) ≡ true
stays_wide n ds wide = ap is_too_wide (number_after_some n ds) ∙ lt-ltb 65535 (digits_value_after 10 n ds) (omega (arith, wide, grows n ds))

pub digit_of : (c : ℕ) → is_ascii_digit c ≡ true → (48 ≤ c) × (digit_value c ≡ c - 48) × (c ≤ 57)
digit_of c e = (grind (arith, nat_tests), grind (arith, nat_tests), grind (arith, nat_tests))

-- ---- texts with and without characters

pub is_no_text : (bs : List ℕ) → true ≡ (length bs == 0) → chars bs ≡ []
is_no_text bs e = chars_none bs (eqb-true (length bs) 0 (sym e))

-- a text with a byte has a character
pub some_text : (A : Type 0) (f g : List ℕ → A) → ((c : ℕ) (cs : List ℕ) → f (c ∷ cs) ≡ g (c ∷ cs)) → (bs cs : List ℕ) → IsUtf8 bs → chars bs ≡ cs → false ≡ (length bs == 0) → f cs ≡ g cs
some_text A f g same bs (c ∷ cs) u e some = same c cs
some_text A f g same bs [] u e some = absurd (false≢true (some ∙ eq-eqb (length bs) 0 (some_chars bs u e)))

-- ---- marks

pub exclamation_here : (c : ℕ) (cs : List ℕ) → c ≡ 0x21 → list_any (λ c. c == 0x21) (c ∷ cs) ≡ true
exclamation_here c cs e = let test : eqb c 0x21 ≡ true = eq-eqb c 0x21 e in rw test refl

pub exclamation_later : (c : ℕ) (cs : List ℕ) → (c ≡ 0x21 → ⊥) → list_any (λ c. c == 0x21) (c ∷ cs) ≡ list_any (λ c. c == 0x21) cs
exclamation_later c cs other = let test : eqb c 0x21 ≡ false = ne_eqb c 0x21 other in rw test refl

-- ---- digits among other characters

pub number_digit : (w : Option ℕ) (c : ℕ) (cs : List ℕ) (n : ℕ) → is_ascii_digit c ≡ true → n ≡ unwrap_or w 0 * 10 + (c - 48) →
    number_after w (filter is_ascii_digit (c ∷ cs)) ≡ number_after (Some n) (filter is_ascii_digit cs)
number_digit w c cs n digit is =
    let value : unwrap_or w 0 * 10 + digit_value c ≡ n = ap (λ d. unwrap_or w 0 * 10 + d) (digit_of c digit).1 ∙ sym is in
    rw digit (ap (λ k. number_after (Some k) (filter is_ascii_digit cs)) value)

pub number_other : (c : ℕ) (cs : List ℕ) → is_ascii_digit c ≡ false → filter is_ascii_digit (c ∷ cs) ≡ filter is_ascii_digit cs
number_other c cs other = rw other refl

pub below_wide : (n : ℕ) → n ≤ 65535 → is_too_wide (Some n) ≡ false
below_wide n h = le-ltb 65535 n h

-- ---- options

pub options_none : (text : List ℕ) → text ≡ [] → with_options text ≡ Takes text plain_layout
unfolding with_options
options_none text none = ap with_options none ∙ ap (λ r. Takes r plain_layout) (sym none)

pub options_plain : (text : List ℕ) (c : ℕ) (cs : List ℕ) → text ≡ c ∷ cs → alignment_of c ≡ None → (layout : Layout) (r : Result (Bor (List ℕ)) TemplateError) →
    IsFrontRead (with_width plain_layout Align text) layout r → IsFrontRead (with_options text) layout r
unfolding with_options
options_plain text c cs e none layout r g =
    let same : with_width plain_layout Align text ≡ with_options text = ap (with_width plain_layout Align) e ∙ ap (aligned c cs) (sym none) ∙ ap with_options (sym e) in
    subst (λ f. IsFrontRead f layout r) same g

pub options_aligned : (text : List ℕ) (c : ℕ) (cs : List ℕ) → text ≡ c ∷ cs → (align : Alignment) → alignment_of c ≡ Some align → (layout : Layout) (r : Result (Bor (List ℕ)) TemplateError) →
    IsFrontRead (with_width (record plain_layout { align = align }) Width cs) layout r → IsFrontRead (with_options text) layout r
unfolding with_options
options_aligned text c cs e align is layout r g =
    let same : with_width (record plain_layout { align = align }) Width cs ≡ with_options text = ap (aligned c cs) (sym is) ∙ ap with_options (sym e) in
    subst (λ f. IsFrontRead f layout r) same g

-- a dot alone begins a style
pub options_styled : (text : List ℕ) (c : ℕ) (cs : List ℕ) → text ≡ c ∷ cs → c ≡ 0x2E → with_options text ≡ with_style plain_layout cs
unfolding with_options with_width
options_styled text c cs e dot = ap with_options e ∙ ap (λ d. with_options (d ∷ cs)) dot
