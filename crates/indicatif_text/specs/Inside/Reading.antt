-- What the code of templates reads at the front of a text, by the grammar.
use Rattle.std.specs.Prelude.{◌≡◌, ℕ, ◌+◌, ◌*◌, ◌==◌, ◌||◌, false, List, [], ◌∷◌, filter, Option, Some, option_map, unwrap_or, Result, MatchResult}
use Rattle.std.specs.Borrow.{Bor}
use Rattle.std.specs.List.{list_any}
use Rattle.std.specs.Char.{is_ascii_digit, digit_value}
use Rattle.std.specs.Str.{chars}
use Rattle.indicatif_text.specs.declared.refusal.TemplateState.{TemplateState}
use Rattle.indicatif_text.specs.declared.template.TemplateError.{TemplateError}
use Rattle.indicatif_text.specs.declared.template.reading.Mix.{Mix}
use Rattle.indicatif_text.specs.declared.template.reading.Options.{Options}
use Rattle.indicatif_text.specs.StyleWords.{numbers_of}
use Rattle.indicatif_text.specs.Template.{Layout, Front, Takes, Stops, number_of, is_too_wide, state_after}

-- the layout of options
abbrev pub layout_of : Options → Layout
layout_of o = record { align = o.align; width = o.width; truncate = o.truncate; style = option_map numbers_of o.style; alternative = option_map numbers_of o.alternative }

-- a mix of digits and exclamation marks, the first of which is met in this state
pub record IsMix (state : TemplateState) (run : List ℕ) (mix : Mix) : Type 0 where
  pub too_large_is : mix.too_large ≡ is_too_wide (number_of (filter is_ascii_digit run))
  pub width_is : mix.too_large ≡ false → mix.width ≡ number_of (filter is_ascii_digit run)
  pub truncate_is : mix.truncate ≡ list_any (λ c. c == 0x21) run
  pub state_is : mix.state ≡ state_after state run

-- a number with further digits
abbrev pub number_after : Option ℕ → List ℕ → Option ℕ
number_after number [] = number
number_after number (d ∷ ds) = number_after (Some (unwrap_or number 0 * 10 + digit_value d)) ds

-- a mix, before these characters of the run
pub record IsMixBefore (state : TemplateState) (run : List ℕ) (mix : Mix) (left : List ℕ) : Type 0 where
  pub fits : is_too_wide mix.width ≡ false
  pub too_large_is : (mix.too_large || is_too_wide (number_after mix.width (filter is_ascii_digit left))) ≡ is_too_wide (number_of (filter is_ascii_digit run))
  pub width_is : mix.too_large ≡ false → number_after mix.width (filter is_ascii_digit left) ≡ number_of (filter is_ascii_digit run)
  pub truncate_is : (mix.truncate || list_any (λ c. c == 0x21) left) ≡ list_any (λ c. c == 0x21) run
  pub state_is : state_after mix.state left ≡ state_after state run

-- a longer mix has taken the first of the characters that were left
abbrev pub TakesUp : Mix → ℕ → Mix → Type 0
TakesUp mix c longer = (state : TemplateState) (run left : List ℕ) → IsMixBefore state run mix (c ∷ left) → IsMixBefore state run longer left

-- an answer agrees with this front, of which this was read: the text that is left, or the error, wherever its place
abbrev pub IsFrontRead : {A : Type 0} → Front A → A → Result (Bor (List ℕ)) TemplateError → Type 0
IsFrontRead front what answer = MatchResult answer (λ rest. front ≡ Takes (chars rest.now) what) (λ e. (place : List ℕ) × (front ≡ Stops place e))
