-- That digits and exclamation marks taken up one by one are those in front of the text.
use Rattle.std.proofs.Common.{◌≡◌, ℕ, ◌+◌, ◌-◌, ◌*◌, ◌<◌, ◌≤◌, true, false, List, [], ◌∷◌, refl, sym, ◌∙◌, ap, subst, Some, None}
use Rattle.std.specs.Prelude.{◌==◌, ◌||◌, filter, take_while, unwrap_or}
use Rattle.std.specs.Char.{is_ascii_digit}
use Rattle.std.proofs.Math.Bool.{or-true}
use Rattle.std.proofs.lemmas.Bool.{false≢true}
use Rattle.indicatif_text.specs.declared.refusal.TemplateState.{TemplateState}
use Rattle.indicatif_text.specs.declared.refusal.TemplateState.TheVariants.{Width}
use Rattle.indicatif_text.specs.declared.template.reading.Mix.{Mix}
use Rattle.indicatif_text.specs.Inside.Reading.{IsMixBefore, TakesUp, number_after}
use Rattle.indicatif_text.specs.Template.{after_run, is_width_char, is_too_wide, state_after}
use Rattle.indicatif_text.proofs.PrefixLemmas.{run_more, left_more}
use Rattle.indicatif_text.proofs.OptionLemmas.{number_from_none, stays_wide, exclamation_here, exclamation_later, number_digit, number_other, below_wide}

state_stays : (left : List ℕ) → state_after Width left ≡ Width
state_stays [] = refl
state_stays (c ∷ cs) = refl

-- before the first character
pub mix_begins : (state : TemplateState) (run : List ℕ) → IsMixBefore state run (record { width = None; too_large = false; truncate = false; state = state }) run
mix_begins state run = record {
  fits = refl;
  too_large_is = ap is_too_wide (sym (number_from_none (filter is_ascii_digit run)));
  width_is = λ _. sym (number_from_none (filter is_ascii_digit run));
  truncate_is = refl;
  state_is = refl;
}

module _ (mix : Mix) (c : ℕ) where
  pub takes_exclamation : c ≡ 0x21 → TakesUp mix c (record mix { truncate = true; state = Width })
  takes_exclamation e state run left b =
      let digit : is_ascii_digit c ≡ false = ap is_ascii_digit e in
      let digits = number_other c left digit in
      record {
        fits = b.fits;
        too_large_is = ap (λ ds. mix.too_large || is_too_wide (number_after mix.width ds)) (sym digits) ∙ b.too_large_is;
        width_is = λ h. ap (number_after mix.width) (sym digits) ∙ b.width_is h;
        truncate_is = sym (ap (λ x. mix.truncate || x) (exclamation_here c left e) ∙ or-true mix.truncate) ∙ b.truncate_is;
        state_is = state_stays left ∙ b.state_is;
      }

  module _ (n : ℕ) (digit : is_ascii_digit c ≡ true) (other : c ≡ 0x21 → ⊥) (is : n ≡ unwrap_or mix.width 0 * 10 + (c - 48)) where
    pub takes_too_much : 65535 < n → TakesUp mix c (record mix { too_large = true; state = Width })
    takes_too_much wide state run left b =
        let ds = filter is_ascii_digit left in
        let more = number_digit mix.width c left n digit is in
        record {
          fits = b.fits;
          too_large_is = sym (ap (λ x. mix.too_large || is_too_wide x) more ∙ ap (λ x. mix.too_large || x) (stays_wide n ds wide) ∙ or-true mix.too_large) ∙ b.too_large_is;
          width_is = λ h. absurd (false≢true (sym h));
          truncate_is = ap (λ x. mix.truncate || x) (sym (exclamation_later c left other)) ∙ b.truncate_is;
          state_is = state_stays left ∙ b.state_is;
        }

    pub takes_digit : n ≤ 65535 → TakesUp mix c (record mix { width = Some n; state = Width })
    takes_digit fits state run left b =
        let more = number_digit mix.width c left n digit is in
        record {
          fits = below_wide n fits;
          too_large_is = ap (λ x. mix.too_large || is_too_wide x) (sym more) ∙ b.too_large_is;
          width_is = λ h. sym more ∙ b.width_is h;
          truncate_is = ap (λ x. mix.truncate || x) (sym (exclamation_later c left other)) ∙ b.truncate_is;
          state_is = state_stays left ∙ b.state_is;
        }

pub width_exclamation : (c : ℕ) → c ≡ 0x21 → is_width_char c ≡ true
width_exclamation c e = ap is_width_char e

pub width_digit : (c : ℕ) → is_ascii_digit c ≡ true → is_width_char c ≡ true
width_digit c digit = ap (λ b. b || (c == 0x21)) digit

-- ---- a text from which they are taken

module _ (state : TemplateState) (text : List ℕ) (mix : Mix) (rest : List ℕ) (b : IsMixBefore state (take_while is_width_char text) mix (take_while is_width_char rest))
    (past : after_run is_width_char text ≡ after_run is_width_char rest) where
  module _ (c : ℕ) (cs : List ℕ) (e : rest ≡ c ∷ cs) where
    pub mix_more : is_width_char c ≡ true → (longer : Mix) → TakesUp mix c longer → IsMixBefore state (take_while is_width_char text) longer (take_while is_width_char cs)
    mix_more passes longer takes =
        takes state (take_while is_width_char text) (take_while is_width_char cs)
        (subst (IsMixBefore state (take_while is_width_char text) mix) (ap (take_while is_width_char) e ∙ run_more is_width_char c cs passes) b)

    pub past_more : is_width_char c ≡ true → after_run is_width_char text ≡ after_run is_width_char cs
    past_more passes = past ∙ ap (after_run is_width_char) e ∙ left_more is_width_char c cs passes
