use Rattle.std.proofs.Common.{◌≡◌, ℕ, List, ◌++◌, [], Option, Some, None, refl, ◌∙◌, sym, ap, subst, string_bytes}
use Rattle.std.specs.Prelude.{MatchOption}
use Rattle.std.specs.Option.{option_map_or}
use Rattle.indicatif_bar.specs.Layout.{padded}
use Rattle.indicatif_bar.specs.Inside.Steps.{source_text, placeholder_layout}
use Rattle.indicatif_bar.proofs.style.ProgressStyle.push_sized.Goals as goal

none_of : {A : Type 0} (o : Option A) → ((x : A) → o ≡ Some x → ⊥) → o ≡ None
none_of None h = refl
none_of (Some x) h = absurd (h x refl)

pub returns-in_default : goal.returns-in_default
returns-in_default g c =
    let placeholder = c.args.placeholder.now in
    let old = string_bytes c.args.out.now in
    let text = source_text g.K.Tracks.means c.args.self.now c.args.state.now c.args.now (placeholder_layout placeholder) placeholder.source in
    let (none, same) : (placeholder.width ≡ None) × (string_bytes c.set_aside-before.new.out ≡ old) = subst (λ o. MatchOption o
    ((placeholder.width ≡ None) × (string_bytes c.set_aside-before.new.out ≡ old))
    (λ a. (placeholder.width ≡ Some a.width) × (string_bytes a.text ≡ old) × (string_bytes c.set_aside-before.new.out ≡ [])))
    (none_of c.set_aside-before.result c.in_default.not-Some) c.set_aside-before.ensures in
    c.in_ok-push_told.ensures ∙ ap (λ t. t ++ text) same
    ∙ ap (λ w. old ++ option_map_or (λ width. padded text width placeholder.align placeholder.truncate) w text) (sym none)

pub returns : goal.returns
returns g c =
    let placeholder = c.args.placeholder.now in
    let old = string_bytes c.args.out.now in
    let text = source_text g.K.Tracks.means c.args.self.now c.args.state.now c.args.now (placeholder_layout placeholder) placeholder.source in
    let before = c.in-Some.before in
    let aside : (placeholder.width ≡ Some before.width) × (string_bytes before.text ≡ old) × (string_bytes c.set_aside-before.new.out ≡ []) = subst (λ o. MatchOption o
    ((placeholder.width ≡ None) × (string_bytes c.set_aside-before.new.out ≡ old))
    (λ a. (placeholder.width ≡ Some a.width) × (string_bytes a.text ≡ old) × (string_bytes c.set_aside-before.new.out ≡ []))) c.in-Some.is c.set_aside-before.ensures in
    let told : string_bytes c.push_told.new.out ≡ text = c.in_ok-push_told.ensures ∙ ap (λ t. t ++ text) aside.2 in
    let fit : List ℕ → List ℕ = λ t. padded t before.width placeholder.align placeholder.truncate in
    c.in_ok-push_padded.ensures
    ∙ ap (λ w. string_bytes c.replace-text.new.dest ++ padded c.as_str.result.now w placeholder.align placeholder.truncate) c.from.ensures
    ∙ ap (λ t. t ++ fit c.as_str.result.now) (ap string_bytes c.replace-text.ensures.after ∙ aside.1)
    ∙ ap (λ t. old ++ fit t) (c.as_str.ensures.value ∙ ap string_bytes c.replace-text.ensures.value ∙ told)
    ∙ ap (λ w. old ++ option_map_or (λ width. padded text width placeholder.align placeholder.truncate) w text) (sym aside.0)
