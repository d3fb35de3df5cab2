-- What stands in front of a text, case by case.
use Rattle.std.proofs.Common.{◌≡◌, ℕ, inl, inr, true, false, List, [], ◌∷◌, ◌++◌, length, refl, sym, ◌∙◌, ap, arith, eqb}
use Rattle.std.specs.Prelude.{◌==◌, chars, IsUtf8, take_while}
use Rattle.std.specs.Char.{is_ascii_whitespace}
use Rattle.std.proofs.lemmas.Bool.{cases_Bool, eqb-true, eq-eqb, ne_eqb, false≢true}
use Rattle.std.proofs.lemmas.List.{nil_from_length}
use Rattle.indicatif_text.proofs.OptionLemmas.{is_no_text, some_chars}
use Rattle.indicatif_text.specs.declared.refusal.TemplateState.TheVariants.{MaybeOpen, DoubleClose}
use Rattle.indicatif_text.specs.declared.template.TemplateError.TheVariants.{Unexpected}
use Rattle.indicatif_text.specs.Template.{Char, Break, SpacedBrace, Keyed, LastBrace, Takes, Stops, after_run, plain_layout, with_options, keyed, unfinished, key_ends, is_key_char, opening_brace, closing_brace, front}

pub no_chars : (bs : List ℕ) → true ≡ (length bs == 0) → (length (chars bs) == 0) ≡ true
no_chars bs e = ap (λ cs. length cs == 0) (is_no_text bs e)

pub has_chars : (bs : List ℕ) → IsUtf8 bs → false ≡ (length bs == 0) → (length (chars bs) == 0) ≡ false
has_chars bs u e = elim (cases_Bool (eqb (length (chars bs)) 0)) [
  | inl none ↦ absurd (false≢true (e ∙ eq-eqb (length bs) 0 (some_chars bs u (nil_from_length (chars bs) (eqb-true (length (chars bs)) 0 none)))))
  | inr some ↦ some
]

pub key_open : (key after : List ℕ) → after ≡ [] → key_ends key after ≡ Takes after (unfinished key)
key_open key after e = ap (key_ends key) e ∙ ap (λ r. Takes r (unfinished key)) (sym e)

pub key_spaced : (key after : List ℕ) (c : ℕ) (cs : List ℕ) → after ≡ c ∷ cs → is_ascii_whitespace c ≡ true → key_ends key after ≡ Takes cs (SpacedBrace ((0x7B ∷ key) ++ c ∷ []))
key_spaced key after c cs e space = ap (key_ends key) e ∙ rw space refl

module _ (key after : List ℕ) (c : ℕ) (cs : List ℕ) (e : after ≡ c ∷ cs) (other : is_ascii_whitespace c ≡ false) where
  pub key_missing : (length key == 0) ≡ true → key_ends key after ≡ Stops (c ∷ cs) (Unexpected c MaybeOpen)
  key_missing none = ap (key_ends key) e ∙ rw (other, none) refl

  pub key_closed : (length key == 0) ≡ false → c ≡ 0x7D → key_ends key after ≡ Takes cs (Keyed key plain_layout)
  key_closed some brace =
      let test : eqb c 0x7D ≡ true = eq-eqb c 0x7D brace in
      ap (key_ends key) e ∙ rw (other, some, test) refl

  pub key_options : (length key == 0) ≡ false → (c ≡ 0x7D → ⊥) → key_ends key after ≡ keyed key (with_options cs)
  key_options some colon =
      let test : eqb c 0x7D ≡ false = ne_eqb c 0x7D colon in
      ap (key_ends key) e ∙ rw (other, some, test) refl

pub opened_key : (text key after : List ℕ) (c : ℕ) (cs : List ℕ) → text ≡ c ∷ cs → (c ≡ 0x7B → ⊥) → key ≡ take_while is_key_char text → after ≡ after_run is_key_char text →
    key_ends key after ≡ opening_brace text
opened_key text key after c cs e other k a =
    let test : eqb c 0x7B ≡ false = ne_eqb c 0x7B other in
    let same : opening_brace (c ∷ cs) ≡ key_ends (take_while is_key_char (c ∷ cs)) (after_run is_key_char (c ∷ cs)) = rw test refl in
    let parts : key_ends key after ≡ key_ends (take_while is_key_char text) (after_run is_key_char text) = cc (k, a) in
    parts ∙ ap (λ t. key_ends (take_while is_key_char t) (after_run is_key_char t)) e ∙ sym same ∙ ap opening_brace (sym e)

pub closed_wrong : (text : List ℕ) (c : ℕ) (cs : List ℕ) → text ≡ c ∷ cs → (c ≡ 0x7D → ⊥) → closing_brace text ≡ Stops (c ∷ cs) (Unexpected c DoubleClose)
closed_wrong text c cs e other = let test : eqb c 0x7D ≡ false = ne_eqb c 0x7D other in ap closing_brace e ∙ rw test refl

pub closed_end : (text : List ℕ) → text ≡ [] → closing_brace text ≡ Takes text (Char 0x7D)
closed_end text e = ap closing_brace e ∙ ap (λ r. Takes r (Char 0x7D)) (sym e)

pub closed_doubled : (text : List ℕ) (c : ℕ) (cs : List ℕ) → text ≡ c ∷ cs → c ≡ 0x7D → closing_brace text ≡ Takes cs (Char 0x7D)
closed_doubled text c cs e brace = let test : eqb c 0x7D ≡ true = eq-eqb c 0x7D brace in ap closing_brace e ∙ rw test refl

pub opened_end : (text : List ℕ) → text ≡ [] → opening_brace text ≡ Takes text LastBrace
opened_end text e = ap opening_brace e ∙ ap (λ r. Takes r LastBrace) (sym e)

pub opened_doubled : (text : List ℕ) (c : ℕ) (cs : List ℕ) → text ≡ c ∷ cs → c ≡ 0x7B → opening_brace text ≡ Takes cs (Char 0x7B)
opened_doubled text c cs e brace = let test : eqb c 0x7B ≡ true = eq-eqb c 0x7B brace in ap opening_brace e ∙ rw test refl

module _ (c : ℕ) (cs : List ℕ) where
  pub front_break : c ≡ 0x0A → front c cs ≡ Takes cs Break
  unfolding front
  front_break e = let test : eqb c 0x0A ≡ true = eq-eqb c 0x0A e in rw test refl

  pub front_opened : c ≡ 0x7B → front c cs ≡ opening_brace cs
  unfolding front
  front_opened e =
      let first : eqb c 0x0A ≡ false = ne_eqb c 0x0A (λ h. absurd (omega (arith, e, h))) in
      let test : eqb c 0x7B ≡ true = eq-eqb c 0x7B e in
      rw (first, test) refl

  pub front_closed : c ≡ 0x7D → front c cs ≡ closing_brace cs
  unfolding front
  front_closed e =
      let first : eqb c 0x0A ≡ false = ne_eqb c 0x0A (λ h. absurd (omega (arith, e, h))) in
      let second : eqb c 0x7B ≡ false = ne_eqb c 0x7B (λ h. absurd (omega (arith, e, h))) in
      let test : eqb c 0x7D ≡ true = eq-eqb c 0x7D e in
      rw (first, second, test) refl
