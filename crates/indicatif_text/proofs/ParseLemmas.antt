-- That what a template was read as decides both sides of its contract.
use Rattle.std.proofs.Common.{◌≡◌, ℕ, ◌<◌, ◌⊎◌, inl, inr, false, List, [], length, sym, ◌∙◌, ap, subst}
use Rattle.std.specs.Prelude.{◌≢◌, ◌↔◌, ◌==◌, chars, IsUtf8, Result, Ok, Err, IsErrAnd}
use Rattle.indicatif_text.specs.declared.template.TemplateError.{TemplateError}
use Rattle.indicatif_text.specs.declared.template.TemplateError.TheVariants.{Memory}
use Rattle.indicatif_text.specs.Template.{TemplatePart, Parses, IsRefused, end, parts_of}
use Rattle.std.proofs.Math.Nat.{pos_of_ne-zero}
use Rattle.std.proofs.lemmas.Bool.{eqb-false}
use Rattle.indicatif_text.specs.Inside.Draft.{Sketch, empty_sketch, ReadsOn}
use Rattle.indicatif_text.proofs.TokenLemmas.{has_chars}
use Rattle.indicatif_text.proofs.TemplateLemmas.{never_both, one_list, one_place}

abbrev pub Parsed : List ℕ → Result (List TemplatePart) TemplateError → Type 0
Parsed text r = (parts : List TemplatePart) → r ≢ Err Memory → ((r ≡ Ok parts) ↔ Parses text parts)

abbrev pub Refused : List ℕ → Result (List TemplatePart) TemplateError → Type 0
Refused text r = (error : TemplateError) → r ≢ Err Memory → ((r ≡ Err error) ↔ IsRefused text error)

different : (parts : List TemplatePart) (error : TemplateError) (r : Result (List TemplatePart) TemplateError) → r ≡ Ok parts → r ≡ Err error → ⊥
different parts error r e d = let w : Ok parts ≡ Err error = sym e ∙ d in cc w

ok_same : (a b : List TemplatePart) → ◌≡◌ {A = Result (List TemplatePart) TemplateError} (Ok a) (Ok b) → a ≡ b
ok_same a b e = cc e

err_same : (a b : TemplateError) → ◌≡◌ {A = Result (List TemplatePart) TemplateError} (Err a) (Err b) → a ≡ b
err_same a b e = cc e

module _ (text : List ℕ) (made : List TemplatePart) (p : Parses text made) (r : Result (List TemplatePart) TemplateError) (e : r ≡ Ok made) where
  pub parsed_ok : Parsed text r
  parsed_ok parts _ = ((λ d. subst (Parses text) (ok_same made parts (sym e ∙ d)) p), (λ q. e ∙ ap Ok (one_list text made parts p q)))

  pub refused_ok : Refused text r
  refused_ok error _ = ((λ d. absurd (different made error r e d)), (λ q. absurd (never_both text made q.0 error p q.1)))

module _ (text : List ℕ) (x : TemplateError) (h : (x ≡ Memory) ⊎ IsRefused text x) (r : Result (List TemplatePart) TemplateError) (e : r ≡ Err x) where
  found : r ≢ Err Memory → IsRefused text x
  found other = elim h [ inl memory ↦ absurd (other (e ∙ ap Err memory)) | inr is ↦ is ]

  pub parsed_err : Parsed text r
  parsed_err parts other = ((λ d. absurd (different parts x r d e)), (λ p. let is = found other in absurd (never_both text parts is.0 x p is.1)))

  pub refused_err : Refused text r
  refused_err error other =
      ((λ d. subst (IsRefused text) (err_same x error (sym e ∙ d)) (found other)), (λ q. let is = found other in e ∙ ap Err (one_place text is.0 q.0 x error is.1 q.1).1))

-- ---- from the reader's words

pub is_error : (x : TemplateError) (r : Result (List TemplatePart) TemplateError) → IsErrAnd r (λ e. e ≡ x) → r ≡ Err x
is_error x (Ok y) h = absurd h
is_error x (Err y) h = ap Err h

pub handed_back : (text rest : List ℕ) (s : Sketch) (x : TemplateError) → ReadsOn empty_sketch text s rest → (x ≡ Memory) ⊎ IsRefused rest x → (x ≡ Memory) ⊎ IsRefused text x
handed_back text rest s x leads h = elim h [ inl memory ↦ inl memory | inr t ↦ inr (t.0, leads.refuses t.0 x t.1) ]

pub some_length : (bs : List ℕ) → IsUtf8 bs → false ≡ (length bs == 0) → 0 < length (chars bs)
some_length bs u some = pos_of_ne-zero (eqb-false (length (chars bs)) 0 (has_chars bs u some))

-- ---- the empty text

-- it is a template of no parts
pub parses_none : (text : List ℕ) (parts : List TemplatePart) → text ≡ [] → parts ≡ [] → Parses text parts
unfolding parts_of
parses_none text parts e none = subst (λ t. Parses t parts) (sym e) (record { pieces = []; reads = end; makes = sym none })
