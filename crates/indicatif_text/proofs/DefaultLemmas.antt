-- That the default templates, made part by part, are those of their texts.
use Rattle.std.proofs.Common.{◌≡◌, ◌∙◌, List, ℕ, refl, sym, ap, subst}
use Rattle.std.specs.Prelude.{codes, Result, Ok, Err, IfOk}
use Rattle.indicatif_text.specs.Template.{TemplatePart, Keyed, plain_layout, front, end, piece, parts_of, Parses}
use Rattle.indicatif_text.specs.Inside.Draft.{Sketch, empty_sketch, sketched_parts, with_run, added}
use Rattle.indicatif_text.proofs.TemplateLemmas.{parses_by}

-- a key alone
abbrev pub plain : Sketch → List ℕ → Sketch
plain s key = added s (Keyed key plain_layout)

abbrev pub bar_sketch : Sketch
bar_sketch = plain (with_run (plain (with_run (plain empty_sketch (codes "wide_bar")) (codes " ")) (codes "pos")) (codes "/")) (codes "len")

pub bar_parses : Parses (codes "{wide_bar} {pos}/{len}") (sketched_parts bar_sketch)
unfolding front parts_of
bar_parses = parses_by (piece refl (piece refl (piece refl (piece refl (piece refl end))))) refl

abbrev pub spinner_sketch : Sketch
spinner_sketch = plain (with_run (plain empty_sketch (codes "spinner")) (codes " ")) (codes "msg")

pub spinner_parses : Parses (codes "{spinner} {msg}") (sketched_parts spinner_sketch)
unfolding front parts_of
spinner_parses = parses_by (piece refl (piece refl (piece refl end))) refl

-- what is made of a sketch that has the parts of a text is that text's template
pub made_of : {E : Type 0} (text : List ℕ) (s wanted : Sketch) (r : Result (List TemplatePart) E) → s ≡ wanted → Parses text (sketched_parts wanted)
    → IfOk r (λ template. template ≡ sketched_parts s) → IfOk r (λ template. Parses text template)
made_of text s wanted (Ok template) e parses is = subst (Parses text) (sym (is ∙ ap sketched_parts e)) parses
made_of text s wanted (Err x) e parses is = tt
