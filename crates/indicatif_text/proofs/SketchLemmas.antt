-- That a sketch of a template led on piece by piece completes to the parts of the text.
use Rattle.std.proofs.Common.{◌≡◌, ℕ, suc, ◌+◌, inl, inr, Bool, true, false, List, [], ◌∷◌, ◌++◌, length, refl, sym, ◌∙◌, ap, subst, arith, eqb, append-nil, append_assoc}
use Rattle.std.specs.Prelude.{⊤, ◌==◌, ◌||◌, not, if◌then◌else◌, take_while}
use Rattle.std.specs.List.{prefix_len}
use Rattle.std.specs.Char.{is_ascii_whitespace}
use Rattle.std.proofs.lemmas.Bool.{cases_Bool, cond_both, false≢true}
use Rattle.indicatif_text.specs.declared.refusal.TemplateState.TheVariants.{MaybeOpen, DoubleClose}
use Rattle.indicatif_text.specs.declared.template.TemplateError.TheVariants.{Unexpected}
use Rattle.indicatif_text.specs.Template.{Layout, TemplatePart, LiteralText, LineBreak, KeyText, TemplatePiece, Char, Break, SpacedBrace, Keyed, LastBrace, LastKey, Front, Takes, Stops, after_run, plain_layout, with_options, keyed, unfinished, key_ends, is_key_char, opening_brace, closing_brace, front, Reads, end, piece, later, is_open_run, without_open_run, onto_literal, joined_parts, parts_of, Parses}
use Rattle.indicatif_text.specs.Inside.Draft.{Sketch, empty_sketch, literal_part, sketched_parts, with_part, added, after_text, completed, ReadsOn}
use Rattle.indicatif_text.specs.Inside.Spans.{is_literal_char}

-- ---- parts with a text in front

onto_twice : (a b : List ℕ) (parts : List TemplatePart) → onto_literal a (onto_literal b parts) ≡ onto_literal (a ++ b) parts
onto_twice a b [] = refl
onto_twice a b (LiteralText more ∷ parts) = ap (λ t. LiteralText t ∷ parts) (sym (append_assoc a b more))
onto_twice a b (LineBreak ∷ parts) = refl
onto_twice a b (KeyText key layout ∷ parts) = refl

text_twice : (a : List ℕ) (c : ℕ) (cs : List ℕ) (parts : List TemplatePart) → after_text a (onto_literal (c ∷ cs) parts) ≡ after_text (a ++ c ∷ cs) parts
text_twice [] c cs parts = refl
text_twice (x ∷ xs) c cs parts = onto_twice (x ∷ xs) (c ∷ cs) parts

text_break : (a : List ℕ) (parts : List TemplatePart) → after_text a (LineBreak ∷ parts) ≡ literal_part a ++ (LineBreak ∷ parts)
text_break [] parts = refl
text_break (x ∷ xs) parts = refl

text_key : (a key : List ℕ) (layout : Layout) (parts : List TemplatePart) → after_text a (KeyText key layout ∷ parts) ≡ literal_part a ++ (KeyText key layout ∷ parts)
text_key [] key layout parts = refl
text_key (x ∷ xs) key layout parts = refl

text_alone : (a : List ℕ) → after_text a [] ≡ literal_part a
text_alone [] = refl
text_alone (x ∷ xs) = refl

-- ---- an open run

open_gone : (ps : List TemplatePiece) → is_open_run ps ≡ true → without_open_run ps ≡ []
open_gone [] e = refl
open_gone (p ∷ ps) e = rw e refl

-- a fresh sketch and the pieces that follow it
fresh : (ps : List TemplatePiece) → (if is_open_run ps then [] else joined_parts (without_open_run ps)) ≡ joined_parts (without_open_run ps)
fresh ps = elim (cases_Bool (is_open_run ps)) [
  | inl is ↦ rw (is, open_gone ps is) refl
  | inr other ↦ rw other refl
]

pub completed_empty : (ps : List TemplatePiece) → completed empty_sketch ps ≡ parts_of ps
unfolding completed parts_of
completed_empty ps = fresh ps

pub completed_nil : (s : Sketch) → completed s [] ≡ sketched_parts s
unfolding completed
completed_nil s = ap (λ parts. s.done ++ parts) (text_alone (s.fixed ++ s.run))

after_part : (s : Sketch) (part : TemplatePart) (ps : List TemplatePiece)
    → after_text (s.fixed ++ s.run) (part ∷ joined_parts (without_open_run ps)) ≡ literal_part (s.fixed ++ s.run) ++ (part ∷ joined_parts (without_open_run ps)) →
    s.done ++ after_text (s.fixed ++ s.run) (part ∷ joined_parts (without_open_run ps)) ≡ completed (with_part s part) ps
unfolding completed
after_part s part ps e =
    let rest = joined_parts (without_open_run ps) in
    ap (λ parts. s.done ++ parts) e ∙ sym (append_assoc s.done (literal_part (s.fixed ++ s.run)) (part ∷ rest))
    ∙ sym (append_assoc (sketched_parts s) (part ∷ []) rest) ∙ ap (λ parts. (sketched_parts s ++ part ∷ []) ++ parts) (sym (fresh ps))

-- what may follow a piece: nothing after an opening brace or key at the end; and a spaced brace has a character
abbrev pub Fits : TemplatePiece → List ℕ → Type 0
Fits (SpacedBrace []) rest = ⊥
Fits (SpacedBrace (c ∷ cs)) rest = ⊤
Fits LastBrace rest = rest ≡ []
Fits LastKey rest = rest ≡ []
Fits (Char c) rest = ⊤
Fits Break rest = ⊤
Fits (Keyed key layout) rest = ⊤

none_read : (rest : List ℕ) (ps : List TemplatePiece) → Reads rest ps → rest ≡ [] → ps ≡ []
none_read [] [] end e = refl
none_read [] (p ∷ ps) r e = elim r [ ]
none_read (c ∷ cs) [] r e = elim r [ ]
none_read (c ∷ cs) (p ∷ ps) (piece d r) e = absurd (cc e)

module _ (s : Sketch) (ps : List TemplatePiece) where
  complete_char : (c : ℕ) → completed s (Char c ∷ ps) ≡ completed (added s (Char c)) ps
  unfolding completed
  complete_char c = elim (cases_Bool (is_open_run ps)) [
    | inl is ↦ rw is refl
    | inr other ↦
        rw other (ap (λ parts. s.done ++ parts) (text_twice (s.fixed ++ s.run) c [] (joined_parts (without_open_run ps)))
        ∙ ap (λ text. s.done ++ after_text text (joined_parts (without_open_run ps))) (append_assoc s.fixed s.run (c ∷ [])))
  ]

  complete_break : completed s (Break ∷ ps) ≡ completed (added s Break) ps
  unfolding completed
  complete_break = after_part s LineBreak ps (text_break (s.fixed ++ s.run) (joined_parts (without_open_run ps)))

  complete_keyed : (key : List ℕ) (layout : Layout) → completed s (Keyed key layout ∷ ps) ≡ completed (added s (Keyed key layout)) ps
  unfolding completed
  complete_keyed key layout = after_part s (KeyText key layout) ps (text_key (s.fixed ++ s.run) key layout (joined_parts (without_open_run ps)))

  complete_spaced : (c : ℕ) (cs : List ℕ) → completed s (SpacedBrace (c ∷ cs) ∷ ps) ≡ completed (added s (SpacedBrace (c ∷ cs))) ps
  unfolding completed
  complete_spaced c cs =
      let text = (s.fixed ++ s.run) ++ c ∷ cs in
      let start = ap (λ parts. s.done ++ parts) (text_twice (s.fixed ++ s.run) c cs (joined_parts (without_open_run ps))) in
      start ∙ elim (cases_Bool (is_open_run ps)) [
        | inl is ↦ rw (is, open_gone ps is) refl
        | inr other ↦ rw other (ap (λ t. s.done ++ after_text t (joined_parts (without_open_run ps))) (sym (append-nil text)))
      ]

complete_last_brace : (s : Sketch) → completed s (LastBrace ∷ []) ≡ completed (added s LastBrace) []
unfolding completed
complete_last_brace s = ap (λ text. s.done ++ after_text text []) (sym (append-nil s.fixed))

complete_last_key : (s : Sketch) → completed s (LastKey ∷ []) ≡ completed s []
unfolding completed
complete_last_key s = refl

pub completed_step : (s : Sketch) (p : TemplatePiece) (rest : List ℕ) (ps : List TemplatePiece) → Fits p rest → Reads rest ps → completed s (p ∷ ps) ≡ completed (added s p) ps
completed_step s (Char c) rest ps f r = complete_char s ps c
completed_step s Break rest ps f r = complete_break s ps
completed_step s (SpacedBrace []) rest ps f r = absurd f
completed_step s (SpacedBrace (c ∷ cs)) rest ps f r = complete_spaced s ps c cs
completed_step s (Keyed key layout) rest ps f r = complete_keyed s ps key layout
completed_step s LastBrace rest ps f r = let none : ps ≡ [] = none_read rest ps r f in subst (λ qs. completed s (LastBrace ∷ qs) ≡ completed (added s LastBrace) qs) (sym none) (complete_last_brace s)
completed_step s LastKey rest ps f r = let none : ps ≡ [] = none_read rest ps r f in subst (λ qs. completed s (LastKey ∷ qs) ≡ completed s qs) (sym none) (complete_last_key s)

-- ---- pieces fit what follows them

abbrev FitsFront : Front TemplatePiece → Type 0
FitsFront (Takes rest p) = Fits p rest
FitsFront (Stops place error) = ⊤

fits_unfinished : (key : List ℕ) → Fits (unfinished key) []
fits_unfinished [] = refl
fits_unfinished (k ∷ key) = refl

fits_keyed : (key : List ℕ) (f : Front Layout) → FitsFront (keyed key f)
fits_keyed key (Takes rest layout) = tt
fits_keyed key (Stops place error) = tt

fits_key_ends : (key after : List ℕ) → FitsFront (key_ends key after)
fits_key_ends key [] = fits_unfinished key
fits_key_ends key (c ∷ cs) =
    let slot : Front TemplatePiece = if c == 0x7D then Takes cs (Keyed key plain_layout) else keyed key (with_options cs) in
    let found : Front TemplatePiece = if length key == 0 then Stops (c ∷ cs) (Unexpected c MaybeOpen) else slot in
    cond_both (is_ascii_whitespace c) (Takes cs (SpacedBrace ((0x7B ∷ key) ++ c ∷ []))) found FitsFront (λ e. tt)
    (λ e. cond_both (eqb (length key) 0) (Stops (c ∷ cs) (Unexpected c MaybeOpen)) slot FitsFront (λ f. tt)
    (λ f. cond_both (eqb c 0x7D) (Takes cs (Keyed key plain_layout)) (keyed key (with_options cs)) FitsFront (λ g. tt) (λ g. fits_keyed key (with_options cs))))

fits_opened : (text : List ℕ) → FitsFront (opening_brace text)
fits_opened [] = refl
fits_opened (c ∷ cs) =
    cond_both (eqb c 0x7B) (Takes cs (Char 0x7B)) (key_ends (take_while is_key_char (c ∷ cs)) (after_run is_key_char (c ∷ cs))) FitsFront (λ e. tt)
    (λ e. fits_key_ends (take_while is_key_char (c ∷ cs)) (after_run is_key_char (c ∷ cs)))

fits_closed : (text : List ℕ) → FitsFront (closing_brace text)
fits_closed [] = tt
fits_closed (c ∷ cs) = cond_both (eqb c 0x7D) (Takes cs (Char 0x7D)) (Stops (c ∷ cs) (Unexpected c DoubleClose)) FitsFront (λ e. tt) (λ e. tt)

fits_front : (c : ℕ) (cs : List ℕ) → FitsFront (front c cs)
unfolding front
fits_front c cs =
    let closing : Front TemplatePiece = if c == 0x7D then closing_brace cs else Takes cs (Char c) in
    cond_both (eqb c 0x0A) (Takes cs Break) (if c == 0x7B then opening_brace cs else closing) FitsFront (λ e. tt)
    (λ e. cond_both (eqb c 0x7B) (opening_brace cs) closing FitsFront (λ f. fits_opened cs)
    (λ f. cond_both (eqb c 0x7D) (closing_brace cs) (Takes cs (Char c)) FitsFront (λ g. fits_closed cs) (λ g. tt)))

-- ---- leading on

pub leads_none : (s : Sketch) (text : List ℕ) → ReadsOn s text s text
leads_none s text = record { reads = λ ps r. (ps, r, refl); refuses = λ place error t. t }

pub leads_more : {s t u : Sketch} {text middle rest : List ℕ} → ReadsOn s text t middle → ReadsOn t middle u rest → ReadsOn s text u rest
leads_more a b = record {
  reads = λ ps r. let next = b.reads ps r in let first = a.reads next.0 next.1 in (first.0, first.1, first.2 ∙ next.2);
  refuses = λ place error t. a.refuses place error (b.refuses place error t);
}

pub leads_piece : (s : Sketch) (c : ℕ) (cs rest : List ℕ) (p : TemplatePiece) → front c cs ≡ Takes rest p → ReadsOn s (c ∷ cs) (added s p) rest
leads_piece s c cs rest p e =
    let fit : Fits p rest = subst FitsFront e (fits_front c cs) in
    record { reads = λ ps r. (p ∷ ps, piece e r, completed_step s p rest ps fit r); refuses = λ place error t. later e t }

by_tests : {A : Type 0} (line opens closes : Bool) (a b c d : A) → not (line || opens || closes) ≡ true → (if line then a else if opens then b else if closes then c else d) ≡ d
by_tests true opens closes a b c d e = absurd (false≢true e)
by_tests false true closes a b c d e = absurd (false≢true e)
by_tests false false true a b c d e = absurd (false≢true e)
by_tests false false false a b c d e = refl

pub literal_front : (c : ℕ) (cs : List ℕ) → is_literal_char c ≡ true → front c cs ≡ Takes cs (Char c)
unfolding front
literal_front c cs e = by_tests (eqb c 0x0A) (eqb c 0x7B) (eqb c 0x7D) (Takes cs Break) (opening_brace cs) (closing_brace cs) (Takes cs (Char c)) e

pub leads_run : (s : Sketch) (text : List ℕ) → ReadsOn s text (record s { run = s.run ++ take_while is_literal_char text }) (after_run is_literal_char text)
leads_run s [] = subst (λ run. ReadsOn s [] (record s { run = run }) []) (sym (append-nil s.run)) (leads_none s [])
leads_run s (c ∷ cs) = elim (cases_Bool (is_literal_char c)) [
  | inl plain ↦
      let one : 1 + prefix_len is_literal_char cs ≡ suc (prefix_len is_literal_char cs) = omega arith in
      let next = leads_run (record s { run = s.run ++ c ∷ [] }) cs in
      let joined = append_assoc s.run (c ∷ []) (take_while is_literal_char cs) in
      let whole = leads_more (leads_piece s c cs cs (Char c) (literal_front c cs plain)) next in
      rw (plain, one) (subst (λ run. ReadsOn s (c ∷ cs) (record s { run = run }) (after_run is_literal_char cs)) joined whole)
  | inr marker ↦ rw marker (subst (λ run. ReadsOn s (c ∷ cs) (record s { run = run }) (c ∷ cs)) (sym (append-nil s.run)) (leads_none s (c ∷ cs)))
]

-- a text that was led to its end is a template
pub leads_parse : (text rest : List ℕ) (s : Sketch) → rest ≡ [] → ReadsOn empty_sketch text s rest → Parses text (sketched_parts s)
leads_parse text rest s none leads =
    let whole : ReadsOn empty_sketch text s [] = subst (ReadsOn empty_sketch text s) none leads in
    let all = whole.reads [] end in
    record { pieces = all.0; reads = all.1; makes = sym (completed_empty all.0) ∙ all.2 ∙ completed_nil s }
