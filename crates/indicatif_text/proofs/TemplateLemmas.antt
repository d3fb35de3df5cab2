-- That each text is read in one way, or refused at one place.
use Rattle.std.specs.Prelude.{⊤}
use Rattle.std.proofs.Common.{◌≡◌, ℕ, eqb, zero, suc, ◌≤◌, ◌⊎◌, inl, inr, Bool, List, [], ◌∷◌, ◌++◌, length, refl, sym, ◌∙◌, ap, subst, arith, length-drop}
use Rattle.std.specs.Prelude.{◌==◌, Option, Some, None, if◌then◌else◌, take_while, filter}
use Rattle.std.specs.List.{prefix_len}
use Rattle.std.specs.Char.{is_ascii_digit, is_ascii_whitespace}
use Rattle.std.proofs.lemmas.Bool.{cond_both}
use Rattle.indicatif_text.specs.declared.refusal.TemplateState.{TemplateState}
use Rattle.indicatif_text.specs.declared.refusal.TemplateState.TheVariants.{MaybeOpen, DoubleClose, Align, Width}
use Rattle.indicatif_text.specs.declared.template.Alignment.{Alignment}
use Rattle.indicatif_text.specs.declared.template.TemplateError.{TemplateError}
use Rattle.indicatif_text.specs.declared.template.TemplateError.TheVariants.{Unexpected, WidthTooLarge}
use Rattle.indicatif_text.specs.Template.{Layout, TemplatePart, TemplatePiece, Char, Break, SpacedBrace, Keyed, plain_layout, Front, Takes, Stops, after_run, alternative_ends, with_alternative, is_alternative_char, is_style_char, is_width_char, number_of, state_after, style_named, style_ends, with_style, width_ends, with_width, with_options, is_too_wide, alignment_of, aligned, keyed, key_ends, opening_brace, closing_brace, front, Reads, end, piece, Refuses, here, later, Parses, parts_of, is_key_char}
use Rattle.indicatif_text.specs.TemplateLaws.{OneOfBoth, NeverBoth, OneList, OnePlace}

-- what reads makes the parts of its pieces
pub parses_by : {text : List ℕ} {parts : List TemplatePart} {pieces : List TemplatePiece} → Reads text pieces → parts_of pieces ≡ parts → Parses text parts
parses_by {pieces} reads makes = record { pieces = pieces; reads = reads; makes = makes }

-- a piece and an error are two
takes_or_stops : {f : Front TemplatePiece} {rest place : List ℕ} {p : TemplatePiece} {error : TemplateError} → f ≡ Takes rest p → f ≡ Stops place error → ⊥
takes_or_stops {rest} {place} {p} {error} e d = let w : Takes rest p ≡ Stops place error = sym e ∙ d in cc w

same_rest : {f : Front TemplatePiece} {rest other : List ℕ} {p q : TemplatePiece} → f ≡ Takes rest p → f ≡ Takes other q → rest ≡ other
same_rest e d = cc (e, d)

same_piece : {f : Front TemplatePiece} {rest other : List ℕ} {p q : TemplatePiece} → f ≡ Takes rest p → f ≡ Takes other q → p ≡ q
same_piece e d = cc (e, d)

same_place : {f : Front TemplatePiece} {place other : List ℕ} {x y : TemplateError} → f ≡ Stops place x → f ≡ Stops other y → (place ≡ other) × (x ≡ y)
same_place e d = (cc (e, d), cc (e, d))

pub reads_one : {text : List ℕ} {ps qs : List TemplatePiece} → Reads text ps → Reads text qs → ps ≡ qs
reads_one end end = refl
reads_one (piece {p} {ps} e r) (piece {p = q} {ps = qs} d s) =
    let rest : ps ≡ qs = reads_one r (subst (λ rest. Reads rest qs) (sym (same_rest e d)) s) in
    let first : p ≡ q = same_piece e d in
    cc (first, rest)

pub never : {text place : List ℕ} {ps : List TemplatePiece} {error : TemplateError} → Reads text ps → Refuses text place error → ⊥
never end t = elim t [ ]
never (piece e r) (here d) = takes_or_stops e d
never (piece e r) (later {place} {error} d t) = never r (subst (λ rest. Refuses rest place error) (sym (same_rest e d)) t)

pub refuses_one : {text place other : List ℕ} {x y : TemplateError} → Refuses text place x → Refuses text other y → (place ≡ other) × (x ≡ y)
refuses_one (here e) (here d) = same_place e d
refuses_one (here e) (later d t) = absurd (takes_or_stops d e)
refuses_one (later d t) (here e) = absurd (takes_or_stops d e)
refuses_one (later e t) (later {place} {error} d u) = refuses_one t (subst (λ rest. Refuses rest place error) (sym (same_rest e d)) u)

-- ---- what is left is shorter

-- what is left after something in front has at most this number of characters
abbrev Within : {A : Type 0} → ℕ → Front A → Type 0
Within n (Takes rest what) = length rest ≤ n
Within n (Stops place error) = ⊤

wider : {A : Type 0} {m n : ℕ} → m ≤ n → (f : Front A) → Within m f → Within n f
wider h (Takes rest what) w = omega (arith, h, w)
wider h (Stops place error) w = tt

run_shorter : (test : ℕ → Bool) (text : List ℕ) → length (after_run test text) ≤ length text
run_shorter test text = omega (arith, length-drop (prefix_len test text) text)

within_alternative_ends : (layout : Layout) (text rest : List ℕ) → Within (length rest) (alternative_ends layout text rest)
within_alternative_ends layout text [] = omega arith
within_alternative_ends layout text (c ∷ cs) = omega arith

within_alternative : (layout : Layout) (text : List ℕ) → Within (length text) (with_alternative layout text)
unfolding with_alternative
within_alternative layout text = wider (run_shorter is_alternative_char text) _ (within_alternative_ends layout (take_while is_alternative_char text) (after_run is_alternative_char text))

within_style_ends : (layout : Layout) (text rest : List ℕ) → Within (length rest) (style_ends layout text rest)
within_style_ends layout text [] = omega arith
within_style_ends layout text (c ∷ cs) =
    let named : Layout = record layout { style = style_named text } in
    cond_both (eqb c 0x7D) (Takes cs named) (with_alternative named cs) (Within (suc (length cs))) (λ e. omega arith) (λ e. wider (omega arith) _ (within_alternative named cs))

within_style : (layout : Layout) (text : List ℕ) → Within (length text) (with_style layout text)
unfolding with_style
within_style layout text = wider (run_shorter is_style_char text) _ (within_style_ends layout (take_while is_style_char text) (after_run is_style_char text))

within_width_ends : (layout : Layout) (width : Option ℕ) (state : TemplateState) (rest : List ℕ) → Within (length rest) (width_ends layout width state rest)
within_width_ends layout width state [] = omega arith
within_width_ends layout width state (c ∷ cs) =
    let sized : Layout = record layout { width = width } in
    let P : Front Layout → Type 0 = Within (suc (length cs)) in
    let wide : Front Layout = Stops (c ∷ cs) WidthTooLarge in
    cond_both (eqb c 0x7D) (if is_too_wide width then wide else Takes cs sized)
    (if c == 0x2E then (if is_too_wide width then wide else with_style sized cs) else Stops (c ∷ cs) (Unexpected c state)) P
    (λ e. cond_both (is_too_wide width) wide (Takes cs sized) P (λ f. tt) (λ f. omega arith))
    (λ e. cond_both (eqb c 0x2E) (if is_too_wide width then wide else with_style sized cs) (Stops (c ∷ cs) (Unexpected c state)) P
    (λ f. cond_both (is_too_wide width) wide (with_style sized cs) P (λ g. tt) (λ g. wider (omega arith) _ (within_style sized cs))) (λ f. tt))

within_width : (layout : Layout) (state : TemplateState) (text : List ℕ) → Within (length text) (with_width layout state text)
unfolding with_width
within_width layout state text = wider (run_shorter is_width_char text) _
    (within_width_ends _ (number_of (filter is_ascii_digit (take_while is_width_char text))) (state_after state (take_while is_width_char text)) (after_run is_width_char text))

within_aligned : (c : ℕ) (cs : List ℕ) (o : Option Alignment) → Within (suc (length cs)) (aligned c cs o)
within_aligned c cs None = within_width plain_layout Align (c ∷ cs)
within_aligned c cs (Some align) = wider (omega arith) _ (within_width (record plain_layout { align = align }) Width cs)

within_options : (text : List ℕ) → Within (length text) (with_options text)
unfolding with_options
within_options [] = omega arith
within_options (c ∷ cs) = within_aligned c cs (alignment_of c)

within_keyed : (key : List ℕ) (n : ℕ) (f : Front Layout) → Within n f → Within n (keyed key f)
within_keyed key n (Takes rest layout) w = w
within_keyed key n (Stops place error) w = tt

within_key_ends : (key rest : List ℕ) → Within (length rest) (key_ends key rest)
within_key_ends key [] = omega arith
within_key_ends key (c ∷ cs) =
    let P : Front TemplatePiece → Type 0 = Within (suc (length cs)) in
    let slot : Front TemplatePiece = if c == 0x7D then Takes cs (Keyed key plain_layout) else keyed key (with_options cs) in
    let found : Front TemplatePiece = if length key == 0 then Stops (c ∷ cs) (Unexpected c MaybeOpen) else slot in
    cond_both (is_ascii_whitespace c) (Takes cs (SpacedBrace ((0x7B ∷ key) ++ c ∷ []))) found P (λ e. omega arith)
    (λ e. cond_both (eqb (length key) 0) (Stops (c ∷ cs) (Unexpected c MaybeOpen)) slot P (λ f. tt)
    (λ f. cond_both (eqb c 0x7D) (Takes cs (Keyed key plain_layout)) (keyed key (with_options cs)) P (λ g. omega arith)
    (λ g. within_keyed key _ (with_options cs) (wider (omega arith) _ (within_options cs)))))

within_opened : (text : List ℕ) → Within (length text) (opening_brace text)
within_opened [] = omega arith
within_opened (c ∷ cs) =
    cond_both (eqb c 0x7B) (Takes cs (Char 0x7B)) (key_ends (take_while is_key_char (c ∷ cs)) (after_run is_key_char (c ∷ cs))) (Within (suc (length cs))) (λ e. omega arith)
    (λ e. wider (run_shorter is_key_char (c ∷ cs)) _ (within_key_ends (take_while is_key_char (c ∷ cs)) (after_run is_key_char (c ∷ cs))))

within_closed : (text : List ℕ) → Within (length text) (closing_brace text)
within_closed [] = omega arith
within_closed (c ∷ cs) =
    cond_both (eqb c 0x7D) (Takes cs (Char 0x7D)) (Stops (c ∷ cs) (Unexpected c DoubleClose)) (Within (suc (length cs))) (λ e. omega arith) (λ e. tt)

pub within_front : (c : ℕ) (cs : List ℕ) → Within (length cs) (front c cs)
unfolding front
within_front c cs =
    let P : Front TemplatePiece → Type 0 = Within (length cs) in
    let closing : Front TemplatePiece = if c == 0x7D then closing_brace cs else Takes cs (Char c) in
    cond_both (eqb c 0x0A) (Takes cs Break) (if c == 0x7B then opening_brace cs else closing) P (λ e. omega arith)
    (λ e. cond_both (eqb c 0x7B) (opening_brace cs) closing P (λ f. within_opened cs)
    (λ f. cond_both (eqb c 0x7D) (closing_brace cs) (Takes cs (Char c)) P (λ g. within_closed cs) (λ g. omega arith)))

pub rest_shorter : (c : ℕ) (cs : List ℕ) {rest : List ℕ} {p : TemplatePiece} → front c cs ≡ Takes rest p → length rest ≤ length cs
rest_shorter c cs {rest} {p} e = let w : Within (length cs) (Takes rest p) = subst (Within (length cs)) e (within_front c cs) in w

-- ---- the laws

-- what a text is
abbrev Outcome : List ℕ → Type 0
Outcome text = ((ps : List TemplatePiece) × Reads text ps) ⊎ ((place : List ℕ) × (error : TemplateError) × Refuses text place error)

by_front : (c : ℕ) (cs : List ℕ) → ((rest : List ℕ) → length rest ≤ length cs → Outcome rest) → (f : Front TemplatePiece) → front c cs ≡ f → Outcome (c ∷ cs)
by_front c cs next (Stops place error) e = inr (place, error, here e)
by_front c cs next (Takes rest p) e =
    elim (next rest (rest_shorter c cs e)) as (λ o. Outcome (c ∷ cs)) [ inl (ps, r) ↦ inl (p ∷ ps, piece e r) | inr (place, error, t) ↦ inr (place, error, later e t) ]

outcome : (k : ℕ) (text : List ℕ) → length text ≤ k → Outcome text
outcome k [] h = inl ([], end)
outcome zero (c ∷ cs) h = absurd (omega (arith, h))
outcome (suc k) (c ∷ cs) h = by_front c cs (λ rest shorter. outcome k rest (omega (arith, h, shorter))) (front c cs) refl

pub one_of_both : OneOfBoth
one_of_both text =
    elim (outcome (length text) text (omega arith)) as (λ o. ((parts : List TemplatePart) × Parses text parts) ⊎ ((place : List ℕ) × (error : TemplateError) × Refuses text place error))
    [ inl (ps, r) ↦ inl (parts_of ps, record { pieces = ps; reads = r; makes = refl }) | inr x ↦ inr x ]

pub never_both : NeverBoth
never_both text parts place error p r = never p.reads r

pub one_list : OneList
one_list text parts others p q = sym p.makes ∙ ap parts_of (reads_one p.reads q.reads) ∙ q.makes

pub one_place : OnePlace
one_place text place other error another r s = refuses_one r s
