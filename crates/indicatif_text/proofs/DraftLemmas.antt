-- That what a draft's literal text gains or loses is what its sketch does.
use Rattle.std.proofs.Common.{◌≡◌, ◌<◌, ◌≤◌, inl, inr, false, length-drop, ℕ, ◌+◌, Bool, List, [], ◌∷◌, ◌++◌, length, take, drop, refl, sym, ◌∙◌, ap, subst, arith, append-nil, append_assoc, length-append, ne_eqb}
use Rattle.std.specs.Prelude.{if◌then◌else◌, IsUtf8, IsCharBoundary}
use Rattle.std.specs.Prelude.{◌⊎◌, Result, Ok, Err, IfOk, IfErr, take_while}
use denote.Ref.{Bor}
use Rattle.std.specs.Str.{chars}
use Rattle.std.specs.List.{prefix_len}
use Rattle.std.specs.Char.{IsScalar}
use Rattle.indicatif_text.specs.declared.template.TemplateError.{TemplateError}
use Rattle.indicatif_text.specs.declared.template.TemplateError.TheVariants.{Memory}
use Rattle.indicatif_text.specs.Template.{TemplatePart, LiteralText, TemplatePiece, Char, SpacedBrace, Front, Takes, Stops, after_run, front, Refuses, here, IsRefused}
use Rattle.indicatif_text.specs.declared.template.stored_parts.PartKind.TheVariants.{Literal}
use Rattle.indicatif_text.specs.declared.template.stored_parts.StoredPart.{StoredPart}
use Rattle.indicatif_text.specs.Inside.StoredParts.{LieIn}
use Rattle.indicatif_text.specs.Inside.Draft.{Sketch, TakesIn, literal_part, fixed_sketch, closed_sketch, parted_sketch, with_run, added, ReadsOn}
use Rattle.indicatif_text.specs.Inside.Spans.{is_literal_char}
use Rattle.indicatif_text.proofs.OptionLemmas.{some_text}
use Rattle.indicatif_text.proofs.PrefixLemmas.{left_fails}
use Rattle.indicatif_text.proofs.TemplateLemmas.{rest_shorter}
use Rattle.indicatif_text.proofs.SketchLemmas.{leads_more, leads_piece, leads_run}
use Rattle.std.proofs.Math.Utf8.{encode}
use Rattle.std.proofs.lemmas.Bool.{cond_both}
use Rattle.std.proofs.lemmas.Bool.Decides.{nat_tests}
use Rattle.std.proofs.lemmas.List.{drop-take, take-append-drop, take-append-le, drop-append-le, take-take, take_all, drop_all, length-take, length-take-le}
use Rattle.std.proofs.lemmas.Str.{chars-nil, chars-append, chars_past_char, IsUtf8-encode, IsUtf8-take, IsUtf8-drop, IsUtf8-append, IsCharBoundary-end, IsCharBoundary-from_rest, IsCharBoundary-from_drop}

pub same_sketch : (a b : Sketch) → a.done ≡ b.done → a.fixed ≡ b.fixed → a.run ≡ b.run → a ≡ b
same_sketch a b d k r = λ i. record { done = d i; fixed = k i; run = r i }

pub chars_one : (c : ℕ) → IsScalar c → chars (encode c) ≡ c ∷ []
chars_one c s = chars_past_char (encode c) [] c (IsUtf8-encode c s) (sym (append-nil (encode c))) ∙ ap (λ x. c ∷ x) chars-nil

spaced_text : (fixed run key all : List ℕ) (space : ℕ) → all ≡ fixed ++ (((run ++ 0x7B ∷ []) ++ key) ++ space ∷ []) → all ≡ (fixed ++ run) ++ (0x7B ∷ (key ++ space ∷ []))
spaced_text fixed run key all space e = e ∙ simp append_assoc

-- no literal text gives no part
pub closed_none : (done : List TemplatePart) (text : List ℕ) → text ≡ [] → done ≡ done ++ literal_part text
closed_none done text none = sym (append-nil done) ∙ ap (λ t. done ++ literal_part t) (sym none)

-- a literal text gives one
pub parted_literal : (s : Sketch) (bs : List ℕ) → IsUtf8 bs → 0 < length bs → chars bs ≡ s.fixed ++ s.run → parted_sketch s Literal ≡ closed_sketch s
parted_literal s bs u some e =
    let part = some_text (List TemplatePart) (λ cs. LiteralText cs ∷ []) literal_part (λ c cs. refl) bs (s.fixed ++ s.run) u e (sym (ne_eqb (length bs) 0 (omega (arith, some)))) in
    ap (λ parts. record { done = s.done ++ parts; fixed = []; run = [] }) part

-- ---- a literal text of which a number of bytes in front are kept

module _ (bs : List ℕ) (n : ℕ) (u : IsUtf8 bs) (b : IsCharBoundary bs n) where
  -- what is kept and the run are the whole text
  pub fixed_and_run : chars bs ≡ chars (take n bs) ++ chars (drop n bs)
  fixed_and_run = ap chars (sym (take-append-drop n bs)) ∙ chars-append (take n bs) (drop n bs) (IsUtf8-take bs n u b)

  -- more text belongs to the run
  pub more_fixed : (more : List ℕ) → chars (take n (bs ++ more)) ≡ chars (take n bs)
  more_fixed more = ap chars (take-append-le n bs more b.0)

  pub more_run : (more : List ℕ) → chars (drop n (bs ++ more)) ≡ chars (drop n bs) ++ chars more
  more_run more = ap chars (drop-append-le n bs more b.0) ∙ chars-append (drop n bs) more (IsUtf8-drop bs n u b)

  pub more_boundary : (more : List ℕ) → IsUtf8 more → IsCharBoundary (bs ++ more) n
  more_boundary more w =
      let run : IsUtf8 (drop n (bs ++ more)) = subst IsUtf8 (sym (drop-append-le n bs more b.0)) (IsUtf8-append (drop n bs) more (IsUtf8-drop bs n u b) w) in
      IsCharBoundary-from_drop (bs ++ more) n (omega (arith, b.0, length-append bs more)) run

  -- whether memory was refused or not
  pub pushed_boundary : (ok : Bool) (after more : List ℕ) → after ≡ (if ok then bs ++ more else bs) → IsUtf8 more → IsCharBoundary after n
  pushed_boundary ok after more e w =
      subst (λ xs. IsCharBoundary xs n) (sym e) (cond_both ok (bs ++ more) bs (λ xs. IsCharBoundary xs n) (λ _. more_boundary more w) (λ _. b))

-- the run is cut off
pub cut_fixed : (bs : List ℕ) (n : ℕ) → take n (take n bs) ≡ take n bs
cut_fixed bs n = take-take n n bs (omega arith)

pub cut_run : (bs : List ℕ) (n : ℕ) → drop n (take n bs) ≡ []
cut_run bs n = drop_all n (take n bs) (omega (arith, length-take n bs))

pub cut_end : (bs : List ℕ) (n : ℕ) → n ≤ length bs → IsCharBoundary (take n bs) n
cut_end bs n le = subst (IsCharBoundary (take n bs)) (length-take-le n bs le) (IsCharBoundary-end (take n bs))

-- and what stands before it stays a text
pub cut_start : (bs : List ℕ) (start fixed : ℕ) → IsUtf8 bs → IsCharBoundary bs start → IsCharBoundary (drop start bs) fixed → IsCharBoundary (take (start + fixed) bs) start
cut_start bs start fixed u b k =
    IsCharBoundary-from_drop (take (start + fixed) bs) start (omega (arith, length-take-le (start + fixed) bs (IsCharBoundary-from_rest bs start fixed b.0 k).0))
    (subst IsUtf8 (sym (drop-take start fixed bs)) (IsUtf8-take (drop start bs) fixed (IsUtf8-drop bs start u b) k))

-- all is kept
pub all_fixed : (bs : List ℕ) (n : ℕ) → n ≡ length bs → take n bs ≡ bs
all_fixed bs n e = take_all n bs (omega (arith, e))

pub all_run : (bs : List ℕ) (n : ℕ) → n ≡ length bs → drop n bs ≡ []
all_run bs n e = drop_all n bs (omega (arith, e))

-- nothing is kept of no text
pub none_fixed : (bs : List ℕ) (n : ℕ) → bs ≡ [] → chars (take n bs) ≡ []
none_fixed bs n e = ap chars (take_all n bs (omega (arith, ap length e)) ∙ e) ∙ chars-nil

pub none_run : (bs : List ℕ) (n : ℕ) → bs ≡ [] → chars (drop n bs) ≡ []
none_run bs n e = ap chars (drop_all n bs (omega (arith, ap length e))) ∙ chars-nil

-- an opening brace, a key and a white space, put to what is kept
pub spaced_sketch : (s opened named spaced fixed : Sketch) (key : List ℕ) (space : ℕ) → opened ≡ added s (Char 0x7B) → named ≡ with_run opened key →
    spaced ≡ added named (Char space) → fixed ≡ fixed_sketch spaced → fixed ≡ added s (SpacedBrace ((0x7B ∷ key) ++ space ∷ []))
spaced_sketch s opened named spaced fixed key space a b c d =
    let text : spaced.fixed ++ spaced.run ≡ s.fixed ++ (((s.run ++ 0x7B ∷ []) ++ key) ++ space ∷ []) = cc (a, b, c) in
    same_sketch fixed (added s (SpacedBrace ((0x7B ∷ key) ++ space ∷ []))) (cc (a, b, c, d)) (ap (λ t. t.fixed) d ∙ spaced_text s.fixed s.run key _ space text) (ap (λ t. t.run) d)

-- ---- what is read

-- what a run of literal characters leads to
pub reads_run : (s t : Sketch) (text run rest : List ℕ) → t ≡ with_run s run → run ≡ take_while is_literal_char text → rest ≡ after_run is_literal_char text → ReadsOn s text t rest
reads_run s t text run rest e r a =
    let led = leads_run s text in
    let by_run : ReadsOn s text (with_run s run) (after_run is_literal_char text) = subst (λ x. ReadsOn s text (with_run s x) (after_run is_literal_char text)) (sym r) led in
    let by_sketch : ReadsOn s text t (after_run is_literal_char text) = subst (λ x. ReadsOn s text x (after_run is_literal_char text)) (sym e) by_run in
    subst (λ x. ReadsOn s text t x) (sym a) by_sketch

-- and the piece behind it
pub reads_piece : (s t u : Sketch) (text behind after rest : List ℕ) (c : ℕ) (p : TemplatePiece) → ReadsOn s text t behind → behind ≡ c ∷ after → front c after ≡ Takes rest p
    → u ≡ added t p → ReadsOn s text u rest
reads_piece s t u text behind after rest c p led e f is =
    let here : ReadsOn t (c ∷ after) (added t p) rest = leads_piece t c after rest p f in
    subst (λ x. ReadsOn s text x rest) (sym is) (leads_more (subst (λ x. ReadsOn s text t x) e led) here)

pub refused_here : (s t : Sketch) (text behind after place : List ℕ) (c : ℕ) (x : TemplateError) → ReadsOn s text t behind → behind ≡ c ∷ after → front c after ≡ Stops place x → IsRefused text x
refused_here s t text behind after place c x led e f = (place, led.refuses place x (subst (λ m. Refuses m place x) (sym e) (here f)))

pub read_shorter : (text behind after rest : List ℕ) (c : ℕ) (p : TemplatePiece) → behind ≡ after_run is_literal_char text → behind ≡ c ∷ after → front c after ≡ Takes rest p
    → length rest < length text
read_shorter text behind after rest c p a e f =
    omega (arith, rest_shorter c after f, ap length e, ap length a, length-drop (prefix_len is_literal_char text) text)

-- what an answer says of a text whose front it was: how the sketch leads on, why it was refused, and that less is left
pub record IsReadBy (s u : Sketch) (text : List ℕ) (r : Result (Bor (List ℕ)) TemplateError) : Type 0 where
  pub leads : IfOk r (λ rest. ReadsOn s text u (chars rest.now))
  pub refused : IfErr r (λ x. (x ≡ Memory) ⊎ IsRefused text x)
  pub shorter : IfOk r (λ rest. 0 < length text → length (chars rest.now) < length text)

-- what was taken up behind a run
pub taken_read : (s t u : Sketch) (text run behind after : List ℕ) (c : ℕ) (f : Front TemplatePiece) → front c after ≡ f → t ≡ with_run s run → run ≡ take_while is_literal_char text
    → behind ≡ after_run is_literal_char text → behind ≡ c ∷ after → (r : Result (Bor (List ℕ)) TemplateError) → TakesIn f t u r → IsReadBy s u text r
taken_read s t u text run behind after c f same with_it is left e (Ok rest) h = record {
  leads = reads_piece s t u text behind after (chars rest.now) c h.0 (reads_run s t text run behind with_it is left) e (same ∙ h.1) h.2;
  refused = tt;
  shorter = λ _. read_shorter text behind after (chars rest.now) c h.0 left e (same ∙ h.1);
}
taken_read s t u text run behind after c f same with_it is left e (Err x) h = record {
  leads = tt;
  refused = elim h [ inl memory ↦ inl memory | inr stops ↦ inr (refused_here s t text behind after stops.0 c x (reads_run s t text run behind with_it is left) e (same ∙ stops.1)) ];
  shorter = tt;
}

-- what is taken up of a front is taken up of another that is the same
pub taken_same : (f g : Front TemplatePiece) (s t : Sketch) (r : Result (Bor (List ℕ)) TemplateError) → f ≡ g → TakesIn f s t r → TakesIn g s t r
taken_same f g s t r e h = subst (λ x. TakesIn x s t r) e h

-- behind literal characters stands a brace or a newline
only_line : (c : ℕ) → is_literal_char c ≡ false → (c ≡ 0x7B → ⊥) → (c ≡ 0x7D → ⊥) → c ≡ 0x0A
only_line c fails no_open no_close = grind (arith, nat_tests)

pub is_line : (text after : List ℕ) (c : ℕ) → c ∷ after ≡ after_run is_literal_char text → (c ≡ 0x7B → ⊥) → (c ≡ 0x7D → ⊥) → c ≡ 0x0A
is_line text after c e no_open no_close = only_line c (left_fails is_literal_char text c after (sym e)) no_open no_close

-- ---- what a draft's bytes fulfil: those of its parts, and where the literal text begins

module _ (bs : List ℕ) (start fixed : ℕ) (u : IsUtf8 bs) (b : IsCharBoundary bs start) (k : IsCharBoundary (drop start bs) fixed) (parts : List StoredPart) (all : LieIn (take start bs) parts) where
  -- more text
  pub pushed_front : (more : List ℕ) → take start (bs ++ more) ≡ take start bs
  pushed_front more = take-append-le start bs more b.0

  pub pushed_behind : (more : List ℕ) → drop start (bs ++ more) ≡ drop start bs ++ more
  pushed_behind more = drop-append-le start bs more b.0

  -- whether memory was refused or not
  pub pushed_in : (ok : Bool) (after more : List ℕ) → after ≡ (if ok then bs ++ more else bs) → LieIn (take start after) parts
  pushed_in ok after more e =
      subst (λ xs. LieIn (take start xs) parts) (sym e)
      (cond_both ok (bs ++ more) bs (λ xs. LieIn (take start xs) parts) (λ _. subst (λ x. LieIn x parts) (sym (pushed_front more)) all) (λ _. all))

  pub pushed_whole : (ok : Bool) (after more : List ℕ) → after ≡ (if ok then bs ++ more else bs) → IsUtf8 more → IsCharBoundary (drop start after) fixed
  pushed_whole ok after more e w =
      subst (λ xs. IsCharBoundary (drop start xs) fixed) (sym e)
      (cond_both ok (bs ++ more) bs (λ xs. IsCharBoundary (drop start xs) fixed)
      (λ _. subst (λ x. IsCharBoundary x fixed) (sym (pushed_behind more)) (more_boundary (drop start bs) fixed (IsUtf8-drop bs start u b) k more w)) (λ _. k))

  pub pushed_fixed : (more : List ℕ) → chars (take fixed (drop start (bs ++ more))) ≡ chars (take fixed (drop start bs))
  pushed_fixed more = ap (λ x. chars (take fixed x)) (pushed_behind more) ∙ more_fixed (drop start bs) fixed (IsUtf8-drop bs start u b) k more

  pub pushed_run : (more : List ℕ) → chars (drop fixed (drop start (bs ++ more))) ≡ chars (drop fixed (drop start bs)) ++ chars more
  pushed_run more = ap (λ x. chars (drop fixed x)) (pushed_behind more) ∙ more_run (drop start bs) fixed (IsUtf8-drop bs start u b) k more

  -- the run is cut off
  pub cut_front : take start (take (start + fixed) bs) ≡ take start bs
  cut_front = take-take start (start + fixed) bs (omega arith)

  pub cut_behind : drop start (take (start + fixed) bs) ≡ take fixed (drop start bs)
  cut_behind = drop-take start fixed bs

  -- what is kept and the run are what stands behind the parts
  pub behind_parts : chars (drop start bs) ≡ chars (take fixed (drop start bs)) ++ chars (drop fixed (drop start bs))
  behind_parts = fixed_and_run (drop start bs) fixed (IsUtf8-drop bs start u b) k
