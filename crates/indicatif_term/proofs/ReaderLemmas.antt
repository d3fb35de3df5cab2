-- What the bytes of characters ask of a terminal is what the characters ask.
use Rattle.std.proofs.Common.{◌≡◌, ℕ, ◌+◌, ◌/◌, ◌<◌, ◌≤◌, true, false, List, [], ◌∷◌, ◌++◌, length, get_or, refl, sym, ◌∙◌, ap, subst, append_assoc, append-nil, arith, length-append, ltb, Option, None}
use Rattle.std.specs.Prelude.{if◌then◌else◌, chars, IsUtf8, option_to_list}
use Rattle.std.specs.Str.{is_utf8}
use Rattle.std.specs.List.{AllByRecursion}
use Rattle.std.proofs.Math.Utf8.{scalar, scalars, encode, encodes, next}
use Rattle.std.proofs.lemmas.Bool.{and_parts, cond_both, le-ltb, lt-ltb, le-leb, lt-leb, false_from_ne_true}
use Rattle.std.proofs.lemmas.Str.{encode_same, length-encode, len_utf8_bounds, chars-encodes, IsUtf8-from_is_utf8, is_utf8-from_IsUtf8}
use Rattle.indicatif_text.specs.Columns.{is_parameter}
use Rattle.indicatif_term.specs.Screen.{Op}
use Rattle.indicatif_term.specs.Terminal.{SequencePlace, OutsideSequence, Sequence, Reader, number_with, sequence_op, char_step, byte_step, is_leading, spelling_with, first_char}
use Rattle.indicatif_term.specs.Inside.Scanners.{char_ops, char_place, reader_after}
use Rattle.indicatif_term.specs.Feeding.{ops_of}
use Rattle.indicatif_term.proofs.FeedLemmas.{ops_of-append, reader_after-append}

-- ---- one character

pub record HasShape (bytes : List ℕ) : Type 0 where
  pub first : ℕ
  pub more : List ℕ
  pub is : bytes ≡ first ∷ more
  pub leading : is_leading first ≡ true
  pub others : AllByRecursion (λ b. is_leading b ≡ false) more

next_not_leading : (c : ℕ) → is_leading (next c) ≡ false
next_not_leading c = rw (le-ltb (next c) 128 (omega arith), lt-leb 192 (next c) (omega arith)) refl

high_leading : (b : ℕ) → 192 ≤ b → is_leading b ≡ true
high_leading b h = rw (le-ltb b 128 (omega arith), le-leb 192 b h) refl

pub shape : (c : ℕ) → HasShape (encode c)
unfolding encode
shape c =
    cond_both (ltb c 128) _ _ HasShape
    (λ e. record { first = c; more = []; is = refl; leading = rw e refl; others = tt })
    (λ _. cond_both (ltb c 2048) _ _ HasShape
    (λ _. record {
      first = 192 + c / 64;
      more = next c ∷ [];
      is = refl;
      leading = high_leading (192 + c / 64) (omega arith);
      others = (next_not_leading c, tt);
    })
    (λ _. cond_both (ltb c 65536) _ _ HasShape
    (λ _. record {
      first = 224 + c / 4096;
      more = next (c / 64) ∷ next c ∷ [];
      is = refl;
      leading = high_leading (224 + c / 4096) (omega arith);
      others = (next_not_leading (c / 64), (next_not_leading c, tt));
    })
    (λ _. record {
      first = 240 + c / 262144;
      more = next (c / 4096) ∷ next (c / 64) ∷ next c ∷ [];
      is = refl;
      leading = high_leading (240 + c / 262144) (omega arith);
      others = (next_not_leading (c / 4096), (next_not_leading (c / 64), (next_not_leading c, tt)));
    })))

pub whole : (c : ℕ) → scalar c ≡ true → is_utf8 (encode c) ≡ true
whole c s = is_utf8-from_IsUtf8 (encode c) (c ∷ [], (cc, append-nil (encode c)))

pub first_char_encode : (c : ℕ) → scalar c ≡ true → first_char (encode c) ≡ c
first_char_encode c s = ap (λ bs. get_or (chars bs) 0 0) (sym (append-nil (encode c))) ∙ ap (λ cs. get_or cs 0 0) (chars-encodes (c ∷ []) cc)

-- a beginning of a character spells none
no_part : (c d : ℕ) (ds p q : List ℕ) → encode d ++ encodes ds ≡ p → p ++ q ≡ encode c → length q ≡ 0
no_part c d ds p q e₁ e₂ =
    let same : encode d ++ (encodes ds ++ q) ≡ encode c ++ [] =
    sym (append_assoc (encode d) (encodes ds) q) ∙ ap (λ xs. xs ++ q) e₁ ∙ e₂ ∙ sym (append-nil (encode c)) in
    omega (arith, ap length (encode_same d c (encodes ds ++ q) [] same).1, length-append (encodes ds) q)

no_chars : (c : ℕ) (cs p q : List ℕ) → encodes cs ≡ p → p ++ q ≡ encode c → 0 < length p → 0 < length q → ⊥
no_chars c [] p q e₁ e₂ some more = omega (arith, ap length e₁)
no_chars c (d ∷ ds) p q e₁ e₂ some more = omega (arith, no_part c d ds p q e₁ e₂)

part : (c : ℕ) (p q : List ℕ) → p ++ q ≡ encode c → 0 < length p → 0 < length q → is_utf8 p ≡ false
part c p q e some more = false_from_ne_true (is_utf8 p) (λ t. let u : IsUtf8 p = IsUtf8-from_is_utf8 p t in no_chars c u.0 p q u.1.1 e some more)

-- what a reader gives for the bytes of a character, and the reader after it
pub record Spells (r : Reader) (bytes : List ℕ) (c : ℕ) : Type 0 where
  pub ops : ops_of r bytes ≡ char_ops r.place c
  pub reader : reader_after r bytes ≡ record { place = char_place r.place c; spelling = [] }

-- the step of the last byte of a character
pub whole_step : (r : Reader) (b c : ℕ) → is_utf8 (spelling_with r.spelling b) ≡ true → first_char (spelling_with r.spelling b) ≡ c →
    byte_step r b ≡ ((char_step r.place c).0, record { place = (char_step r.place c).1; spelling = [] })
whole_step r b c is char =
    let bytes = spelling_with r.spelling b in
    let whole : ℕ → Option Op × Reader = λ x. ((char_step r.place x).0, record { place = (char_step r.place x).1; spelling = [] }) in
    let other : Option Op × Reader = (None, record { place = r.place; spelling = if ltb (length bytes) 4 then bytes else [] }) in
    ap (λ t. if t then whole (first_char bytes) else other) is ∙ ap whole char

last_byte : (place : SequencePlace) (c : ℕ) (p : List ℕ) (b : ℕ) → scalar c ≡ true → spelling_with p b ≡ encode c → Spells (record { place = place; spelling = p }) (b ∷ []) c
last_byte place c p b s e =
    let is : is_utf8 (spelling_with p b) ≡ true = ap is_utf8 e ∙ whole c s in
    let char : first_char (spelling_with p b) ≡ c = ap first_char e ∙ first_char_encode c s in
    let step = whole_step (record { place = place; spelling = p }) b c is char in
    record { ops = ap (λ (x : Option Op × Reader). option_to_list x.0 ++ []) step ∙ append-nil (char_ops place c); reader = ap (λ (x : Option Op × Reader). x.1) step }

other_byte : (place : SequencePlace) (p : List ℕ) (b : ℕ) (bytes : List ℕ) (c : ℕ) → is_utf8 (spelling_with p b) ≡ false → length (spelling_with p b) < 4 →
    Spells (record { place = place; spelling = spelling_with p b }) bytes c → Spells (record { place = place; spelling = p }) (b ∷ bytes) c
other_byte place p b bytes c not_whole short rest =
    let few : ltb (length (spelling_with p b)) 4 ≡ true = lt-ltb (length (spelling_with p b)) 4 short in
    record { ops = rw (not_whole, few) rest.ops; reader = rw (not_whole, few) rest.reader }

bytes_read : (place : SequencePlace) (c : ℕ) (p : List ℕ) (b : ℕ) (q : List ℕ) → scalar c ≡ true → spelling_with p b ++ q ≡ encode c → AllByRecursion (λ b. is_leading b ≡ false) q →
    Spells (record { place = place; spelling = p }) (b ∷ q) c
bytes_read place c p b [] s e others = last_byte place c p b s (sym (append-nil (spelling_with p b)) ∙ e)
bytes_read place c p b (d ∷ q) s e others =
    let spelled : spelling_with (spelling_with p b) d ≡ spelling_with p b ++ d ∷ [] = rw others.0 refl in
    other_byte place p b (d ∷ q) c
    (part c (spelling_with p b) (d ∷ q) e (omega (arith, length-append (if is_leading b then [] else p) (b ∷ []))) (omega arith))
    (omega (arith, ap length e, length-append (spelling_with p b) (d ∷ q), length-encode c, (len_utf8_bounds c).1))
    (bytes_read place c (spelling_with p b) d q s (ap (λ xs. xs ++ q) spelled ∙ append_assoc (spelling_with p b) (d ∷ []) q ∙ e) others.1)

pub char_read : (r : Reader) (c : ℕ) → scalar c ≡ true → Spells r (encode c) c
char_read r c s =
    let h : HasShape (encode c) = shape c in
    let start : spelling_with r.spelling h.first ≡ h.first ∷ [] = rw h.leading refl in
    subst (λ bytes. Spells r bytes c) (sym h.is) (bytes_read r.place c r.spelling h.first h.more s (ap (λ xs. xs ++ h.more) start ∙ sym h.is) h.others)

-- ---- characters in a row

abbrev pub char_list_ops : SequencePlace → List ℕ → List Op
char_list_ops place [] = []
char_list_ops place (c ∷ cs) = char_ops place c ++ char_list_ops (char_place place c) cs

abbrev pub place_after : SequencePlace → List ℕ → SequencePlace
place_after place [] = place
place_after place (c ∷ cs) = place_after (char_place place c) cs

-- by the step of the first
pub first_ops : (place : SequencePlace) (c : ℕ) (cs : List ℕ) (o : Option Op) (next : SequencePlace) → char_step place c ≡ (o, next) →
    char_list_ops place (c ∷ cs) ≡ option_to_list o ++ char_list_ops next cs
first_ops place c cs o next e = ap (λ (x : Option Op × SequencePlace). option_to_list x.0 ++ char_list_ops x.1 cs) e

pub first_place : (place : SequencePlace) (c : ℕ) (cs : List ℕ) (o : Option Op) (next : SequencePlace) → char_step place c ≡ (o, next) → place_after place (c ∷ cs) ≡ place_after next cs
first_place place c cs o next e = ap (λ (x : Option Op × SequencePlace). place_after x.1 cs) e

pub parameter_step : (number : Option ℕ) (c : ℕ) → is_parameter c ≡ true → char_step (Sequence number) c ≡ (None, Sequence (number_with number c))
parameter_step number c holds = rw holds refl

pub last_step : (number : Option ℕ) (c : ℕ) → is_parameter c ≡ false → char_step (Sequence number) c ≡ (sequence_op number c, OutsideSequence)
last_step number c not = rw not refl

pub chars_read : (place : SequencePlace) (cs : List ℕ) → scalars cs ≡ true →
    (ops_of (record { place = place; spelling = [] }) (encodes cs) ≡ char_list_ops place cs)
    × (reader_after (record { place = place; spelling = [] }) (encodes cs) ≡ record { place = place_after place cs; spelling = [] })
chars_read place [] s = (refl, refl)
chars_read place (c ∷ cs) s =
    let both : (scalar c ≡ true) × (scalars cs ≡ true) = and_parts (scalar c) (scalars cs) s in
    let r : Reader = record { place = place; spelling = [] } in
    let first : Spells r (encode c) c = char_read r c both.0 in
    let rest = chars_read (char_place place c) cs both.1 in (
      ops_of-append r (encode c) (encodes cs) ∙ cc (first.ops, first.reader, rest.0),
      reader_after-append r (encode c) (encodes cs) ∙ cc (first.reader, rest.1),
    )
