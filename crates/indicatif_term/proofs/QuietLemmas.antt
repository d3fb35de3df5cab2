-- Calm bytes hold no control character but CR, LF and ESC, and ESC stands before `[`, or where the terminal broke off.
use Rattle.std.proofs.Common.{◌≡◌, ◌⊎◌, ℕ, zero, suc, ◌+◌, ◌/◌, ◌%◌, ◌<◌, ◌≤◌, Bool, true, false, List, [], ◌∷◌, ◌++◌, refl, sym, ◌∙◌, ap, subst, arith, append_assoc, append-nil, if◌then◌else◌, inl, inr}
use Rattle.std.specs.Prelude.{IsTrue, ◌&&◌, ◌||◌, ◌==◌, nat_le, nat_lt, is_some, flat_map, decimal}
use Rattle.std.specs.Fmt.{digits, digits_onto, digit_glyph}
use Rattle.std.specs.List.{AllByRecursion, list_all}
use Rattle.std.specs.Int.{is_in_range}
use Rattle.std.specs.Str.{all_scalars}
use Rattle.std.proofs.Math.Utf8.{encode}
use Rattle.std.proofs.lemmas.Bool.{cases_Bool, and_parts, eqb-true, false≢true, leb-true, ltb-true, le-leb, lt-ltb, le-ltb, ne_eqb}
use Rattle.std.proofs.lemmas.Bool.Decides.{nat_tests}
use Rattle.unicode_width.specs.Width.{char_width}
use Rattle.indicatif_text.specs.Columns.{is_parameter}
use Rattle.indicatif_term.specs.Calm.{Stroke, Character, Colours, Move, Empty, stroke_bytes, IsCalm, AreCalm, Calmly, is_plain_byte, may_follow, is_quiet}
use Rattle.indicatif_term.proofs.CalmLemmas.{DrawsCalmly, first_drawing}

-- ---- plain bytes

abbrev IsPlainByte : ℕ → Type 0
IsPlainByte b = is_plain_byte b ≡ true

plain_byte : (b : ℕ) → 0x20 ≤ b → (b ≡ 0x7F → ⊥) → IsPlainByte b
plain_byte b low other = rw (le-leb 0x20 b low, ne_eqb b 0x7F other) refl

high_byte : (b : ℕ) → 0x80 ≤ b → IsPlainByte b
high_byte b high = plain_byte b (omega arith) (λ e. omega (arith, e))

quiet_plain : (bs rest : List ℕ) → AllByRecursion IsPlainByte bs → is_quiet rest ≡ true → is_quiet (bs ++ rest) ≡ true
quiet_plain [] rest all q = q
quiet_plain (b ∷ bs) rest all q = rw (all.0, quiet_plain bs rest all.1 q) refl

-- ---- strokes

-- a character with a width is no ASCII control character, and takes no byte of one
shown_range : (c : ℕ) → is_some (char_width false c) ≡ true → ((0x20 ≤ c) × (c < 0x7F)) ⊎ (0xA0 ≤ c)
unfolding char_width
shown_range c e = elim (cases_Bool (nat_lt c 0x7F)) [
  | inl low ↦ elim (cases_Bool (nat_le 0x20 c)) [
    | inl shown ↦ inl (leb-true 0x20 c shown, ltb-true c 0x7F low)
    | inr control ↦ absurd (false≢true (rw (low, control) at e))
  ]
  | inr high ↦ elim (cases_Bool (nat_le 0xA0 c)) [
    | inl shown ↦ inr (leb-true 0xA0 c shown)
    | inr control ↦ absurd (false≢true (rw (high, control) at e))
  ]
]

encode_plain : (c : ℕ) → is_some (char_width false c) ≡ true → AllByRecursion IsPlainByte (encode c)
unfolding encode
encode_plain c e = elim (shown_range c e) [
  | inl low ↦ rw (lt-ltb c 128 (omega (arith, low.1))) (plain_byte c low.0 (λ is. omega (arith, low.1, is)), tt)
  | inr high ↦ rw (le-ltb c 128 (omega (arith, high))) (elim (cases_Bool (nat_lt c 2048)) [
    | inl two ↦ rw two (high_byte (192 + c / 64) (omega arith), (high_byte (128 + c % 64) (omega arith), tt))
    | inr more ↦ rw more (elim (cases_Bool (nat_lt c 65536)) [
      | inl three ↦ rw three (high_byte (224 + c / 4096) (omega arith), (high_byte (128 + (c / 64) % 64) (omega arith), (high_byte (128 + c % 64) (omega arith), tt)))
      | inr four ↦ rw four (
        high_byte (240 + c / 262144) (omega arith),
        (
          high_byte (128 + (c / 4096) % 64) (omega arith),
          (
            high_byte (128 + (c / 64) % 64) (omega arith),
            (high_byte (128 + c % 64) (omega arith), tt),
          ),
        ),
      )
    ])
  ])
]

digit_plain : (n : ℕ) → IsPlainByte (digit_glyph false (n % 10))
digit_plain n = let small : n % 10 < 10 = omega arith in rw (lt-ltb (n % 10) 10 small) (plain_byte (48 + n % 10) (omega arith) (λ e. omega (arith, small, e)))

digits_plain : (k n : ℕ) (bs : List ℕ) → AllByRecursion IsPlainByte bs → AllByRecursion IsPlainByte (digits_onto k 10 false n bs)
digits_plain zero n bs all = all
digits_plain (suc k) n bs all = elim (cases_Bool (n / 10 == 0)) [
  | inl last ↦ rw last (digit_plain n, all)
  | inr more ↦ rw more (digits_plain k (n / 10) (digit_glyph false (n % 10) ∷ bs) (digit_plain n, all))
]

number_plain : (n : ℕ) → AllByRecursion IsPlainByte (decimal n)
unfolding digits
number_plain n = digits_plain 64 n [] tt

parameter_plain : (b : ℕ) → is_parameter b ≡ true → IsPlainByte b
parameter_plain b e = grind (arith, nat_tests)

parameters_plain : (ps : List ℕ) → list_all is_parameter ps ≡ true → AllByRecursion IsPlainByte ps
parameters_plain [] e = tt
parameters_plain (p ∷ ps) e = let b = and_parts (is_parameter p) (list_all is_parameter ps) e in (parameter_plain p b.0, parameters_plain ps b.1)

letter_plain : (letter : ℕ) → is_in_range 0x41 0x44 letter ≡ true → IsPlainByte letter
letter_plain letter e = grind (arith, nat_tests)

-- ESC [, plain bytes, and one more
quiet_sequence : (bs : List ℕ) (last : ℕ) (rest : List ℕ) → AllByRecursion IsPlainByte bs → IsPlainByte last → is_quiet rest ≡ true → is_quiet (0x1B ∷ 0x5B ∷ ((bs ++ last ∷ []) ++ rest)) ≡ true
quiet_sequence bs last rest all one q =
    ap is_quiet (append_assoc bs (last ∷ []) rest) ∙ quiet_plain bs (last ∷ rest) all (rw (one, q) refl)

-- bytes that may be none
if_quiet : (b : Bool) (bytes rest : List ℕ) → is_quiet rest ≡ true → (b ≡ true → is_quiet (bytes ++ rest) ≡ true) → is_quiet ((if b then bytes else []) ++ rest) ≡ true
if_quiet true bytes rest q some = some refl
if_quiet false bytes rest q some = q

quiet_char : (c : ℕ) (rest : List ℕ) → is_quiet rest ≡ true → ((c == 0x0D) || (c == 0x0A) || (all_scalars (c ∷ []) && is_some (char_width false c))) ≡ true → is_quiet (encode c ++ rest) ≡ true
unfolding encode
quiet_char c rest q calm = elim (cases_Bool (c == 0x0D)) [
  | inl back ↦ subst (λ x. is_quiet (encode x ++ rest) ≡ true) (sym (eqb-true c 0x0D back)) q
  | inr other ↦ elim (cases_Bool (c == 0x0A)) [
    | inl down ↦ subst (λ x. is_quiet (encode x ++ rest) ≡ true) (sym (eqb-true c 0x0A down)) q
    | inr shown ↦ quiet_plain (encode c) rest (encode_plain c (and_parts (all_scalars (c ∷ [])) (is_some (char_width false c)) (rw (other, shown) at calm)).1) q
  ]
]

quiet_stroke : (s : Stroke) (rest : List ℕ) → is_quiet rest ≡ true → is_quiet (stroke_bytes s ++ rest) ≡ true
quiet_stroke (Character c) rest q = if_quiet ((c == 0x0D) || (c == 0x0A) || (all_scalars (c ∷ []) && is_some (char_width false c))) (encode c) rest q (quiet_char c rest q)
quiet_stroke (Colours ps) rest q =
    if_quiet (list_all is_parameter ps) (0x1B ∷ 0x5B ∷ (ps ++ 0x6D ∷ [])) rest q (λ e. quiet_sequence ps 0x6D rest (parameters_plain ps e) refl q)
quiet_stroke (Move letter n) rest q =
    if_quiet (is_in_range 0x41 0x44 letter) (0x1B ∷ 0x5B ∷ (decimal n ++ letter ∷ [])) rest q (λ e. quiet_sequence (decimal n) letter rest (number_plain n) (letter_plain letter e) q)
quiet_stroke Empty rest q = q

quiet_strokes : (ss : List Stroke) (rest : List ℕ) → is_quiet rest ≡ true → is_quiet (flat_map stroke_bytes ss ++ rest) ≡ true
quiet_strokes [] rest q = q
quiet_strokes (s ∷ ss) rest q =
    ap is_quiet (append_assoc (stroke_bytes s) (flat_map stroke_bytes ss) rest) ∙ quiet_stroke s (flat_map stroke_bytes ss ++ rest) (quiet_strokes ss rest q)

quiet_text : (text rest : List ℕ) → IsCalm text → is_quiet rest ≡ true → is_quiet (text ++ rest) ≡ true
quiet_text text rest c q = ap (λ x. is_quiet (x ++ rest)) c.1 ∙ quiet_strokes c.0 rest q

-- ---- beginnings

-- a beginning of such bytes, and then others that may stand behind ESC
follows_front : (front rest others : List ℕ) → may_follow (front ++ rest) ≡ true → may_follow others ≡ true → may_follow (front ++ others) ≡ true
follows_front [] rest others e f = f
follows_front (b ∷ front) rest others e f = e

abbrev stands : Bool → Bool → Bool → Bool
stands plain escape follows = plain || (escape && follows)

quiet_front : (front rest others : List ℕ) → is_quiet (front ++ rest) ≡ true → may_follow others ≡ true → is_quiet others ≡ true → is_quiet (front ++ others) ≡ true
quiet_front [] rest others e f q = q
quiet_front (b ∷ front) rest others e f q =
    let plain = is_plain_byte b || (b == 0x0D) || (b == 0x0A) in
    let p = and_parts (stands plain (b == 0x1B) (may_follow (front ++ rest))) (is_quiet (front ++ rest)) e in
    rw (stands_again plain (b == 0x1B) (may_follow (front ++ rest)) (may_follow (front ++ others)) p.0 (λ m. follows_front front rest others m f), quiet_front front rest others p.1 f q) refl where
      stands_again : (x y m n : Bool) → stands x y m ≡ true → (m ≡ true → n ≡ true) → stands x y n ≡ true
      stands_again true y m n e f = refl
      stands_again false true m n e f = f e
      stands_again false false m n e f = e

-- ---- drawings

-- they begin with CR where the terminal had failed
record Joins (failed : Bool) (bytes : List ℕ) : Type 0 where
  quiet : is_quiet bytes ≡ true
  follows : IsTrue failed → may_follow bytes ≡ true

one_joins : (failed : Bool) (bytes : List ℕ) (fails : Bool) (others : List ℕ) → DrawsCalmly failed bytes fails → Joins fails others → Joins failed (bytes ++ others)
one_joins failed bytes fails others d j = record { quiet = quiet; follows = λ f. follows f bytes d.whole } where
  all_quiet : (rest : List ℕ) → is_quiet rest ≡ true → is_quiet ((bytes ++ d.rest) ++ rest) ≡ true
  all_quiet rest q = ap (λ x. is_quiet (x ++ rest)) d.whole ∙ begun failed where
    begun : (b : Bool) → is_quiet (((if b then 0x0D ∷ 0x0A ∷ [] else []) ++ d.text) ++ rest) ≡ true
    begun true = quiet_text d.text rest d.calm q
    begun false = quiet_text d.text rest d.calm q

  quiet : is_quiet (bytes ++ others) ≡ true
  quiet = elim (cases_Bool fails) [
    | inl broke ↦ quiet_front bytes d.rest others (ap is_quiet (sym (append-nil (bytes ++ d.rest))) ∙ all_quiet [] refl) (j.follows broke) j.quiet
    | inr fine ↦ ap (λ x. is_quiet (x ++ others)) (sym (append-nil bytes) ∙ ap (λ r. bytes ++ r) (sym (d.all fine))) ∙ all_quiet others j.quiet
  ]

  follows : IsTrue failed → (bs : List ℕ) → bs ++ d.rest ≡ (if failed then 0x0D ∷ 0x0A ∷ [] else []) ++ d.text → may_follow (bs ++ others) ≡ true
  follows f [] e = elim (cases_Bool fails) [
    | inl broke ↦ j.follows broke
    | inr fine ↦
        let none : [] ≡ 0x0D ∷ 0x0A ∷ d.text = sym (d.all fine) ∙ e ∙ ap (λ b. (if b then 0x0D ∷ 0x0A ∷ [] else []) ++ d.text) f in
        absurd (cc none)
  ]
  follows f (b ∷ bs) e =
      let first : b ∷ (bs ++ d.rest) ≡ 0x0D ∷ 0x0A ∷ d.text = e ∙ ap (λ b. (if b then 0x0D ∷ 0x0A ∷ [] else []) ++ d.text) f in
      let is : b ≡ 0x0D = cc first in
      rw is refl

all_join : (failed : Bool) (drawings : List (List ℕ)) (fails : Bool) → AreCalm failed drawings fails → Joins failed (flat_map (λ d. d) drawings)
all_join failed [] fails e = record { quiet = refl; follows = λ f. refl }
all_join failed (d ∷ drawings) fails e = one_joins failed d e.2 (flat_map (λ d. d) drawings) (first_drawing failed d drawings fails e) (all_join e.2 drawings fails e.6)

pub calm_quiet : (failed : Bool) (bytes : List ℕ) (fails : Bool) → Calmly failed bytes fails → IsTrue (is_quiet bytes)
calm_quiet failed bytes fails c = ap is_quiet c.2 ∙ (all_join failed c.0 fails c.1).quiet
