-- That words gathered one by one are the style of the text, and that what is written for it is put together so.
use Rattle.std.proofs.Common.{true≢false, ◌≡◌, ℕ, zero, suc, ◌+◌, ◌<◌, inl, inr, Bool, true, false, List, [], ◌∷◌, ◌++◌, length, get_or, refl, sym, ◌∙◌, ap, subst, arith, eqb, Option, Some, None, append-nil, append_assoc, length-append}
use Rattle.std.specs.Fmt.{digits}
use Rattle.std.proofs.lemmas.Grind.{flat_map-append}
use Rattle.std.specs.Prelude.{Result, Ok, Err, OnErr, ◌==◌, ◌||◌, ◌&&◌, not, nat_lt, chars, bytes_eq, codes, IsUtf8, IsAscii, option_to_list, option_map, filter_map, take_while, flat_map}
use Rattle.std.specs.List.{AllByRecursion, position, last_or, cons_option, list_all, onto_first, prefix_len}
use Rattle.std.proofs.Math.Utf8.{encodes}
use Rattle.std.proofs.Math.Bool.{or-false, and-true}
use Rattle.std.proofs.lemmas.Bool.{cases_Bool, ltb-true, ne_eqb, and_parts}
use Rattle.std.proofs.lemmas.Bool.Decides.{same_from_decides}
use Rattle.std.proofs.lemmas.List.Elements.{All-get_or, All-from_recursion}
use Rattle.std.proofs.lemmas.List.Quantifiers.{position-Some}
use Rattle.std.proofs.lemmas.Slice.Eq.{bytes_eq-Decides}
use Rattle.std.proofs.lemmas.Str.{chars-append, IsUtf8-from_ascii, encodes-chars, encodes-IsAscii, chars-IsAscii}
use Rattle.indicatif_text.specs.declared.style_words.BasicColour.{BasicColour}
use Rattle.indicatif_text.specs.declared.style_words.Style.{Style}
use Rattle.indicatif_text.specs.StyleWords.{opening_of, colour_place, colour_words, background_words, style_of, style_words, has_word, number_if, numbers_of, sequence_of, styled, foreground_number, background_number, colour_number}
use Rattle.indicatif_text.specs.declared.spans.Words.{Words}
use Rattle.indicatif_text.specs.declared.spans.Words.TheVariants as words
use Rattle.indicatif_text.specs.Inside.Spans.{in_words}
use Rattle.indicatif_text.specs.Inside.StyleWords.{AddsWord, foreground_after, closing_of, is_word_char}
use Rattle.indicatif_text.specs.Template.{after_run}
use Rattle.indicatif_text.proofs.PrefixLemmas.{run_more, run_ends, left_more, left_ends, left_fails, both, word_within, left_within, left_past}

-- ---- a word as bytes and as characters

abbrev pub is_ascii_text : List ℕ → Bool
is_ascii_text name = list_all (λ b. nat_lt b 128) name

ascii : (name : List ℕ) → is_ascii_text name ≡ true → IsAscii name
ascii [] e i = omega arith
ascii (b ∷ bs) e zero = let h : b < 128 = ltb-true b 128 (and_parts (nat_lt b 128) (is_ascii_text bs) e).0 in h
ascii (b ∷ bs) e (suc i) = ascii bs (and_parts (nat_lt b 128) (is_ascii_text bs) e).1 i

module _ (bs name : List ℕ) (u : IsUtf8 bs) (e : is_ascii_text name ≡ true) where
  chars_name : bs ≡ name → chars bs ≡ name
  chars_name same = ap chars same ∙ chars-IsAscii name (ascii name e)

  bytes_name : chars bs ≡ name → bs ≡ name
  bytes_name same = sym (encodes-chars bs u) ∙ ap encodes same ∙ encodes-IsAscii name (ascii name e)

  -- a word is a name as characters where it is one as bytes
  pub same_word : bytes_eq bs name ≡ bytes_eq (chars bs) name
  same_word =
      let by_bytes = bytes_eq-Decides bs name in
      let by_chars = bytes_eq-Decides (chars bs) name in
      same_from_decides (bytes_eq bs name) (bytes_eq (chars bs) name) by_bytes ((λ t. bytes_name (by_chars.0 t)), (λ h. by_chars.1 (chars_name h)))

  pub other_word : (bs ≡ name → ⊥) → bytes_eq (chars bs) name ≡ false
  other_word other = elim (cases_Bool (bytes_eq (chars bs) name)) [ inl same ↦ absurd (other (bytes_name ((bytes_eq-Decides (chars bs) name).0 same))) | inr differs ↦ differs ]

-- ---- a word behind `on_`

on_ascii : IsAscii (codes "on_")
on_ascii = ascii (codes "on_") refl

-- a background's word is a colour's behind `on_`
pub on_background : (bs rest : List ℕ) → bs ≡ codes "on_" ++ rest → position (bytes_eq (chars rest)) colour_words ≡ position (bytes_eq (chars bs)) background_words
on_background bs rest e =
    let parts : chars bs ≡ codes "on_" ++ chars rest =
    ap chars e ∙ chars-append (codes "on_") rest (IsUtf8-from_ascii (codes "on_") on_ascii) ∙ ap (λ x. x ++ chars rest) (chars-IsAscii (codes "on_") on_ascii) in
    sym (ap (λ cs. position (bytes_eq cs) background_words) parts)

-- a word without it is none
pub no_background : (bs : List ℕ) → IsUtf8 bs → ((rest : List ℕ) → bs ≡ codes "on_" ++ rest → ⊥) → position (bytes_eq (chars bs)) background_words ≡ None
no_background bs u lacks =
    let other : (name : List ℕ) → is_ascii_text (codes "on_" ++ name) ≡ true → bytes_eq (chars bs) (codes "on_" ++ name) ≡ false =
    λ name low. other_word bs (codes "on_" ++ name) u low (λ e. lacks name e) in
    rw (
      other (codes "black") refl,
      other (codes "red") refl,
      other (codes "green") refl,
      other (codes "yellow") refl,
      other (codes "blue") refl,
      other (codes "magenta") refl,
      other (codes "cyan") refl,
      other (codes "white") refl,
    ) refl

-- ---- words gathered one by one

-- what a colour's word isn't: a background's, or an attribute's
record Alone (word : List ℕ) : Type 0 where
  background : position (bytes_eq word) background_words ≡ None
  bold : bytes_eq word (codes "bold") ≡ false
  dim : bytes_eq word (codes "dim") ≡ false
  underlined : bytes_eq word (codes "underlined") ≡ false
  blink : bytes_eq word (codes "blink") ≡ false
  reverse : bytes_eq word (codes "reverse") ≡ false
  hidden : bytes_eq word (codes "hidden") ≡ false

each_alone : AllByRecursion Alone colour_words
each_alone = (
  record { background = refl; bold = refl; dim = refl; underlined = refl; blink = refl; reverse = refl; hidden = refl },
  (
    record { background = refl; bold = refl; dim = refl; underlined = refl; blink = refl; reverse = refl; hidden = refl },
    (
      record { background = refl; bold = refl; dim = refl; underlined = refl; blink = refl; reverse = refl; hidden = refl },
      (
        record { background = refl; bold = refl; dim = refl; underlined = refl; blink = refl; reverse = refl; hidden = refl },
        (
          record { background = refl; bold = refl; dim = refl; underlined = refl; blink = refl; reverse = refl; hidden = refl },
          (
            record { background = refl; bold = refl; dim = refl; underlined = refl; blink = refl; reverse = refl; hidden = refl },
            (
              record { background = refl; bold = refl; dim = refl; underlined = refl; blink = refl; reverse = refl; hidden = refl },
              (record { background = refl; bold = refl; dim = refl; underlined = refl; blink = refl; reverse = refl; hidden = refl }, tt),
            ),
          ),
        ),
      ),
    ),
  ),
)

alone : (word : List ℕ) (k : ℕ) → position (bytes_eq word) colour_words ≡ Some k → Alone word
alone word k e =
    let found = position-Some (bytes_eq word) colour_words k [] e in
    let same : word ≡ get_or colour_words k [] = (bytes_eq-Decides word (get_or colour_words k [])).0 found.1 in
    subst Alone (sym same) (All-get_or Alone colour_words k [] found.0 (All-from_recursion Alone colour_words each_alone))

unset : (s b : Bool) → b ≡ false → s ≡ (s || b)
unset s b e = sym (ap (λ x. s || x) e ∙ or-false s)

-- the word of a colour is the foreground, and no more
pub adds_colour : (s : Style) (colour : BasicColour) (word : List ℕ) → Some (colour_place colour) ≡ position (bytes_eq word) colour_words → AddsWord s word (record s { foreground = Some colour })
adds_colour s colour word e =
    let a = alone word (colour_place colour) (sym e) in
    record {
      foreground = ap (λ p. last_or (foreground_number s) (option_to_list (option_map (λ k. 30 + k) p))) e;
      background = sym (ap (λ p. last_or (background_number s) (option_to_list (option_map (λ k. 40 + k) p))) a.background);
      bold = unset s.bold _ a.bold;
      dim = unset s.dim _ a.dim;
      underlined = unset s.underlined _ a.underlined;
      blink = unset s.blink _ a.blink;
      reverse = unset s.reverse _ a.reverse;
      hidden = unset s.hidden _ a.hidden;
    }

-- another word is no foreground
pub same_foreground : (before after : Option ℕ) (word : List ℕ) → after ≡ before → None ≡ position (bytes_eq word) colour_words → after ≡ foreground_after before word
same_foreground before after word same none = same ∙ ap (λ p. last_or before (option_to_list (option_map (λ k. 30 + k) p))) none

-- a style of some words, where the others are left
pub record Gathers (all : List (List ℕ)) (s : Style) (left : List (List ℕ)) : Type 0 where
  pub foreground : last_or None (filter_map (colour_number 30 colour_words) all) ≡ last_or (foreground_number s) (filter_map (colour_number 30 colour_words) left)
  pub background : last_or None (filter_map (colour_number 40 background_words) all) ≡ last_or (background_number s) (filter_map (colour_number 40 background_words) left)
  pub bold : has_word all (codes "bold") ≡ (s.bold || has_word left (codes "bold"))
  pub dim : has_word all (codes "dim") ≡ (s.dim || has_word left (codes "dim"))
  pub underlined : has_word all (codes "underlined") ≡ (s.underlined || has_word left (codes "underlined"))
  pub blink : has_word all (codes "blink") ≡ (s.blink || has_word left (codes "blink"))
  pub reverse : has_word all (codes "reverse") ≡ (s.reverse || has_word left (codes "reverse"))
  pub hidden : has_word all (codes "hidden") ≡ (s.hidden || has_word left (codes "hidden"))

last_by_words : (o p : Option ℕ) (xs : List ℕ) → last_or o (cons_option p xs) ≡ last_or (last_or o (option_to_list p)) xs
last_by_words o None xs = refl
last_by_words o (Some x) xs = refl

or_more : (s t b h : Bool) → t ≡ (s || b) → (s || (b || h)) ≡ (t || h)
or_more true t b h e = ap (λ x. x || h) (sym e)
or_more false t b h e = ap (λ x. x || h) (sym e)

gathers_more : (all : List (List ℕ)) (s t : Style) (word : List ℕ) (left : List (List ℕ)) → Gathers all s (word ∷ left) → AddsWord s word t → Gathers all t left
gathers_more all s t word left g a = record {
  foreground = g.foreground ∙ last_by_words (foreground_number s) (colour_number 30 colour_words word) (filter_map (colour_number 30 colour_words) left)
      ∙ ap (λ o. last_or o (filter_map (colour_number 30 colour_words) left)) (sym a.foreground);
  background = g.background ∙ last_by_words (background_number s) (colour_number 40 background_words word) (filter_map (colour_number 40 background_words) left)
      ∙ ap (λ o. last_or o (filter_map (colour_number 40 background_words) left)) (sym a.background);
  bold = g.bold ∙ or_more s.bold t.bold _ (has_word left (codes "bold")) a.bold;
  dim = g.dim ∙ or_more s.dim t.dim _ (has_word left (codes "dim")) a.dim;
  underlined = g.underlined ∙ or_more s.underlined t.underlined _ (has_word left (codes "underlined")) a.underlined;
  blink = g.blink ∙ or_more s.blink t.blink _ (has_word left (codes "blink")) a.blink;
  reverse = g.reverse ∙ or_more s.reverse t.reverse _ (has_word left (codes "reverse")) a.reverse;
  hidden = g.hidden ∙ or_more s.hidden t.hidden _ (has_word left (codes "hidden")) a.hidden;
}

-- the words after the first one
abbrev pub words_left : List ℕ → List (List ℕ)
words_left [] = []
words_left (c ∷ cs) = style_words cs

words_front : (cs : List ℕ) → style_words cs ≡ take_while is_word_char cs ∷ words_left (after_run is_word_char cs)
words_front [] = refl
words_front (c ∷ cs) = elim (cases_Bool (eqb c 0x2E)) [
  | inl dot ↦ rw dot refl
  | inr other ↦
      let one : 1 + prefix_len is_word_char cs ≡ suc (prefix_len is_word_char cs) = omega arith in
      rw (other, one) (ap (onto_first c) (words_front cs))
]

pub gathers_word : (all : List (List ℕ)) (s t : Style) (text word rest : List ℕ) → Gathers all s (style_words text) → word ≡ take_while is_word_char text → rest ≡ after_run is_word_char text →
    AddsWord s word t → Gathers all t (words_left rest)
gathers_word all s t text word rest g w r a =
    let parts : style_words text ≡ word ∷ words_left rest = words_front text ∙ cc (w, r) in
    gathers_more all s t word (words_left rest) (subst (Gathers all s) parts g) a

pub gathers_all : (text : List ℕ) (s : Style) (rest : List ℕ) → rest ≡ [] → Gathers (style_words text) s (words_left rest) → numbers_of s ≡ style_of text
unfolding numbers_of style_of
gathers_all text s rest e h =
    let g : Gathers (style_words text) s [] = subst (λ r. Gathers (style_words text) s (words_left r)) e h in
    let bold : has_word (style_words text) (codes "bold") ≡ s.bold = g.bold ∙ or-false s.bold in
    let dim : has_word (style_words text) (codes "dim") ≡ s.dim = g.dim ∙ or-false s.dim in
    let underlined : has_word (style_words text) (codes "underlined") ≡ s.underlined = g.underlined ∙ or-false s.underlined in
    let blink : has_word (style_words text) (codes "blink") ≡ s.blink = g.blink ∙ or-false s.blink in
    let reverse : has_word (style_words text) (codes "reverse") ≡ s.reverse = g.reverse ∙ or-false s.reverse in
    let hidden : has_word (style_words text) (codes "hidden") ≡ s.hidden = g.hidden ∙ or-false s.hidden in
    let foreground : last_or None (filter_map (colour_number 30 colour_words) (style_words text)) ≡ foreground_number s = g.foreground in
    let background : last_or None (filter_map (colour_number 40 background_words) (style_words text)) ≡ background_number s = g.background in
    rw (foreground, background, bold, dim, underlined, blink, reverse, hidden) refl

-- the style of no words
abbrev pub plain : Style
plain = record { foreground = None; background = None; bold = false; dim = false; underlined = false; blink = false; reverse = false; hidden = false }

-- ---- words read from the front of a text

-- these words were read from a text, where this rest is left
pub record WordsRead (p : ℕ → Bool) (text : List ℕ) (s : Style) (rest : List ℕ) : Type 0 where
  pub gathers : Gathers (style_words (take_while p text)) s (words_left (take_while p rest))
  pub past : after_run p text ≡ after_run p rest
  pub stops : (c : ℕ) (cs : List ℕ) → rest ≡ c ∷ cs → (p c && is_word_char c) ≡ false

-- dots stand between words
pub dot_within : (words : Words) → in_words words 0x2E ≡ true
dot_within words.All = refl
dot_within words.Style = refl
dot_within words.Alternative = refl

-- what is known at the end of the words
pub record StyleRead (p : ℕ → Bool) (text : List ℕ) (s : Style) (rest : List ℕ) : Type 0 where
  pub style : numbers_of s ≡ style_of (take_while p text)
  pub past : rest ≡ after_run p text

module _ (p : ℕ → Bool) (text : List ℕ) where
  word_read : (s t : Style) (words word more : List ℕ) → Gathers (style_words (take_while p text)) s (style_words (take_while p words)) → after_run p text ≡ after_run p words →
      word ≡ take_while (both p is_word_char) words → more ≡ after_run (both p is_word_char) words → AddsWord s word t → WordsRead p text t more
  word_read s t words word more g past w m a = record {
    gathers =
        gathers_word (style_words (take_while p text)) s t (take_while p words) word (take_while p more) g
        (w ∙ sym (word_within p is_word_char words)) (ap (take_while p) m ∙ sym (left_within p is_word_char words)) a;
    past = past ∙ left_past p is_word_char words ∙ ap (after_run p) (sym m);
    stops = λ c cs e. left_fails (both p is_word_char) words c cs (sym m ∙ e);
  }

  pub first_read : (t : Style) (word more : List ℕ) → word ≡ take_while (both p is_word_char) text → more ≡ after_run (both p is_word_char) text → AddsWord plain word t → WordsRead p text t more
  first_read t word more w m a =
      word_read plain t text word more (record { foreground = refl; background = refl; bold = refl; dim = refl; underlined = refl; blink = refl; reverse = refl; hidden = refl }) refl w m a

  pub next_read : p 0x2E ≡ true → (s t : Style) (rest words word more : List ℕ) (c : ℕ) → WordsRead p text s rest → rest ≡ c ∷ words → c ≡ 0x2E →
      word ≡ take_while (both p is_word_char) words → more ≡ after_run (both p is_word_char) words → AddsWord s word t → WordsRead p text t more
  next_read dot s t rest words word more c r e is w m a =
      let passes : p c ≡ true = ap p is ∙ dot in
      let gathered : Gathers (style_words (take_while p text)) s (style_words (take_while p words)) =
      subst (λ xs. Gathers (style_words (take_while p text)) s (words_left xs)) (ap (take_while p) e ∙ run_more p c words passes) r.gathers in
      word_read s t words word more gathered (r.past ∙ ap (after_run p) e ∙ left_more p c words passes) w m a

  all_read : (s : Style) (rest : List ℕ) → WordsRead p text s rest → take_while p rest ≡ [] → after_run p rest ≡ rest → StyleRead p text s rest
  all_read s rest r none left = record {
    style = gathers_all (take_while p text) s (take_while p rest) none r.gathers;
    past = sym (r.past ∙ left);
  }

  pub read_to_end : (s : Style) (rest : List ℕ) → WordsRead p text s rest → rest ≡ [] → StyleRead p text s rest
  read_to_end s rest r e = all_read s rest r (ap (take_while p) e) (ap (after_run p) e ∙ sym e)

  pub read_to_stop : (s : Style) (rest : List ℕ) (c : ℕ) (cs : List ℕ) → WordsRead p text s rest → rest ≡ c ∷ cs → (c ≡ 0x2E → ⊥) → StyleRead p text s rest
  read_to_stop s rest c cs r e other =
      let word : is_word_char c ≡ true = ap not (ne_eqb c 0x2E other) in
      let fails : p c ≡ false = sym (and-true (p c)) ∙ ap (λ b. p c && b) (sym word) ∙ r.stops c cs e in
      all_read s rest r (ap (take_while p) e ∙ run_ends p c cs fails) (ap (after_run p) e ∙ left_ends p c cs fails ∙ sym e)

-- ---- what a style writes

-- the sequences of a style, one by one
pub sequences_are : (s : Style) →
    flat_map sequence_of (numbers_of s)
    ≡ flat_map sequence_of (option_to_list (foreground_number s)) ++ (flat_map sequence_of (option_to_list (background_number s))
    ++ (flat_map sequence_of (number_if s.bold 1) ++ (flat_map sequence_of (number_if s.dim 2) ++ (flat_map sequence_of (number_if s.underlined 4)
    ++ (flat_map sequence_of (number_if s.blink 5) ++ (flat_map sequence_of (number_if s.reverse 7) ++ flat_map sequence_of (number_if s.hidden 8)))))))
unfolding numbers_of
sequences_are s = simp (flat_map-append, append-nil, append_assoc)

regrouped_parts : (a b c : List ℕ) → a ++ b ++ c ≡ a ++ (b ++ c)
regrouped_parts a b c = simp append_assoc

-- what is written for a text: the sequences before it, the text, and what closes them
pub styled_parts : (colours : Bool) (numbers text : List ℕ) → styled colours numbers text ≡ opening_of colours numbers ++ (text ++ closing_of (opening_of colours numbers))
styled_parts false [] text = sym (append-nil text)
styled_parts true [] text = sym (append-nil text)
styled_parts false (n ∷ ns) text = sym (append-nil text)
styled_parts true (n ∷ ns) text =
    let closed : closing_of (flat_map sequence_of (n ∷ ns)) ≡ sequence_of 0 = refl in
    regrouped_parts (flat_map sequence_of (n ∷ ns)) text (sequence_of 0) ∙ ap (λ x. flat_map sequence_of (n ∷ ns) ++ (text ++ x)) (sym closed)

-- the sequence that ends all is the one of 0
pub closing_some : (opening : List ℕ) → (length opening == 0) ≡ false → (0x1B ∷ codes "[0m") ≡ closing_of opening
unfolding digits
closing_some [] some = absurd (true≢false some)
closing_some (c ∷ cs) some = refl

pub regrouped_ends : (o a b c : List ℕ) → ((o ++ a) ++ b) ++ c ≡ o ++ (a ++ (b ++ c))
regrouped_ends o a b c = simp append_assoc

pub regrouped_length : (a b c : List ℕ) → length (a ++ (b ++ c)) ≡ length a + (length b + length c)
regrouped_length a b c = simp length-append

-- what holds anyhow holds where there is an error
pub at_err : {T E : Type 0} {P : Type 0} (r : Result T E) → P → OnErr r P
at_err (Ok x) p = tt
at_err (Err e) p = p
