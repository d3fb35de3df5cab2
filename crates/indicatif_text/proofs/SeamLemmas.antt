-- What is visible of texts joined, behind one another or with what a style writes, and that a text of no more columns than a row takes one.
use Rattle.std.proofs.Common.{◌≡◌, ℕ, zero, suc, ◌+◌, ◌/◌, ◌%◌, ◌<◌, ◌≤◌, Bool, true, false, List, [], ◌∷◌, ◌++◌, append-nil, length, length-append, replicate, take, drop, Option, Some, None, refl, sym, ◌∙◌, ap, arith, append_assoc, take-append-drop, if◌then◌else◌, eqb, inl, inr}
use Rattle.std.specs.Prelude.{◌==◌, ◌&&◌, ◌||◌, not, nat_le, nat_lt, flat_map, option_map, is_some, sum_by, decimal, codes}
use Rattle.std.specs.Int.{IsInRange}
use Rattle.std.specs.Fmt.{digits, digits_onto, digit_glyph}
use Rattle.std.specs.List.{list_all, AllByRecursion}
use Rattle.std.specs.Char.{is_whitespace}
use Rattle.std.specs.Str.{IsAscii, chars, drop_trailing_whitespace}
use Rattle.std.proofs.lemmas.Str.{IsUtf8-from_ascii, IsUtf8-append, chars-append, chars-IsAscii}
use Rattle.std.proofs.lemmas.Str.Ascii.{IsAscii-from_all}
use Rattle.std.proofs.lemmas.List.Folds.{list_all-append}
use Rattle.std.proofs.Math.Seq.{drop-append_seam}
use Rattle.std.proofs.lemmas.Bool.{cases_Bool, cond_both, ne_eqb, le-leb, lt-ltb, eqb-true, and_parts, and_from}
use Rattle.std.proofs.lemmas.Bool.Decides.{nat_tests}
use Rattle.std.proofs.lemmas.List.{take-append-le, drop-append-le, length-map}
use Rattle.std.proofs.lemmas.List.Sums.{sum_by-cons}
use Rattle.std.proofs.lemmas.List.Elements.{All-from_recursion}
use Rattle.unicode_width.specs.Width.{char_width}
use Rattle.indicatif_text.specs.Columns.{width_of, colour_length, parameters_length, is_parameter, visible, is_plain, glyphs_of, pieces_of, row_of, rows_of}
use Rattle.indicatif_text.specs.StyleWords.{sequence_of}
use Rattle.indicatif_text.specs.Pieces.{TextPiece, Run, Colour, joined_to, pieces_of_text}
use Rattle.indicatif_text.specs.PieceLaws.{run_text}
use Rattle.indicatif_text.specs.RangeLaws.{sequence_in, sequences_of}
use Rattle.indicatif_text.specs.ColumnLaws.{PlainTextsJoin, SpacesAreSeen, NumbersAreUnseen, StylesAreUnseen, StylesAreBytes, OthersAreSeen, PlainTextsHaveWidths, PlainTextsTrim, OneRow}
use Rattle.indicatif_text.proofs.ColourSequenceLemmas.{hidden, visible_none}
use Rattle.indicatif_text.proofs.PieceLemmas.{first_colour, first_joined}
use Rattle.indicatif_text.proofs.PieceLawLemmas.{Parameters, Ended, Further, Sequence, Opened, sequence_is, sequence_taken, sequence_before, sequence_length, by_pieces, runs_are_visible, visible_past}
use Rattle.indicatif_text.proofs.WrappingLemmas.{heights, pieces}

-- a text that begins with no character that may stand in a colour sequence behind its ESC
abbrev pub is_apart : List ℕ → Bool
is_apart [] = true
is_apart (c ∷ cs) = not (c == 0x5B || (c == 0x6D || is_parameter c))

apart_by : (a b d : Bool) → not (a || (b || d)) ≡ true → (a ≡ false) × ((b ≡ false) × (d ≡ false))
apart_by false false false e = (refl, (refl, refl))
apart_by false false true e = absurd (cc e)
apart_by false true d e = absurd (cc e)
apart_by true b d e = absurd (cc e)

unended_by : (a b : Bool) (o after : Option ℕ) → (o ≡ None → after ≡ None) → (if a then Some 1 else if b then option_map (λ n. n + 1) o else None) ≡ None
    → (if a then Some 1 else if b then option_map (λ n. n + 1) after else None) ≡ None
unended_by true b o after rest e = absurd (cc e)
unended_by false true None after rest e = ap (option_map (λ n. n + 1)) (rest refl)
unended_by false true (Some n) after rest e = absurd (cc e)
unended_by false false o after rest e = refl

unopened_by : (a : Bool) (o after : Option ℕ) → (o ≡ None → after ≡ None) → (if a then option_map (λ n. n + 2) o else None) ≡ None → (if a then option_map (λ n. n + 2) after else None) ≡ None
unopened_by true None after rest e = ap (option_map (λ n. n + 2)) (rest refl)
unopened_by true (Some n) after rest e = absurd (cc e)
unopened_by false o after rest e = refl

no_bracket : (a b : Bool) (o : Option ℕ) → b ≡ false → (if a && b then o else None) ≡ None
no_bracket true b o e = rw e refl
no_bracket false b o e = refl

-- parameters that no `m` ends aren't ended by a text apart
unended : (cs after : List ℕ) → is_apart after ≡ true → parameters_length cs ≡ None → parameters_length (cs ++ after) ≡ None
unended [] [] a e = refl
unended [] (d ∷ ds) a e = let none = apart_by (d == 0x5B) (d == 0x6D) (is_parameter d) a in rw (none.1.0, none.1.1) refl
unended (c ∷ cs) after a e = unended_by (eqb c 0x6D) (is_parameter c) (parameters_length cs) (parameters_length (cs ++ after)) (unended cs after a) e

-- a text apart makes no colour sequence of what stands before it
unopened : (c : ℕ) (cs after : List ℕ) → is_apart after ≡ true → colour_length (c ∷ cs) ≡ None → colour_length (c ∷ cs ++ after) ≡ None
unopened c [] [] a e = refl
unopened c [] (d ∷ ds) a e = no_bracket (c == 0x1B) (d == 0x5B) _ (apart_by (d == 0x5B) (d == 0x6D) (is_parameter d) a).0
unopened c (d ∷ cs) after a e = unopened_by ((c == 0x1B) && (d == 0x5B)) (parameters_length cs) (parameters_length (cs ++ after)) (unended cs after a) e

-- ---- a text behind pieces

taken_length : (n : ℕ) (cs : List ℕ) → length (take n cs) ≡ n → n ≤ length cs
taken_length zero cs e = omega arith
taken_length (suc n) [] e = absurd (cc e)
taken_length (suc n) (c ∷ cs) e = let rest = taken_length n cs (omega (arith, e)) in omega (arith, rest)

sequence_fits : {cs : List ℕ} {n : ℕ} → Sequence cs n → n ≤ length cs
sequence_fits s = taken_length _ _ (sequence_taken s).1

coloured_front : (n : ℕ) (cs after : List ℕ) → Sequence cs n → pieces_of_text (cs ++ after) ≡ Colour (take n cs) ∷ pieces_of_text (drop n cs ++ after)
coloured_front n cs after s =
    first_colour n (cs ++ after) (sequence_is (sequence_before after s)) (sequence_length s)
    ∙ ap (λ x. Colour x ∷ pieces_of_text (drop n (cs ++ after))) (take-append-le n cs after (sequence_fits s))
    ∙ ap (λ x. Colour (take n cs) ∷ pieces_of_text x) (drop-append-le n cs after (sequence_fits s))

-- what is told of the pieces of a text with another behind it is told of pieces, and of the other's
abbrev JoinsPieces : {X : Type 0} → (TextPiece → List X) → List ℕ → List ℕ → List TextPiece → Type 0
JoinsPieces tell after cs ps = flat_map tell (pieces_of_text (cs ++ after)) ≡ flat_map tell ps ++ flat_map tell (pieces_of_text after)

-- what is told of each piece, told of pieces: of a character that joins a run, by itself
module _ {X : Type 0} (tell : TextPiece → List X) (one : ℕ → List X) (joins : (c : ℕ) (ps : List TextPiece) → flat_map tell (joined_to c ps) ≡ one c ++ flat_map tell ps) where
  joins_character : (after : List ℕ) (c : ℕ) (cs : List ℕ) (ps : List TextPiece) → colour_length (c ∷ cs ++ after) ≡ None →
      JoinsPieces tell after cs ps → JoinsPieces tell after (c ∷ cs) (joined_to c ps)
  joins_character after c cs ps none e =
      ap (flat_map tell) (first_joined c (cs ++ after) none) ∙ joins c (pieces_of_text (cs ++ after)) ∙ ap (λ x. one c ++ x) e
      ∙ sym (append_assoc (one c) (flat_map tell ps) (flat_map tell (pieces_of_text after)))
      ∙ ap (λ x. x ++ flat_map tell (pieces_of_text after)) (sym (joins c ps))

  joins_sequence : (after : List ℕ) (n : ℕ) (cs : List ℕ) (ps : List TextPiece) → Sequence cs n → JoinsPieces tell after (drop n cs) ps → JoinsPieces tell after cs (Colour (take n cs) ∷ ps)
  joins_sequence after n cs ps s e =
      ap (flat_map tell) (coloured_front n cs after s) ∙ ap (λ x. tell (Colour (take n cs)) ++ x) e
      ∙ sym (append_assoc (tell (Colour (take n cs))) (flat_map tell ps) (flat_map tell (pieces_of_text after)))

  joins_apart : (text after : List ℕ) → is_apart after ≡ true → JoinsPieces tell after text (pieces_of_text text)
  joins_apart text after a = by_pieces (JoinsPieces tell after) refl (λ c cs ps none e. joins_character after c cs ps (unopened c cs after a none) e)
      (λ n cs ps s e. joins_sequence after n cs ps s e) text

run_joins : (c : ℕ) (ps : List TextPiece) → flat_map run_text (joined_to c ps) ≡ (c ∷ []) ++ flat_map run_text ps
run_joins c [] = refl
run_joins c (Run text ∷ ps) = refl
run_joins c (Colour sequence ∷ ps) = refl

pub sequence_joins : (c : ℕ) (ps : List TextPiece) → flat_map sequence_in (joined_to c ps) ≡ [] ++ flat_map sequence_in ps
sequence_joins c [] = refl
sequence_joins c (Run text ∷ ps) = refl
sequence_joins c (Colour sequence ∷ ps) = refl

-- a text apart is seen behind another as it is alone
pub visible_apart : (text after : List ℕ) → is_apart after ≡ true → visible (text ++ after) ≡ visible text ++ visible after
visible_apart text after a =
    sym (runs_are_visible (text ++ after)) ∙ joins_apart run_text (λ c. c ∷ []) run_joins text after a
    ∙ ap (λ x. x ++ flat_map run_text (pieces_of_text after)) (runs_are_visible text) ∙ ap (λ x. visible text ++ x) (runs_are_visible after)

pub sequences_apart : (text after : List ℕ) → is_apart after ≡ true → sequences_of (text ++ after) ≡ sequences_of text ++ sequences_of after
sequences_apart text after a = joins_apart sequence_in (λ c. []) sequence_joins text after a

-- ---- behind plain texts

abbrev has_width : ℕ → Bool
has_width c = is_some (char_width false c)

escape_width : has_width 0x1B ≡ false
unfolding char_width
escape_width = refl

-- a character with a width is no ESC
no_escape : (c : ℕ) → has_width c ≡ true → (c == 0x1B) ≡ false
no_escape c e = ne_eqb c 0x1B (λ same. let no : has_width c ≡ false = ap has_width same ∙ escape_width in cc (e, no))

no_sequence : (c : ℕ) (cs : List ℕ) → (c == 0x1B) ≡ false → colour_length (c ∷ cs) ≡ None
no_sequence c [] e = refl
no_sequence c (d ∷ cs) e = rw e refl

-- what holds of the characters of two texts holds of those of both
pub all_pass : (p : ℕ → Bool) (xs ys : List ℕ) → list_all p xs ≡ true → list_all p ys ≡ true → list_all p (xs ++ ys) ≡ true
all_pass p xs ys a b = list_all-append p xs ys ∙ and_from (list_all p xs) (list_all p ys) a b

plain_joins : (after : List ℕ) (c : ℕ) (cs : List ℕ) (ps : List TextPiece) → (list_all has_width (flat_map run_text ps) ≡ true → JoinsPieces run_text after cs ps)
    → list_all has_width (flat_map run_text (joined_to c ps)) ≡ true → JoinsPieces run_text after (c ∷ cs) (joined_to c ps)
plain_joins after c cs ps rest e =
    let all = and_parts (has_width c) (list_all has_width (flat_map run_text ps)) (ap (list_all has_width) (sym (run_joins c ps)) ∙ e) in
    joins_character run_text (λ c. c ∷ []) run_joins after c cs ps (no_sequence c (cs ++ after) (no_escape c all.0)) (rest all.1)

joins_plain : (text after : List ℕ) → list_all has_width (flat_map run_text (pieces_of_text text)) ≡ true → JoinsPieces run_text after text (pieces_of_text text)
joins_plain text after = by_pieces (λ cs ps. list_all has_width (flat_map run_text ps) ≡ true → JoinsPieces run_text after cs ps) (λ _. refl)
    (λ c cs ps none rest e. plain_joins after c cs ps rest e) (λ n cs ps s rest e. joins_sequence run_text (λ c. c ∷ []) run_joins after n cs ps s (rest e)) text

pub plain_texts_join : PlainTextsJoin
unfolding is_plain
plain_texts_join text after e =
    sym (runs_are_visible (text ++ after)) ∙ joins_plain text after (ap (list_all has_width) (runs_are_visible text) ∙ e)
    ∙ ap (λ x. x ++ flat_map run_text (pieces_of_text after)) (runs_are_visible text) ∙ ap (λ x. visible text ++ x) (runs_are_visible after)

-- ---- spaces

spaces_apart : (n : ℕ) → is_apart (replicate n 0x20) ≡ true
spaces_apart zero = refl
spaces_apart (suc n) = refl

spaces_seen : (n : ℕ) → visible (replicate n 0x20) ≡ replicate n 0x20
spaces_seen zero = visible_none
spaces_seen (suc n) = sym (visible_past 0x20 (replicate n 0x20) (no_sequence 0x20 (replicate n 0x20) refl)) ∙ ap (λ x. 0x20 ∷ x) (spaces_seen n)

pub spaces_are_seen : SpacesAreSeen
spaces_are_seen text n = visible_apart text (replicate n 0x20) (spaces_apart n) ∙ ap (λ x. visible text ++ x) (spaces_seen n)

-- ---- styles

digit_at : (d : ℕ) → d < 10 → IsInRange 48 57 (digit_glyph false d)
digit_at d small = grind (arith, nat_tests)

some_digits : (k n : ℕ) (acc : List ℕ) → AllByRecursion (IsInRange 48 57) acc → AllByRecursion (IsInRange 48 57) (digits_onto k 10 false n acc)
some_digits zero n acc all = all
some_digits (suc k) n acc all =
    let first : n % 10 < 10 = omega arith in
    let one = digit_at (n % 10) first in
    cond_both (n / 10 == 0) (digit_glyph false (n % 10) ∷ acc) (digits_onto k 10 false (n / 10) (digit_glyph false (n % 10) ∷ acc)) (λ ds. AllByRecursion (IsInRange 48 57) ds)
    (λ _. (one, all)) (λ _. some_digits k (n / 10) (digit_glyph false (n % 10) ∷ acc) (one, all))

pub decimal_digits : (n : ℕ) → AllByRecursion (IsInRange 48 57) (decimal n)
unfolding digits
decimal_digits n = some_digits 64 n [] tt

digit_not_end : (d : ℕ) → IsInRange 48 57 d → eqb d 0x6D ≡ false
digit_not_end d is = ne_eqb d 0x6D (λ e. omega (arith, is.0, is.1, e))

digit_is_parameter : (d : ℕ) → IsInRange 48 57 d → is_parameter d ≡ true
digit_is_parameter d (low, high) = grind (arith, nat_tests)

ended : (ds rest : List ℕ) → AllByRecursion (IsInRange 48 57) ds → parameters_length (ds ++ 0x6D ∷ rest) ≡ Some (length ds + 1)
ended [] rest all = refl
ended (d ∷ ds) rest all =
    rw (digit_not_end d all.0, digit_is_parameter d all.0) (ap (option_map (λ n. n + 1)) (ended ds rest all.1) ∙ ap Some (let e : length ds + 1 + 1 ≡ suc (length ds) + 1 = omega arith in e))

number_hidden : (n : ℕ) (rest : List ℕ) → visible (sequence_of n ++ rest) ≡ visible rest
number_hidden n rest =
    let whole : sequence_of n ++ rest ≡ 0x1B ∷ 0x5B ∷ decimal n ++ 0x6D ∷ rest = ap (λ x. 0x1B ∷ 0x5B ∷ x) (append_assoc (decimal n) (codes "m") rest) in
    let many : length (decimal n) + 1 + 2 ≡ length (sequence_of n) = omega (arith, length-append (decimal n) (codes "m")) in
    hidden (length (sequence_of n)) (sequence_of n ++ rest) (ap colour_length whole ∙ ap (option_map (λ k. k + 2)) (ended (decimal n) rest (decimal_digits n)) ∙ ap Some many) (omega (arith, many))
    ∙ ap visible (drop-append_seam (sequence_of n) rest)

numbers_hidden : (ns rest : List ℕ) → visible (flat_map sequence_of ns ++ rest) ≡ visible rest
numbers_hidden [] rest = refl
numbers_hidden (n ∷ ns) rest = ap visible (append_assoc (sequence_of n) (flat_map sequence_of ns) rest) ∙ number_hidden n (flat_map sequence_of ns ++ rest) ∙ numbers_hidden ns rest

pub styles_are_unseen : StylesAreUnseen
styles_are_unseen colours [] text = refl
styles_are_unseen false (n ∷ ns) text = refl
styles_are_unseen true (n ∷ ns) text =
    visible_apart (flat_map sequence_of (n ∷ ns) ++ text) (sequence_of 0) refl
    ∙ ap (λ x. x ++ visible (sequence_of 0)) (numbers_hidden (n ∷ ns) text)
    ∙ ap (λ x. visible text ++ x) (ap visible (sym (append-nil (sequence_of 0))) ∙ number_hidden 0 [] ∙ visible_none) ∙ append-nil (visible text)

digits_low : (ds : List ℕ) → AllByRecursion (IsInRange 48 57) ds → list_all (λ b. nat_lt b 128) ds ≡ true
digits_low [] all = refl
digits_low (d ∷ ds) all = rw (lt-ltb d 128 (omega (arith, all.0))) (digits_low ds all.1)

number_low : (n : ℕ) → list_all (λ b. nat_lt b 128) (sequence_of n) ≡ true
number_low n = all_pass (λ b. nat_lt b 128) (decimal n) (codes "m") (digits_low (decimal n) (decimal_digits n)) refl

numbers_low : (ns : List ℕ) → list_all (λ b. nat_lt b 128) (flat_map sequence_of ns) ≡ true
numbers_low [] = refl
numbers_low (n ∷ ns) = all_pass (λ b. nat_lt b 128) (sequence_of n) (flat_map sequence_of ns) (number_low n) (numbers_low ns)

below : (b : ℕ) → nat_lt b 128 ≡ true → b < 128
below b e = grind (arith, nat_tests)

all_below : (xs : List ℕ) → list_all (λ b. nat_lt b 128) xs ≡ true → AllByRecursion (λ b. b < 128) xs
all_below [] e = tt
all_below (b ∷ xs) e = let parts = and_parts (nat_lt b 128) (list_all (λ b. nat_lt b 128) xs) e in (below b parts.0, all_below xs parts.1)

ascii : (xs : List ℕ) → list_all (λ b. nat_lt b 128) xs ≡ true → IsAscii xs
ascii xs e = IsAscii-from_all xs (All-from_recursion (λ b. b < 128) xs (all_below xs e))

pub numbers_are_unseen : NumbersAreUnseen
numbers_are_unseen numbers text = (ascii (flat_map sequence_of numbers) (numbers_low numbers), numbers_hidden numbers text)

pub styles_are_bytes : StylesAreBytes
styles_are_bytes colours [] text u = (u, refl)
styles_are_bytes false (n ∷ ns) text u = (u, refl)
styles_are_bytes true (n ∷ ns) text u =
    let opening = ascii (flat_map sequence_of (n ∷ ns)) (numbers_low (n ∷ ns)) in
    let closing = ascii (sequence_of 0) (number_low 0) in
    let open_utf8 = IsUtf8-from_ascii (flat_map sequence_of (n ∷ ns)) opening in
    let both_utf8 = IsUtf8-append (flat_map sequence_of (n ∷ ns)) text open_utf8 u in (
      IsUtf8-append (flat_map sequence_of (n ∷ ns) ++ text) (sequence_of 0) both_utf8 (IsUtf8-from_ascii (sequence_of 0) closing),
      chars-append (flat_map sequence_of (n ∷ ns) ++ text) (sequence_of 0) both_utf8
          ∙ ap (λ x. x ++ chars (sequence_of 0)) (chars-append (flat_map sequence_of (n ∷ ns)) text open_utf8 ∙ ap (λ x. x ++ chars text) (chars-IsAscii (flat_map sequence_of (n ∷ ns)) opening))
          ∙ ap (λ x. flat_map sequence_of (n ∷ ns) ++ chars text ++ x) (chars-IsAscii (sequence_of 0) closing),
    )

-- ---- characters

pub others_are_seen : OthersAreSeen
others_are_seen c text other = sym (visible_past c text (no_sequence c text (ne_eqb c 0x1B other)))

-- ESC, or a character with a width
abbrev is_known : ℕ → Bool
is_known c = (c == 0x1B) || has_width c

known_by : (a b : Bool) → b ≡ true → (a || b) ≡ true
known_by true b e = refl
known_by false b e = e

parameter_range : (c : ℕ) → is_parameter c ≡ true → IsInRange 0x30 0x3B c
parameter_range c e = grind (arith, nat_tests)

low_width : (c : ℕ) → IsInRange 0x20 0x7E c → has_width c ≡ true
unfolding char_width
low_width c (low, high) = grind (arith, nat_tests)

parameters_known : {cs : List ℕ} {n : ℕ} → Parameters cs n → list_all is_known (take n cs) ≡ true
parameters_known (Ended c cs ended) = rw (eqb-true c 0x6D ended) (rw (low_width 0x6D (omega arith, omega arith)) refl)
parameters_known (Further c n cs other is rest) =
    let range = parameter_range c is in
    rw (known_by (c == 0x1B) (has_width c) (low_width c (omega (arith, range.0), omega (arith, range.1)))) (parameters_known rest)

sequence_known : {cs : List ℕ} {n : ℕ} → Sequence cs n → list_all is_known (take n cs) ≡ true
sequence_known (Opened c d n cs opened rest) =
    let e = and_parts (c == 0x1B) (d == 0x5B) opened in
    let bracket : is_known d ≡ true = ap is_known (eqb-true d 0x5B e.1) ∙ known_by (0x5B == 0x1B) (has_width 0x5B) (low_width 0x5B (omega arith, omega arith)) in
    rw (e.0, bracket) (parameters_known rest)

plain_known : (c : ℕ) (cs : List ℕ) (ps : List TextPiece) → (list_all has_width (flat_map run_text ps) ≡ true → list_all is_known cs ≡ true)
    → list_all has_width (flat_map run_text (joined_to c ps)) ≡ true → list_all is_known (c ∷ cs) ≡ true
plain_known c cs ps rest e =
    let all = and_parts (has_width c) (list_all has_width (flat_map run_text ps)) (ap (list_all has_width) (sym (run_joins c ps)) ∙ e) in
    rw (known_by (c == 0x1B) (has_width c) all.0) (rest all.1)

pub plain_texts_have_widths : PlainTextsHaveWidths
unfolding is_plain
plain_texts_have_widths text e =
    by_pieces (λ cs ps. list_all has_width (flat_map run_text ps) ≡ true → list_all is_known cs ≡ true) (λ _. refl)
    (λ c cs ps none rest e. plain_known c cs ps rest e)
    (λ n cs ps s rest e. ap (list_all is_known) (sym (take-append-drop n cs)) ∙ all_pass is_known (take n cs) (drop n cs) (sequence_known s) (rest e))
    text (ap (list_all has_width) (runs_are_visible text) ∙ e)

-- ---- one row

one_high : (w n : ℕ) (cs : List ℕ) → n + sum_by width_of cs ≤ w → heights w n cs ≡ 1
one_high w n [] fits = refl
one_high w n (c ∷ cs) fits =
    let sum = sum_by-cons width_of c cs in
    elim (cases_Bool (eqb (width_of c) 0)) [
      | inl none ↦ rw none (one_high w n cs (omega (arith, sum, fits)))
      | inr some ↦
          let within : nat_le (n + width_of c) w ≡ true = le-leb (n + width_of c) w (omega (arith, sum, fits)) in
          rw (some, within) (one_high w (n + width_of c) cs (omega (arith, sum, fits)))
    ]

pub one_row : OneRow
unfolding rows_of
one_row text w fits = length-map (pieces_of w (glyphs_of (visible text))) (row_of w) ∙ (pieces w [] (visible text)).count ∙ one_high w 0 (visible text) (omega (arith, fits))

-- ---- without white space at the end

white_apart : (c : ℕ) (cs : List ℕ) → is_whitespace c ≡ true → is_apart (c ∷ cs) ≡ true
white_apart c cs e = grind (arith, nat_tests)

-- a text is such a beginning and a text apart
record EndsApart (text stays : List ℕ) : Type 0 where
  left : List ℕ
  parts : text ≡ stays ++ left
  apart : is_apart left ≡ true

ends_white : (text : List ℕ) → EndsApart text (drop_trailing_whitespace text)
ends_white [] = record { left = []; parts = refl; apart = refl }
ends_white (c ∷ cs) =
    let rest = ends_white cs in
    let stays = drop_trailing_whitespace cs in
    cond_both (is_whitespace c && (length stays == 0)) [] (c ∷ stays) (λ front. EndsApart (c ∷ cs) front)
    (λ e. record { left = c ∷ cs; parts = refl; apart = white_apart c cs (and_parts (is_whitespace c) (length stays == 0) e).0 })
    (λ e. record { left = rest.left; parts = ap (λ x. c ∷ x) rest.parts; apart = rest.apart })

first_plain : (xs ys : List ℕ) → list_all has_width (xs ++ ys) ≡ true → list_all has_width xs ≡ true
first_plain xs ys e = (and_parts (list_all has_width xs) (list_all has_width ys) (sym (list_all-append has_width xs ys) ∙ e)).0

pub plain_texts_trim : PlainTextsTrim
unfolding is_plain
plain_texts_trim text e =
    let stays = drop_trailing_whitespace text in
    let s = ends_white text in
    let seen : visible text ≡ visible stays ++ visible s.left = ap visible s.parts ∙ visible_apart stays s.left s.apart in
    first_plain (visible stays) (visible s.left) (ap (list_all has_width) (sym seen) ∙ e)
