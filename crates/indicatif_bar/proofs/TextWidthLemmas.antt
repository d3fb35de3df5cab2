-- The columns of texts in UTF-8 that are joined, repeated, styled, padded or truncated; of plain texts these are plain.
use Rattle.std.proofs.Common.{◌≡◌, ℕ, zero, suc, ◌+◌, ◌-◌, ◌*◌, ◌/◌, ◌<◌, ◌≤◌, Bool, true, false, List, [], ◌∷◌, ◌++◌, replicate, refl, sym, ◌∙◌, ap, subst, arith, if◌then◌else◌, inl, inr}
use Rattle.std.specs.Prelude.{◌&&◌, ◌==◌, nat_lt, length, sum_by, is_some, encode_utf8_all}
use Rattle.std.specs.List.{list_all}
use Rattle.std.specs.Str.{IsUtf8, IsAscii, chars, drop_trailing_whitespace}
use Rattle.std.proofs.Math.Utf8.{scalar, scalars}
use Rattle.std.specs.Char.{is_whitespace}
use Rattle.std.proofs.lemmas.Bool.{cases_lt, cond_both}
use Rattle.std.proofs.lemmas.Bool.Decides.{nat_tests}
use Rattle.std.proofs.lemmas.List.Elements.{All-replicate}
use Rattle.std.proofs.lemmas.List.Folds.{list_all-append, sum_by-replicate}
use Rattle.std.proofs.lemmas.List.Sums.{sum_by-append}
use Rattle.std.proofs.lemmas.Str.{IsUtf8-nil, IsUtf8-append, IsUtf8-from_ascii, chars-nil, chars-append, chars-IsAscii, chars-encodes, scalars-chars}
use Rattle.std.proofs.lemmas.Str.Ascii.{IsAscii-from_all}
use Rattle.unicode_width.specs.Width.{char_width}
use Rattle.indicatif_text.specs.Columns.{width_of, visible, is_plain}
use Rattle.indicatif_text.specs.Range.{ansi_range}
use Rattle.indicatif_text.specs.StyleWords.{styled}
use Rattle.indicatif_text.specs.declared.template.Alignment.{Alignment}
use Rattle.indicatif_text.specs.declared.template.Alignment.TheVariants.{Left, Center, Right}
use Rattle.indicatif_text.proofs.SeamLemmas.{plain_texts_join, spaces_are_seen, styles_are_unseen, styles_are_bytes, plain_texts_trim}
use Rattle.indicatif_text.proofs.RangeWidthLemmas.{ranges_fit, no_character_is_added, ranges_stay_plain}
use Rattle.indicatif_bar.specs.Layout.{text_columns, spaces, text_range, truncated, surrounded, padded, times}
use Rattle.indicatif_bar.specs.StyleLaws.{IsPlainText, PaddedFills, NeverNarrower, NeverWider}

-- a plain text with this number of columns
pub record Takes (n : ℕ) (text : List ℕ) : Type 0 where
  pub utf8 : IsUtf8 text
  pub plain : is_plain (chars text) ≡ true
  pub columns : text_columns text ≡ n

-- behind a plain text, a text is seen as it is alone
pub seen_behind : (n : ℕ) (front text : List ℕ) → Takes n front → visible (chars (front ++ text)) ≡ visible (chars front) ++ visible (chars text)
seen_behind n front text t = ap visible (chars-append front text t.utf8) ∙ plain_texts_join (chars front) (chars text) t.plain

pub columns_behind : (n : ℕ) (front text : List ℕ) → Takes n front → text_columns (front ++ text) ≡ n + text_columns text
columns_behind n front text t =
    ap (sum_by width_of) (seen_behind n front text t) ∙ sum_by-append width_of (visible (chars front)) (visible (chars text)) ∙ ap (λ k. k + text_columns text) t.columns

pub takes_both : (n k : ℕ) (front text : List ℕ) → Takes n front → Takes k text → Takes (n + k) (front ++ text)
unfolding is_plain
takes_both n k front text t u = record {
  utf8 = IsUtf8-append front text t.utf8 u.utf8;
  plain = ap (list_all (λ c. is_some (char_width false c))) (seen_behind n front text t)
      ∙ list_all-append (λ c. is_some (char_width false c)) (visible (chars front)) (visible (chars text)) ∙ rw (t.plain, u.plain) refl;
  columns = columns_behind n front text t ∙ ap (λ j. n + j) u.columns;
}

none_seen : visible (chars []) ≡ []
unfolding visible
none_seen = ap visible chars-nil

pub takes_none : Takes 0 []
unfolding is_plain
takes_none = record { utf8 = IsUtf8-nil; plain = ap (list_all (λ c. is_some (char_width false c))) none_seen; columns = ap (sum_by width_of) none_seen }

pub takes_as : (n k : ℕ) (text : List ℕ) → n ≡ k → Takes n text → Takes k text
takes_as n k text e t = subst (λ j. Takes j text) e t

pub takes_times : (n k : ℕ) (text : List ℕ) → Takes k text → Takes (n * k) (times n text)
takes_times zero k text t = takes_as 0 (0 * k) [] (omega arith) takes_none
takes_times (suc n) k text t = takes_as (k + n * k) (suc n * k) (times (suc n) text) (omega arith) (takes_both k (n * k) text (times n text) t (takes_times n k text t))

pub takes_styled : (n : ℕ) (colours : Bool) (numbers text : List ℕ) → Takes n text → Takes n (styled colours numbers text)
unfolding is_plain
takes_styled n colours numbers text t =
    let same = styles_are_bytes colours numbers text t.utf8 in
    let seen : visible (chars (styled colours numbers text)) ≡ visible (chars text) = ap visible same.1 ∙ styles_are_unseen colours numbers (chars text) in
    record {
      utf8 = same.0;
      plain = ap (list_all (λ c. is_some (char_width false c))) seen ∙ t.plain;
      columns = ap (sum_by width_of) seen ∙ t.columns;
    }

-- ---- spaces

space_width : (width_of 0x20 ≡ 1) × (is_some (char_width false 0x20) ≡ true)
unfolding char_width
space_width = (refl, refl)

all_spaces : (n : ℕ) → list_all (λ c. is_some (char_width false c)) (replicate n 0x20) ≡ true
all_spaces zero = refl
all_spaces (suc n) = rw space_width.1 (all_spaces n)

spaces_ascii : (n : ℕ) → IsAscii (spaces n)
spaces_ascii n = IsAscii-from_all (spaces n) (All-replicate (λ b. b < 128) n 0x20 (omega arith))

spaces_seen : (n : ℕ) → visible (chars (spaces n)) ≡ spaces n
unfolding visible
spaces_seen n = ap visible (chars-IsAscii (spaces n) (spaces_ascii n)) ∙ spaces_are_seen [] n

spaces_columns : (n : ℕ) → sum_by width_of (spaces n) ≡ n
spaces_columns n = sum_by-replicate width_of n 0x20 ∙ (let one = space_width.0 in rw one (omega arith))

pub takes_spaces : (n : ℕ) → Takes n (spaces n)
unfolding is_plain
takes_spaces n = record {
  utf8 = IsUtf8-from_ascii (spaces n) (spaces_ascii n);
  plain = ap (list_all (λ c. is_some (char_width false c))) (spaces_seen n) ∙ all_spaces n;
  columns = ap (sum_by width_of) (spaces_seen n) ∙ spaces_columns n;
}

-- spaces behind any text
columns_spaced : (text : List ℕ) (n : ℕ) → IsUtf8 text → text_columns (text ++ spaces n) ≡ text_columns text + n
columns_spaced text n u =
    ap (λ cs. sum_by width_of (visible cs)) (chars-append text (spaces n) u ∙ ap (λ x. chars text ++ x) (chars-IsAscii (spaces n) (spaces_ascii n)))
    ∙ ap (sum_by width_of) (spaces_are_seen (chars text) n)
    ∙ sum_by-append width_of (visible (chars text)) (spaces n) ∙ ap (λ k. text_columns text + k) (spaces_columns n)

surrounded_columns : (text : List ℕ) (align : Alignment) (n : ℕ) → IsUtf8 text → text_columns (surrounded text align n) ≡ text_columns text + n
surrounded_columns text Left n u = columns_spaced text n u
surrounded_columns text Right n u = omega (arith, columns_behind n (spaces n) text (takes_spaces n))
surrounded_columns text Center n u =
    let half = n / 2 in
    let both = IsUtf8-append (spaces half) text (takes_spaces half).utf8 u in
    let within : half ≤ n = omega arith in
    omega (arith, within, columns_spaced (spaces half ++ text) (n - half) both, columns_behind half (spaces half) text (takes_spaces half))

-- ---- truncated texts

scalars_all : (cs : List ℕ) → scalars cs ≡ list_all scalar cs
scalars_all [] = refl
scalars_all (c ∷ cs) = ap (λ b. scalar c && b) (scalars_all cs)

range_scalars : (text : List ℕ) (start end : ℕ) → IsUtf8 text → scalars (ansi_range (chars text) start end) ≡ true
range_scalars text start end u =
    scalars_all (ansi_range (chars text) start end) ∙ no_character_is_added scalar (chars text) start end (sym (scalars_all (chars text)) ∙ scalars-chars text u)

range_columns : (text : List ℕ) (start end : ℕ) → IsUtf8 text → text_columns (text_range text start end) ≤ end - start
range_columns text start end u =
    let cs = ansi_range (chars text) start end in
    let same : chars (encode_utf8_all cs) ≡ cs = chars-encodes cs (range_scalars text start end u) in
    omega (arith, ranges_fit (chars text) start end, ap (λ x. sum_by width_of (visible x)) same)

truncated_columns : (text : List ℕ) (columns : ℕ) (align : Alignment) (width : ℕ) → IsUtf8 text → width < columns → text_columns (truncated text columns align width) ≤ width
truncated_columns text columns Left width u h = omega (arith, range_columns text 0 width u)
truncated_columns text columns Right width u h = omega (arith, h, range_columns text (columns - width) columns u)
truncated_columns text columns Center width u h =
    let excess = columns - width in
    let half : excess / 2 ≤ excess = omega arith in
    omega (arith, h, half, range_columns text (excess / 2) (columns - (excess - excess / 2)) u)

-- ---- texts at a width

more_by : (b : Bool) (long short : List ℕ) → b ≡ true → (if b then long else short) ≡ long
more_by b long short e = rw e refl

less_by : (b : Bool) (long short : List ℕ) → b ≡ false → (if b then long else short) ≡ short
less_by b long short e = rw e refl

pub padded_short : (text : List ℕ) (width : ℕ) (align : Alignment) (truncate : Bool) → text_columns text ≤ width → padded text width align truncate ≡ surrounded text align (width - text_columns text)
unfolding padded
padded_short text width align truncate h =
    let e : nat_lt width (text_columns text) ≡ false = grind (arith, nat_tests) in
    less_by (nat_lt width (text_columns text)) (if truncate then truncated text (text_columns text) align width else text) (surrounded text align (width - text_columns text)) e

padded_long : (text : List ℕ) (width : ℕ) (align : Alignment) (truncate : Bool) → width < text_columns text
    → padded text width align truncate ≡ (if truncate then truncated text (text_columns text) align width else text)
unfolding padded
padded_long text width align truncate h =
    let e : nat_lt width (text_columns text) ≡ true = grind (arith, nat_tests) in
    more_by (nat_lt width (text_columns text)) (if truncate then truncated text (text_columns text) align width else text) (surrounded text align (width - text_columns text)) e

pub padded_fills : PaddedFills
padded_fills text width align truncate u h =
    let e = ap text_columns (padded_short text width align truncate h) ∙ surrounded_columns text align (width - text_columns text) u in
    omega (arith, h, e)

pub never_narrower : NeverNarrower
never_narrower text width align u = elim (cases_lt width (text_columns text)) [
  | inl long ↦ omega (arith, long, ap text_columns (padded_long text width align false long))
  | inr short ↦ omega (arith, padded_fills text width align false u short)
]

pub never_wider : NeverWider
never_wider text width align u = elim (cases_lt width (text_columns text)) [
  | inl long ↦ omega (arith, ap text_columns (padded_long text width align true long), truncated_columns text (text_columns text) align width u long)
  | inr short ↦ omega (arith, padded_fills text width align true u short)
]

-- ---- plain texts

pub plain_takes : (text : List ℕ) → IsPlainText text → Takes (text_columns text) text
plain_takes text plain = record { utf8 = plain.0; plain = plain.1; columns = refl }

pub taken_plain : (n : ℕ) (text : List ℕ) → Takes n text → IsPlainText text
taken_plain n text t = (t.utf8, t.plain)

pub plain_both : (xs ys : List ℕ) → IsPlainText xs → IsPlainText ys → IsPlainText (xs ++ ys)
plain_both xs ys x y = taken_plain (text_columns xs + text_columns ys) (xs ++ ys) (takes_both (text_columns xs) (text_columns ys) xs ys (plain_takes xs x) (plain_takes ys y))

-- characters as a text
plain_encoded : (cs : List ℕ) → scalars cs ≡ true → is_plain cs ≡ true → IsPlainText (encode_utf8_all cs)
plain_encoded cs all plain = ((cs, (all, refl)), ap is_plain (chars-encodes cs all) ∙ plain)

plain_range : (text : List ℕ) (start end : ℕ) → IsPlainText text → IsPlainText (text_range text start end)
plain_range text start end t = plain_encoded (ansi_range (chars text) start end) (range_scalars text start end t.0) (ranges_stay_plain (chars text) start end t.1)

plain_spaces : (n : ℕ) → IsPlainText (spaces n)
plain_spaces n = taken_plain n (spaces n) (takes_spaces n)

plain_surrounded : (text : List ℕ) (align : Alignment) (n : ℕ) → IsPlainText text → IsPlainText (surrounded text align n)
plain_surrounded text Left n t = plain_both text (spaces n) t (plain_spaces n)
plain_surrounded text Right n t = plain_both (spaces n) text (plain_spaces n) t
plain_surrounded text Center n t =
    plain_both (spaces (n / 2) ++ text) (spaces (n - n / 2)) (plain_both (spaces (n / 2)) text (plain_spaces (n / 2)) t) (plain_spaces (n - n / 2))

plain_truncated : (text : List ℕ) (columns : ℕ) (align : Alignment) (width : ℕ) → IsPlainText text → IsPlainText (truncated text columns align width)
plain_truncated text columns Left width t = plain_range text 0 width t
plain_truncated text columns Right width t = plain_range text (columns - width) columns t
plain_truncated text columns Center width t = let excess = columns - width in plain_range text (excess / 2) (columns - (excess - excess / 2)) t

pub plain_padded : (text : List ℕ) (width : ℕ) (align : Alignment) (truncate : Bool) → IsPlainText text → IsPlainText (padded text width align truncate)
unfolding padded
plain_padded text width align truncate t =
    let columns = text_columns text in
    cond_both (nat_lt width columns) (if truncate then truncated text columns align width else text) (surrounded text align (width - columns)) (λ x. IsPlainText x)
    (λ _. cond_both truncate (truncated text columns align width) text (λ x. IsPlainText x) (λ _. plain_truncated text columns align width t) (λ _. t))
    (λ _. plain_surrounded text align (width - columns) t)

all_kept_by : (b c : Bool) → (b && c) ≡ true → (kept : Bool) → (c ≡ true → kept ≡ true) → (b && kept) ≡ true
all_kept_by true c e kept rest = rest e
all_kept_by false c e kept rest = absurd (cc e)

all_trimmed : (p : ℕ → Bool) (cs : List ℕ) → list_all p cs ≡ true → list_all p (drop_trailing_whitespace cs) ≡ true
all_trimmed p [] e = refl
all_trimmed p (c ∷ cs) e =
    let kept = drop_trailing_whitespace cs in
    cond_both (is_whitespace c && (length kept == 0)) [] (c ∷ kept) (λ x. list_all p x ≡ true) (λ _. refl) (λ _. all_kept_by (p c) (list_all p cs) e (list_all p kept) (all_trimmed p cs))

pub plain_trimmed : (text : List ℕ) → IsPlainText text → IsPlainText (encode_utf8_all (drop_trailing_whitespace (chars text)))
plain_trimmed text t =
    let kept = drop_trailing_whitespace (chars text) in
    plain_encoded kept (scalars_all kept ∙ all_trimmed scalar (chars text) (sym (scalars_all (chars text)) ∙ scalars-chars text t.0)) (plain_texts_trim (chars text) t.1)
