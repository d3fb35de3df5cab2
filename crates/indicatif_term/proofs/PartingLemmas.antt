-- Where lines of one row part.
use Rattle.std.proofs.Common.{inl, inr, ◌≡◌, ℕ, zero, suc, ◌+◌, ◌-◌, ◌≤◌, max, Bool, true, false, ◌||◌, if◌then◌else◌, List, [], ◌∷◌, ◌++◌, length, map, refl, sym, ◌∙◌, ap, arith, chars, None, take, drop, take-append-drop}
use Rattle.std.specs.Prelude.{◌==◌, nat_le, nat_lt, IsTrue, is_some, unwrap_or}
use Rattle.std.specs.List.{AllByRecursion, list_any}
use Rattle.std.specs.Str.{IsUtf8, IsCharBoundary}
use Rattle.std.proofs.Math.Utf8.{encode, encodes, scalars, scalar}
use Rattle.std.proofs.lemmas.Bool.{cases_Bool, cond_both, eqb-true, le-ltb, or_parts, and_parts}
use Rattle.std.proofs.lemmas.Str.{encode_ascii, encodes-chars, chars-append, IsUtf8-take, scalars-chars}
use Rattle.std.proofs.lemmas.List.Folds.{list_any-append}
use Rattle.std.proofs.lemmas.List.Sums.{sum_by-cons, sum_by-append}
use Rattle.unicode_width.specs.Width.{char_width}
use Rattle.indicatif_text.specs.Columns.{Glyph, width_of, glyph_width, columns_in, visible, visible_from, glyphs_of, colour_length, pieces_after, pieces_of, row_of, rows_of, has_wide, last_columns, columns_of_last}
use Rattle.indicatif_text.proofs.ColourSequenceLemmas.{visible_none}
use Rattle.indicatif_text.proofs.PieceLawLemmas.{visible_past}
use Rattle.indicatif_text.proofs.WrappingLemmas.{pieces_some}
use Rattle.std.proofs.lemmas.List.{length-map}
use Rattle.indicatif_term.proofs.GlyphLemmas.{columns_push}
use Rattle.indicatif_term.specs.Inside.RowEdits.{Tails, IsNarrowChar}
use Rattle.indicatif_term.proofs.EditLineLemmas.{IsOne, one, one_piece, glyphs_on, ones_columns}

pub space_one : width_of 0x20 ≡ 1
unfolding char_width
space_one = refl

escape_none : width_of 0x1B ≡ 0
unfolding char_width
escape_none = refl

not_escape : (c : ℕ) → width_of c ≡ 1 → (c == 0x1B) ≡ false
not_escape c e = elim (cases_Bool (c == 0x1B)) [
  | inl is ↦ absurd (let z : width_of c ≡ 0 = ap width_of (eqb-true c 0x1B is) ∙ escape_none in cc (z, e))
  | inr other ↦ other
]

pub uncoloured : (c : ℕ) (cs : List ℕ) → (c == 0x1B) ≡ false → colour_length (c ∷ cs) ≡ None
uncoloured c [] e = refl
uncoloured c (d ∷ cs) e = rw e refl

pub ones_visible : (cs : List ℕ) → AllByRecursion IsOne cs → visible cs ≡ cs
ones_visible [] all = visible_none
ones_visible (c ∷ cs) all = sym (visible_past c cs (uncoloured c cs (not_escape c all.0))) ∙ ap (λ x. c ∷ x) (ones_visible cs all.1)

pub front_visible : (front cs : List ℕ) → list_any (λ c. c == 0x1B) front ≡ false → visible (front ++ cs) ≡ front ++ visible cs
front_visible [] cs e = refl
front_visible (c ∷ front) cs e = elim (cases_Bool (c == 0x1B)) [
  | inl is ↦ absurd (let t : list_any (λ c. c == 0x1B) (c ∷ front) ≡ true = rw is refl in cc)
  | inr other ↦ sym (visible_past c (front ++ cs) (uncoloured c (front ++ cs) other)) ∙ ap (λ x. c ∷ x) (front_visible front cs (rw other at e))
]

pub ones_front : (xs ys : List ℕ) → AllByRecursion IsOne (xs ++ ys) → AllByRecursion IsOne xs
ones_front [] ys all = tt
ones_front (x ∷ xs) ys all = (all.0, ones_front xs ys all.1)

pub ones_back : (xs ys : List ℕ) → AllByRecursion IsOne (xs ++ ys) → AllByRecursion IsOne ys
ones_back [] ys all = all
ones_back (x ∷ xs) ys all = ones_back xs ys all.1

pub ones_both : (xs ys : List ℕ) → AllByRecursion IsOne xs → AllByRecursion IsOne ys → AllByRecursion IsOne (xs ++ ys)
ones_both [] ys a b = b
ones_both (x ∷ xs) ys a b = (a.0, ones_both xs ys a.1 b)

pub ones_unescaped : (cs : List ℕ) → AllByRecursion IsOne cs → list_any (λ c. c == 0x1B) cs ≡ false
ones_unescaped [] all = refl
ones_unescaped (c ∷ cs) all = rw (not_escape c all.0) (ones_unescaped cs all.1)

-- a line of one row is one piece
whole_piece : (w : ℕ) (p gs : List Glyph) → length (pieces_after w p gs) ≡ 1 → columns_of_last (pieces_after w p gs) ≡ columns_in p + columns_in gs
whole_piece w p [] e = omega arith
whole_piece w p (g ∷ gs) e =
    let c : columns_in (g ∷ gs) ≡ glyph_width g + columns_in gs = sum_by-cons glyph_width g gs in
    let both = cond_both (nat_le (columns_in p + glyph_width g) w) (pieces_after w (p ++ g ∷ []) gs) (p ∷ pieces_after w (g ∷ []) gs)
    (λ ps. length ps ≡ 1 → columns_of_last ps ≡ columns_in p + columns_in (g ∷ gs))
    (λ q n. whole_piece w (p ++ g ∷ []) gs n ∙ omega (arith, columns_push p g, c))
    (λ q n. absurd (omega (arith, n, pieces_some w (g ∷ []) gs))) in
    both e

-- the columns of a line of one row, each of whose visible characters takes one
pub single_last : (w : ℕ) (old : List ℕ) → AllByRecursion IsOne (visible old) → length (rows_of w old) ≡ 1 → last_columns w old ≡ length (visible old)
unfolding rows_of last_columns
single_last w old all one_row =
    let seen = visible old in
    let gs = glyphs_of seen in
    let none : columns_in (let empty : List Glyph = [] in empty) ≡ 0 = refl in
    let pieces : length (pieces_of w gs) ≡ 1 = sym (length-map (pieces_of w gs) (row_of w)) ∙ one_row in
    let all_columns : columns_of_last (pieces_of w gs) ≡ columns_in gs = whole_piece w [] gs pieces ∙ omega (arith, none) in
    all_columns ∙ ap columns_in (glyphs_on [] seen all) ∙ ones_columns seen all

pub parted : (w last olds news n : ℕ) (old new same own other : List ℕ) → list_any (λ c. c == 0x1B) same ≡ false → old ≡ same ++ own → new ≡ same ++ other →
    AllByRecursion IsOne (visible own) → AllByRecursion IsOne (visible other) → length (rows_of w old) ≡ 1 → last ≡ last_columns w old →
    olds ≡ length (visible own) → news ≡ length (visible other) → olds ≤ last → olds ≤ n → news ≤ n → last - olds + n ≤ w →
    (t : Tails w (last - olds) n old new) × (t.olds ≡ visible own) × (t.news ≡ visible other)
unfolding rows_of last_columns
parted w last olds news n old new same own other plain e f all all' one_row is many many' a b c room =
    let shown = visible own in
    let seen : visible old ≡ same ++ shown = ap visible e ∙ front_visible same own plain in
    let seen' : visible new ≡ same ++ visible other = ap visible f ∙ front_visible same other plain in
    let gs = glyphs_of (visible old) in
    let glyphs : gs ≡ glyphs_of same ++ map one shown = ap glyphs_of seen ∙ glyphs_on same shown all in
    let none : columns_in (let empty : List Glyph = [] in empty) ≡ 0 = refl in
    let pieces : length (pieces_of w gs) ≡ 1 = sym (length-map (pieces_of w gs) (row_of w)) ∙ one_row in
    let all_columns : columns_of_last (pieces_of w gs) ≡ columns_in gs = whole_piece w [] gs pieces ∙ omega (arith, none) in
    let sum : columns_in gs ≡ columns_in (glyphs_of same) + length shown =
    ap columns_in glyphs ∙ sum_by-append glyph_width (glyphs_of same) (map one shown) ∙ ap (λ n. columns_in (glyphs_of same) + n) (ones_columns shown all) in (
      record {
        same = same;
        olds = shown;
        news = visible other;
        old_is = seen;
        new_is = seen';
        column = omega (arith, is, all_columns, sum, many);
        room = room;
        few_olds = omega (arith, many, b);
        few_news = omega (arith, many', c);
        old_narrow = all;
        new_narrow = all';
      },
      refl,
      refl,
    )

-- ---- escape characters in bytes and in characters

escape_bytes : (c : ℕ) → c ≡ 0x1B → list_any (λ b. b == 0x1B) (encode c) ≡ true
escape_bytes c e = ap (λ d. list_any (λ b. b == 0x1B) (encode d)) e ∙ ap (list_any (λ b. b == 0x1B)) (encode_ascii 0x1B (omega arith))

unescaped_chars : (cs : List ℕ) → list_any (λ b. b == 0x1B) (encodes cs) ≡ false → list_any (λ c. c == 0x1B) cs ≡ false
unescaped_chars [] e = refl
unescaped_chars (c ∷ cs) e =
    let both : (list_any (λ b. b == 0x1B) (encode c) || list_any (λ b. b == 0x1B) (encodes cs)) ≡ false = sym (list_any-append (λ b. b == 0x1B) (encode c) (encodes cs)) ∙ e in
    let p = or_parts (list_any (λ b. b == 0x1B) (encode c)) (list_any (λ b. b == 0x1B) (encodes cs)) both in
    elim (cases_Bool (c == 0x1B)) [
      | inl is ↦ absurd (let t = escape_bytes c (eqb-true c 0x1B is) in cc (t, p.0))
      | inr other ↦ rw other (unescaped_chars cs p.1)
    ]

pub unescaped : (text : List ℕ) → IsUtf8 text → list_any (λ b. b == 0x1B) text ≡ false → list_any (λ c. c == 0x1B) (chars text) ≡ false
unescaped text utf8 e = unescaped_chars (chars text) (ap (list_any (λ b. b == 0x1B)) (encodes-chars text utf8) ∙ e)

pub split_chars : (text : List ℕ) (at : ℕ) → IsUtf8 text → IsCharBoundary text at → chars text ≡ chars (take at text) ++ chars (drop at text)
split_chars text at utf8 b = ap chars (sym (take-append-drop at text)) ∙ chars-append (take at text) (drop at text) (IsUtf8-take text at utf8 b)

pub ones_push : (xs : List ℕ) (x : ℕ) → AllByRecursion (λ c. width_of c ≡ 1) xs → width_of x ≡ 1 → AllByRecursion (λ c. width_of c ≡ 1) (xs ++ x ∷ [])
ones_push [] x all e = (e, tt)
ones_push (y ∷ xs) x all e = (all.0, ones_push xs x all.1 e)

pub same_list : (xs : List ℕ) → map (λ x. x) xs ≡ xs
same_list [] = refl
same_list (x ∷ xs) = ap (λ ys. x ∷ ys) (same_list xs)

-- characters of a text that take a column each
all_narrow : (cs : List ℕ) → AllByRecursion IsOne cs → scalars cs ≡ true → AllByRecursion IsNarrowChar cs
all_narrow [] all s = tt
all_narrow (c ∷ cs) all s =
    let p = and_parts (scalar c) (scalars cs) s in
    (record { narrow = all.0; scalar = rw p.0 refl; seen = ones_visible (c ∷ []) (all.0, tt) }, all_narrow cs all.1 p.1)

scalars_behind : (front cs : List ℕ) → scalars (front ++ cs) ≡ true → scalars cs ≡ true
scalars_behind [] cs s = s
scalars_behind (c ∷ front) cs s = scalars_behind front cs (and_parts (scalar c) (scalars (front ++ cs)) s).1

scalars_from : (n : ℕ) (cs : List ℕ) → scalars cs ≡ true → scalars (visible_from n cs) ≡ true
scalars_from n [] s = refl
scalars_from (suc n) (c ∷ cs) s = scalars_from n cs (and_parts (scalar c) (scalars cs) s).1
scalars_from zero (c ∷ cs) s =
    let p = and_parts (scalar c) (scalars cs) s in
    let o = colour_length (c ∷ cs) in
    cond_both (is_some o) (visible_from (unwrap_or o 1 - 1) cs) (c ∷ visible_from 0 cs) (λ x. scalars x ≡ true)
    (λ e. scalars_from (unwrap_or o 1 - 1) cs p.1) (λ e. rw p.0 (scalars_from 0 cs p.1))

scalars_seen : (cs : List ℕ) → scalars cs ≡ true → scalars (visible cs) ≡ true
unfolding visible
scalars_seen cs s = scalars_from 0 cs s

pub narrow_behind : (text front cs : List ℕ) → IsUtf8 text → chars text ≡ front ++ cs → AllByRecursion (λ c. width_of c ≡ 1) (visible cs) → AllByRecursion IsNarrowChar (visible cs)
narrow_behind text front cs utf8 e all = all_narrow (visible cs) all (scalars_seen cs (scalars_behind front cs (ap scalars (sym e) ∙ scalars-chars text utf8)))

pub room_left : (ends : Bool) (olds news gap w n : ℕ) → n ≡ (if ends then (w - gap) else max olds news) → gap + olds ≤ w → news ≤ w - gap →
    (olds ≤ n) × (news ≤ n) × (gap + n ≤ w) × (IsTrue ends → gap + n ≡ w)
room_left true olds news gap w n e a b = (omega arith, omega arith, omega arith, λ t. omega arith)
room_left false olds news gap w n e a b = (omega arith, omega arith, omega arith, λ t. absurd (cc))

-- ---- the new line as it is measured

pub parted_last : (w k n : ℕ) (old new : List ℕ) (t : Tails w k n old new) → last_columns w new ≡ k + length t.news
unfolding last_columns
parted_last w k n old new t =
    let gs = glyphs_of t.same ++ map one t.news in
    let glyphs : glyphs_of (visible new) ≡ gs = ap glyphs_of t.new_is ∙ glyphs_on t.same t.news t.new_narrow in
    let columns : columns_in gs ≡ k + length t.news =
    sum_by-append glyph_width (glyphs_of t.same) (map one t.news) ∙ ap (λ m. m + columns_in (map one t.news)) t.column ∙ ap (λ m. k + m) (ones_columns t.news t.new_narrow) in
    let none : columns_in (let empty : List Glyph = [] in empty) ≡ 0 = refl in
    ap (λ g. columns_of_last (pieces_of w g)) glyphs ∙ ap columns_of_last (one_piece w [] gs (omega (arith, columns, none, t.room, t.few_news))) ∙ columns

pub ones_fit : (w : ℕ) (cs : List ℕ) → AllByRecursion IsOne cs → length cs ≤ w → list_any (λ c. nat_lt w (width_of c)) cs ≡ false
ones_fit w [] all few = refl
ones_fit w (c ∷ cs) all few =
    let fits : nat_lt w (width_of c) ≡ false = ap (nat_lt w) all.0 ∙ le-ltb w 1 (omega arith) in
    rw fits (ones_fit w cs all.1 (omega arith))

pub parted_narrow : (w k n : ℕ) (old new : List ℕ) → Tails w k n old new → has_wide w old ≡ false → has_wide w new ≡ false
unfolding has_wide
parted_narrow w k n old new t e =
    let test = λ (c : ℕ). nat_lt w (width_of c) in
    let both = or_parts (list_any test t.same) (list_any test t.olds) (sym (list_any-append test t.same t.olds) ∙ ap (list_any test) (sym t.old_is) ∙ e) in
    ap (list_any test) t.new_is ∙ list_any-append test t.same t.news ∙ rw (both.0, ones_fit w t.news t.new_narrow (omega (arith, t.room, t.few_news))) refl
