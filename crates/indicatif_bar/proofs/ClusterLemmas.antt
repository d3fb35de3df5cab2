-- The clusters that a style takes consist of characters with a width: a character without one is a cluster by itself, or CR LF is one, of no columns.
use Rattle.std.proofs.Common.{◌≡◌, ◌⊎◌, ℕ, zero, suc, ◌-◌, ◌<◌, Bool, true, false, not, ◌&&◌, ◌||◌, List, [], ◌∷◌, ◌++◌, map, refl, sym, ◌∙◌, ap, ap₂, subst, arith, if◌then◌else◌, inl, inr, Option, Some, None}
use Rattle.std.specs.Prelude.{◌==◌, is_some, unwrap_or, All, encode_utf8_all}
use Rattle.std.specs.List.{list_all, AllByRecursion}
use Rattle.std.specs.Str.{IsUtf8, chars}
use Rattle.std.proofs.Math.Utf8.{scalar, scalars}
use Rattle.std.proofs.lemmas.Bool.{and_parts, cond_both, eqb-true}
use Rattle.std.proofs.lemmas.Bool.Decides.{nat_tests}
use Rattle.std.proofs.lemmas.List.Elements.{All-from_recursion}
use Rattle.std.proofs.lemmas.Str.{chars-encodes, scalars-chars}
use Rattle.ucd_table.specs.Rows.{in_ranges}
use Rattle.ucd_table.proofs.Computing.{tables}
use Rattle.ucd_table.proofs.Facts.{Stepped-everywhere}
use Rattle.ucd_table.proofs.Stepped.{of_ranges, zip_stepped}
use Rattle.ucd_breaks.specs.GraphemeClusterBreak.{grapheme_cluster_break}
use Rattle.ucd_breaks.specs.declared.GraphemeClusterBreak.{GraphemeClusterBreak}
use Rattle.ucd_breaks.specs.declared.GraphemeClusterBreak.TheVariants.{Control, Cr, Lf}
use Rattle.ucd_breaks.proofs.GraphemeClusterBreakLemmas.{grapheme_cluster_break_stepped}
use Rattle.unicode_segmentation.specs.Grapheme.{break_by_pair, joins_conjunct, joins_emoji, joins_flag, is_grapheme_break}
use Rattle.unicode_segmentation.specs.Segments.{prepend, cut, segments}
use Rattle.unicode_segmentation.proofs.Computing.{unicode_segmentation}
use Rattle.unicode_width.proofs.Computing.{unicode_width}
use Rattle.unicode_width.specs.Width.{char_width}
use Rattle.indicatif_text.specs.Columns.{colour_length, visible_from, visible, columns_of, is_plain}
use Rattle.indicatif_bar.specs.Layout.{text_columns}
use Rattle.indicatif_bar.specs.Builders.{clusters_of}
use Rattle.indicatif_bar.specs.StyleLaws.{IsPlainText, FirstAreTaken}

-- ---- characters without a width

abbrev has_width : ℕ → Bool
has_width c = is_some (char_width false c)

-- the control characters: all characters without a width
abbrev is_control : ℕ → Bool
is_control = in_ranges ((0, 0x1F) ∷ (0x7F, 0x9F) ∷ [])

-- a value at which each place before and behind is a boundary, CR LF aside
abbrev is_apart : GraphemeClusterBreak → Bool
is_apart Control = true
is_apart Cr = true
is_apart Lf = true
is_apart _ = false

abbrev is_cr : GraphemeClusterBreak → Bool
is_cr Cr = true
is_cr _ = false

abbrev is_lf : GraphemeClusterBreak → Bool
is_lf Lf = true
is_lf _ = false

controls_are_apart : (c : ℕ) → (not (is_control c) || is_apart (grapheme_cluster_break c)) ≡ true
unfolding tables grapheme_cluster_break_stepped
controls_are_apart = Stepped-everywhere (λ c. not (is_control c) || is_apart (grapheme_cluster_break c))
    (zip_stepped (λ b v. not b || is_apart v) is_control grapheme_cluster_break (of_ranges ((0, 0x1F) ∷ (0x7F, 0x9F) ∷ []) refl) grapheme_cluster_break_stepped) refl

one_cr : (c : ℕ) → (not (is_cr (grapheme_cluster_break c)) || in_ranges ((0x0D, 0x0D) ∷ []) c) ≡ true
unfolding tables grapheme_cluster_break_stepped
one_cr = Stepped-everywhere (λ c. not (is_cr (grapheme_cluster_break c)) || in_ranges ((0x0D, 0x0D) ∷ []) c)
    (zip_stepped (λ v b. not (is_cr v) || b) grapheme_cluster_break (in_ranges ((0x0D, 0x0D) ∷ [])) grapheme_cluster_break_stepped (of_ranges ((0x0D, 0x0D) ∷ []) refl)) refl

one_lf : (c : ℕ) → (not (is_lf (grapheme_cluster_break c)) || in_ranges ((0x0A, 0x0A) ∷ []) c) ≡ true
unfolding tables grapheme_cluster_break_stepped
one_lf = Stepped-everywhere (λ c. not (is_lf (grapheme_cluster_break c)) || in_ranges ((0x0A, 0x0A) ∷ []) c)
    (zip_stepped (λ v b. not (is_lf v) || b) grapheme_cluster_break (in_ranges ((0x0A, 0x0A) ∷ [])) grapheme_cluster_break_stepped (of_ranges ((0x0A, 0x0A) ∷ []) refl)) refl

in_one : (k c : ℕ) → in_ranges ((k, k) ∷ []) c ≡ true → c ≡ k
unfolding in_ranges
in_one k c e = grind (arith, nat_tests)

or_known : (a b : Bool) → (not a || b) ≡ true → a ≡ true → b ≡ true
or_known true b e same = e
or_known false b e same = absurd (cc same)

is_cr_at : (c : ℕ) → grapheme_cluster_break c ≡ Cr → c ≡ 0x0D
is_cr_at c e = in_one 0x0D c (or_known (is_cr (grapheme_cluster_break c)) (in_ranges ((0x0D, 0x0D) ∷ []) c) (one_cr c) (ap is_cr e))

is_lf_at : (c : ℕ) → grapheme_cluster_break c ≡ Lf → c ≡ 0x0A
is_lf_at c e = in_one 0x0A c (or_known (is_lf (grapheme_cluster_break c)) (in_ranges ((0x0A, 0x0A) ∷ []) c) (one_lf c) (ap is_lf e))

control_without : (c : ℕ) → has_width c ≡ false → is_control c ≡ true
unfolding char_width in_ranges
control_without c e = grind (arith, nat_tests)

-- ---- where clusters end

-- two characters that no boundary parts: CR LF, or none of both is apart
pair_by : (l r : GraphemeClusterBreak) (b : Bool) → unwrap_or (break_by_pair true l r) b ≡ false
    → ((l ≡ Cr) × (r ≡ Lf)) ⊎ ((is_apart l ≡ false) × (is_apart r ≡ false))
pair_by Cr Lf b e = inl (refl, refl)
pair_by Cr _ b e = absurd (cc e)
pair_by Control _ b e = absurd (cc e)
pair_by Lf _ b e = absurd (cc e)
pair_by _ Control b e = absurd (cc e)
pair_by _ Cr b e = absurd (cc e)
pair_by _ Lf b e = absurd (cc e)
pair_by _ _ b e = inr (refl, refl)

parted : (c : ℕ) → is_apart (grapheme_cluster_break c) ≡ false → has_width c ≡ true
parted c e = by (has_width c) refl
  where
    by : (b : Bool) → has_width c ≡ b → b ≡ true
    by true same = refl
    by false same = let known = or_known (is_control c) (is_apart (grapheme_cluster_break c)) (controls_are_apart c) (control_without c same) in absurd (cc (known, e))

-- a cluster has characters with a width alone, or is a character without one, or CR LF
abbrev IsCluster : List ℕ → Type 0
IsCluster cs = (scalars cs ≡ true) × ((list_all has_width cs ≡ true) ⊎ (((c : ℕ) × (cs ≡ c ∷ []) × (has_width c ≡ false)) ⊎ (cs ≡ 0x0D ∷ 0x0A ∷ [])))

no_return_width : has_width 0x0D ≡ false
unfolding char_width
no_return_width = refl

no_feed_width : has_width 0x0A ≡ false
unfolding char_width
no_feed_width = refl

alone : (c : ℕ) → scalar c ≡ true → IsCluster (c ∷ [])
alone c s = (rw s refl, by (has_width c) refl)
  where
    by : (b : Bool) → has_width c ≡ b → (list_all has_width (c ∷ []) ≡ true) ⊎ (((d : ℕ) × (c ∷ [] ≡ d ∷ []) × (has_width d ≡ false)) ⊎ (c ∷ [] ≡ 0x0D ∷ 0x0A ∷ []))
    by true same = inl (rw same refl)
    by false same = inr (inl (c, refl, same))

abbrev first_of : List ℕ → ℕ
first_of [] = 0
first_of (c ∷ cs) = c

abbrev rest_of : List ℕ → List ℕ
rest_of [] = []
rest_of (c ∷ cs) = cs

joined_feed : (d : ℕ) (tail : List ℕ) → d ≡ 0x0A → IsCluster (d ∷ tail) → tail ≡ []
joined_feed d tail e (s, inl all) =
    let own = (and_parts (has_width d) (list_all has_width tail) all).0 in absurd (cc (own, ap has_width e, no_feed_width))
joined_feed d tail e (s, inr (inl (x, same, none))) = ap rest_of same
joined_feed d tail e (s, inr (inr same)) = absurd (omega (arith, e, ap first_of same))

joined_known : (d : ℕ) (tail : List ℕ) → has_width d ≡ true → IsCluster (d ∷ tail) → list_all has_width (d ∷ tail) ≡ true
joined_known d tail e (s, inl all) = all
joined_known d tail e (s, inr (inl (x, same, none))) = absurd (cc (e, ap first_of same, none))
joined_known d tail e (s, inr (inr same)) = absurd (cc (e, ap first_of same, no_return_width))

joined_by : (c d : ℕ) (tail : List ℕ) → scalar c ≡ true → IsCluster (d ∷ tail)
    → ((grapheme_cluster_break c ≡ Cr) × (grapheme_cluster_break d ≡ Lf)) ⊎ ((is_apart (grapheme_cluster_break c) ≡ false) × (is_apart (grapheme_cluster_break d) ≡ false))
    → IsCluster (c ∷ d ∷ tail)
joined_by c d tail s is (inl (cr, lf)) =
    let end = is_lf_at d lf in
    (rw (s, is.0) refl, inr (inr (ap₂ (λ x y. x ∷ y) (is_cr_at c cr) (ap₂ (λ x y. x ∷ y) end (joined_feed d tail end is)))))
joined_by c d tail s is (inr (left, right)) =
    let all = joined_known d tail (parted d right) is in
    let own = parted c left in
    (rw (s, is.0) refl, inl (rw (own, all) refl))

joined : (before cs : List ℕ) (c d : ℕ) (tail : List ℕ) → scalar c ≡ true → is_grapheme_break true (c ∷ before) (d ∷ cs) ≡ false → IsCluster (d ∷ tail) → IsCluster (c ∷ d ∷ tail)
unfolding is_grapheme_break
joined before cs c d tail s e is =
    joined_by c d tail s is (pair_by (grapheme_cluster_break c) (grapheme_cluster_break d)
    (not ((true && joins_conjunct (c ∷ before) d) || joins_emoji (c ∷ before) d || joins_flag (c ∷ before) d)) e)

-- ---- a text's clusters

-- pieces of a text that begins with a character
record Pieces (c : ℕ) (pieces : List (List ℕ)) : Type 0 where
  tail : List ℕ
  later : List (List ℕ)
  same : pieces ≡ (c ∷ tail) ∷ later
  first : IsCluster (c ∷ tail)
  rest : AllByRecursion IsCluster later

abbrev all_pieces : (c : ℕ) (pieces : List (List ℕ)) → Pieces c pieces → AllByRecursion IsCluster pieces
all_pieces c pieces x = subst (AllByRecursion IsCluster) (sym x.same) (x.first, x.rest)

pieces_after : (c d : ℕ) (pieces : List (List ℕ)) (b : Bool) → scalar c ≡ true → Pieces d pieces
    → (b ≡ false → (tail : List ℕ) → IsCluster (d ∷ tail) → IsCluster (c ∷ d ∷ tail)) → Pieces c (if b then (c ∷ []) ∷ pieces else prepend (c ∷ []) pieces)
pieces_after c d pieces true s x join = record { tail = []; later = pieces; same = refl; first = alone c s; rest = all_pieces d pieces x }
pieces_after c d pieces false s x join =
    record { tail = d ∷ x.tail; later = x.later; same = ap (prepend (c ∷ [])) x.same; first = join refl x.tail x.first; rest = x.rest }

pieces_of : (before : List ℕ) (c : ℕ) (cs : List ℕ) → scalars (c ∷ cs) ≡ true → Pieces c (cut (is_grapheme_break true) before (c ∷ cs) [])
unfolding cut is_grapheme_break
pieces_of before c [] s = record { tail = []; later = []; same = refl; first = alone c (and_parts (scalar c) true s).0; rest = tt }
pieces_of before c (d ∷ cs) s =
    let parts = and_parts (scalar c) (scalars (d ∷ cs)) s in
    pieces_after c d (cut (is_grapheme_break true) (c ∷ before) (d ∷ cs) []) (is_grapheme_break true (c ∷ before) ((d ∷ cs) ++ [])) parts.0 (pieces_of (c ∷ before) d cs parts.1)
    (λ e tail is. joined before (cs ++ []) c d tail parts.0 e is)

all_clusters : (cs : List ℕ) → scalars cs ≡ true → AllByRecursion IsCluster (cut (is_grapheme_break true) [] cs [])
unfolding cut
all_clusters [] s = tt
all_clusters (c ∷ cs) s = all_pieces c (cut (is_grapheme_break true) [] (c ∷ cs) []) (pieces_of [] c cs s)

-- ---- clusters of some columns

none_by : (o : Option ℕ) → is_some o ≡ false → unwrap_or o 0 ≡ 0
none_by None e = refl
none_by (Some n) e = absurd (cc e)

lone_columns : (c : ℕ) → has_width c ≡ false → columns_of (c ∷ []) ≡ 0
unfolding visible
lone_columns c e = omega (arith, none_by (char_width false c) e)

end_columns : columns_of (0x0D ∷ 0x0A ∷ []) ≡ 0
unfolding visible char_width
end_columns = refl

-- what is visible of a text is among its characters
visible_among : (p : ℕ → Bool) (n : ℕ) (cs : List ℕ) → list_all p cs ≡ true → list_all p (visible_from n cs) ≡ true
visible_among p n [] e = refl
visible_among p (suc n) (c ∷ cs) e = visible_among p n cs (and_parts (p c) (list_all p cs) e).1
visible_among p zero (c ∷ cs) e =
    let parts = and_parts (p c) (list_all p cs) e in
    let own = parts.0 in
    let rest = visible_among p 0 cs parts.1 in
    cond_both (is_some (colour_length (c ∷ cs))) (visible_from (unwrap_or (colour_length (c ∷ cs)) 1 - 1) cs) (c ∷ visible_from 0 cs) (λ x. list_all p x ≡ true)
    (λ _. visible_among p (unwrap_or (colour_length (c ∷ cs)) 1 - 1) cs parts.1) (λ _. rw (own, rest) refl)

plain_from : (cs : List ℕ) → list_all has_width cs ≡ true → is_plain cs ≡ true
unfolding is_plain visible
plain_from cs e = visible_among has_width 0 cs e

cluster_text : (width : ℕ) (cs : List ℕ) → IsCluster cs → text_columns (encode_utf8_all cs) ≡ width → 0 < width → IsPlainText (encode_utf8_all cs)
cluster_text width cs (s, inl all) e some = ((cs, (s, refl)), ap is_plain (chars-encodes cs s) ∙ plain_from cs all)
cluster_text width cs (s, inr (inl (c, same, none))) e some =
    absurd (omega (arith, some, e, ap columns_of (chars-encodes cs s ∙ same), lone_columns c none))
cluster_text width cs (s, inr (inr same)) e some = absurd (omega (arith, some, e, ap columns_of (chars-encodes cs s ∙ same), end_columns))

cluster_texts : (width : ℕ) (pieces : List (List ℕ)) → AllByRecursion IsCluster pieces → list_all (λ c. text_columns c == width) (map encode_utf8_all pieces) ≡ true → 0 < width
    → AllByRecursion IsPlainText (map encode_utf8_all pieces)
cluster_texts width [] is e some = tt
cluster_texts width (cs ∷ pieces) (first, rest) e some =
    let parts = and_parts (text_columns (encode_utf8_all cs) == width) (list_all (λ c. text_columns c == width) (map encode_utf8_all pieces)) e in
    (cluster_text width cs first (eqb-true (text_columns (encode_utf8_all cs)) width parts.0) some, cluster_texts width pieces rest parts.1 some)

-- the clusters of a text, all with the same number of columns, are plain texts
pub clusters_are_plain : (width : ℕ) (text : List ℕ) → IsUtf8 text → list_all (λ c. text_columns c == width) (clusters_of text) ≡ true → 0 < width → All IsPlainText (clusters_of text)
unfolding segments
clusters_are_plain width text u e some =
    All-from_recursion IsPlainText (clusters_of text) (cluster_texts width (cut (is_grapheme_break true) [] (chars text) []) (all_clusters (chars text) (scalars-chars text u)) e some)

-- ---- the clusters that a style has at first

abbrev first_characters : List ℕ
first_characters = 0x2588 ∷ 0x2591 ∷ []

pub first_are_taken : FirstAreTaken
unfolding unicode_width unicode_segmentation visible
first_are_taken = record { text = encode_utf8_all first_characters; utf8 = (first_characters, (refl, refl)); same = refl; taken = refl }
