-- That stored parts stay what they are where more text follows, and that each is read where it stands.
use Rattle.std.proofs.Common.{◌≡◌, ◌-◌, ◌≤◌, ℕ, suc, List, [], ◌∷◌, ◌++◌, length, take, drop, map, refl, sym, ◌∙◌, ap, subst, arith, length-append}
use Rattle.std.specs.Prelude.{chars, slice_range, slice_index_or, IsUtf8, IsCharBoundary}
use Rattle.std.specs.List.{AllByRecursion}
use Rattle.std.proofs.lemmas.List.Elements.{All-append, All-from_recursion, recursion_from_All}
use Rattle.std.proofs.lemmas.List.{take-append-le, drop-append-le, length-drop, take-append-drop}
use Rattle.std.proofs.lemmas.Str.{IsUtf8-take, IsUtf8-drop, IsUtf8-append, IsCharBoundary-from_drop, IsCharBoundary-end}
use Rattle.indicatif_text.specs.declared.template.stored_parts.StoredPart.{StoredPart}
use Rattle.indicatif_text.specs.Inside.StoredParts.{part_with, part_at, LiesIn, LieIn}

module _ (bs more : List ℕ) (u : IsUtf8 bs) (w : IsUtf8 more) where
  pub boundary_stays : (n : ℕ) → IsCharBoundary bs n → IsCharBoundary (bs ++ more) n
  boundary_stays n b =
      let run : IsUtf8 (drop n (bs ++ more)) = subst IsUtf8 (sym (drop-append-le n bs more b.0)) (IsUtf8-append (drop n bs) more (IsUtf8-drop bs n u b) w) in
      IsCharBoundary-from_drop (bs ++ more) n (omega (arith, b.0, length-append bs more)) run

  range_stays : (i j : ℕ) → i ≤ j → j ≤ length bs → slice_range (bs ++ more) i j ≡ slice_range bs i j
  range_stays i j le l =
      let within : j - i ≤ length (drop i bs) = omega (arith, length-drop i bs, le, l) in
      ap (take (j - i)) (drop-append-le i bs more (omega (arith, le, l))) ∙ take-append-le (j - i) (drop i bs) more within

  in_stays : (part : StoredPart) → LiesIn bs part → LiesIn (bs ++ more) part
  in_stays part is = (is.0, boundary_stays part.start is.1, boundary_stays part.end is.2)

  pub are_in_stay : (parts : List StoredPart) → LieIn bs parts → LieIn (bs ++ more) parts
  are_in_stay parts all = λ k d l. in_stays (slice_index_or parts k d) (all k d l)

  part_stays : (part : StoredPart) → LiesIn bs part → part_at (bs ++ more) part ≡ part_at bs part
  part_stays part is = ap (λ text. part_with part.kind (chars text)) (range_stays part.start part.end is.0 is.2.0)

  each_stays : (parts : List StoredPart) → AllByRecursion (LiesIn bs) parts → map (part_at (bs ++ more)) parts ≡ map (part_at bs) parts
  each_stays [] all = refl
  each_stays (part ∷ parts) all = cc (part_stays part all.0, each_stays parts all.1)

  pub parts_stay : (parts : List StoredPart) → LieIn bs parts → map (part_at (bs ++ more)) parts ≡ map (part_at bs) parts
  parts_stay parts all = each_stays parts (recursion_from_All (LiesIn bs) parts all)

-- those behind the first
pub rest_in : (bs : List ℕ) (part : StoredPart) (parts : List StoredPart) → LieIn bs (part ∷ parts) → LieIn bs parts
rest_in bs part parts all = λ k d l. all (suc k) d (omega (arith, l))

-- one more behind the others
are_in_more : (bs : List ℕ) (parts : List StoredPart) (part : StoredPart) → LieIn bs parts → LiesIn bs part → LieIn bs (parts ++ part ∷ [])
are_in_more bs parts part all is = All-append (LiesIn bs) parts (part ∷ []) all (All-from_recursion (LiesIn bs) (part ∷ []) (is, tt))

-- ---- a text of which the parts have the bytes in front

module _ (bs : List ℕ) (start : ℕ) (u : IsUtf8 bs) (b : IsCharBoundary bs start) (parts : List StoredPart) (all : LieIn (take start bs) parts) where
  whole : take start bs ++ drop start bs ≡ bs
  whole = take-append-drop start bs

  pub whole_in : LieIn bs parts
  whole_in = subst (λ x. LieIn x parts) whole (are_in_stay (take start bs) (drop start bs) (IsUtf8-take bs start u b) (IsUtf8-drop bs start u b) parts all)

  pub whole_parts : map (part_at bs) parts ≡ map (part_at (take start bs)) parts
  whole_parts =
      ap (λ x. map (part_at x) parts) (sym whole)
      ∙ parts_stay (take start bs) (drop start bs) (IsUtf8-take bs start u b) (IsUtf8-drop bs start u b) parts all

  -- all bytes behind them are those of a further part
  pub closed_in : (part : StoredPart) → part.start ≡ start → part.end ≡ length bs → LieIn bs (parts ++ part ∷ [])
  closed_in part s e =
      are_in_more bs parts part whole_in (omega (arith, s, e, b.0), subst (IsCharBoundary bs) (sym s) b, subst (IsCharBoundary bs) (sym e) (IsCharBoundary-end bs))
