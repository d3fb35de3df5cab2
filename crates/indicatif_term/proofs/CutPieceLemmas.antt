-- Glyphs cut into pieces one after another.
use Rattle.std.proofs.Common.{◌≡◌, ℕ, zero, suc, ◌+◌, ◌-◌, ◌<◌, ◌≤◌, Bool, true, List, [], ◌∷◌, ◌++◌, filter, length, take, drop, refl, sym, ◌∙◌, ap, arith, append_assoc, append-nil, take_all, length-drop, inl, inr}
use Rattle.std.specs.Prelude.{nat_le}
use Rattle.std.specs.List.{AllByRecursion, list_all}
use Rattle.std.proofs.lemmas.Bool.{cases_Bool, cond_both, leb-true, le-leb, and_parts}
use Rattle.std.proofs.lemmas.List.Sums.{sum_by-append, sum_by-cons}
use Rattle.indicatif_text.specs.Columns.{Glyph, glyph_width, columns_in, pieces_of, pieces_after}
use Rattle.indicatif_term.specs.Resizes.{has_place}
use Rattle.indicatif_term.specs.Inside.Recutting.{is_space, without_spaces, fitting_count}
use Rattle.indicatif_term.proofs.GlyphLemmas.{columns_push}

pub place_is : (w : ℕ) (g : Glyph) → has_place w g ≡ true → (0 < glyph_width g) × (glyph_width g ≤ w)
place_is w g e = let p = and_parts (nat_le 1 (glyph_width g)) (nat_le (glyph_width g) w) e in (leb-true 1 (glyph_width g) p.0, leb-true (glyph_width g) w p.1)

-- the pieces that are left, if any glyph is
abbrev pub more_pieces : ℕ → List Glyph → List (List Glyph)
more_pieces w [] = []
more_pieces w (g ∷ gs) = pieces_of w (filter (has_place w) (g ∷ gs))

pub more_some : (w : ℕ) (gs : List Glyph) → 0 < length gs → more_pieces w gs ≡ pieces_of w (filter (has_place w) gs)
more_some w [] h = absurd (omega arith)
more_some w (g ∷ gs) h = refl

-- ---- the first piece, and those that are left

abbrev rest_after : ℕ → ℕ → List Glyph → List Glyph → List (List Glyph)
rest_after w n piece gs = (piece ++ filter (has_place w) (take n gs)) ∷ more_pieces w (drop n gs)

alone : (w : ℕ) (g : Glyph) (gs : List Glyph) → has_place w g ≡ true → pieces_after w (g ∷ []) (filter (has_place w) gs) ≡ pieces_of w (filter (has_place w) (g ∷ gs))
alone w g gs e =
    let fits : nat_le (0 + glyph_width g) w ≡ true = le-leb (0 + glyph_width g) w (omega (arith, (place_is w g e).1)) in
    rw (e, fits) refl

pub pieces_split : (w : ℕ) (piece gs : List Glyph) → pieces_after w piece (filter (has_place w) gs) ≡ rest_after w (fitting_count w (columns_in piece) gs) piece gs
pieces_split w piece [] = ap (λ p. p ∷ []) (sym (append-nil piece))
pieces_split w piece (g ∷ gs) = elim (cases_Bool (has_place w g)) [
  | inl e ↦ elim (cases_Bool (nat_le (columns_in piece + glyph_width g) w)) [
    | inl room ↦
        let n = fitting_count w (columns_in piece + glyph_width g) gs in
        let more : pieces_after w (piece ++ g ∷ []) (filter (has_place w) gs) ≡ rest_after w n (piece ++ g ∷ []) gs =
        pieces_split w (piece ++ g ∷ []) gs ∙ ap (λ c. rest_after w (fitting_count w c gs) (piece ++ g ∷ []) gs) (columns_push piece g) in
        let joined : (piece ++ g ∷ []) ++ filter (has_place w) (take n gs) ≡ piece ++ g ∷ filter (has_place w) (take n gs) = append_assoc piece (g ∷ []) (filter (has_place w) (take n gs)) in
        rw (e, room) (rw e (more ∙ ap (λ p. p ∷ more_pieces w (drop n gs)) joined))
    | inr full ↦ rw (e, full) (ap (λ p. p ∷ pieces_after w (g ∷ []) (filter (has_place w) gs)) (sym (append-nil piece)) ∙ ap (λ ps. (piece ++ []) ∷ ps) (alone w g gs e ∙ rw e refl))
  ]
  | inr e ↦ rw e (rw e (pieces_split w piece gs))
]

-- the same of all glyphs of a line or a row
pub first_piece : (w : ℕ) (gs : List Glyph) → pieces_of w (filter (has_place w) gs) ≡ filter (has_place w) (take (fitting_count w 0 gs) gs) ∷ more_pieces w (drop (fitting_count w 0 gs) gs)
first_piece w gs = pieces_split w [] gs

-- the columns of those that go into a row
pub fitting_columns : (w c : ℕ) (gs : List Glyph) → c ≤ w → c + columns_in (filter (has_place w) (take (fitting_count w c gs) gs)) ≤ w
fitting_columns w c [] h = omega arith
fitting_columns w c (g ∷ gs) h = elim (cases_Bool (has_place w g)) [
  | inl e ↦ elim (cases_Bool (nat_le (c + glyph_width g) w)) [
    | inl room ↦
        let gone = filter (has_place w) (take (fitting_count w (c + glyph_width g) gs) gs) in
        let i : (c + glyph_width g) + columns_in gone ≤ w = fitting_columns w (c + glyph_width g) gs (leb-true (c + glyph_width g) w room) in
        rw (e, room) (rw e (omega (arith, i, sum_by-cons glyph_width g gone)))
    | inr full ↦ rw (e, full) (omega (arith, h))
  ]
  | inr e ↦ rw e (rw e (fitting_columns w c gs h))
]

-- ---- what holds of all glyphs holds of all glyphs of the pieces

module _ (P : Glyph → Type 0) where
  pub all_filtered : (p : Glyph → Bool) (gs : List Glyph) → AllByRecursion P gs → AllByRecursion P (filter p gs)
  all_filtered p [] all = tt
  all_filtered p (g ∷ gs) all = cond_both (p g) (g ∷ filter p gs) (filter p gs) (AllByRecursion P) (λ e. (all.0, all_filtered p gs all.1)) (λ e. all_filtered p gs all.1)

  pub all_unspaced : (gs : List Glyph) → AllByRecursion P gs → AllByRecursion P (without_spaces gs)
  all_unspaced [] all = tt
  all_unspaced (g ∷ gs) all = cond_both (list_all is_space (g ∷ gs)) [] (g ∷ without_spaces gs) (AllByRecursion P) (λ e. tt) (λ e. (all.0, all_unspaced gs all.1))

  all_pushed : (piece : List Glyph) (g : Glyph) → AllByRecursion P piece → P g → AllByRecursion P (piece ++ g ∷ [])
  all_pushed [] g all h = (h, tt)
  all_pushed (x ∷ piece) g all h = (all.0, all_pushed piece g all.1 h)

  pub all_in_pieces : (w : ℕ) (piece gs : List Glyph) → AllByRecursion P piece → AllByRecursion P gs → AllByRecursion (AllByRecursion P) (pieces_after w piece gs)
  all_in_pieces w piece [] here all = (here, tt)
  all_in_pieces w piece (g ∷ gs) here all =
      cond_both (nat_le (columns_in piece + glyph_width g) w) (pieces_after w (piece ++ g ∷ []) gs) (piece ∷ pieces_after w (g ∷ []) gs) (AllByRecursion (AllByRecursion P))
      (λ e. all_in_pieces w (piece ++ g ∷ []) gs (all_pushed piece g here all.0) all.1) (λ e. (here, all_in_pieces w (g ∷ []) gs (all.0, tt) all.1))

-- no piece has more columns than a row
abbrev pub IsNarrow : ℕ → List Glyph → Type 0
IsNarrow w piece = columns_in piece ≤ w

pub narrow_pieces : (w : ℕ) (piece gs : List Glyph) → IsNarrow w piece → AllByRecursion (IsNarrow w) (pieces_after w piece (filter (has_place w) gs))
narrow_pieces w piece [] h = (h, tt)
narrow_pieces w piece (g ∷ gs) h = cond_both (has_place w g) (g ∷ filter (has_place w) gs) (filter (has_place w) gs) (λ xs. AllByRecursion (IsNarrow w) (pieces_after w piece xs))
    (λ e. cond_both (nat_le (columns_in piece + glyph_width g) w) (pieces_after w (piece ++ g ∷ []) (filter (has_place w) gs)) (piece ∷ pieces_after w (g ∷ []) (filter (has_place w) gs))
    (AllByRecursion (IsNarrow w))
    (λ room. narrow_pieces w (piece ++ g ∷ []) gs (omega (arith, leb-true (columns_in piece + glyph_width g) w room, columns_push piece g)))
    (λ full. (h, narrow_pieces w (g ∷ []) gs (omega (arith, (place_is w g e).1, columns_push [] g)))))
    (λ e. narrow_pieces w piece gs h)

-- a piece is its own only piece
only_after : (w : ℕ) (piece gs : List Glyph) → columns_in (piece ++ gs) ≤ w → pieces_after w piece gs ≡ (piece ++ gs) ∷ []
only_after w piece [] h = ap (λ p. p ∷ []) (sym (append-nil piece))
only_after w piece (g ∷ gs) h =
    let joined : (piece ++ g ∷ []) ++ gs ≡ piece ++ g ∷ gs = append_assoc piece (g ∷ []) gs in
    let fits : columns_in piece + glyph_width g ≤ w = omega (arith, h, sum_by-append glyph_width piece (g ∷ gs), sum_by-cons glyph_width g gs) in
    let test : nat_le (columns_in piece + glyph_width g) w ≡ true = le-leb (columns_in piece + glyph_width g) w fits in
    rw test (only_after w (piece ++ g ∷ []) gs (omega (arith, h, ap columns_in joined)) ∙ ap (λ p. p ∷ []) joined)

pub only_piece : (w : ℕ) (piece : List Glyph) → IsNarrow w piece → pieces_of w piece ≡ piece ∷ []
only_piece w piece h = only_after w [] piece h

-- where a row has place for all, none is left out
pub all_placed : (w : ℕ) (gs : List Glyph) → list_all (has_place w) gs ≡ true → filter (has_place w) gs ≡ gs
all_placed w [] e = refl
all_placed w (g ∷ gs) e = let p = and_parts (has_place w g) (list_all (has_place w) gs) e in rw p.0 (ap (λ xs. g ∷ xs) (all_placed w gs p.1))

pub placed_taken : (w n : ℕ) (gs : List Glyph) → list_all (has_place w) gs ≡ true → list_all (has_place w) (take n gs) ≡ true
placed_taken w zero gs e = refl
placed_taken w (suc n) [] e = refl
placed_taken w (suc n) (g ∷ gs) e = let p = and_parts (has_place w g) (list_all (has_place w) gs) e in rw p.0 (placed_taken w n gs p.1)

pub placed_dropped : (w n : ℕ) (gs : List Glyph) → list_all (has_place w) gs ≡ true → list_all (has_place w) (drop n gs) ≡ true
placed_dropped w zero gs e = e
placed_dropped w (suc n) [] e = refl
placed_dropped w (suc n) (g ∷ gs) e = let p = and_parts (has_place w g) (list_all (has_place w) gs) e in placed_dropped w n gs p.1

-- what stands behind the first n
pub rest_of : {A : Type 0} (n : ℕ) (xs : List A) → take (length xs - n) (drop n xs) ≡ drop n xs
rest_of n xs = take_all (length xs - n) (drop n xs) (omega (arith, length-drop n xs))
