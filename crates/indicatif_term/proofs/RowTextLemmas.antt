-- The rows up to the last one with a written cell, and their texts joined one after another.
use Rattle.std.proofs.Common.{◌≡◌, ℕ, zero, suc, ◌+◌, ◌<◌, ◌≤◌, true, false, List, [], ◌∷◌, ◌++◌, length, get_or, take, drop, map, refl, sym, ◌∙◌, ap, append_assoc, arith}
use Rattle.std.specs.List.{list_any, join_with_byte}
use Rattle.std.proofs.lemmas.List.{take_more, map-append, length-map, length-take-le}
use Rattle.std.proofs.lemmas.List.Folds.{list_any_at}
use Rattle.indicatif_text.specs.Columns.{Cell}
use Rattle.indicatif_term.specs.Pictures.{has_written, written_rows, row_text}

pub written_rows-none : (rows : List (List Cell)) → list_any has_written rows ≡ false → written_rows rows ≡ []
written_rows-none [] e = refl
written_rows-none (x ∷ xs) e = rw e refl

pub written_last : (rows : List (List Cell)) (n : ℕ) (r : List Cell) → n < length rows → r ≡ get_or rows n r → has_written r ≡ true → list_any has_written (drop (suc n) rows) ≡ false →
    take (suc n) rows ≡ written_rows rows
written_last [] n r h e is rest = absurd (omega arith)
written_last (x ∷ xs) zero r h e is rest =
    let some : list_any has_written (x ∷ xs) ≡ true = list_any_at has_written (x ∷ xs) 0 r h (ap has_written (sym e) ∙ is) in
    rw some (ap (λ ys. x ∷ ys) (sym (written_rows-none xs rest)))
written_last (x ∷ xs) (suc n) r h e is rest =
    let some : list_any has_written (x ∷ xs) ≡ true = list_any_at has_written (x ∷ xs) (suc n) r h (ap has_written (sym e) ∙ is) in
    rw some (ap (λ ys. x ∷ ys) (written_last xs n r (omega arith) e is rest))

-- one text more
pub join_push : (c : ℕ) (x : List ℕ) (xs : List (List ℕ)) (y : List ℕ) → join_with_byte c ((x ∷ xs) ++ y ∷ []) ≡ join_with_byte c (x ∷ xs) ++ c ∷ y
join_push c x [] y = refl
join_push c x (z ∷ zs) y =
    ap (λ t. x ++ c ∷ t) (join_push c z zs y) ∙ sym (append_assoc x (c ∷ join_with_byte c (z ∷ zs)) (c ∷ y))

join_some : (c : ℕ) (xs : List (List ℕ)) (y : List ℕ) → 0 < length xs → join_with_byte c (xs ++ y ∷ []) ≡ join_with_byte c xs ++ c ∷ y
join_some c [] y h = absurd (omega arith)
join_some c (x ∷ xs) y h = join_push c x xs y

module _ (rows : List (List Cell)) (k : ℕ) (d : List Cell) (h : k < length rows) where
  abbrev r : List Cell
  r = get_or rows k d

  texts_more : map row_text (take (k + 1) rows) ≡ map row_text (take k rows) ++ row_text r ∷ []
  texts_more = ap (map row_text) (take_more rows k d h) ∙ map-append row_text (take k rows) (r ∷ [])

  pub first_shown : (text : List ℕ) → k ≤ 0 → text ≡ join_with_byte 0x0A (map row_text (take k rows)) → text ++ row_text r ≡ join_with_byte 0x0A (map row_text (take (k + 1) rows))
  first_shown text none is =
      let e : k ≡ 0 = omega arith in
      ap (λ t. t ++ row_text r) (is ∙ ap (λ n. join_with_byte 0x0A (map row_text (take n rows))) e)
      ∙ sym (ap (join_with_byte 0x0A) (texts_more ∙ ap (λ n. map row_text (take n rows) ++ row_text r ∷ []) e))

  pub next_shown : (text end : List ℕ) → 0 < k → text ≡ join_with_byte 0x0A (map row_text (take k rows)) → end ≡ 0x0A ∷ [] →
      (text ++ end) ++ row_text r ≡ join_with_byte 0x0A (map row_text (take (k + 1) rows))
  next_shown text end some is e =
      ap (λ t. (text ++ t) ++ row_text r) e ∙ append_assoc text (0x0A ∷ []) (row_text r) ∙ ap (λ t. t ++ 0x0A ∷ row_text r) is
      ∙ sym (ap (join_with_byte 0x0A) texts_more ∙ join_some 0x0A (map row_text (take k rows)) (row_text r) (omega (arith, length-map (take k rows) row_text, length-take-le k rows (omega arith))))
