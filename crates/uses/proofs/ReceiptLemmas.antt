-- Texts that stand, by receipts that a history holds; and receipts of all entries.
use Rattle.std.proofs.Common.{◌≡◌, ℕ, zero, suc, ◌+◌, ◌<◌, false, List, [], ◌∷◌, ◌++◌, ◌∙◌, Some, ap, sym, subst, refl, arith, append_assoc, length, take, drop, map, slice_index_or}
use Rattle.std.specs.Prelude.{slice_get}
use Rattle.std.proofs.lemmas.Grind.{take_at_read}
use Rattle.std.proofs.lemmas.List.{map-append}
use Rattle.indicatif_text.specs.Columns.{Cell}
use Rattle.std.specs.List.{list_any}
use Rattle.std.proofs.lemmas.Bool.{or_parts}
use Rattle.indicatif_term.specs.Engines.{is_failure}
use Rattle.indicatif_board.specs.Boards.{drawn_of}
use Rattle.indicatif_board.specs.HistoryLaws.{AreUnbroken}
use Rattle.indicatif_board.specs.Calls.{answer_of}
use Rattle.indicatif_board.specs.Recorded.{BoardStep, answers_of, step_of}
use Rattle.indicatif_board.specs.declared.recorded.Entry.{Entry}
use Rattle.uses.specs.Readings.{StandAmong}

-- where no step was broken off, none of the last ones was
pub unbroken_behind : {K : Type 0} (n : ℕ) (steps : List (BoardStep K)) → AreUnbroken steps → AreUnbroken (drop n steps)
unbroken_behind zero steps fine = fine
unbroken_behind (suc n) [] fine = fine
unbroken_behind (suc n) (e ∷ steps) fine =
    unbroken_behind n steps (or_parts (is_failure (drawn_of e.answer)) (list_any (λ answer. is_failure (drawn_of answer)) (answers_of steps)) fine).1

-- where no entry was, no step was
pub unbroken_entries : {K : Type 0} (entries : List (Entry K)) (steps : List (BoardStep K)) → map step_of entries ≡ steps → list_any (λ e. is_failure (drawn_of (answer_of e.answer))) entries ≡ false →
    AreUnbroken steps
unbroken_entries {K} entries steps same none = subst AreUnbroken same (each entries none) where
  each : (es : List (Entry K)) → list_any (λ e. is_failure (drawn_of (answer_of e.answer))) es ≡ false → AreUnbroken (map step_of es)
  each [] e = refl
  each (x ∷ es) e =
      let p = or_parts (is_failure (drawn_of (answer_of x.answer))) (list_any (λ e. is_failure (drawn_of (answer_of e.answer))) es) e in
      rw (p.0, each es p.1) refl

-- rows that stand among others stand there where more follow
pub stand_among : (rows all more : List (List Cell)) → StandAmong rows all → StandAmong rows (all ++ more)
stand_among rows all more s = (s.0, s.1 ++ more, ap (λ x. x ++ more) s.2 ∙ append_assoc (s.0 ++ rows) s.1 more)

-- one receipt more, of the next entry
one_more : {X : Type 0} (xs : List X) (k : ℕ) (x : X) → slice_get xs k ≡ Some x → take (suc k) xs ≡ take k xs ++ x ∷ []
one_more [] k x e = absurd (cc)
one_more (y ∷ ys) zero x e = cc
one_more (y ∷ ys) (suc k) x e = ap (λ l. y ∷ l) (one_more ys k x e)

pub one_more_of_all : {X Y : Type 0} (v : X → Y) (xs : List X) (ys : List Y) (n k : ℕ) (d : X) →
    n < length xs → map v (take n xs) ≡ take n ys → k ≡ n → slice_get ys k ≡ Some (v (slice_index_or xs n d)) →
    map v (take (n + 1) xs) ≡ take (n + 1) ys
one_more_of_all v xs ys n k d less so at is =
    let x = slice_index_or xs n d in
    let next : suc k ≡ n + 1 = omega (arith, at) in
    ap (map v) (take_at_read xs n d less).1
    ∙ map-append v (take n xs) (x ∷ [])
    ∙ ap (λ l. l ++ v x ∷ []) (so ∙ ap (λ j. take j ys) (sym at))
    ∙ sym (subst (λ j. take j ys ≡ take k ys ++ v x ∷ []) next (one_more ys k (v x) is))
