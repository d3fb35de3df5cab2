-- That a text takes at most twice as many columns as bytes, and a run of characters of as many columns each the product of these numbers.
use Rattle.std.proofs.Common.{◌≡◌, ◌++◌, ◌+◌, ℕ, zero, suc, ◌-◌, ◌*◌, ◌<◌, ◌≤◌, false, List, [], ◌∷◌, length, ◌∙◌, ap, arith, rules, inl, inr, length-append}
use Rattle.std.proofs.lemmas.List.Elements.{All-head, All-tail}
use Rattle.indicatif_text.specs.Inside.Runs.{IsPrintable, HasWidth, PassesRun}
use Rattle.std.specs.Prelude.{All, chars, sum_by, nat_lt, unwrap_or, is_some}
use Rattle.std.specs.Str.{IsUtf8}
use Rattle.std.specs.Char.{len_utf8}
use Rattle.std.proofs.Math.Utf8.{encode, encodes}
use Rattle.std.proofs.lemmas.Str.{encodes-chars, len_utf8_bounds, length-encode, length-le-encodes}
use Rattle.std.proofs.lemmas.List.Sums.{sum_by-cons}
use Rattle.std.proofs.Math.Nat.{mul-suc}
use Rattle.std.proofs.lemmas.Bool.{cases_Bool, cond_both}
use Rattle.std.proofs.lemmas.Bool.Decides.{nat_tests}
use Rattle.unicode_width.specs.Width.{char_width}
use Rattle.unicode_width.proofs.Rules.{width_or_zero-le}
use Rattle.indicatif_text.specs.Columns.{width_of, visible, visible_from, columns_of, colour_length}

-- a character of one byte takes at most one column
narrow_byte : (c : ℕ) → c < 128 → width_of c ≤ 1
unfolding char_width
narrow_byte c small = grind (arith, nat_tests)

width_le : (c : ℕ) → width_of c ≤ 2 * len_utf8 c
width_le c = elim (cases_Bool (nat_lt c 128)) [
  | inl low ↦ let one : width_of c ≤ 1 = narrow_byte c (search (rules, nat_tests)) in omega (arith, one, (len_utf8_bounds c).0)
  | inr high ↦ let three : width_of c ≤ 3 = width_or_zero-le false c in let two : 2 ≤ len_utf8 c = grind (arith, nat_tests) in omega (arith, three, two)
]

encoded_le : (cs : List ℕ) → sum_by width_of cs ≤ 2 * length (encodes cs)
encoded_le [] = omega arith
encoded_le (c ∷ cs) = omega (arith, sum_by-cons width_of c cs, width_le c, encoded_le cs, length-encode c, length-append (encode c) (encodes cs))

-- what is visible is no wider, nor longer, than all
visible_le : (n : ℕ) (cs : List ℕ) → sum_by width_of (visible_from n cs) ≤ sum_by width_of cs
visible_le zero [] = omega arith
visible_le (suc n) [] = omega arith
visible_le (suc n) (c ∷ cs) = omega (arith, visible_le n cs, sum_by-cons width_of c cs)
visible_le zero (c ∷ cs) =
    cond_both (is_some (colour_length (c ∷ cs))) (visible_from (unwrap_or (colour_length (c ∷ cs)) 1 - 1) cs) (c ∷ visible_from 0 cs) (λ vs. sum_by width_of vs ≤ sum_by width_of (c ∷ cs))
    (λ _. omega (arith, visible_le (unwrap_or (colour_length (c ∷ cs)) 1 - 1) cs, sum_by-cons width_of c cs))
    (λ _. omega (arith, visible_le 0 cs, sum_by-cons width_of c cs, sum_by-cons width_of c (visible_from 0 cs)))

visible_length : (n : ℕ) (cs : List ℕ) → length (visible_from n cs) ≤ length cs
visible_length zero [] = omega arith
visible_length (suc n) [] = omega arith
visible_length (suc n) (c ∷ cs) = omega (arith, visible_length n cs)
visible_length zero (c ∷ cs) =
    cond_both (is_some (colour_length (c ∷ cs))) (visible_from (unwrap_or (colour_length (c ∷ cs)) 1 - 1) cs) (c ∷ visible_from 0 cs) (λ vs. length vs ≤ length (c ∷ cs))
    (λ _. omega (arith, visible_length (unwrap_or (colour_length (c ∷ cs)) 1 - 1) cs))
    (λ _. omega (arith, visible_length 0 cs))

pub columns_le : (bs : List ℕ) → IsUtf8 bs → columns_of (chars bs) ≤ 2 * length bs
unfolding visible
columns_le bs u = omega (arith, visible_le 0 (chars bs), encoded_le (chars bs), ap length (encodes-chars bs u))

pub visible_few : (bs : List ℕ) → IsUtf8 bs → length (visible (chars bs)) ≤ length bs
unfolding visible
visible_few bs u = omega (arith, visible_length 0 (chars bs), length-le-encodes (chars bs), ap length (encodes-chars bs u))

-- ---- characters of one column

pub plain_width : (c : ℕ) → IsPrintable c → width_of c ≡ 1
unfolding char_width
plain_width c (low, high) = grind (arith, nat_tests)

-- ---- runs

pub columns_run : (k : ℕ) (run rest : List ℕ) → All (HasWidth k) run → sum_by width_of (run ++ rest) ≡ k * length run + sum_by width_of rest
columns_run k [] rest takes = omega arith
columns_run k (c ∷ run) rest takes =
    omega (
      arith,
      mul-suc k (length run),
      sum_by-cons width_of c (run ++ rest),
      All-head (HasWidth k) c run takes,
      columns_run k run rest (All-tail (HasWidth k) c run takes),
    )

pub columns_pass : (k n : ℕ) (before after : List ℕ) → PassesRun k before n after → sum_by width_of before ≡ k * n + sum_by width_of after
columns_pass k n before after p = ap (sum_by width_of) p.whole ∙ columns_run k p.run after p.takes ∙ ap (λ m. k * m + sum_by width_of after) p.many

pub pass_shorter : (k n : ℕ) (before after : List ℕ) → PassesRun k before n after → length before ≡ n + length after
pass_shorter k n before after p = omega (arith, p.many, ap length p.whole, length-append p.run after)
