-- A bar is full at its length and empty at its start.
use Rattle.std.proofs.Common.{◌≡◌, ℕ, zero, suc, ◌-◌, ◌*◌, ◌/◌, ◌≤◌, ◌<◌, Bool, true, false, List, [], ◌++◌, append-nil, refl, ◌∙◌, ap, length, arith, Some, None, map, if◌then◌else◌}
use Rattle.std.specs.Prelude.{nat_lt, ◌&&◌, option_to_list, min}
use Rattle.std.specs.List.{concat}
use Rattle.std.proofs.lemmas.Bool.Decides.{nat_tests}
use Rattle.std.proofs.Math.Nat.{zero-div, mul-div_cancel_left, div-eq_of_eq-mul_left, div-mul-le_self, div-le_of_le-mul, mul-le-mul_right, le-div_iff_mul-le}
use Rattle.indicatif_text.specs.StyleWords.{styled}
use Rattle.indicatif_bar.specs.declared.measures.Fraction.{Fraction}
use Rattle.indicatif_bar.specs.Layout.{text_columns, cluster, times, bar_text}
use Rattle.indicatif_bar.specs.Inside.Bars.{shade_of}
use Rattle.indicatif_bar.specs.StyleLaws.{cells_in, FullAtItsLength, EmptyAtItsStart, NeverFewerCells, NeverMoreCells, CellsFit}
use Rattle.indicatif_bar.proofs.LayoutLemmas.{bar_parts}

not_less : (n : ℕ) → nat_lt n n ≡ false
not_less n = grind (arith, nat_tests)

minus_self : (n : ℕ) → n - n - 0 ≡ 0
minus_self n = omega arith

minus_none : (n : ℕ) → n - 0 - 0 ≡ n
minus_none n = omega arith

no_second : (a b c : Bool) (k : ℕ) → b ≡ false → (if a && b && c then Some k else None) ≡ None
no_second true b c k e = rw e refl
no_second false b c k e = refl

no_first : (a b c : Bool) (k : ℕ) → a ≡ false → (if a && b && c then Some k else None) ≡ None
no_first a b c k e = rw e refl

-- without a shade, a bar is its whole cells and the rest
unshaded : (clusters : List (List ℕ)) (colours : Bool) (alternative : List ℕ) (f : Fraction) (width filled : ℕ) → f.num * cells_in clusters width / f.den ≡ filled →
    shade_of f (cells_in clusters width) (length clusters) ≡ None
    → bar_text clusters colours alternative f width ≡ times filled (cluster clusters 0)
    ++ styled colours alternative (times (cells_in clusters width - filled - 0) (cluster clusters (length clusters - 1)))
unshaded clusters colours alternative f width filled e s =
    let n = cells_in clusters width in
    bar_parts clusters colours alternative f width n refl
    ∙ ap (λ o. (times (f.num * n / f.den) (cluster clusters 0) ++ concat (map (cluster clusters) (option_to_list o)))
    ++ styled colours alternative (times (n - f.num * n / f.den - length (option_to_list o)) (cluster clusters (length clusters - 1)))) s
    ∙ ap (λ t. t ++ styled colours alternative (times (n - f.num * n / f.den - 0) (cluster clusters (length clusters - 1)))) (append-nil (times (f.num * n / f.den) (cluster clusters 0)))
    ∙ ap (λ k. times k (cluster clusters 0) ++ styled colours alternative (times (n - k - 0) (cluster clusters (length clusters - 1)))) e

full : (clusters : List (List ℕ)) (colours : Bool) (alternative : List ℕ) (f : Fraction) (width : ℕ) → f.num * cells_in clusters width / f.den ≡ cells_in clusters width
    → bar_text clusters colours alternative f width ≡ times (cells_in clusters width) (cluster clusters 0) ++ styled colours alternative []
full clusters colours alternative f width e =
    let n = cells_in clusters width in
    let shade = no_second (nat_lt 0 (f.num * n)) (nat_lt (f.num * n / f.den) n) (nat_lt 0 (length clusters - 2)) _ (ap (λ k. nat_lt k n) e ∙ not_less n) in
    let none : n - n - 0 ≡ 0 = minus_self n in
    unshaded clusters colours alternative f width n e shade
    ∙ ap (λ k. times n (cluster clusters 0) ++ styled colours alternative (times k (cluster clusters (length clusters - 1)))) none

whole : (d n : ℕ) → 0 < d → d * n / d ≡ n
whole d n h = mul-div_cancel_left n h

pub full_at_its_length : FullAtItsLength
full_at_its_length clusters colours alternative position zero width h = full clusters colours alternative (record { num = 1; den = 1 }) width (whole 1 (cells_in clusters width) (omega arith))
full_at_its_length clusters colours alternative position (suc len) width h =
    let all : min position (suc len) ≡ suc len = omega (arith, h) in
    ap (λ k. bar_text clusters colours alternative (record { num = k; den = suc len }) width) all
    ∙ full clusters colours alternative (record { num = suc len; den = suc len }) width (whole (suc len) (cells_in clusters width) (omega arith))

pub empty_at_its_start : EmptyAtItsStart
empty_at_its_start clusters colours alternative zero width h = absurd (omega (arith, h))
empty_at_its_start clusters colours alternative (suc len) width h =
    let n = cells_in clusters width in
    let f : Fraction = record { num = 0; den = suc len } in
    let zero_num : min 0 (suc len) ≡ 0 = omega arith in
    let fill : 0 * n ≡ 0 = omega arith in
    let none : 0 * n / suc len ≡ 0 = div-eq_of_eq-mul_left (omega arith) (omega arith) in
    let shade = no_first (nat_lt 0 (0 * n)) (nat_lt (0 * n / suc len) n) (nat_lt 0 (length clusters - 2)) _ (ap (λ k. nat_lt 0 k) fill) in
    let all : n - 0 - 0 ≡ n = minus_none n in
    ap (λ k. bar_text clusters colours alternative (record { num = k; den = suc len }) width) zero_num
    ∙ unshaded clusters colours alternative f width 0 none shade
    ∙ ap (λ k. styled colours alternative (times k (cluster clusters (length clusters - 1)))) all

-- a bar without room for a cell is what its rest's style writes
pub without_cells : (clusters : List (List ℕ)) (colours : Bool) (alternative : List ℕ) (f : Fraction) (width : ℕ) → cells_in clusters width ≡ 0
    → bar_text clusters colours alternative f width ≡ styled colours alternative []
without_cells clusters colours alternative f width none =
    let n = cells_in clusters width in
    let times_none : f.num * 0 ≡ 0 = omega arith in
    let fill : f.num * n ≡ 0 = ap (λ k. f.num * k) none ∙ times_none in
    let filled : f.num * n / f.den ≡ 0 = ap (λ k. k / f.den) fill ∙ zero-div f.den in
    let shade = no_first (nat_lt 0 (f.num * n)) (nat_lt (f.num * n / f.den) n) (nat_lt 0 (length clusters - 2)) _ (ap (λ k. nat_lt 0 k) fill) in
    let left : n - 0 - 0 ≡ 0 = omega (arith, none) in
    unshaded clusters colours alternative f width 0 filled shade
    ∙ ap (λ k. styled colours alternative (times k (cluster clusters (length clusters - 1)))) left

pub cells_fit : CellsFit
cells_fit clusters width = div-mul-le_self width (text_columns (cluster clusters 0))

div_le : (a b k : ℕ) → 0 < k → a ≤ b → a / k ≤ b / k
div_le a b k h e = (le-div_iff_mul-le h).1 (omega (arith, div-mul-le_self a k, e))

pub never_fewer : NeverFewerCells
never_fewer position later zero cells h = omega arith
never_fewer position later (suc len) cells h =
    let least : min position (suc len) ≤ min later (suc len) = omega (arith, h) in
    div_le (min position (suc len) * cells) (min later (suc len) * cells) (suc len) (omega arith) (mul-le-mul_right cells least)

pub never_more : NeverMoreCells
never_more position zero cells = div-le_of_le-mul 1 (omega arith)
never_more position (suc len) cells =
    let most : min position (suc len) ≤ suc len = omega arith in
    div-le_of_le-mul (suc len) (mul-le-mul_right cells most)
