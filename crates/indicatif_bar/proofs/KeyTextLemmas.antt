-- Fractions in hundredths: the decimals are the digits behind a 1.
use Rattle.std.proofs.Common.{◌≡◌, ℕ, zero, suc, ◌+◌, ◌*◌, ◌/◌, ◌%◌, ◌^◌, ◌<◌, ◌≤◌, ◌++◌, [], ◌∷◌, List, append-nil, refl, sym, ◌∙◌, ap, arith, decimal, drop}
use Rattle.std.proofs.Math.Nat.{pow-suc, one-le-pow, pow-le-pow_right}
use Rattle.std.proofs.lemmas.Fmt.{decimal_digit, decimal_step_wide}
use Rattle.std.proofs.lemmas.Nat.{div-add-mod', mod-mul-add, div-mul-add, mod_below}
use Rattle.indicatif_text.specs.Format.{round, fixed_point, last_digits, after_point}
use Rattle.indicatif_bar.specs.declared.measures.Fraction.{Fraction}
use Rattle.indicatif_bar.specs.Keys.{percent_text}

pub percent_whole : (f : Fraction) → decimal (round (100 * f.num * 1) f.den) ≡ percent_text f 0
unfolding fixed_point
percent_whole f =
    let n = round (100 * f.num * 1) f.den in
    let whole : n ≡ n / 1 = omega arith in
    ap decimal whole ∙ sym (append-nil (decimal (n / 1)))

pub unit_fits : (k : ℕ) → k ≤ 16 → 10 ^ k ≤ 10000000000000000
unit_fits k most = pow-le-pow_right (omega arith) most

rest_more : (m n : ℕ) → 0 < m → n % (m * 10) ≡ n / 10 % m * 10 + n % 10
rest_more m n some =
    let last = n / 10 % m * 10 + n % 10 in
    let split : n ≡ n / 10 / m * (m * 10) + last = omega (arith, div-add-mod' (n / 10) m) in
    let small : last < m * 10 = omega (arith, mod_below (n / 10) m some) in
    ap (λ x. x % (m * 10)) split ∙ mod-mul-add (n / 10 / m) (m * 10) last small

-- a 1 in front of the last digits of a number
behind_one : (k n : ℕ) → k ≤ 16 → decimal (10 ^ k + n % 10 ^ k) ≡ 49 ∷ last_digits k n
behind_one zero n most =
    let one : 10 ^ 0 + n % 10 ^ 0 ≡ 1 = omega arith in
    ap decimal one ∙ decimal_digit 1 (omega arith)
behind_one (suc k) n most =
    let m = 10 ^ k in
    let some = one-le-pow k 10 (omega arith) in
    let fits = unit_fits k (omega (arith, most)) in
    let below : n / 10 % m < m = mod_below (n / 10) m (omega (arith, some)) in
    let front = m + n / 10 % m in
    let split : 10 ^ suc k + n % 10 ^ suc k ≡ front * 10 + n % 10 =
    ap (λ u. u + n % u) (pow-suc 10 k) ∙ ap (λ r. m * 10 + r) (rest_more m n (omega (arith, some))) ∙ omega arith in
    ap decimal split
    ∙ decimal_step_wide (front * 10 + n % 10) (omega (arith, some)) (omega (arith, below, fits))
    ∙ ap (λ h. decimal h ++ (48 + (front * 10 + n % 10) % 10) ∷ []) (div-mul-add front 10 (n % 10) (omega arith))
    ∙ ap (λ d. decimal front ++ (48 + d) ∷ []) (mod-mul-add front 10 (n % 10) (omega arith))
    ∙ ap (λ ds. ds ++ (48 + n % 10) ∷ []) (behind_one k (n / 10) (omega (arith, most)))

point : (ds : List ℕ) (d : ℕ) → after_point (ds ++ d ∷ []) ≡ 0x2E ∷ (ds ++ d ∷ [])
point [] d = refl
point (first ∷ ds) d = refl

behind_point : (k n : ℕ) → 0 < k → k ≤ 16 → after_point (last_digits k n) ≡ 0x2E ∷ drop 1 (decimal (10 ^ k + n % 10 ^ k))
behind_point zero n some most = absurd (omega (arith, some))
behind_point (suc k) n some most = point (last_digits k (n / 10)) (48 + n % 10) ∙ ap (λ ds. 0x2E ∷ drop 1 ds) (sym (behind_one (suc k) n most))

pub percent_decimals : (f : Fraction) (k unit n : ℕ) → 0 < k → k ≤ 16 → unit ≡ 10 ^ k → n ≡ round (100 * f.num * unit) f.den
    → decimal (n / unit) ++ 0x2E ∷ drop 1 (decimal (unit + n % unit)) ≡ percent_text f k
unfolding fixed_point
percent_decimals f k unit n some most power is =
    let scaled : n ≡ round (100 * f.num * 10 ^ k) f.den = is ∙ ap (λ u. round (100 * f.num * u) f.den) power in
    ap (λ u. decimal (n / u) ++ 0x2E ∷ drop 1 (decimal (u + n % u))) power
    ∙ ap (λ ds. decimal (n / 10 ^ k) ++ ds) (sym (behind_point k n some most))
    ∙ ap (λ m. decimal (m / 10 ^ k) ++ after_point (last_digits k m)) scaled
