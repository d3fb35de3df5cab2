-- A bar takes as many columns as its cells, and its text is its filled clusters, at most a shade, and its unfilled ones.
use Rattle.std.proofs.Common.{◌≡◌, ℕ, zero, suc, ◌+◌, ◌-◌, ◌*◌, ◌/◌, ◌%◌, ◌<◌, ◌≤◌, Bool, true, false, List, [], ◌∷◌, ◌++◌, append-nil, length, refl, sym, ◌∙◌, ap, subst, arith, if◌then◌else◌, Option, Some, None, map}
use Rattle.std.specs.Prelude.{All, not, ◌==◌, ◌&&◌, nat_lt, option_to_list, IfSome}
use Rattle.std.specs.List.{list_all, concat}
use Rattle.std.proofs.lemmas.Bool.{eqb-true, ltb-true, and_parts}
use Rattle.std.proofs.lemmas.Bool.Decides.{nat_tests}
use Rattle.std.proofs.lemmas.List.Elements.{All-get_or}
use Rattle.std.proofs.Math.Nat.{div-le_of_le-mul, mul-le-mul_right, div-lt_iff_lt-mul, mod-lt, mul_comm, add-mul, mul-lt-mul_of_pos_right}
use Rattle.indicatif_text.specs.declared.refusal.Refusal.TheVariants.{FewProgressChars, UnequalWidths, ZeroWidthChars}
use Rattle.indicatif_text.specs.StyleWords.{styled}
use Rattle.indicatif_bar.specs.declared.measures.Fraction.{Fraction}
use Rattle.indicatif_bar.specs.declared.style.keys.BarKey.{BarKey}
use Rattle.indicatif_bar.specs.Measures.{fraction_of}
use Rattle.indicatif_bar.specs.Progress.{Progress}
use Rattle.indicatif_bar.specs.Keys.{bar_fraction}
use Rattle.indicatif_bar.specs.Layout.{text_columns, cluster, times, bar_text}
use Rattle.indicatif_bar.specs.Builders.{clusters_of, progress_fault}
use Rattle.indicatif_bar.specs.Inside.Bars.{shade_of, begun_text, cells_left}
use Rattle.indicatif_bar.specs.StyleLaws.{IsPlainText, AreTaken, TakenArePlain, cells_in, filled_cells, BarsTakeTheirCells, BarsFill, BarsFit, ShowsFilled, FilledAreShown, NeverShowsFewer}
use Rattle.indicatif_bar.proofs.LayoutLemmas.{rest_text, bar_parts}
use Rattle.indicatif_bar.proofs.ClusterLemmas.{clusters_are_plain}
use Rattle.indicatif_bar.proofs.BarLawLemmas.{never_fewer, cells_fit}
use Rattle.indicatif_bar.proofs.TextWidthLemmas.{Takes, takes_none, takes_as, takes_both, takes_times, takes_styled}

-- ---- clusters

record Lawful (clusters : List (List ℕ)) (width : ℕ) : Type 0 where
  many : 2 ≤ length clusters
  same : list_all (λ c. text_columns c == width) clusters ≡ true
  some : 0 < width

lawful_by : (few same none : Bool) → (if few then Some FewProgressChars else if not same then Some UnequalWidths else if none then Some ZeroWidthChars else None) ≡ None
    → (few ≡ false) × ((same ≡ true) × (none ≡ false))
lawful_by true same none e = absurd (cc e)
lawful_by false false none e = absurd (cc e)
lawful_by false true true e = absurd (cc e)
lawful_by false true false e = (refl, (refl, refl))

not_few : (n : ℕ) → nat_lt n 2 ≡ false → 2 ≤ n
not_few n e = grind (arith, nat_tests)

not_none : (n : ℕ) → (n == 0) ≡ false → 0 < n
not_none n e = grind (arith, nat_tests)

lawful : (clusters : List (List ℕ)) → progress_fault clusters ≡ None → Lawful clusters (text_columns (cluster clusters 0))
lawful clusters e =
    let width = text_columns (cluster clusters 0) in
    let parts = lawful_by (nat_lt (length clusters) 2) (list_all (λ c. text_columns c == width) clusters) (width == 0) e in
    record { many = not_few (length clusters) parts.0; same = parts.1.0; some = not_none width parts.1.1 }

same_at : (width : ℕ) (clusters : List (List ℕ)) (k : ℕ) → k < length clusters → list_all (λ c. text_columns c == width) clusters ≡ true → text_columns (cluster clusters k) ≡ width
same_at width [] k h e = absurd (omega (arith, h))
same_at width (c ∷ cs) zero h e = eqb-true (text_columns c) width (and_parts (text_columns c == width) (list_all (λ c. text_columns c == width) cs) e).0
same_at width (c ∷ cs) (suc k) h e = same_at width cs k (omega (arith, h)) (and_parts (text_columns c == width) (list_all (λ c. text_columns c == width) cs) e).1

-- clusters that a style takes, each a plain text
abbrev ArePlainClusters : List (List ℕ) → Type 0
ArePlainClusters clusters = (progress_fault clusters ≡ None) × All IsPlainText clusters

pub taken_are_plain : TakenArePlain
taken_are_plain clusters x =
    let width = text_columns (cluster clusters 0) in
    let is = lawful clusters x.taken in
    let all : list_all (λ c. text_columns c == width) (clusters_of x.text) ≡ true = ap (list_all (λ c. text_columns c == width)) (sym x.same) ∙ is.same in
    subst (All IsPlainText) (sym x.same) (clusters_are_plain width x.text x.utf8 all is.some)

takes_cluster : (clusters : List (List ℕ)) (k : ℕ) → k < length clusters → ArePlainClusters clusters → Takes (text_columns (cluster clusters 0)) (cluster clusters k)
takes_cluster clusters k h are =
    let plain : IsPlainText (cluster clusters k) = All-get_or IsPlainText clusters k [] h are.1 in
    record { utf8 = plain.0; plain = plain.1; columns = same_at (text_columns (cluster clusters 0)) clusters k h (lawful clusters are.0).same }

-- ---- cells

record IsProper (f : Fraction) : Type 0 where
  some : 0 < f.den
  part : f.num ≤ f.den

proper : (position : ℕ) (len : Option ℕ) → IsProper (fraction_of position len)
proper position None = record { some = omega arith; part = omega arith }
proper position (Some zero) = record { some = omega arith; part = omega arith }
proper position (Some (suc n)) = record { some = omega arith; part = omega arith }

-- the fraction that a bar shows
proper_bar : (p : Progress) (bar : BarKey) → IsProper (bar_fraction p bar)
proper_bar p bar =
    let done = proper p.position p.len in
    let some : 0 < (bar_fraction p bar).den = grind (arith, done.some, done.part) in
    let part : (bar_fraction p bar).num ≤ (bar_fraction p bar).den = grind (arith, done.some, done.part) in
    record { some = some; part = part }

-- where a shade stands, and that a cell is left for it
record Shaded (f : Fraction) (cells clusters : ℕ) (shade : Option ℕ) : Type 0 where
  between : IfSome shade (λ k. (0 < k) × (k < clusters - 1))
  room : filled_cells f cells + length (option_to_list shade) ≤ cells

shaded_by : (a b d : Bool) (f : Fraction) (cells clusters : ℕ) → IsProper f → filled_cells f cells ≤ cells → nat_lt (filled_cells f cells) cells ≡ b → nat_lt 0 (clusters - 2) ≡ d
    → Shaded f cells clusters (if a && b && d then Some (clusters - 2 - f.num * cells % f.den * (clusters - 2) / f.den) else None)
shaded_by true true true f cells clusters is fits left some =
    let shades = clusters - 2 in
    let more : 0 < shades = ltb-true 0 shades some in
    let rest : f.num * cells % f.den < f.den = mod-lt (f.num * cells) is.some in
    let passed : f.num * cells % f.den * shades / f.den < shades = (div-lt_iff_lt-mul is.some).1
    (subst (λ k. f.num * cells % f.den * shades < k) (mul_comm f.den shades) (mul-lt-mul_of_pos_right rest more)) in
    record { between = (omega (arith, passed, more), omega (arith, more)); room = omega (arith, ltb-true (filled_cells f cells) cells left) }
shaded_by true true false f cells clusters is fits left some = record { between = tt; room = omega (arith, fits) }
shaded_by true false d f cells clusters is fits left some = record { between = tt; room = omega (arith, fits) }
shaded_by false b d f cells clusters is fits left some = record { between = tt; room = omega (arith, fits) }

filled_fit : (f : Fraction) (cells : ℕ) → IsProper f → filled_cells f cells ≤ cells
filled_fit f cells is = div-le_of_le-mul f.den (mul-le-mul_right cells is.part)

shaded : (f : Fraction) (cells clusters : ℕ) → IsProper f → Shaded f cells clusters (shade_of f cells clusters)
shaded f cells clusters is =
    shaded_by (nat_lt 0 (f.num * cells)) (nat_lt (filled_cells f cells) cells) (nat_lt 0 (clusters - 2)) f cells clusters is (filled_fit f cells is) refl refl

-- ---- columns

takes_shade : (clusters : List (List ℕ)) (shade : Option ℕ) → ArePlainClusters clusters → IfSome shade (λ k. (0 < k) × (k < length clusters - 1))
    → Takes (length (option_to_list shade) * text_columns (cluster clusters 0)) (concat (map (cluster clusters) (option_to_list shade)))
takes_shade clusters None are between = takes_as 0 (0 * text_columns (cluster clusters 0)) [] (omega arith) takes_none
takes_shade clusters (Some k) are between =
    let u = text_columns (cluster clusters 0) in
    subst (Takes (1 * u)) (sym (append-nil (cluster clusters k))) (takes_as u (1 * u) (cluster clusters k) (omega arith) (takes_cluster clusters k (omega (arith, between.1)) are))

distributes : (a b c u n : ℕ) → a + b + c ≡ n → a * u + b * u + c * u ≡ n * u
distributes a b c u n e = ap (λ k. k + c * u) (sym (add-mul a b u)) ∙ sym (add-mul (a + b) c u) ∙ ap (λ k. k * u) e

takes_proper : (clusters : List (List ℕ)) (colours : Bool) (alternative : List ℕ) (f : Fraction) (width : ℕ) → IsProper f → AreTaken clusters
    → Takes (cells_in clusters width * text_columns (cluster clusters 0)) (bar_text clusters colours alternative f width)
takes_proper clusters colours alternative f width is x =
    let are : ArePlainClusters clusters = (x.taken, taken_are_plain clusters x) in
    let n = cells_in clusters width in
    let u = text_columns (cluster clusters 0) in
    let many = (lawful clusters are.0).many in
    let shade = shade_of f n (length clusters) in
    let s = shaded f n (length clusters) is in
    let begun = takes_both (filled_cells f n * u) (length (option_to_list shade) * u) (times (filled_cells f n) (cluster clusters 0)) (concat (map (cluster clusters) (option_to_list shade)))
    (takes_times (filled_cells f n) u (cluster clusters 0) (takes_cluster clusters 0 (omega (arith, many)) are)) (takes_shade clusters shade are s.between) in
    let left = cells_left f n (length clusters) in
    let last = cluster clusters (length clusters - 1) in
    let rest = takes_styled (left * u) colours alternative (times left last) (takes_times left u last (takes_cluster clusters (length clusters - 1) (omega (arith, many)) are)) in
    let all : filled_cells f n + length (option_to_list shade) + left ≡ n = omega (arith, s.room) in
    subst (Takes (n * u)) (sym (bar_parts clusters colours alternative f width n refl))
    (takes_as (filled_cells f n * u + length (option_to_list shade) * u + left * u) (n * u) (begun_text clusters f n ++ styled colours alternative (rest_text clusters f n))
    (distributes (filled_cells f n) (length (option_to_list shade)) left u n all)
    (takes_both (filled_cells f n * u + length (option_to_list shade) * u) (left * u) (begun_text clusters f n) (styled colours alternative (rest_text clusters f n)) begun rest))

-- the bar of a key
pub takes_bar : (clusters : List (List ℕ)) (colours : Bool) (alternative : List ℕ) (p : Progress) (bar : BarKey) (width : ℕ) → AreTaken clusters
    → Takes (cells_in clusters width * text_columns (cluster clusters 0)) (bar_text clusters colours alternative (bar_fraction p bar) width)
takes_bar clusters colours alternative p bar width are = takes_proper clusters colours alternative (bar_fraction p bar) width (proper_bar p bar) are

pub bars_take_their_cells : BarsTakeTheirCells
bars_take_their_cells clusters colours alternative position len width are =
    (takes_proper clusters colours alternative (fraction_of position len) width (proper position len) are).columns

pub bars_fit : BarsFit
bars_fit clusters colours alternative position len width are =
    omega (arith, bars_take_their_cells clusters colours alternative position len width are, cells_fit clusters width)

pub exact : (width u : ℕ) → width % u ≡ 0 → width / u * u ≡ width
exact width u e = omega (arith, e)

pub bars_fill : BarsFill
bars_fill clusters colours alternative position len width are even =
    bars_take_their_cells clusters colours alternative position len width are ∙ exact width (text_columns (cluster clusters 0)) even

-- ---- filled clusters

shown_with : (clusters : List (List ℕ)) (colours : Bool) (alternative : List ℕ) (f : Fraction) (width : ℕ) → IsProper f
    → ShowsFilled clusters colours alternative width (filled_cells f (cells_in clusters width)) (bar_text clusters colours alternative f width)
shown_with clusters colours alternative f width is =
    let n = cells_in clusters width in
    let s = shaded f n (length clusters) is in
    record {
      shade = shade_of f n (length clusters);
      unfilled = cells_left f n (length clusters);
      parts = bar_parts clusters colours alternative f width n refl;
      between = s.between;
      all = omega (arith, s.room);
    }

pub filled_are_shown : FilledAreShown
filled_are_shown clusters colours alternative position len width = shown_with clusters colours alternative (fraction_of position (Some len)) width (proper position (Some len))

pub never_shows_fewer : NeverShowsFewer
never_shows_fewer clusters colours alternative position later len width h =
    let n = cells_in clusters width in (
      filled_cells (fraction_of position (Some len)) n,
      filled_cells (fraction_of later (Some len)) n,
      filled_are_shown clusters colours alternative position len width,
      filled_are_shown clusters colours alternative later len width,
      never_fewer position later len n h,
    )
