-- One line with fillers: its columns, and what stands there with a bar in the place of each filler.
use Rattle.std.proofs.Common.{◌≡◌, ℕ, Bool, true, false, List, [], ◌∷◌, ◌++◌, ◌∙◌, ap, arith, drop, Some, None, if◌then◌else◌}
use Rattle.std.specs.Prelude.{◌==◌, find, unwrap_or}
use Rattle.std.specs.Option.{option_map_or}
use Rattle.std.specs.List.{list_any, slice_get, slice_split, AllByRecursion}
use Rattle.std.specs.Str.{IsUtf8, IsCharBoundary}
use Rattle.std.proofs.lemmas.Bool.{or_parts, cond_both, eqb-true}
use Rattle.std.proofs.lemmas.List.Elements.{All-from_recursion, recursion_from_All}
use Rattle.std.proofs.lemmas.List.Folds.{list_any_none}
use Rattle.std.proofs.lemmas.Str.{IsCharBoundary-after_ascii}
use Rattle.indicatif_text.specs.Template.{Layout}
use Rattle.indicatif_bar.specs.Progress.{Progress}
use Rattle.indicatif_bar.specs.declared.style.keys.BarKey.{BarKey}
use Rattle.indicatif_bar.specs.Layout.{text_columns}
use Rattle.indicatif_bar.specs.Styles.{BarStyle, WideBarOf, is_filler, is_newline, columns_left, with_fillers_as, wide_text}
use Rattle.indicatif_bar.specs.StyleLaws.{AreTaken}
use Rattle.indicatif_bar.proofs.ScanLemmas.{whole}
use Rattle.indicatif_bar.proofs.BarWidthLemmas.{takes_bar}
use Rattle.indicatif_bar.proofs.WideBarLemmas.{filler_columns, takes_without, strange_newline}

-- the columns of one line with a filler
pub columns_of_line : (line : List ℕ) → list_any is_newline line ≡ false → list_any is_filler line ≡ true
    → option_map_or text_columns (find (list_any is_filler) (slice_split is_newline line)) 0 ≡ text_columns line
columns_of_line line one has =
    ap (λ ls. option_map_or text_columns (find (list_any is_filler) ls) 0) (whole 0x0A line one)
    ∙ ap (λ b. option_map_or text_columns (if b then Some line else None) 0) has

-- a filler at the front of a text
abbrev begins_with_filler : List ℕ → Bool
begins_with_filler text = option_map_or is_filler (slice_get text 0) false

begins : (text : List ℕ) → begins_with_filler text ≡ true → text ≡ 0 ∷ drop 1 text
begins [] e = absurd (cc e)
begins (b ∷ bs) e = ap (λ x. x ∷ bs) (eqb-true b 0 e)

pub splits_behind : (text : List ℕ) → IsUtf8 text → begins_with_filler text ≡ true → IsCharBoundary text 1
splits_behind [] u e = absurd (cc e)
splits_behind (b ∷ bs) u e = IsCharBoundary-after_ascii (b ∷ bs) 0 u (omega arith) (omega (arith, eqb-true b 0 e))

pub columns_behind : (text : List ℕ) → begins_with_filler text ≡ true → text_columns text ≡ text_columns (drop 1 text)
columns_behind text e = ap text_columns (begins text e) ∙ filler_columns (drop 1 text)

-- no line break
abbrev IsOneLine : List ℕ → Type 0
IsOneLine text = AllByRecursion (λ b. (b == 0x0A) ≡ false) text

both : (xs ys : List ℕ) → IsOneLine xs → IsOneLine ys → IsOneLine (xs ++ ys)
both [] ys x y = y
both (b ∷ xs) ys x y = (x.0, both xs ys x.1 y)

found_none : (text : List ℕ) → list_any is_newline text ≡ false → IsOneLine text
found_none [] e = tt
found_none (b ∷ bs) e = let parts = or_parts (is_newline b) (list_any is_newline bs) e in (parts.0, found_none bs parts.1)

filled : (shown line : List ℕ) → IsOneLine shown → IsOneLine line → IsOneLine (with_fillers_as shown line)
filled shown [] x y = tt
filled shown (b ∷ bs) x y =
    let first : List ℕ = if is_filler b then shown else b ∷ [] in
    both first (with_fillers_as shown bs) (cond_both (is_filler b) shown (b ∷ []) IsOneLine (λ _. x) (λ _. (y.0, tt))) (filled shown bs x y.1)

-- a bar in the place of each filler
abbrev pub with_bar : {K : Type 0} → BarStyle K → Progress → ℕ → List ℕ → BarKey → Layout → List ℕ
with_bar style p columns line key layout = with_fillers_as (wide_text style p columns line (WideBarOf key layout)) line

-- it leaves one line one line
pub bar_in_line : {K : Type 0} (style : BarStyle K) (p : Progress) (columns : ℕ) (line : List ℕ) (key : BarKey) (layout : Layout) → AreTaken style.clusters → list_any is_newline line ≡ false
    → list_any is_newline (with_bar style p columns line key layout) ≡ false
bar_in_line style p columns line key layout taken one =
    let bar = wide_text style p columns line (WideBarOf key layout) in
    let takes = takes_bar style.clusters style.colours (unwrap_or layout.alternative []) p key (columns_left columns line) taken in
    let none : IsOneLine bar = recursion_from_All (λ b. (b == 0x0A) ≡ false) bar (takes_without 0x0A _ bar strange_newline takes) in
    list_any_none is_newline (with_fillers_as bar line) (All-from_recursion (λ b. (b == 0x0A) ≡ false) (with_fillers_as bar line) (filled bar line none (found_none line one)))
