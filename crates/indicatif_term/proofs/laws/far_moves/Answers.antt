use Rattle.std.proofs.Common.{◌≡◌, ℕ, ◌+◌, ◌-◌, Bool, true, false, min, max, length, refl, ap, arith, eqb}
use Rattle.std.specs.Prelude.{if◌then◌else◌}
use Rattle.indicatif_term.specs.Screen.{Screen, top}
use Rattle.indicatif_term.specs.Terminal.{GREATEST}
use Rattle.indicatif_term.proofs.laws.far_moves.Goals as goal

right_by : (b : Bool) (s : Screen) (m k : ℕ) → (b ≡ false → m ≡ k) →
    ◌≡◌ {A = Screen} (if b then s else record s { column = m }) (if b then s else record s { column = k })
right_by true s m k f = refl
right_by false s m k f = ap (λ c. record s { column = c }) (f refl)

pub returns : goal.returns
returns c = λ s n is h w. record {
  up = ap (λ r. record s { row = r }) (let e : max (s.row - n) (top s) ≡ max (s.row - min n GREATEST) (top s) = omega (arith, is.in_rows, is.in_window) in e);
  down = ap (λ r. record s { row = r }) (let e : min (s.row + n) (length s.rows - 1) ≡ min (s.row + min n GREATEST) (length s.rows - 1) = omega (arith, is.in_rows, is.in_window) in e);
  right = right_by (eqb s.column s.columns) s _ _ (λ _. let e : min (s.column + n) (s.columns - 1) ≡ min (s.column + min n GREATEST) (s.columns - 1) = omega arith in e);
  left = ap (λ k. record s { column = k }) (let e : s.column - n ≡ s.column - min n GREATEST = omega (arith, is.in_columns) in e);
}
