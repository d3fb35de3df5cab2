-- Whether a list has a second item.
use Rattle.std.proofs.Common.{◌≡◌, Bool, true, false, List, [], ◌∷◌, length, refl, sym, arith, ◌∙◌, ap, Option, Some, None}
use Rattle.std.specs.Prelude.{nat_lt, not, is_some, option_map}
use Rattle.std.specs.List.{slice_get}
use Rattle.std.proofs.lemmas.Bool.{le-ltb}

has_second : {A : Type 0} (xs : List A) → is_some (slice_get xs 1) ≡ not (nat_lt (length xs) 2)
has_second [] = refl
has_second (x ∷ []) = refl
has_second (x ∷ y ∷ ys) = sym (ap not (le-ltb (length (x ∷ y ∷ ys)) 2 (omega arith)))

same_some : {A B : Type 0} (v : A → B) (r : Option A) → is_some (option_map v r) ≡ is_some r
same_some v None = refl
same_some v (Some x) = refl

same_not : (a b : Bool) → not a ≡ not b → a ≡ b
same_not true true e = refl
same_not true false e = cc
same_not false true e = cc
same_not false false e = refl

-- where the second item is none, there are fewer than two
pub few : {A B : Type 0} (v : A → B) (r : Option A) (all : List B) (none : Bool) → option_map v r ≡ slice_get all 1 → is_some r ≡ not none → none ≡ nat_lt (length all) 2
few v r all none at is =
    same_not none (nat_lt (length all) 2) (sym is ∙ sym (same_some v r) ∙ ap is_some at ∙ has_second all)
