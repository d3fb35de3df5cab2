-- What is weaker of each pair of two lists, and of what a result gives.
use Rattle.std.proofs.Common.{List, [], ◌∷◌, Result, Ok, Err, IfOk}
use Rattle.std.specs.List.{AllZip}

module _ {X Y : Type 0} (R S : X → Y → Type 0) (turn : (x : X) (y : Y) → R x y → S x y) where
  pub weaker : (xs : List X) (ys : List Y) → AllZip R xs ys → AllZip S xs ys
  weaker [] [] all = tt
  weaker [] (y ∷ ys) all = absurd all
  weaker (x ∷ xs) [] all = absurd all
  weaker (x ∷ xs) (y ∷ ys) all = (turn x y all.0, weaker xs ys all.1)

pub given : {T E : Type 0} (r : Result T E) (P Q : T → Type 0) → IfOk r P → ((v : T) → P v → Q v) → IfOk r Q
given (Ok v) P Q holds turn = turn v holds
given (Err e) P Q holds turn = tt
