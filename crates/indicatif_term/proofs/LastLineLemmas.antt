-- Which line is the last of lists put together, and the spaces that fill its last row.
use Rattle.std.proofs.Common.{◌≡◌, ℕ, ◌-◌, ◌<◌, Bool, true, false, List, [], ◌∷◌, ◌++◌, length, replicate, refl, arith, Option, Some, None}
use Rattle.indicatif_term.specs.Inside.Fills.{last_of, line_end}

-- the columns that are free behind a line in its last row
abbrev pub fill_width : ℕ → List ℕ → ℕ
fill_width w line = w - line_end w line

-- spaces up to the end of the row of this line, if there is one
abbrev pub spaces_behind : ℕ → Option (List ℕ) → List ℕ
spaces_behind w None = []
spaces_behind w (Some line) = replicate (fill_width w line) 0x20

-- the spaces behind lines: none where the cursor goes below them
abbrev pub fill_bytes : Bool → ℕ → List (List ℕ) → List ℕ
fill_bytes true w lines = []
fill_bytes false w lines = spaces_behind w (last_of lines)

pub last_push : {A : Type 0} (xs : List A) (y : A) → last_of (xs ++ y ∷ []) ≡ Some y
last_push [] y = refl
last_push (x ∷ []) y = refl
last_push (x ∷ z ∷ xs) y = last_push (z ∷ xs) y

pub some_last : {A : Type 0} (y : A) (ys : List A) → last_of (y ∷ ys) ≡ None → ⊥
some_last y [] e = cc
some_last y (z ∷ ys) e = some_last z ys e

last_skip : (x : List ℕ) (ys : List (List ℕ)) → 0 < length ys → last_of (x ∷ ys) ≡ last_of ys
last_skip x [] h = absurd (omega arith)
last_skip x (y ∷ ys) h = refl

pub last_append : (xs ys : List (List ℕ)) → 0 < length ys → last_of (xs ++ ys) ≡ last_of ys
last_append [] ys h = refl
last_append (x ∷ []) ys h = last_skip x ys h
last_append (x ∷ z ∷ xs) ys h = last_append (z ∷ xs) ys h
