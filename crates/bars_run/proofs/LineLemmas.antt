-- The lines of bytes are the pieces that are read of them, one after another.
use Rattle.std.proofs.Common.{inl, inr, ◌≡◌, ℕ, suc, ◌-◌, ◌<◌, Bool, true, false, List, [], ◌∷◌, length, take, get_or, refl, sym, ◌∙◌, ap, arith, if◌then◌else◌}
use Rattle.std.specs.Prelude.{◌==◌, ◌&&◌, nat_lt}
use Rattle.std.specs.Io.BufRead.{take_through, drop_through, ends_with_byte, strip_last, first_piece}
use Rattle.std.proofs.lemmas.Bool.{cases_Bool}
use Rattle.std.proofs.lemmas.Bool.Decides.{nat_tests}
use Rattle.bars_run.specs.Commands.{with_first, input_lines}

some : (n : ℕ) → nat_lt 0 (suc n) ≡ true
some n = grind (arith, nat_tests)

ends-more : (b x y : ℕ) (ys : List ℕ) → ends_with_byte b (x ∷ y ∷ ys) ≡ ends_with_byte b (y ∷ ys)
ends-more b x y ys =
    let n : length (x ∷ y ∷ ys) - 1 ≡ suc (length (y ∷ ys) - 1) = omega arith in
    ap (λ k. nat_lt 0 (length (x ∷ y ∷ ys)) && (get_or (x ∷ y ∷ ys) k 0 == b)) n
    ∙ ap (λ t. t && (get_or (y ∷ ys) (length (y ∷ ys) - 1) 0 == b)) (some (suc (length ys)) ∙ sym (some (length ys)))

under : (t : Bool) (x : ℕ) (xs ys : List ℕ) → (if t then x ∷ xs else x ∷ ys) ≡ x ∷ (if t then xs else ys)
under true x xs ys = refl
under false x xs ys = refl

strip-more : (b x : ℕ) (ys : List ℕ) → (x == b) ≡ false → strip_last b (x ∷ ys) ≡ x ∷ strip_last b ys
strip-more b x [] e = rw e refl
strip-more b x (y ∷ ys) e =
    let n : length (x ∷ y ∷ ys) - 1 ≡ suc (length (y ∷ ys) - 1) = omega arith in
    ap (λ t. if t then take (length (x ∷ y ∷ ys) - 1) (x ∷ y ∷ ys) else (x ∷ y ∷ ys)) (ends-more b x y ys)
    ∙ ap (λ k. if ends_with_byte b (y ∷ ys) then take k (x ∷ y ∷ ys) else (x ∷ y ∷ ys)) n
    ∙ under (ends_with_byte b (y ∷ ys)) x (take (length (y ∷ ys) - 1) (y ∷ ys)) (y ∷ ys)

-- a byte that ends no line goes before the piece behind it
piece-more : (x : ℕ) (xs : List ℕ) → (x == 0x0A) ≡ false → first_piece 0x0A (x ∷ xs) ≡ x ∷ first_piece 0x0A xs
piece-more x xs e = ap (λ t. strip_last 0x0A (if t then x ∷ [] else x ∷ take_through 0x0A xs)) e ∙ strip-more 0x0A x (take_through 0x0A xs) e

-- one that ends it gives an empty piece
piece-ends : (x : ℕ) (xs : List ℕ) → (x == 0x0A) ≡ true → first_piece 0x0A (x ∷ xs) ≡ []
piece-ends x xs e = ap (λ t. strip_last 0x0A (if t then x ∷ [] else x ∷ take_through 0x0A xs)) e ∙ ap (λ t. if t then take 0 (x ∷ []) else (x ∷ [])) e

drop-more : (x : ℕ) (xs : List ℕ) → (x == 0x0A) ≡ false → drop_through 0x0A (x ∷ xs) ≡ drop_through 0x0A xs
drop-more x xs e = ap (λ t. if t then xs else drop_through 0x0A xs) e

drop-ends : (x : ℕ) (xs : List ℕ) → (x == 0x0A) ≡ true → drop_through 0x0A (x ∷ xs) ≡ xs
drop-ends x xs e = ap (λ t. if t then xs else drop_through 0x0A xs) e

-- a piece, and the lines behind it
abbrev Parted : List ℕ → Type 0
Parted xs = input_lines xs ≡ first_piece 0x0A xs ∷ input_lines (drop_through 0x0A xs)

-- a line ends at this byte
ends_here : (x : ℕ) (xs : List ℕ) → (x == 0x0A) ≡ true → Parted (x ∷ xs)
ends_here x xs e =
    ap (λ t. if t then [] ∷ input_lines xs else with_first x (input_lines xs)) e
    ∙ ap (λ zs. zs ∷ input_lines xs) (sym (piece-ends x xs e))
    ∙ ap (λ zs. first_piece 0x0A (x ∷ xs) ∷ input_lines zs) (sym (drop-ends x xs e))

-- or goes on behind it
goes_on : (x : ℕ) (xs : List ℕ) → (x == 0x0A) ≡ false → with_first x (input_lines xs) ≡ (x ∷ first_piece 0x0A xs) ∷ input_lines (drop_through 0x0A xs) → Parted (x ∷ xs)
goes_on x xs e within =
    ap (λ t. if t then [] ∷ input_lines xs else with_first x (input_lines xs)) e
    ∙ within
    ∙ ap (λ zs. zs ∷ input_lines (drop_through 0x0A xs)) (sym (piece-more x xs e))
    ∙ ap (λ zs. first_piece 0x0A (x ∷ xs) ∷ input_lines zs) (sym (drop-more x xs e))

parted : (x : ℕ) (xs : List ℕ) → Parted (x ∷ xs)
parted x [] = elim (cases_Bool (x == 0x0A)) [ inl e ↦ ends_here x [] e | inr e ↦ goes_on x [] e refl ]
parted x (y ∷ ys) = elim (cases_Bool (x == 0x0A)) [ inl e ↦ ends_here x (y ∷ ys) e | inr e ↦ goes_on x (y ∷ ys) e (ap (with_first x) (parted y ys)) ]

-- what is left after a piece
pub next_line : (xs : List ℕ) → 0 < length xs → input_lines xs ≡ first_piece 0x0A xs ∷ input_lines (drop_through 0x0A xs)
next_line [] h = absurd (omega arith)
next_line (x ∷ xs) h = parted x xs
