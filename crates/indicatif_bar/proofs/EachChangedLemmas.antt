-- A list whose elements are changed one after another from the front.
use Rattle.std.proofs.Common.{◌≡◌, ℕ, zero, suc, ◌+◌, ◌<◌, ◌≤◌, List, [], ◌∷◌, ◌++◌, map, take, drop, length, slice_index_or, slice_set, refl, ◌∙◌, ap, arith, append-nil}
use Rattle.std.proofs.lemmas.List.{take_all, drop_all, length-map}
use Rattle.indicatif_bar.specs.Trackers.{entries, changed_trackers}
use Rattle.std.proofs.Common.{String, Global, string_bytes}

-- the elements before `i` are changed
abbrev pub changed_before : {A : Type 0} → (A → A) → List A → ℕ → List A
changed_before f xs i = map f (take i xs) ++ drop i xs

-- the element at `i` is as it was
pub next_is : {A : Type 0} (f : A → A) (xs : List A) (i : ℕ) (d : A) → i < length xs → slice_index_or (changed_before f xs i) i d ≡ slice_index_or xs i d
next_is f [] i d h = absurd (omega arith)
next_is f (x ∷ xs) zero d h = refl
next_is f (x ∷ xs) (suc i) d h = next_is f xs i d (omega arith)

-- once it is changed too
pub one_more_changed : {A : Type 0} (f : A → A) (xs : List A) (i : ℕ) (d : A) → i < length xs → slice_set (changed_before f xs i) i (f (slice_index_or xs i d)) ≡ changed_before f xs (suc i)
one_more_changed f [] i d h = absurd (omega arith)
one_more_changed f (x ∷ xs) zero d h = refl
one_more_changed f (x ∷ xs) (suc i) d h = ap (λ l. f x ∷ l) (one_more_changed f xs i d (omega arith))

-- the next element of a list so changed, changed in turn
pub changes_next : {A : Type 0} (f : A → A) (xs ys : List A) (i : ℕ) (d new : A) → i < length xs → ys ≡ changed_before f xs i → new ≡ f (slice_index_or ys i d)
    → slice_set ys i new ≡ changed_before f xs (i + 1)
changes_next f xs ys i d new h e n =
    let next : suc i ≡ i + 1 = omega arith in
    ap (λ v. slice_set ys i v) (n ∙ ap f (ap (λ l. slice_index_or l i d) e ∙ next_is f xs i d h))
    ∙ ap (λ l. slice_set l i (f (slice_index_or xs i d))) e ∙ one_more_changed f xs i d h ∙ ap (changed_before f xs) next

-- all are changed
all_changed : {A : Type 0} (f : A → A) (xs : List A) (i : ℕ) → length xs ≤ i → changed_before f xs i ≡ map f xs
all_changed f xs i h = ap (λ l. map f l ++ drop i xs) (take_all i xs h) ∙ ap (λ l. map f xs ++ l) (drop_all i xs h) ∙ append-nil (map f xs)

-- a buffer's items, each changed
pub changes_all : {A : Type 0} (f : A → A) (old xs ys : List A) (i n : ℕ) → xs ≡ old → ys ≡ changed_before f xs i → length xs ≤ i → length old ≤ n →
    take n (ys ++ drop (length ys) old) ≡ map f old
changes_all f old xs ys i n same e h m =
    let all : ys ≡ map f old = e ∙ all_changed f xs i h ∙ ap (map f) same in
    let as_long : length ys ≡ length old = ap length all ∙ length-map old f in
    let rest : drop (length ys) old ≡ [] = drop_all (length ys) old (omega arith) in
    let whole : ys ++ drop (length ys) old ≡ ys = ap (λ l. ys ++ l) rest ∙ append-nil ys in
    ap (take n) whole ∙ take_all n ys (omega arith) ∙ all

-- trackers changed where they stand are changed in the entries
pub entries_changed : {K : Type 0} (change : K → K) (xs : List (String Global × K)) → entries (map (λ entry. (entry.0, change entry.1)) xs) ≡ changed_trackers change (entries xs)
entries_changed change [] = refl
entries_changed change (x ∷ xs) = ap (λ l. (string_bytes x.0, change x.1) ∷ l) (entries_changed change xs)
