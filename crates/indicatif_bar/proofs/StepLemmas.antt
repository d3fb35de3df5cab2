-- What the parts of a style do, and what their names mean.
use Rattle.std.proofs.Common.{◌≡◌, ℕ, suc, ◌+◌, ◌≤◌, inl, inr, arith, List, [], ◌∷◌, ◌++◌, refl, sym, ◌∙◌, ap, map, take, length, length-append, string_bytes, Some, None, Bool, if◌then◌else◌}
use Rattle.std.specs.Prelude.{position, bytes_eq, nat_lt, not}
use Rattle.std.specs.List.{prefix_len, position_or_len, slice_get}
use Rattle.std.proofs.lemmas.List.{length-map, map-append}
use Rattle.std.proofs.lemmas.Option.{slice_get_cases, slice_get_within, get_or_from_slice_get, none-some}
use Rattle.std.proofs.Math.Seq.{take-suc}
use Rattle.std.specs.declared.string.String.{String}
use Rattle.std.specs.declared.alloc.Global.{Global}
use Rattle.indicatif_text.specs.Template.{TemplatePart}
use Rattle.indicatif_bar.specs.declared.style.steps.Step.{Step}
use Rattle.indicatif_bar.specs.Inside.Steps.{Effect, names_of}

prefix_map : {X Y : Type 0} (p : Y → Bool) (f : X → Y) (xs : List X) → prefix_len p (map f xs) ≡ prefix_len (λ x. p (f x)) xs
prefix_map p f [] = refl
prefix_map p f (x ∷ xs) = ap (λ n. if p (f x) then 1 + n else 0) (prefix_map p f xs)

position_map : {X Y : Type 0} (p : Y → Bool) (f : X → Y) (xs : List X) → position p (map f xs) ≡ position (λ x. p (f x)) xs
position_map p f xs =
    ap (λ n. if nat_lt n (length (map f xs)) then Some n else None) (prefix_map (λ y. not (p y)) f xs)
    ∙ ap (λ m. if nat_lt (position_or_len (λ x. p (f x)) xs) m then Some (position_or_len (λ x. p (f x)) xs) else None) (length-map xs f)

-- the place of a name among the names of trackers
pub place_is : {K : Type 0} (name : List ℕ) (keys : List (String Global × K)) → position (bytes_eq name) (names_of keys) ≡ position (λ entry. bytes_eq name (string_bytes entry.0)) keys
place_is name keys = position_map (bytes_eq name) (λ entry. string_bytes entry.0) keys

-- a step more, for the part at its place
pub step_more : (does : Step → Effect) (wanted : TemplatePart → Effect) (parts : List TemplatePart) (before after : List Step) (part : TemplatePart) (step : Step)
    → map does before ≡ map wanted (take (length before) parts) → after ≡ before ++ step ∷ []
    → slice_get parts (length before) ≡ Some part → does step ≡ wanted part
    → map does after ≡ map wanted (take (length after) parts)
step_more does wanted parts before after part step so is at same =
    let within = slice_get_within parts (length before) part at in
    let count : length after ≡ suc (length before) = omega (arith, ap length is, length-append before (step ∷ [])) in
    let whole : take (length after) parts ≡ take (length before) parts ++ part ∷ [] =
    ap (λ n. take n parts) count ∙ take-suc parts (length before) part within
    ∙ ap (λ p. take (length before) parts ++ p ∷ []) (get_or_from_slice_get parts (length before) part part at) in
    ap (map does) is ∙ map-append does before (step ∷ [])
    ∙ cc (so, same, map-append wanted (take (length before) parts) (part ∷ []), ap (map wanted) whole)

-- where no part is left, there are as many steps as parts
pub past_parts : (parts : List TemplatePart) (n : ℕ) → slice_get parts n ≡ None → length parts ≤ n
past_parts parts n none = elim (slice_get_cases parts n).1 [
  | inl found ↦ absurd (none-some _ (sym none ∙ found.2))
  | inr past ↦ past.0
]
