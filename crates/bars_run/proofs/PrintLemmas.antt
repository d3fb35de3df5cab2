-- Texts up to the last one that isn't empty.
use Rattle.std.proofs.Common.{append-nil, flat_map, ◌≡◌, ℕ, zero, suc, true, false, List, [], ◌∷◌, ◌++◌, length, replicate, refl, sym, ◌∙◌, ap, arith, if◌then◌else◌}
use Rattle.std.specs.Prelude.{◌&&◌, ◌==◌}
use Rattle.std.specs.List.{list_all}
use Rattle.std.proofs.lemmas.Bool.{ne_eqb}
use Rattle.std.proofs.lemmas.List.Folds.{list_all-append}
use Rattle.std.proofs.lemmas.Grind.{flat_map-append}
use Rattle.std.proofs.Math.Bool.{and-true, and-false}
use Rattle.indicatif_term.specs.Pictures.{is_empty}
use Rattle.bars_run.specs.Printing.{up_to_last}

-- a text that has no bytes
pub empty_is : (text : List ℕ) → is_empty text ≡ (length text == 0)
empty_is [] = refl
empty_is (c ∷ cs) = sym (ne_eqb (suc (length cs)) 0 (λ e. omega (arith, e)))

all_empty : (n : ℕ) → list_all is_empty (replicate n []) ≡ true
all_empty zero = refl
all_empty (suc n) = all_empty n

-- empty ones behind count for nothing
pub none_behind : (texts : List (List ℕ)) (n : ℕ) → up_to_last (texts ++ replicate n []) ≡ up_to_last texts
none_behind [] zero = refl
none_behind [] (suc n) = ap (λ t. if t then [] else [] ∷ up_to_last (replicate n [])) (all_empty n)
none_behind (t ∷ ts) n =
    let same : list_all is_empty (t ∷ (ts ++ replicate n [])) ≡ list_all is_empty (t ∷ ts) =
    list_all-append is_empty (t ∷ ts) (replicate n []) ∙ ap (λ b. list_all is_empty (t ∷ ts) && b) (all_empty n) ∙ and-true (list_all is_empty (t ∷ ts)) in
    ap (λ b. if b then [] else t ∷ up_to_last (ts ++ replicate n [])) same ∙ ap (λ xs. if list_all is_empty (t ∷ ts) then [] else t ∷ xs) (none_behind ts n)

-- nor does one
pub push_empty : (x : List ℕ) (texts : List (List ℕ)) → is_empty x ≡ true → up_to_last (texts ++ x ∷ []) ≡ up_to_last texts
push_empty [] texts e = none_behind texts 1
push_empty (c ∷ cs) texts e = absurd (let q : false ≡ true = e in cc)

-- all stand up to one that isn't empty
pub push_some : (x : List ℕ) (texts : List (List ℕ)) → is_empty x ≡ false → up_to_last (texts ++ x ∷ []) ≡ texts ++ x ∷ []
push_some x [] e = rw e refl
push_some x (t ∷ ts) e =
    let none : list_all is_empty (t ∷ (ts ++ x ∷ [])) ≡ false =
    list_all-append is_empty (t ∷ ts) (x ∷ []) ∙ ap (λ b. list_all is_empty (t ∷ ts) && (b && true)) e ∙ and-false (list_all is_empty (t ∷ ts)) in
    ap (λ b. if b then [] else t ∷ up_to_last (ts ++ x ∷ [])) none ∙ ap (λ xs. t ∷ xs) (push_some x ts e)

-- texts, each ended by a newline
abbrev pub ended : List (List ℕ) → List ℕ
ended texts = flat_map (λ text. text ++ 0x0A ∷ []) texts

pub ended-push : (texts : List (List ℕ)) (text : List ℕ) → ended (texts ++ text ∷ []) ≡ ended texts ++ (text ++ 0x0A ∷ [])
ended-push texts text = flat_map-append (λ t. t ++ 0x0A ∷ []) texts (text ∷ []) ∙ ap (λ xs. ended texts ++ xs) (append-nil (text ++ 0x0A ∷ []))
