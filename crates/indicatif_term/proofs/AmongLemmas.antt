-- The bytes of lines among others, by the last of them.
use Rattle.std.proofs.Common.{min, ◌≡◌, ℕ, Bool, true, false, List, [], ◌∷◌, ◌++◌, replicate, refl, ◌∙◌, ap, append-nil, if◌then◌else◌}
use Rattle.std.specs.Prelude.{◌&&◌, ◌==◌}
use Rattle.std.proofs.lemmas.Bool.{and_parts, eqb-true}
use Rattle.indicatif_term.specs.Inside.MoveBytes.{back_bytes, lines_bytes}
use Rattle.indicatif_term.specs.Inside.Changing.{PlacedLine, placed_lines, frame_bytes, all_stay, ending, ended, among_bytes, free_behind}
use Rattle.indicatif_term.specs.Inside.Fills.{last_of}

-- rows taken back, and lines above them
abbrev pub rewrite_bytes : ℕ → ℕ → List PlacedLine → PlacedLine → List ℕ
rewrite_bytes w taken front last =
    if (taken == 0) && all_stay (front ++ last ∷ []) then [] else back_bytes false taken ++ frame_bytes (min taken 1) (front ++ ending w last ∷ [])

-- the same, and more lines below them; the last one is filled
abbrev pub change_bytes : ℕ → ℕ → List PlacedLine → PlacedLine → List PlacedLine → List ℕ
change_bytes w taken front last more =
    rewrite_bytes w taken front last ++ (lines_bytes true (placed_lines more) ++ replicate (free_behind w (last_of more)) 0x20)

ended_last : (w : ℕ) (ps : List PlacedLine) (p : PlacedLine) → ended w (ps ++ p ∷ []) ≡ ps ++ ending w p ∷ []
ended_last w [] p = refl
ended_last w (q ∷ []) p = refl
ended_last w (q ∷ r ∷ ps) p = ap (λ x. q ∷ x) (ended_last w (r ∷ ps) p)

pub among_parts : (w taken : ℕ) (ps : List PlacedLine) (p : PlacedLine) → among_bytes w taken (ps ++ p ∷ []) ≡
    (if (taken == 0) && all_stay (ps ++ p ∷ []) then [] else frame_bytes (min taken 1) (ps ++ ending w p ∷ []))
among_parts w taken [] p = refl
among_parts w taken (q ∷ ps) p =
    ap (λ x. if (taken == 0) && all_stay (q ∷ (ps ++ p ∷ [])) then [] else frame_bytes (min taken 1) x) (ended_last w (q ∷ ps) p)

by_test : (b : Bool) (x y : List ℕ) → (b ≡ true → x ≡ []) → x ++ (if b then [] else y) ≡ (if b then [] else x ++ y)
by_test true x y e = append-nil x ∙ e refl
by_test false x y e = refl

pub taken_parts : (w taken : ℕ) (ps : List PlacedLine) (p : PlacedLine) → back_bytes false taken ++ among_bytes w taken (ps ++ p ∷ []) ≡ rewrite_bytes w taken ps p
taken_parts w taken ps p =
    ap (λ y. back_bytes false taken ++ y) (among_parts w taken ps p)
    ∙ by_test ((taken == 0) && all_stay (ps ++ p ∷ [])) (back_bytes false taken) (frame_bytes (min taken 1) (ps ++ ending w p ∷ []))
    (λ e. ap (back_bytes false) (eqb-true taken 0 (and_parts (taken == 0) (all_stay (ps ++ p ∷ [])) e).0))
