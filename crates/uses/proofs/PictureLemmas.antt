-- What is known of a terminal that was read, and of answers by their meanings.
use Rattle.std.proofs.Common.{◌≡◌, ◌∙◌, ◌∷◌, [], Bool, List, Some, ap, map, refl, sym}
use Rattle.std.specs.Prelude.{◌||◌, IsTrue}
use Rattle.std.specs.List.{list_any}
use Rattle.indicatif_term.specs.Calls.{TermView, State, is_told}
use Rattle.indicatif_term.specs.Terminal.{Terminal}
use Rattle.indicatif_term.specs.Cells.{MemoryTerm, view_of}
use Rattle.indicatif_term.specs.OwnRows.{own_view, inner_term}
use Rattle.indicatif_term.specs.declared.target.own_rows.OwnRows.{OwnRows}

-- a terminal that is known to be this one tells this state
pub state_told : (m : MemoryTerm) (v : TermView) (t : Terminal) → Some (view_of m) ≡ Some v → v.told ≡ State t → m.terminal ≡ t
state_told m v t known_is told = let e : (view_of m).told ≡ v.told = cc in let f : State m.terminal ≡ State t = e ∙ told in cc

-- the terminal behind rows that are known to tell this state
pub rows_told : (own : OwnRows MemoryTerm) (v : TermView) (t : Terminal) → (IsTrue (is_told (own_view view_of own).told) → own_view view_of own ≡ view_of (inner_term own))
    → Some (own_view view_of own) ≡ Some v → v.told ≡ State t → (inner_term own).terminal ≡ t
rows_told own v t law known_is told =
    let e : (own_view view_of own).told ≡ v.told = cc in
    let f : (own_view view_of own).told ≡ State t = e ∙ told in
    state_told (inner_term own) v t (ap Some (sym (law (ap is_told f))) ∙ known_is) told

-- a test of elements by what they stand for
pub any_mapped : {X Y : Type 0} (p : Y → Bool) (f : X → Y) (xs : List X) → list_any p (map f xs) ≡ list_any (λ x. p (f x)) xs
any_mapped p f [] = refl
any_mapped p f (x ∷ xs) = ap (λ b. p (f x) || b) (any_mapped p f xs)
