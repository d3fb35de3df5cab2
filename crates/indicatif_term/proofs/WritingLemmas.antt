-- The bytes of a draw by its setting: whole lines below one another, lines among others, or lines over others.
use Rattle.std.proofs.Common.{◌≡◌, ℕ, suc, ◌+◌, Bool, true, false, List, [], ◌∷◌, ◌++◌, length, take, drop, replicate, sym, ◌∙◌, ap, arith, append_assoc, append-nil, length-append, if◌then◌else◌}
use Rattle.std.specs.Prelude.{◌&&◌, ◌||◌, not, nat_lt, ◌==◌}
use Rattle.std.proofs.lemmas.List.{take_at, drop_at, take-map, drop-map}
use Rattle.indicatif_term.specs.Calls.{anew_bytes}
use Rattle.indicatif_term.specs.Standing.{placed_of, placed, texts}
use Rattle.indicatif_term.specs.Inside.MoveBytes.{back_bytes, reach_bytes, lines_bytes}
use Rattle.indicatif_term.proofs.PaintingLemmas.{paint_bytes}
use Rattle.indicatif_term.specs.Inside.Changing.{PlacedLine, placed_lines, among_bytes, free_behind, moved_bytes}
use Rattle.indicatif_term.specs.Inside.Fills.{last_of}
use Rattle.indicatif_term.specs.Inside.Writings.{writing_bytes}
use Rattle.indicatif_term.specs.declared.engine.counts.Fresh.{Fresh}
use Rattle.indicatif_term.specs.declared.engine.remembered.StandingLine.{StandingLine}
use Rattle.indicatif_term.specs.declared.engine.writing.Manner.TheVariants.{Among, Over}
use Rattle.indicatif_term.proofs.CallTurnLemmas.{lt_after}
use Rattle.indicatif_term.proofs.RememberedLemmas.{lines_placed}
use Rattle.indicatif_term.proofs.AmongLemmas.{change_bytes, taken_parts}

-- lines that are written whole
pub whole_bytes : (anew below ends : Bool) (f : Fresh) (taken w fill : ℕ) (text : List (List ℕ)) (ls : List StandingLine) →
    writing_bytes (record { anew = anew; fresh = f; below = below; taken = taken; manner = Among 0; width = w; ends_below = ends; fill = fill }) text ls
    ≡ (if anew then anew_bytes else []) ++ (reach_bytes f.down f.rows ++ (paint_bytes below taken (text ++ texts ls) ends ++ replicate fill 0x20))
unfolding paint_bytes
whole_bytes anew below ends f taken w fill text ls = simp append_assoc

-- bytes in other brackets
regroup : (a b c d : List ℕ) → (a ++ b) ++ (c ++ d) ≡ a ++ ((b ++ c) ++ d)
regroup a b c d = append_assoc a b (c ++ d) ∙ ap (λ x. a ++ x) (sym (append_assoc b c d))

-- lines of which the first come among others
pub among_written : (anew : Bool) (f : Fresh) (free n w : ℕ) (ls : List StandingLine) (front : List PlacedLine) (last : PlacedLine) (more : List PlacedLine) → f.rows ≡ 0 →
    placed ls ≡ front ++ last ∷ more → length front + 1 ≡ n →
    writing_bytes (record { anew = anew; fresh = f; below = false; taken = free; manner = Among n; width = w; ends_below = false; fill = free_behind w (last_of (placed (drop n ls))) }) [] ls
    ≡ (if anew then anew_bytes else []) ++ change_bytes w free front last more
among_written anew f free n w ls front last more none s k =
    let e : front ++ last ∷ more ≡ (front ++ last ∷ []) ++ more = sym (append_assoc front (last ∷ []) more) in
    let size : length (front ++ last ∷ []) ≡ n = omega (arith, length-append front (last ∷ []), k) in
    let upper : placed (take n ls) ≡ front ++ last ∷ [] = sym (take-map placed_of n ls) ∙ ap (take n) (s ∙ e) ∙ take_at (front ++ last ∷ []) more n size in
    let lower : placed (drop n ls) ≡ more = sym (drop-map placed_of n ls) ∙ ap (drop n) (s ∙ e) ∙ drop_at (front ++ last ∷ []) more n size in
    let lines : texts (drop n ls) ≡ placed_lines more = sym (lines_placed (drop n ls)) ∙ ap placed_lines lower in
    let next : n ≡ suc (length front) = omega (arith, k) in
    let some : nat_lt 0 n ≡ true = ap (nat_lt 0) next ∙ lt_after (length front) in
    let a = if anew then anew_bytes else [] in
    let back = back_bytes false free in
    let fill = λ (x : List PlacedLine). replicate (free_behind w (last_of x)) 0x20 in
    let all = λ (r : List ℕ) (ps : List PlacedLine) (at : Bool) (ts : List (List ℕ)) (qs : List PlacedLine). (a ++ (r ++ back)) ++ (among_bytes w free ps ++ (lines_bytes at ts ++ fill qs)) in
    ap (λ r. all r (placed (take n ls)) (nat_lt 0 n || (not false && (free == 0))) (texts (drop n ls)) (placed (drop n ls))) (ap (reach_bytes f.down) none)
    ∙ ap (λ ps. all [] ps (nat_lt 0 n || (not false && (free == 0))) (texts (drop n ls)) (placed (drop n ls))) upper
    ∙ ap (λ b. all [] (front ++ last ∷ []) (b || (not false && (free == 0))) (texts (drop n ls)) (placed (drop n ls))) some
    ∙ ap (λ ts. all [] (front ++ last ∷ []) true ts (placed (drop n ls))) lines
    ∙ ap (λ qs. all [] (front ++ last ∷ []) true (placed_lines more) qs) lower
    ∙ regroup a back (among_bytes w free (front ++ last ∷ [])) (lines_bytes true (placed_lines more) ++ fill more)
    ∙ ap (λ x. a ++ (x ++ (lines_bytes true (placed_lines more) ++ fill more))) (taken_parts w free front last)

-- lines that are written over others
pub over_written : (anew below : Bool) (f : Fresh) (rows w : ℕ) (ls : List StandingLine) → f.rows ≡ 0 →
    writing_bytes (record { anew = anew; fresh = f; below = below; taken = 0; manner = Over rows; width = w; ends_below = false; fill = 0 }) [] ls
    ≡ (if anew then anew_bytes else []) ++ moved_bytes w rows (placed ls)
over_written anew below f rows w ls none =
    let a = if anew then anew_bytes else [] in
    let m = moved_bytes w rows (placed ls) in
    ap (λ r. (a ++ (r ++ [])) ++ (m ++ [])) (ap (reach_bytes f.down) none) ∙ ap (λ x. x ++ (m ++ [])) (append-nil a) ∙ ap (λ x. a ++ x) (append-nil m)
