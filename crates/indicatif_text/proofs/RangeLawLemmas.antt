-- The range of all columns of a text is the text.
use Rattle.std.proofs.Common.{◌≡◌, ℕ, ◌≤◌, ◌<◌, ◌+◌, ◌++◌, List, [], ◌∷◌, true, Bool, refl, ◌∙◌, ap, arith, if◌then◌else◌}
use Rattle.std.specs.Prelude.{nat_le, nat_lt, ◌&&◌, sum_by, flat_map}
use Rattle.std.proofs.lemmas.Bool.{lt-ltb}
use Rattle.std.proofs.lemmas.Bool.Decides.{nat_tests}
use Rattle.std.proofs.lemmas.List.Sums.{sum_by-cons, sum_by-append}
use Rattle.indicatif_text.specs.Columns.{width_of}
use Rattle.indicatif_text.specs.Pieces.{TextPiece, Colour, Run, pieces_of_text}
use Rattle.indicatif_text.specs.PieceLaws.{piece_text, run_text}
use Rattle.indicatif_text.specs.Range.{standing_within, pieces_within, ansi_range}
use Rattle.indicatif_text.specs.RangeLaws.{WholeRange}
use Rattle.indicatif_text.proofs.PieceLawLemmas.{pieces_join}
use Rattle.indicatif_text.proofs.RangeLemmas.{run_columns, all_columns}

le_test : (n m : ℕ) → n ≤ m → nat_le n m ≡ true
le_test n m h = grind (arith, nat_tests)

stands_by : (a b : Bool) (c : ℕ) (rest cs : List ℕ) → a ≡ true → b ≡ true → rest ≡ cs → (if a && b then c ∷ [] else []) ++ rest ≡ c ∷ cs
stands_by a b c rest cs e f r = rw (e, f) (ap (λ x. c ∷ x) r)

-- all characters of a run stand
standing_all : (end column : ℕ) (cs : List ℕ) → column + sum_by width_of cs ≤ end → standing_within 0 end column cs ≡ cs
standing_all end column [] h = refl
standing_all end column (c ∷ cs) h =
    let sum = sum_by-cons width_of c cs in
    let within : column + width_of c ≤ end = omega (arith, h, sum) in
    let after : column + width_of c + sum_by width_of cs ≤ end = omega (arith, h, sum) in
    stands_by (nat_le 0 column) (nat_le (column + width_of c) end) c (standing_within 0 end (column + width_of c) cs) cs
    (le_test 0 column (omega arith)) (le_test (column + width_of c) end within) (standing_all end (column + width_of c) cs after)

shown_by : (b : Bool) (text all : List ℕ) → b ≡ true → text ≡ all → (if b then text else []) ≡ all
shown_by b text all e t = rw e t

-- all pieces stand
pieces_all : (end column : ℕ) (ps : List TextPiece) → column + run_columns ps < end → pieces_within 0 end column ps ≡ flat_map piece_text ps
pieces_all end column [] h = refl
pieces_all end column (Colour sequence ∷ ps) h = ap (λ t. sequence ++ t) (pieces_all end column ps h)
pieces_all end column (Run text ∷ ps) h =
    let sum = sum_by-append width_of text (flat_map run_text ps) in
    let begins : column < end = omega (arith, h) in
    let within : column + sum_by width_of text ≤ end = omega (arith, h, sum) in
    let after : column + sum_by width_of text + run_columns ps < end = omega (arith, h, sum) in
    ap (λ t. t ++ pieces_within 0 end (column + sum_by width_of text) ps)
    (shown_by (nat_lt column end) (standing_within 0 end column text) text (lt-ltb column end begins) (standing_all end column text within))
    ∙ ap (λ t. text ++ t) (pieces_all end (column + sum_by width_of text) ps after)

pub whole_range : WholeRange
unfolding ansi_range
whole_range text end h = pieces_all end 0 (pieces_of_text text) (omega (arith, h, all_columns text)) ∙ pieces_join text
