-- A range has no more columns than it is wide, all colour sequences of its text, and no other characters; a plain text's is plain.
use Rattle.std.proofs.Common.{◌≡◌, ℕ, zero, suc, ◌+◌, ◌-◌, ◌≤◌, ◌<◌, Bool, true, false, List, [], ◌∷◌, ◌++◌, length, drop, Some, None, refl, sym, ◌∙◌, ap, subst, arith, if◌then◌else◌, inl, inr}
use Rattle.std.specs.Prelude.{◌==◌, ◌&&◌, nat_le, nat_lt, flat_map, is_some, sum_by}
use Rattle.std.specs.List.{list_all, AllByRecursion}
use Rattle.std.proofs.Math.Seq.{drop-append_seam, take-append_seam}
use Rattle.std.proofs.lemmas.Bool.{cases_Bool, cond_both, eqb-true, leb-true, and_parts}
use Rattle.std.proofs.lemmas.Bool.Decides.{nat_tests}
use Rattle.std.proofs.lemmas.List.Sums.{sum_by-cons, sum_by-append}
use Rattle.std.proofs.lemmas.List.Folds.{list_all-append}
use Rattle.unicode_width.specs.Width.{char_width}
use Rattle.indicatif_text.specs.Columns.{width_of, colour_length, visible, is_plain}
use Rattle.indicatif_text.specs.Pieces.{TextPiece, Run, Colour, pieces_of_text}
use Rattle.indicatif_text.specs.PieceLaws.{piece_text, run_text, IsExact, NoRunsAdjoin}
use Rattle.indicatif_text.specs.Range.{standing_within, run_within, pieces_within, ansi_range}
use Rattle.indicatif_text.specs.RangeLaws.{sequence_in, sequences_of, RangesFit, SequencesStay, NoCharacterIsAdded, RangesStayPlain}
use Rattle.indicatif_text.proofs.ColourSequenceLemmas.{hidden, visible_none}
use Rattle.indicatif_text.proofs.PieceLemmas.{first_colour, first_joined, none_left}
use Rattle.indicatif_text.proofs.PieceLawLemmas.{Sequence, Opened, sequence_is, sequence_from, sequence_before, sequence_length, none_before, none_of_empty, visible_past, all_exact, pieces_join, runs_are_longest, runs_are_visible}
use Rattle.indicatif_text.proofs.SeamLemmas.{all_pass, is_apart, sequence_joins, visible_apart, sequences_apart}

-- ---- what stands within of a run is a part of it without a gap, so that no colour sequence arises

-- a colour sequence begins at no place of a run
abbrev Uncoloured : List ℕ → Type 0
Uncoloured text = (place : ℕ) → colour_length (drop place text) ≡ None

-- what follows the second of two texts that join to the first
record Begins (front whole : List ℕ) : Type 0 where
  more : List ℕ
  parts : whole ≡ front ++ more

skipped_by : (a b : Bool) (c : ℕ) (rest : List ℕ) → b ≡ false → (if a && b then c ∷ [] else []) ++ rest ≡ rest
skipped_by true b c rest e = rw e refl
skipped_by false b c rest e = refl

nothing_by : (a b : Bool) (c : ℕ) (rest : List ℕ) → b ≡ false → rest ≡ [] → (if a && b then c ∷ [] else []) ++ rest ≡ []
nothing_by a b c rest e r = skipped_by a b c rest e ∙ r

one_by : (a b : Bool) (c : ℕ) (rest : List ℕ) → a ≡ true → b ≡ true → (if a && b then c ∷ [] else []) ++ rest ≡ c ∷ rest
one_by a b c rest e f = rw (e, f) refl

past_end : (column end : ℕ) → end < column → nat_le column end ≡ false
past_end column end h = grind (arith, nat_tests)

begun_at : (start column : ℕ) → start ≤ column → nat_le start column ≡ true
begun_at start column h = grind (arith, nat_tests)

ends_past : (column end : ℕ) → nat_le column end ≡ false → end < column
ends_past column end h = grind (arith, nat_tests)

-- nothing stands behind the end
none_behind : (start end column : ℕ) (cs : List ℕ) → end < column → standing_within start end column cs ≡ []
none_behind start end column [] h = refl
none_behind start end column (c ∷ cs) h =
    let after : end < column + width_of c = omega (arith, h) in
    nothing_by (nat_le start column) (nat_le (column + width_of c) end) c (standing_within start end (column + width_of c) cs)
    (past_end (column + width_of c) end after) (none_behind start end (column + width_of c) cs after)

-- from the start on, what stands is a beginning
standing_begins : (start end column : ℕ) (cs : List ℕ) → start ≤ column → Begins (standing_within start end column cs) cs
standing_begins start end column [] h = record { more = []; parts = refl }
standing_begins start end column (c ∷ cs) h = elim (cases_Bool (nat_le (column + width_of c) end)) [
  | inl fits ↦
      let rest = standing_begins start end (column + width_of c) cs (omega (arith, h)) in
      let is = one_by (nat_le start column) (nat_le (column + width_of c) end) c (standing_within start end (column + width_of c) cs) (begun_at start column h) fits in
      record { more = rest.more; parts = ap (λ x. c ∷ x) rest.parts ∙ ap (λ x. x ++ rest.more) (sym is) }
  | inr over ↦
      let after = ends_past (column + width_of c) end over in
      let is = nothing_by (nat_le start column) (nat_le (column + width_of c) end) c (standing_within start end (column + width_of c) cs) over (none_behind start end (column + width_of c) cs after) in
      record { more = c ∷ cs; parts = ap (λ x. x ++ c ∷ cs) (sym is) }
]

front_uncoloured : (c : ℕ) (front cs : List ℕ) → Begins front cs → Uncoloured (c ∷ cs) → Uncoloured front → Uncoloured (c ∷ front)
front_uncoloured c front cs b whole rest zero = none_before (c ∷ front) b.more (ap (λ x. colour_length (c ∷ x)) (sym b.parts) ∙ whole 0)
front_uncoloured c front cs b whole rest (suc place) = rest place

standing_uncoloured : (start end column : ℕ) (cs : List ℕ) → Uncoloured cs → Uncoloured (standing_within start end column cs)
standing_uncoloured start end column [] u = u
standing_uncoloured start end column (c ∷ cs) u =
    let rest = standing_within start end (column + width_of c) cs in
    let own = standing_uncoloured start end (column + width_of c) cs (λ place. u (suc place)) in
    elim (cases_Bool (nat_le start column)) [
      | inr before ↦ subst Uncoloured (ap (λ b. (if b && nat_le (column + width_of c) end then c ∷ [] else []) ++ rest) (sym before)) own
      | inl begun ↦ elim (cases_Bool (nat_le (column + width_of c) end)) [
        | inr over ↦ subst Uncoloured (sym (skipped_by (nat_le start column) (nat_le (column + width_of c) end) c rest over)) own
        | inl fits ↦
            let b = standing_begins start end (column + width_of c) cs (let h = leb-true start column begun in omega (arith, h)) in
            subst Uncoloured (sym (one_by (nat_le start column) (nat_le (column + width_of c) end) c rest begun fits)) (front_uncoloured c rest cs b u own)
      ]
    ]

run_uncoloured : (start end column : ℕ) (cs : List ℕ) → Uncoloured cs → Uncoloured (run_within start end column cs)
run_uncoloured start end column cs u =
    cond_both (nat_lt column end) (standing_within start end column cs) [] (λ text. Uncoloured text) (λ _. standing_uncoloured start end column cs u) (λ _. none_of_empty)

-- such a text is seen whole, and has no colour sequence
uncoloured_seen : (cs : List ℕ) → Uncoloured cs → visible cs ≡ cs
uncoloured_seen [] u = visible_none
uncoloured_seen (c ∷ cs) u = sym (visible_past c cs (u 0)) ∙ ap (λ x. c ∷ x) (uncoloured_seen cs (λ place. u (suc place)))

uncoloured_plain : (cs : List ℕ) → Uncoloured cs → sequences_of cs ≡ []
uncoloured_plain [] u = ap (flat_map sequence_in) none_left
uncoloured_plain (c ∷ cs) u = ap (flat_map sequence_in) (first_joined c cs (u 0)) ∙ sequence_joins c (pieces_of_text cs) ∙ uncoloured_plain cs (λ place. u (suc place))

-- ---- the pieces of a range

-- a colour sequence in front is not seen, and counted
module _ (sequence rest : List ℕ) (exact : colour_length sequence ≡ Some (length sequence)) where
  stands_first : Sequence sequence (length sequence)
  stands_first = sequence_from sequence (length sequence) exact

  first_of_both : colour_length (sequence ++ rest) ≡ Some (length sequence)
  first_of_both = sequence_is (sequence_before rest stands_first)

  sequence_unseen : visible (sequence ++ rest) ≡ visible rest
  sequence_unseen = hidden (length sequence) (sequence ++ rest) first_of_both (sequence_length stands_first) ∙ ap visible (drop-append_seam sequence rest)

  sequence_left : sequences_of (sequence ++ rest) ≡ sequence ∷ sequences_of rest
  sequence_left =
      ap (flat_map sequence_in) (first_colour (length sequence) (sequence ++ rest) first_of_both (sequence_length stands_first))
      ∙ ap (λ x. x ∷ sequences_of (drop (length sequence) (sequence ++ rest))) (take-append_seam sequence rest)
      ∙ ap (λ x. sequence ∷ sequences_of x) (drop-append_seam sequence rest)

escape_apart : (c : ℕ) (cs : List ℕ) → c ≡ 0x1B → is_apart (c ∷ cs) ≡ true
escape_apart c cs e = ap (λ d. is_apart (d ∷ cs)) e

opened_apart : {cs : List ℕ} {n : ℕ} (rest : List ℕ) → Sequence cs n → is_apart (cs ++ rest) ≡ true
opened_apart rest (Opened c d n cs opened parameters) = escape_apart c (d ∷ cs ++ rest) (eqb-true c 0x1B (and_parts (c == 0x1B) (d == 0x5B) opened).0)

-- what is left of pieces that no run begins
rest_apart : (start end column : ℕ) (text : List ℕ) (ps : List TextPiece) → AllByRecursion IsExact ps → NoRunsAdjoin (Run text ∷ ps) → is_apart (pieces_within start end column ps) ≡ true
rest_apart start end column text [] exact apart = refl
rest_apart start end column text (Run next ∷ ps) exact apart = absurd apart
rest_apart start end column text (Colour sequence ∷ ps) exact apart =
    opened_apart (pieces_within start end column ps) (sequence_from sequence (length sequence) exact.0)

less_adjoin : (text : List ℕ) (ps : List TextPiece) → NoRunsAdjoin (Run text ∷ ps) → NoRunsAdjoin ps
less_adjoin text [] apart = tt
less_adjoin text (Run next ∷ ps) apart = absurd apart
less_adjoin text (Colour sequence ∷ ps) apart = apart

-- the characters of the runs that stay
abbrev stays_within : ℕ → ℕ → ℕ → List TextPiece → List ℕ
stays_within start end column [] = []
stays_within start end column (Colour sequence ∷ ps) = stays_within start end column ps
stays_within start end column (Run text ∷ ps) = run_within start end column text ++ stays_within start end (column + sum_by width_of text) ps

left_seen : (start end column : ℕ) (ps : List TextPiece) → AllByRecursion IsExact ps → NoRunsAdjoin ps → visible (pieces_within start end column ps) ≡ stays_within start end column ps
left_seen start end column [] exact apart = visible_none
left_seen start end column (Colour sequence ∷ ps) exact apart =
    sequence_unseen sequence (pieces_within start end column ps) exact.0 ∙ left_seen start end column ps exact.1 apart
left_seen start end column (Run text ∷ ps) exact apart =
    let after = column + sum_by width_of text in
    visible_apart (run_within start end column text) (pieces_within start end after ps) (rest_apart start end after text ps exact.1 apart)
    ∙ ap (λ x. x ++ visible (pieces_within start end after ps)) (uncoloured_seen (run_within start end column text) (run_uncoloured start end column text exact.0))
    ∙ ap (λ x. run_within start end column text ++ x) (left_seen start end after ps exact.1 (less_adjoin text ps apart))

sequences_left : (start end column : ℕ) (ps : List TextPiece) → AllByRecursion IsExact ps → NoRunsAdjoin ps → sequences_of (pieces_within start end column ps) ≡ flat_map sequence_in ps
sequences_left start end column [] exact apart = ap (flat_map sequence_in) none_left
sequences_left start end column (Colour sequence ∷ ps) exact apart =
    sequence_left sequence (pieces_within start end column ps) exact.0 ∙ ap (λ x. sequence ∷ x) (sequences_left start end column ps exact.1 apart)
sequences_left start end column (Run text ∷ ps) exact apart =
    let after = column + sum_by width_of text in
    sequences_apart (run_within start end column text) (pieces_within start end after ps) (rest_apart start end after text ps exact.1 apart)
    ∙ ap (λ x. x ++ sequences_of (pieces_within start end after ps)) (uncoloured_plain (run_within start end column text) (run_uncoloured start end column text exact.0))
    ∙ sequences_left start end after ps exact.1 (less_adjoin text ps apart)

pub sequences_stay : SequencesStay
unfolding ansi_range
sequences_stay text start end = sequences_left start end 0 (pieces_of_text text) (all_exact text).exact (runs_are_longest text)

-- ---- columns

-- a number of columns fit from a column on, and within the range
record Fits (start end column n : ℕ) : Type 0 where
  left : n ≤ end - column
  wide : n ≤ end - start

less_columns : (start end column w n : ℕ) → Fits start end (column + w) n → Fits start end column n
less_columns start end column w n f = record { left = omega (arith, f.left); wide = f.wide }

more_columns : (start end column w n : ℕ) → start ≤ column → column + w ≤ end → Fits start end (column + w) n → Fits start end column (w + n)
more_columns start end column w n begun fits f = record { left = omega (arith, begun, fits, f.left); wide = omega (arith, begun, fits, f.left) }

-- characters of a run fit, with what fits behind the run
standing_fits : (start end column n : ℕ) (cs : List ℕ) → Fits start end (column + sum_by width_of cs) n → Fits start end column (sum_by width_of (standing_within start end column cs) + n)
standing_fits start end column n [] f = record { left = omega (arith, f.left); wide = omega (arith, f.wide) }
standing_fits start end column n (c ∷ cs) f =
    let sum = sum_by-cons width_of c cs in
    let w = width_of c in
    let rest = standing_within start end (column + w) cs in
    let behind : Fits start end (column + w + sum_by width_of cs) n = record { left = omega (arith, sum, f.left); wide = f.wide } in
    let own = standing_fits start end (column + w) n cs behind in
    elim (cases_Bool (nat_le start column)) [
      | inr before ↦ subst (λ x. Fits start end column (sum_by width_of x + n)) (ap (λ b. (if b && nat_le (column + w) end then c ∷ [] else []) ++ rest) (sym before))
          (less_columns start end column w (sum_by width_of rest + n) own)
      | inl begun ↦ elim (cases_Bool (nat_le (column + w) end)) [
        | inr over ↦ subst (λ x. Fits start end column (sum_by width_of x + n)) (sym (skipped_by (nat_le start column) (nat_le (column + w) end) c rest over))
            (less_columns start end column w (sum_by width_of rest + n) own)
        | inl fits ↦
            let from : start ≤ column = leb-true start column begun in
            let to : column + w ≤ end = leb-true (column + w) end fits in
            let all : w + (sum_by width_of rest + n) ≡ sum_by width_of (c ∷ rest) + n = omega (arith, sum_by-cons width_of c rest) in
            subst (λ x. Fits start end column (sum_by width_of x + n)) (sym (one_by (nat_le start column) (nat_le (column + w) end) c rest begun fits))
            (subst (Fits start end column) all (more_columns start end column w (sum_by width_of rest + n) from to own))
      ]
    ]

run_fits : (start end column n : ℕ) (cs : List ℕ) → Fits start end (column + sum_by width_of cs) n → Fits start end column (sum_by width_of (run_within start end column cs) + n)
run_fits start end column n cs f =
    cond_both (nat_lt column end) (standing_within start end column cs) [] (λ text. Fits start end column (sum_by width_of text + n))
    (λ _. standing_fits start end column n cs f) (λ _. record { left = omega (arith, f.left); wide = omega (arith, f.wide) })

left_fits : (start end column : ℕ) (ps : List TextPiece) → Fits start end column (sum_by width_of (stays_within start end column ps))
left_fits start end column [] = record { left = omega arith; wide = omega arith }
left_fits start end column (Colour sequence ∷ ps) = left_fits start end column ps
left_fits start end column (Run text ∷ ps) =
    let rest = stays_within start end (column + sum_by width_of text) ps in
    subst (Fits start end column) (sym (sum_by-append width_of (run_within start end column text) rest))
    (run_fits start end column (sum_by width_of rest) text (left_fits start end (column + sum_by width_of text) ps))

pub ranges_fit : RangesFit
unfolding ansi_range
ranges_fit text start end =
    let seen = ap (sum_by width_of) (left_seen start end 0 (pieces_of_text text) (all_exact text).exact (runs_are_longest text)) in
    omega (arith, seen, (left_fits start end 0 (pieces_of_text text)).wide)

-- ---- characters

standing_all_such : (p : ℕ → Bool) (start end column : ℕ) (cs : List ℕ) → list_all p cs ≡ true → list_all p (standing_within start end column cs) ≡ true
standing_all_such p start end column [] e = refl
standing_all_such p start end column (c ∷ cs) e =
    let parts = and_parts (p c) (list_all p cs) e in
    all_pass p (if nat_le start column && nat_le (column + width_of c) end then c ∷ [] else []) (standing_within start end (column + width_of c) cs)
    (cond_both (nat_le start column && nat_le (column + width_of c) end) (c ∷ []) [] (λ x. list_all p x ≡ true) (λ _. rw parts.0 refl) (λ _. refl))
    (standing_all_such p start end (column + width_of c) cs parts.1)

run_all_such : (p : ℕ → Bool) (start end column : ℕ) (cs : List ℕ) → list_all p cs ≡ true → list_all p (run_within start end column cs) ≡ true
run_all_such p start end column cs e =
    cond_both (nat_lt column end) (standing_within start end column cs) [] (λ x. list_all p x ≡ true) (λ _. standing_all_such p start end column cs e) (λ _. refl)

pieces_all_such : (p : ℕ → Bool) (start end column : ℕ) (ps : List TextPiece) → list_all p (flat_map piece_text ps) ≡ true → list_all p (pieces_within start end column ps) ≡ true
pieces_all_such p start end column [] e = refl
pieces_all_such p start end column (Colour sequence ∷ ps) e =
    let parts = and_parts (list_all p sequence) (list_all p (flat_map piece_text ps)) (sym (list_all-append p sequence (flat_map piece_text ps)) ∙ e) in
    all_pass p sequence (pieces_within start end column ps) parts.0 (pieces_all_such p start end column ps parts.1)
pieces_all_such p start end column (Run text ∷ ps) e =
    let after = column + sum_by width_of text in
    let parts = and_parts (list_all p text) (list_all p (flat_map piece_text ps)) (sym (list_all-append p text (flat_map piece_text ps)) ∙ e) in
    all_pass p (run_within start end column text) (pieces_within start end after ps) (run_all_such p start end column text parts.0) (pieces_all_such p start end after ps parts.1)

pub no_character_is_added : NoCharacterIsAdded
unfolding ansi_range
no_character_is_added is_such text start end e = pieces_all_such is_such start end 0 (pieces_of_text text) (ap (list_all is_such) (pieces_join text) ∙ e)

left_all_such : (p : ℕ → Bool) (start end column : ℕ) (ps : List TextPiece) → list_all p (flat_map run_text ps) ≡ true → list_all p (stays_within start end column ps) ≡ true
left_all_such p start end column [] e = refl
left_all_such p start end column (Colour sequence ∷ ps) e = left_all_such p start end column ps e
left_all_such p start end column (Run text ∷ ps) e =
    let after = column + sum_by width_of text in
    let parts = and_parts (list_all p text) (list_all p (flat_map run_text ps)) (sym (list_all-append p text (flat_map run_text ps)) ∙ e) in
    all_pass p (run_within start end column text) (stays_within start end after ps) (run_all_such p start end column text parts.0) (left_all_such p start end after ps parts.1)

pub ranges_stay_plain : RangesStayPlain
unfolding ansi_range is_plain
ranges_stay_plain text start end e =
    let ps = pieces_of_text text in
    let has_width : ℕ → Bool = λ c. is_some (char_width false c) in
    ap (list_all has_width) (left_seen start end 0 ps (all_exact text).exact (runs_are_longest text))
    ∙ left_all_such has_width start end 0 ps (ap (list_all has_width) (runs_are_visible text) ∙ e)
