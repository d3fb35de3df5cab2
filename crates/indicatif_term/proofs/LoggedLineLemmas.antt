-- A text that is logged has at least one line, and each of its lines is UTF-8.
use Rattle.std.proofs.Common.{◌≡◌, ℕ, zero, suc, ◌+◌, ◌-◌, ◌<◌, ◌≤◌, true, List, [], ◌∷◌, length, take, drop, get_or, refl, sym, subst, arith, ⊎_elim}
use Rattle.std.specs.Prelude.{◌==◌, slice_index}
use Rattle.std.specs.Str.{IsUtf8}
use Rattle.std.specs.Str.Lines.{lines, lines_of_parts, strip_carriage_return}
use Rattle.std.specs.List.{slice_split, onto_first, position_or_len, AllByRecursion}
use Rattle.std.proofs.lemmas.List.Splits.{slice_split_first, slice_split_none}
use Rattle.std.proofs.lemmas.List.Sums.{passes_at_first, fails_before_first}
use Rattle.std.proofs.lemmas.List.{length-drop}
use Rattle.std.proofs.lemmas.Str.{IsUtf8-take, IsUtf8-drop, IsCharBoundary-before_ascii, IsCharBoundary-after_ascii}
use Rattle.std.proofs.lemmas.Bool.{cond_both, cases_lt}
use Rattle.std.proofs.lemmas.Bool.Decides.{nat_tests}
use Rattle.indicatif_term.specs.Lines.{logged_lines}

pub logged_some : (text : List ℕ) → 0 < length text → logged_lines text ≡ lines text
logged_some [] e = absurd (omega arith)
logged_some (b ∷ text) e = refl

-- ---- at least one line

some_part : (x : List ℕ) (parts : List (List ℕ)) → 0 < length parts + length x → 0 < length (lines_of_parts (x ∷ parts))
some_part [] [] h = absurd (omega arith)
some_part (b ∷ x) [] h = cond_both (length (b ∷ x) == 0) [] ((b ∷ x) ∷ []) (λ ls. 0 < length ls) (λ e. absurd (grind (arith, nat_tests))) (λ e. omega arith)
some_part x (y ∷ parts) h = omega arith

onto_some : (b : ℕ) (parts : List (List ℕ)) → 0 < length (onto_first b parts)
onto_some b [] = omega arith
onto_some b (part ∷ parts) = omega arith

parts_some : (text : List ℕ) → 0 < length (slice_split (λ b. b == 10) text)
parts_some [] = omega arith
parts_some (b ∷ text) = cond_both (b == 10) ([] ∷ slice_split (λ b. b == 10) text) (onto_first b (slice_split (λ b. b == 10) text)) (λ ls. 0 < length ls)
    (λ e. omega arith) (λ e. onto_some b (slice_split (λ b. b == 10) text))

onto_lines : (b : ℕ) (parts : List (List ℕ)) → 0 < length (lines_of_parts (onto_first b parts))
onto_lines b [] = some_part (b ∷ []) [] (omega arith)
onto_lines b (part ∷ parts) = some_part (b ∷ part) parts (omega arith)

pub lines_some : (b : ℕ) (text : List ℕ) → 0 < length (lines (b ∷ text))
lines_some b text = cond_both (b == 10) ([] ∷ slice_split (λ b. b == 10) text) (onto_first b (slice_split (λ b. b == 10) text)) (λ parts. 0 < length (lines_of_parts parts))
    (λ e. some_part [] (slice_split (λ b. b == 10) text) (omega (arith, parts_some text))) (λ e. onto_lines b (slice_split (λ b. b == 10) text))

pub logged_length : (text : List ℕ) → 0 < length (logged_lines text)
logged_length [] = omega arith
logged_length (b ∷ text) = lines_some b text

-- ---- each line of UTF-8 is UTF-8

part_end : (text : List ℕ) (d : ℕ) → d < length text → (get_or text d 0 == 10) ≡ true → get_or text d 0 < 128
part_end text d h e = grind (arith, nat_tests)

parts_utf8 : (n : ℕ) (text : List ℕ) → length text ≤ n → IsUtf8 text → AllByRecursion IsUtf8 (slice_split (λ b. b == 10) text)
parts_utf8 zero [] h u = (u, tt)
parts_utf8 zero (b ∷ text) h u = absurd (omega arith)
parts_utf8 (suc n) text h u =
    let p = λ (b : ℕ). b == 10 in
    let i = position_or_len p text in
    ⊎_elim
    (λ l. let low : get_or text i 0 < 128 = part_end text i l (passes_at_first p text 0 l) in
    subst (AllByRecursion IsUtf8) (sym (slice_split_first p text 0 l)) (
      IsUtf8-take text i u (IsCharBoundary-before_ascii text i l low),
      parts_utf8 n (drop (i + 1) text) (omega (arith, length-drop (i + 1) text)) (IsUtf8-drop text (i + 1) u (IsCharBoundary-after_ascii text i u l low)),
    ))
    (λ g. subst (AllByRecursion IsUtf8) (sym (slice_split_none p text (λ k d l. fails_before_first p text k d (omega arith)))) (u, tt))
    (cases_lt i (length text))

strip_utf8 : (line : List ℕ) → IsUtf8 line → IsUtf8 (strip_carriage_return line)
strip_utf8 [] u = u
strip_utf8 (b ∷ line) u = cond_both (slice_index (b ∷ line) (length (b ∷ line) - 1) == 13) (take (length (b ∷ line) - 1) (b ∷ line)) (b ∷ line) IsUtf8
    (λ e. IsUtf8-take (b ∷ line) (length (b ∷ line) - 1) u (IsCharBoundary-before_ascii (b ∷ line) (length (b ∷ line) - 1) (omega arith) (grind (arith, nat_tests))))
    (λ e. u)

lines_of_parts_utf8 : (parts : List (List ℕ)) → AllByRecursion IsUtf8 parts → AllByRecursion IsUtf8 (lines_of_parts parts)
lines_of_parts_utf8 [] u = tt
lines_of_parts_utf8 (x ∷ []) u = cond_both (length x == 0) [] (x ∷ []) (AllByRecursion IsUtf8) (λ e. tt) (λ e. u)
lines_of_parts_utf8 (x ∷ y ∷ more) u = (strip_utf8 x u.0, lines_of_parts_utf8 (y ∷ more) u.1)

pub logged_utf8 : (text : List ℕ) → IsUtf8 text → AllByRecursion IsUtf8 (logged_lines text)
logged_utf8 [] u = (u, tt)
logged_utf8 (b ∷ text) u = lines_of_parts_utf8 (slice_split (λ b. b == 10) (b ∷ text)) (parts_utf8 (length (b ∷ text)) (b ∷ text) (omega arith) u)
