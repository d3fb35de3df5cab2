-- A text may be cut behind printable ASCII.
use Rattle.std.proofs.Common.{◌≡◌, ℕ, zero, suc, ◌+◌, ◌<◌, ◌≤◌, List, length, take, get_or, arith, subst, sym}
use Rattle.std.specs.Prelude.{All}
use Rattle.std.specs.Str.{IsCharBoundary, IsUtf8}
use Rattle.std.proofs.lemmas.List.{get_or-take, length-take-le}
use Rattle.std.proofs.lemmas.List.Elements.{All-get_or}
use Rattle.std.proofs.lemmas.Str.{IsCharBoundary-start, IsCharBoundary-after_ascii}
use Rattle.indicatif_text.specs.Inside.Runs.{IsPrintable}

low_at : (text : List ℕ) (n : ℕ) → n + 1 ≤ length text → All IsPrintable (take (n + 1) text) → get_or text n 0 < 128
low_at text n fits all =
    let within : n < n + 1 = omega arith in
    let short : n < length (take (n + 1) text) = omega (arith, length-take-le (n + 1) text fits) in
    let printable = subst IsPrintable (get_or-take (n + 1) text n 0 within) (All-get_or IsPrintable (take (n + 1) text) n 0 short all) in
    omega (arith, printable.0, printable.1)

pub cut_behind : (text : List ℕ) (n : ℕ) → IsUtf8 text → n ≤ length text → All IsPrintable (take n text) → IsCharBoundary text n
cut_behind text zero utf8 fits all = IsCharBoundary-start text utf8
cut_behind text (suc n) utf8 fits all =
    let is : suc n ≡ n + 1 = omega arith in
    let room : n + 1 ≤ length text = omega (arith, fits) in
    let within : n < length text = omega (arith, fits) in
    subst (IsCharBoundary text) (sym is) (IsCharBoundary-after_ascii text n utf8 within (low_at text n room (subst (λ m. All IsPrintable (take m text)) is all)))

pub cut_first : (text : List ℕ) → IsUtf8 text → 0 < length text → IsPrintable (get_or text 0 0) → IsCharBoundary text 1
cut_first text utf8 some printable = IsCharBoundary-after_ascii text 0 utf8 some (omega (arith, printable.1))
