-- A run of characters of one column at the front of bytes does the same as its bytes one after another.
use Rattle.std.proofs.Common.{◌≡◌, ℕ, ◌*◌, ◌≤◌, ◌<◌, true, false, List, [], ◌∷◌, length, take, replicate, refl, sym, ◌∙◌, ap, subst, arith}
use Rattle.std.specs.Prelude.{All}
use Rattle.std.specs.Int.{IsInRange}
use Rattle.std.specs.List.{repeat, AllByRecursion}
use Rattle.std.specs.Str.{IsAscii}
use Rattle.std.proofs.Math.Utf8.{scalar, scalars, encodes, low_scalar}
use Rattle.std.proofs.lemmas.Bool.{and_parts}
use Rattle.std.proofs.lemmas.Str.{encodes-IsAscii}
use Rattle.std.proofs.lemmas.Str.Ascii.{IsAscii-from_all}
use Rattle.std.proofs.lemmas.List.{take-take, take-replicate, length-take-le}
use Rattle.std.proofs.lemmas.List.Elements.{All-weaker, All-take, All-replicate, recursion_from_All}
use Rattle.unicode_width.specs.Width.{char_width}
use Rattle.indicatif_text.proofs.WidthLemmas.{plain_width}
use Rattle.indicatif_text.proofs.ColourSequenceLemmas.{some_sequence}
use Rattle.indicatif_term.specs.Screen.{Screen}
use Rattle.indicatif_term.specs.Inside.Scanners.{performed_all, IsWholeChar}
use Rattle.indicatif_term.specs.Terminal.{Terminal, idle, after}
use Rattle.indicatif_term.specs.Inside.Runs.{TakesOneColumn, puts}
use Rattle.indicatif_term.proofs.RunLemmas.{fewer_repeats, encodes_replicate, scalars_replicate}
use Rattle.indicatif_term.proofs.WholeCharLemmas.{fed_characters}

-- ---- printable ASCII

one_column : (c : ℕ) → IsInRange 0x20 0x7E c → TakesOneColumn c
one_column c is = some_sequence (char_width false c) 1 (sym (plain_width c is)) (omega arith)

pub ascii_narrow : (text : List ℕ) → All (IsInRange 0x20 0x7E) text → All TakesOneColumn text
ascii_narrow text plain = All-weaker (IsInRange 0x20 0x7E) TakesOneColumn one_column text plain

ascii_scalars : (text : List ℕ) → AllByRecursion (IsInRange 0x20 0x7E) text → scalars text ≡ true
ascii_scalars [] plain = refl
ascii_scalars (c ∷ cs) plain =
    let is : scalar c ≡ true = low_scalar c (omega (arith, plain.0.1)) in
    rw is (ascii_scalars cs plain.1)

pub fed_ascii : (t : Terminal) (new : Screen) (bytes text : List ℕ) (most n : ℕ) → t.reader ≡ idle → All (IsInRange 0x20 0x7E) (take most bytes) → text ≡ take most bytes →
    most ≤ length bytes → n ≤ length text → new ≡ performed_all (puts (take n text)) t.screen →
    ◌≡◌ {A = Terminal} (record { screen = new; reader = t.reader }) (after t (take n bytes))
fed_ascii t new bytes text most n rests plain e fits few put =
    let front = take n text in
    let size : n ≤ most = omega (arith, ap length e, length-take-le most bytes fits) in
    let same : front ≡ take n bytes = ap (take n) e ∙ take-take n most bytes size in
    let all : All (IsInRange 0x20 0x7E) front = All-take (IsInRange 0x20 0x7E) n text (subst (All (IsInRange 0x20 0x7E)) (sym e) plain) in
    let ascii : IsAscii front = IsAscii-from_all front (All-weaker (IsInRange 0x20 0x7E) (λ b. b < 128) (λ b h. omega (arith, h.1)) front all) in
    fed_characters t new front front rests (sym (encodes-IsAscii front ascii)) (ascii_scalars front (recursion_from_All (IsInRange 0x20 0x7E) front all))
    (recursion_from_All (λ c. 0x20 ≤ c) front (All-weaker (IsInRange 0x20 0x7E) (λ c. 0x20 ≤ c) (λ c h. h.0) front all)) put
    ∙ ap (after t) same

-- ---- a character of three bytes that is repeated

pub fed_repeated : (t : Terminal) (new : Screen) (bytes : List ℕ) (c count n : ℕ) → t.reader ≡ idle → IsWholeChar bytes c 3 → take (3 * count) bytes ≡ repeat count (take 3 bytes) →
    n ≤ count → new ≡ performed_all (puts (take n (replicate count c))) t.screen →
    ◌≡◌ {A = Terminal} (record { screen = new; reader = t.reader }) (after t (take (3 * n) bytes))
fed_repeated t new bytes c count n rests is repeats few put =
    let three : length (take 3 bytes) ≡ 3 = length-take-le 3 bytes is.within in
    let spelled : take (3 * n) bytes ≡ encodes (replicate n c) = fewer_repeats n count bytes (take 3 bytes) three few repeats ∙ ap (repeat n) is.spelled ∙ encodes_replicate n c in
    fed_characters t new (take (3 * n) bytes) (replicate n c) rests spelled (scalars_replicate n c (and_parts (scalar c) true is.scalar).0)
    (recursion_from_All (λ c. 0x20 ≤ c) (replicate n c) (All-replicate (λ c. 0x20 ≤ c) n c is.printable))
    (put ∙ ap (λ cs. performed_all (puts cs) t.screen) (take-replicate n count c few))
