-- Colour sequences: ASCII of which nothing is seen.
use Rattle.std.proofs.Common.{inl, inr, ◌≡◌, ℕ, ◌<◌, List, [], ◌++◌, take, drop, refl, sym, ◌∙◌, ap, arith, append_assoc}
use Rattle.std.specs.Prelude.{◌==◌}
use Rattle.std.specs.List.{AllByRecursion}
use Rattle.std.specs.Str.{IsUtf8, bytes_eq, chars}
use Rattle.std.proofs.Math.Utf8.{encodes}
use Rattle.std.proofs.lemmas.Bool.{cases_Bool, and_parts, eqb-true, false≢true}
use Rattle.std.proofs.lemmas.Slice.Eq.{bytes_eq-Decides}
use Rattle.std.proofs.lemmas.List.Elements.{All-from_recursion}
use Rattle.std.proofs.lemmas.Str.{IsAscii-append, chars-IsAscii, encodes-chars, encodes-IsAscii}
use Rattle.std.proofs.lemmas.Str.Ascii.{IsAscii-nil, IsAscii-from_all}
use Rattle.std.proofs.Math.Seq.{drop-append_seam}
use Rattle.indicatif_text.specs.Columns.{visible}
use Rattle.indicatif_text.proofs.ColourSequenceLemmas.{hidden, parameter_small}
use Rattle.indicatif_text.proofs.PieceLawLemmas.{Parameters, Ended, Further, Sequence, Opened, sequence_from, sequence_is, sequence_taken, sequence_before, sequence_length}
use Rattle.indicatif_term.specs.Inside.Inks.{RESET, AreColours}

pub no_colours : AreColours []
no_colours = record { ascii = IsAscii-nil; unseen = λ behind. refl }

pub more_colours : (a b : List ℕ) → AreColours a → AreColours b → AreColours (a ++ b)
more_colours a b p q = record {
  ascii = IsAscii-append a b p.ascii q.ascii;
  unseen = λ behind. ap visible (append_assoc a b behind) ∙ p.unseen (b ++ behind) ∙ q.unseen behind;
}

abbrev IsLow : ℕ → Type 0
IsLow c = c < 128

parameters_low : {cs : List ℕ} {n : ℕ} → Parameters cs n → AllByRecursion IsLow (take n cs)
parameters_low (Ended c cs ended) = (let e : c ≡ 0x6D = eqb-true c 0x6D ended in omega (arith, e), tt)
parameters_low (Further c k cs other is rest) = (parameter_small c is, parameters_low rest)

sequence_low : {cs : List ℕ} {n : ℕ} → Sequence cs n → AllByRecursion IsLow (take n cs)
sequence_low (Opened c d k cs opened rest) =
    let p = and_parts (c == 0x1B) (d == 0x5B) opened in
    let e : c ≡ 0x1B = eqb-true c 0x1B p.0 in
    let f : d ≡ 0x5B = eqb-true d 0x5B p.1 in
    (omega (arith, e), (omega (arith, f), parameters_low rest))

-- a sequence at the front of a text
pub sequence_colours : {cs : List ℕ} {n : ℕ} → Sequence cs n → AreColours (take n cs)
sequence_colours {cs} {n} s =
    let front = take n cs in
    let t = sequence_taken s in
    record {
      ascii = IsAscii-from_all front (All-from_recursion IsLow front (sequence_low s));
      unseen = λ behind.
          hidden n (front ++ behind) (sequence_is (sequence_before behind t.0)) (let some = sequence_length s in omega (arith, some))
          ∙ ap (λ k. visible (drop k (front ++ behind))) (sym t.1) ∙ ap visible (drop-append_seam front behind);
    }

pub reset_is : AreColours RESET
reset_is = sequence_colours (sequence_from RESET 4 refl)

-- a text is that sequence if its characters are
pub closes_chars : (text : List ℕ) → IsUtf8 text → bytes_eq text RESET ≡ bytes_eq (chars text) RESET
closes_chars text utf8 =
    let same : chars RESET ≡ RESET = chars-IsAscii RESET reset_is.ascii in
    elim (cases_Bool (bytes_eq text RESET)) [
      | inl is ↦ is ∙ sym ((bytes_eq-Decides (chars text) RESET).1 (ap chars ((bytes_eq-Decides text RESET).0 is) ∙ same))
      | inr other ↦ elim (cases_Bool (bytes_eq (chars text) RESET)) [
        | inl is ↦
            let e : text ≡ RESET = sym (encodes-chars text utf8) ∙ ap encodes ((bytes_eq-Decides (chars text) RESET).0 is) ∙ encodes-IsAscii RESET reset_is.ascii in
            absurd (false≢true (sym other ∙ (bytes_eq-Decides text RESET).1 e))
        | inr none ↦ other ∙ sym none
      ]
    ]
