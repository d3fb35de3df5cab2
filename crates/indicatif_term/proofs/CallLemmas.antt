-- What the bytes of each call ask of a screen, and what the terminal is after them.
use Rattle.std.proofs.Common.{◌≡◌, ℕ, ◌+◌, ◌-◌, ◌*◌, ◌/◌, ◌%◌, ◌^◌, ◌<◌, ◌≤◌, min, true, false, List, [], ◌∷◌, ◌++◌, length, refl, ◌∙◌, ap, subst, arith, map, eqb, Option, Some, None}
use Rattle.std.specs.Prelude.{option_to_list, decimal}
use Rattle.std.specs.List.{AllByRecursion}
use Rattle.std.proofs.Math.Utf8.{low_scalar, scalars, encode, encodes}
use Rattle.std.proofs.lemmas.List.{length-map}
use Rattle.std.proofs.lemmas.List.Elements.{recursion_from_All, All-weaker}
use Rattle.std.proofs.lemmas.Bool.{ne_eqb, le-leb}
use Rattle.std.proofs.lemmas.Fmt.{decimal_by_steps}
use Rattle.std.proofs.lemmas.Str.{encode_ascii}
use Rattle.indicatif_text.specs.Columns.{Cell, visible, glyphs_of, pieces_of, row_of, rows_of, blank_row, is_parameter, columns_of_last}
use Rattle.indicatif_term.specs.Screen.{Screen, Op, Put, Return, LineFeed, Up, EmptyRow, performed, with_row}
use Rattle.indicatif_term.specs.Terminal.{OutsideSequence, Sequence, Reader, idle, after, is_digit, number_with, GREATEST, sequence_op}
use Rattle.indicatif_term.specs.Inside.Scanners.{performed_all, reader_after}
use Rattle.indicatif_term.specs.Feeding.{ops_of}
use Rattle.indicatif_term.specs.Calls.{clear_bytes, move_bytes}
use Rattle.indicatif_term.specs.Shows.{resting}
use Rattle.indicatif_term.proofs.CursorRowLemmas.{screen_after, resting_below, IsShowable, IsText}
use Rattle.indicatif_term.proofs.FeedLemmas.{after_is, same_terminal}
use Rattle.indicatif_term.proofs.ReaderLemmas.{first_ops, first_place, parameter_step, chars_read, char_list_ops, place_after}
use Rattle.indicatif_term.proofs.TextLemmas.{IsShown, AsksToPut, reads}
use Rattle.indicatif_term.proofs.WrittenLineLemmas.{text_put}

-- what bytes ask of a terminal between characters, which stays one
pub record Asks (bytes : List ℕ) (ops : List Op) : Type 0 where
  pub asked : ops_of idle bytes ≡ ops
  pub reader : reader_after idle bytes ≡ idle

pub asks_chars : (cs : List ℕ) (ops : List Op) → scalars cs ≡ true → char_list_ops OutsideSequence cs ≡ ops → place_after OutsideSequence cs ≡ OutsideSequence → Asks (encodes cs) ops
asks_chars cs ops s e₁ e₂ =
    let c = chars_read OutsideSequence cs s in
    record { asked = c.0 ∙ e₁; reader = c.1 ∙ ap (λ place. let r : Reader = record { place = place; spelling = [] } in r) e₂ }

pub text_asks : (w : ℕ) (line : List ℕ) → IsText w line → Asks (encodes line) (map (λ c. Put c) (visible line))
unfolding visible
text_asks w line is =
    let p : AsksToPut OutsideSequence line (visible line) = (reads line).plain
    (recursion_from_All IsShown (visible line) (All-weaker (IsShowable w) IsShown (λ c h. h.shown_rows) (visible line) is.printable)) in
    asks_chars line (map (λ c. Put c) (visible line)) is.scalars p.ops p.after

pub end_asks : Asks (0x0D ∷ 0x0A ∷ []) (Return ∷ LineFeed ∷ [])
unfolding encode
end_asks = asks_chars (0x0D ∷ 0x0A ∷ []) (Return ∷ LineFeed ∷ []) refl refl refl

pub clear_asks : Asks clear_bytes (Return ∷ EmptyRow ∷ [])
unfolding encode
clear_asks = asks_chars clear_bytes (Return ∷ EmptyRow ∷ []) refl refl refl

-- ---- a move up

abbrev IsDigit : ℕ → Type 0
IsDigit d = (48 ≤ d) × (d ≤ 57)

is_digit_at : (d : ℕ) → IsDigit d → is_digit d ≡ true
is_digit_at d h = rw (le-leb 48 d h.0, le-leb d 57 h.1) refl

is_parameter_at : (d : ℕ) → IsDigit d → is_parameter d ≡ true
is_parameter_at d h = rw (le-leb 48 d h.0, le-leb d 57 h.1) refl

-- a number with more digits
abbrev number_after : Option ℕ → List ℕ → Option ℕ
number_after number [] = number
number_after number (c ∷ cs) = number_after (number_with number c) cs

number_after-append : (number : Option ℕ) (xs ys : List ℕ) → number_after number (xs ++ ys) ≡ number_after (number_after number xs) ys
number_after-append number [] ys = refl
number_after-append number (x ∷ xs) ys = number_after-append (number_with number x) xs ys

one_digit : (v d : ℕ) → d < 10 → number_with (Some (min v GREATEST)) (48 + d) ≡ Some (min (10 * v + d) GREATEST)
one_digit v d small = rw (is_digit_at (48 + d) (omega arith, omega arith)) (ap (λ k. Some k) (omega arith))

record IsNumber (n : ℕ) (ds : List ℕ) : Type 0 where
  digits : AllByRecursion IsDigit ds
  value : number_after (Some 0) ds ≡ Some (min n GREATEST)

digits_push : (ds : List ℕ) (d : ℕ) → AllByRecursion IsDigit ds → d < 10 → AllByRecursion IsDigit (ds ++ (48 + d) ∷ [])
digits_push [] d all small = ((omega arith, omega arith), tt)
digits_push (c ∷ ds) d all small = (all.0, digits_push ds d all.1 small)

number : (n : ℕ) → n < 2 ^ 64 → IsNumber n (decimal n)
number = decimal_by_steps IsNumber
    (λ n small. record { digits = ((omega arith, omega arith), tt); value = one_digit 0 n small ∙ ap (λ k. Some (min k GREATEST)) (omega arith) })
    (λ n ds large h. record {
      digits = digits_push ds (n % 10) h.digits (omega arith);
      value = number_after-append (Some 0) ds ((48 + n % 10) ∷ []) ∙ ap (λ v. number_with v (48 + n % 10)) h.value
          ∙ one_digit (n / 10) (n % 10) (omega arith) ∙ ap (λ k. Some (min k GREATEST)) (omega arith);
    })

digits_scalars : (ds : List ℕ) → AllByRecursion IsDigit ds → scalars (ds ++ 0x41 ∷ []) ≡ true
digits_scalars [] all = refl
digits_scalars (d ∷ ds) all = rw (low_scalar d (omega (arith, all.0))) (digits_scalars ds all.1)

digits_encodes : (ds : List ℕ) → AllByRecursion IsDigit ds → encodes (ds ++ 0x41 ∷ []) ≡ ds ++ 0x41 ∷ []
unfolding encode
digits_encodes [] all = refl
digits_encodes (d ∷ ds) all = rw (encode_ascii d (omega (arith, all.0))) (ap (λ xs. d ∷ xs) (digits_encodes ds all.1))

record IsMove (number : Option ℕ) (ds : List ℕ) : Type 0 where
  ops : char_list_ops (Sequence number) (ds ++ 0x41 ∷ []) ≡ option_to_list (sequence_op (number_after number ds) 0x41) ++ []
  place : place_after (Sequence number) (ds ++ 0x41 ∷ []) ≡ OutsideSequence

digits_read : (number : Option ℕ) (ds : List ℕ) → AllByRecursion IsDigit ds → IsMove number ds
digits_read number [] all = record { ops = refl; place = refl }
digits_read number (d ∷ ds) all =
    let rest : IsMove (number_with number d) ds = digits_read (number_with number d) ds all.1 in
    let step = parameter_step number d (is_parameter_at d all.0) in
    record {
      ops = first_ops (Sequence number) d (ds ++ 0x41 ∷ []) None (Sequence (number_with number d)) step ∙ rest.ops;
      place = first_place (Sequence number) d (ds ++ 0x41 ∷ []) None (Sequence (number_with number d)) step ∙ rest.place;
    }

pub up_asks : (k : ℕ) → 0 < k → k < 2 ^ 64 → Asks (move_bytes 0x41 k) (Up (min k GREATEST) ∷ [])
unfolding encode
up_asks k some small =
    let is : IsNumber k (decimal k) = number k small in
    let read : IsMove (Some 0) (decimal k) = digits_read (Some 0) (decimal k) is.digits in
    let not_zero : eqb k 0 ≡ false = ne_eqb k 0 (λ e. omega arith) in
    let counts : eqb (min k GREATEST) 0 ≡ false = ne_eqb (min k GREATEST) 0 (λ e. omega arith) in
    let bytes : encodes (0x1B ∷ 0x5B ∷ (decimal k ++ 0x41 ∷ [])) ≡ move_bytes 0x41 k = rw not_zero (ap (λ xs. 0x1B ∷ 0x5B ∷ xs) (digits_encodes (decimal k) is.digits)) in
    subst (λ bs. Asks bs (Up (min k GREATEST) ∷ [])) bytes
    (asks_chars (0x1B ∷ 0x5B ∷ (decimal k ++ 0x41 ∷ [])) (Up (min k GREATEST) ∷ []) (digits_scalars (decimal k) is.digits) (read.ops ∙ rw (is.value, counts) refl) read.place)

-- ---- after a call

pub after_asks : (s s' : Screen) (bytes : List ℕ) (ops : List Op) → Asks bytes ops → performed_all ops s ≡ s' → after (resting s) bytes ≡ resting s'
after_asks s s' bytes ops asks e = after_is (resting s) bytes ∙ same_terminal _ _ _ _ (ap (λ ops. performed_all ops s) asks.asked ∙ e) asks.reader

-- a text from the front of a blank row
pub text_written : (w h : ℕ) (above : List (List Cell)) (n : ℕ) (line : List ℕ) → IsText w line →
    after (resting_below w h above n) (encodes line)
    ≡ resting (screen_after w h (above ++ rows_of w line) ((n + 1) - length (rows_of w line)) (columns_of_last (pieces_of w (glyphs_of (visible line)))))
unfolding rows_of
text_written w h above n line is =
    after_asks _ _ (encodes line) (map (λ c. Put c) (visible line)) (text_asks w line is)
    (text_put w h above n (visible line) (recursion_from_All (IsShowable w) (visible line) is.printable)
    ∙ cc (length-map (pieces_of w (glyphs_of (visible line))) (row_of w)))

pub row_cleared : (s : Screen) → after (resting s) clear_bytes ≡ resting (with_row (record s { column = 0 }) (blank_row s.columns))
row_cleared s = after_asks s _ clear_bytes (Return ∷ EmptyRow ∷ []) clear_asks refl

pub moved_up : (s : Screen) (k : ℕ) → 0 < k → k < 2 ^ 64 → after (resting s) (move_bytes 0x41 k) ≡ resting (performed (Up (min k GREATEST)) s)
moved_up s k some small = after_asks s (performed (Up (min k GREATEST)) s) (move_bytes 0x41 k) (Up (min k GREATEST) ∷ []) (up_asks k some small) refl
