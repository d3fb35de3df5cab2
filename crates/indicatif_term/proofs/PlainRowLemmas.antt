-- Printable ASCII that fits in a row.
use Rattle.std.proofs.Common.{◌≡◌, ℕ, ◌≤◌, false, List, [], ◌∷◌, length, map, refl, sym, ◌∙◌, ap, arith, chars, Ok, subst, if◌then◌else◌}
use Rattle.std.specs.Prelude.{◌==◌}
use Rattle.std.specs.Int.{IsInRange}
use Rattle.std.specs.List.{AllByRecursion}
use Rattle.std.specs.Str.Lines.{lines_of_parts}
use Rattle.std.proofs.lemmas.Bool.Decides.{nat_tests}
use Rattle.std.proofs.lemmas.List.{length-map}
use Rattle.std.proofs.lemmas.List.Elements.{All-weaker}
use Rattle.std.proofs.lemmas.List.Splits.{slice_split_none}
use Rattle.indicatif_text.specs.Columns.{Glyph, columns_in, visible, glyphs_of, pieces_of, row_of, rows_of, has_wide, last_columns, columns_of_last}
use Rattle.indicatif_term.specs.Lines.{logged_lines}
use Rattle.indicatif_term.specs.Inside.Plans.{IsPlainRow, MeasuredText}
use Rattle.indicatif_term.specs.Inside.Inks.{IsRead}
use Rattle.indicatif_term.proofs.EditLineLemmas.{IsOne, one, one_piece, glyphs_on, ones_columns}
use Rattle.indicatif_term.proofs.InkLemmas.{plain_read}
use Rattle.indicatif_term.proofs.MeasureLemmas.{height_after}
use Rattle.indicatif_term.proofs.PartingLemmas.{ones_visible, ones_fit}
use Rattle.indicatif_term.proofs.SharedLemmas.{printable_chars}

-- characters of one column each that fit in a row take that row alone
pub record TakesRow (w n : ℕ) (line : List ℕ) : Type 0 where
  pub one_row : length (rows_of w line) ≡ 1
  pub last_is : last_columns w line ≡ n
  pub narrow : has_wide w line ≡ false

ones_row : (w : ℕ) (cs : List ℕ) → AllByRecursion IsOne cs → length cs ≤ w → TakesRow w (length cs) cs
unfolding rows_of last_columns has_wide
ones_row w cs all few =
    let seen = ones_visible cs all in
    let gs = map one cs in
    let glyphs : glyphs_of (visible cs) ≡ gs = ap glyphs_of seen ∙ glyphs_on [] cs all in
    let columns : columns_in gs ≡ length cs = ones_columns cs all in
    let none : columns_in (let empty : List Glyph = [] in empty) ≡ 0 = refl in
    let piece = ap (pieces_of w) glyphs ∙ one_piece w [] gs (omega (arith, columns, none, few)) in
    record {
      one_row = length-map (pieces_of w (glyphs_of (visible cs))) (row_of w) ∙ ap length piece;
      last_is = ap columns_of_last piece ∙ columns;
      narrow = rw seen (ones_fit w cs all few);
    }

pub plain_row : (w : ℕ) (text : List ℕ) → IsPlainRow w text → TakesRow w (length text) (chars text) × IsRead (chars text)
plain_row w text p =
    let q = printable_chars text p.printable in
    (subst (λ n. TakesRow w n (chars text)) (ap length q.0) (ones_row w (chars text) q.1 (omega (arith, ap length q.0, p.fits))), plain_read (chars text) q.1)

-- and one line
not_end : (b : ℕ) → IsInRange 0x20 0x7E b → (b == 10) ≡ false
not_end b r = let low : 0x20 ≤ b = r.0 in grind (arith, nat_tests, low)

pub plain_line : (w : ℕ) (text : List ℕ) → IsPlainRow w text → logged_lines text ≡ text ∷ []
plain_line w [] p = refl
plain_line w (b ∷ text) p =
    let some : (length (b ∷ text) == 0) ≡ false = grind (arith, nat_tests) in
    ap lines_of_parts (slice_split_none (λ b. b == 10) (b ∷ text) (All-weaker (IsInRange 0x20 0x7E) (λ b. (b == 10) ≡ false) not_end (b ∷ text) p.printable))
    ∙ ap (λ t. if t then [] else (b ∷ text) ∷ []) some

pub plain_measured : (w : ℕ) (text : List ℕ) → IsPlainRow w text → MeasuredText w (text ∷ []) (Ok (record { height = 1; last_line_width = length text }))
plain_measured w text p =
    let t = (plain_row w text p).0 in
    (rw t.narrow refl, omega (arith, height_after w [] (chars text), t.one_row), sym t.last_is)
