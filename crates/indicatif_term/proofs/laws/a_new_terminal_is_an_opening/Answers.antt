use Rattle.std.proofs.Common.{◌≡◌, ℕ, ◌-◌, ◌<◌, refl, ap, arith, replicate, length}
use Rattle.std.proofs.lemmas.List.{length-replicate}
use Rattle.indicatif_text.specs.Columns.{blank_row}
use Rattle.indicatif_term.specs.Screen.{blank_screen}
use Rattle.indicatif_term.specs.Shows.{IsOpening}
use Rattle.indicatif_term.proofs.DrawingLemmas.{opening_shows}
use Rattle.indicatif_term.proofs.laws.a_new_terminal_is_an_opening.Goals as goal

blank_opens : (rows columns : ℕ) → 0 < rows → IsOpening columns rows (blank_screen rows columns)
blank_opens rows columns some =
    let count = length-replicate rows (blank_row columns) in
    record {
      columns = refl;
      height = refl;
      rows = omega (arith, count);
      in_window = omega (arith, count);
      in_rows = omega (arith, count);
      front = refl;
      empty_below = ap (λ n. replicate n (blank_row columns)) (let e : rows ≡ length (replicate rows (blank_row columns)) - 0 = omega (arith, count) in e);
    }

pub returns : goal.returns
returns c = record {
  opening = blank_opens;
  shows = λ rows columns some. opening_shows columns rows (blank_screen rows columns) (blank_opens rows columns some);
}
