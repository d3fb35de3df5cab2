-- A terminal that rests with the lists whatever stands below shows them in the rows that are known.
use Rattle.std.proofs.Common.{◌≡◌, ℕ, ◌+◌, ◌-◌, ◌<◌, ◌≤◌, List, ◌++◌, length, map, take, replicate, refl, sym, ◌∙◌, ap, arith, take-take, length-append, inl, inr}
use Rattle.std.specs.Prelude.{IsFalse}
use Rattle.std.proofs.lemmas.Bool.{cases_Bool}
use Rattle.std.proofs.lemmas.List.{take_at, drop_at, length-map, length-take-le, length-replicate}
use Rattle.indicatif_text.specs.Columns.{Cell, blank_row}
use Rattle.indicatif_term.specs.Screen.{Screen}
use Rattle.indicatif_term.specs.Terminal.{Terminal}
use Rattle.indicatif_term.specs.Lists.{Lists, forgotten_lists, lists_height, all_rows}
use Rattle.indicatif_term.specs.Shows.{Shows, IsOpening, RestsOver, known_rows, emptied_below, on_next_row, look, looks_of, Placed}
use Rattle.indicatif_term.proofs.AnewLemmas.{resumes}
use Rattle.indicatif_term.proofs.PlaceLemmas.{IsSizedInside}
use Rattle.indicatif_term.proofs.StandLemmas.{with_rows, sized_place}
use Rattle.indicatif_term.proofs.DrawingLemmas.{all-height}

-- the first rows are those before the opening's cursor and some that look like the lists'
module _ (w h : ℕ) (opening : Screen) (l : Lists) (t : Terminal) (r : RestsOver w h opening l t) (f : IsFalse l.failed) where
  there : Shows w h opening l (with_rows t r.others)
  there = r.rests.shows f

  abbrev front : List (List Cell)
  front = take opening.row opening.rows

  shown_height : length there.shown ≡ lists_height l
  shown_height = sym (length-map there.shown (map look)) ∙ ap length there.looks ∙ length-map (all_rows w l) (map look) ∙ all-height w l

  front_length : length (front ++ there.shown) ≡ opening.row + lists_height l
  front_length =
      let o : IsOpening w h opening = there.opens in
      omega (arith, length-append front there.shown, length-take-le opening.row opening.rows (omega (arith, o.in_rows)), shown_height)

  rows : r.others ≡ (front ++ there.shown) ++ replicate there.blank (blank_row w)
  rows = ap (λ u. u.screen.rows) there.terminal_is

  enough : opening.row + lists_height l ≤ known_rows opening l t
  enough =
      let m : lists_height l ≤ l.reach = there.reached in
      let n : length r.others ≡ length (front ++ there.shown) + there.blank =
      ap length rows ∙ length-append (front ++ there.shown) (replicate there.blank (blank_row w)) ∙ ap (λ k. length (front ++ there.shown) + k) (length-replicate there.blank (blank_row w)) in
      elim (cases_Bool l.under) [
        | inl u ↦ let e : known_rows opening l t ≡ opening.row + l.reach = rw (f, u) refl in omega (arith, e, m)
        | inr u ↦ let e : known_rows opening l t ≡ length t.screen.rows = rw (f, u) refl in omega (arith, e, n, front_length, r.as_many)
      ]

  pub stands_over : (shown : List (List Cell)) × (take (opening.row + lists_height l) t.screen.rows ≡ front ++ shown) × (looks_of shown ≡ looks_of (all_rows w l))
  stands_over =
      let m = opening.row + lists_height l in
      let n = known_rows opening l t in (
        there.shown,
        sym (take-take m n t.screen.rows enough) ∙ ap (take m) (sym r.known) ∙ take-take m n r.others enough ∙ ap (take m) rows
            ∙ take_at (front ++ there.shown) (replicate there.blank (blank_row w)) m front_length,
        there.looks,
      )

-- wherever a terminal broke off
pub again_over : (w h : ℕ) (t : Terminal) → Placed w h forgotten_lists t → RestsOver w h (on_next_row (emptied_below t.screen)) forgotten_lists t
again_over w h t p =
    let s = t.screen in
    let i = sized_place p in
    let first = take (s.row + 1) s.rows in
    let blanks = replicate (length s.rows - (s.row + 1)) (blank_row s.columns) in
    let within : s.row < length s.rows = i.inside.in_rows in
    let n : length first ≡ s.row + 1 = length-take-le (s.row + 1) s.rows (omega arith) in
    let many : length (first ++ blanks) ≡ length s.rows = omega (arith, length-append first blanks, n, length-replicate (length s.rows - (s.row + 1)) (blank_row s.columns)) in
    let u = with_rows t (first ++ blanks) in
    let j : IsSizedInside w h u.screen = record {
      columns = i.columns;
      height = i.height;
      inside = record {
        enough_rows = omega (arith, i.inside.enough_rows, many);
        in_window = omega (arith, i.inside.in_window, many);
        in_rows = omega (arith, i.inside.in_rows, many);
      };
    } in
    let wide : blank_row s.columns ≡ blank_row w = ap blank_row i.columns in
    record {
      others = first ++ blanks;
      as_many = many;
      known = take_at first blanks (s.row + 1) n;
      rests = resumes w h u j (drop_at first blanks (s.row + 1) n ∙ ap (replicate (length s.rows - (s.row + 1))) wide ∙ ap (λ k. replicate (k - (s.row + 1)) (blank_row w)) (sym many));
    }
