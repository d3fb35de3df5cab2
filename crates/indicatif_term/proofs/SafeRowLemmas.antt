-- The rows above the cursor's are cut when a terminal gets another size, and stay safe.
use Rattle.std.proofs.Common.{◌≡◌, ℕ, ◌+◌, ◌-◌, ◌<◌, ◌≤◌, false, ◌&&◌, List, ◌++◌, length, take, drop, replicate, refl, sym, ◌∙◌, ap, subst, arith, append_assoc, length-append, if◌then◌else◌}
use Rattle.std.specs.Prelude.{◌==◌}
use Rattle.std.proofs.lemmas.Bool.{cond_both}
use Rattle.std.proofs.lemmas.List.{length-replicate, take-append-drop, take_at, take-take}
use Rattle.std.proofs.lemmas.List.Concat.{flat_map-append}
use Rattle.indicatif_text.specs.Columns.{Cell, blank_row}
use Rattle.indicatif_term.specs.Screen.{Screen, cursor_row}
use Rattle.indicatif_term.specs.Terminal.{Terminal}
use Rattle.indicatif_term.specs.Lists.{Lists, forgotten_lists}
use Rattle.indicatif_term.specs.Shows.{Placed, safe_rows}
use Rattle.indicatif_term.specs.Resizes.{recut, recut_all, used_rows, lasting_rows, row_then, recut_screen, resized, resized_terminal}
use Rattle.indicatif_term.proofs.RecutLemmas.{recut_some, upper_rows}
use Rattle.indicatif_term.proofs.PlaceLemmas.{IsSizedInside}
use Rattle.indicatif_term.proofs.StandLemmas.{sized_place, broke_placed}

front_of : (n m : ℕ) (rows : List (List Cell)) → n ≤ m → take m rows ≡ take n rows ++ drop n (take m rows)
front_of n m rows h = sym (take-append-drop n (take m rows)) ∙ ap (λ z. z ++ drop n (take m rows)) (take-take n m rows h)

fewer : (w n m : ℕ) (rows : List (List Cell)) → n ≤ m → length (recut_all w (take n rows)) ≤ length (recut_all w (take m rows))
fewer w n m rows h =
    let rest = drop n (take m rows) in
    let all : length (recut_all w (take m rows)) ≡ length (recut_all w (take n rows)) + length (recut_all w rest) =
    ap (λ z. length (recut_all w z)) (front_of n m rows h) ∙ ap length (flat_map-append (recut w) (take n rows) rest) ∙ length-append (recut_all w (take n rows)) (recut_all w rest) in
    omega (arith, all)

module _ (w h n : ℕ) (s : Screen) (within : s.row < length s.rows) (low : n ≤ s.row) where
  abbrev rows : List (List Cell)
  rows = recut_all w (lasting_rows s)

  abbrev pub safe : List (List Cell)
  safe = recut_all w (take n s.rows)

  abbrev others : List (List Cell)
  others = drop n (take (s.row + 1) s.rows) ++ used_rows (drop (s.row + 1) s.rows)

  begins : rows ≡ safe ++ recut_all w others
  begins =
      let more : n ≤ s.row + 1 = omega (arith, low) in
      ap (λ z. recut_all w (z ++ used_rows (drop (s.row + 1) s.rows))) (front_of n (s.row + 1) s.rows more)
      ∙ ap (recut_all w) (append_assoc (take n s.rows) (drop n (take (s.row + 1) s.rows)) (used_rows (drop (s.row + 1) s.rows)))
      ∙ flat_map-append (recut w) (take n s.rows) others

  pub taken : take (length safe) (recut_screen w h s).rows ≡ safe
  taken =
      let blanks = replicate (h - length rows) (blank_row w) in
      ap (λ z. take (length safe) (z ++ blanks)) begins
      ∙ ap (take (length safe)) (append_assoc safe (recut_all w others) blanks)
      ∙ take_at safe (recut_all w others ++ blanks) (length safe) refl

  abbrev before : ℕ
  before = length (recut_all w (take s.row s.rows))

  upper : before + length (recut w (cursor_row s)) ≤ length rows
  upper = upper_rows w s within

  at_least : before ≤ row_then w s
  at_least = cond_both (s.column == s.columns) (before + length (recut w (cursor_row s)) - 1) before (λ r. before ≤ r)
      (λ e. omega (arith, recut_some w (cursor_row s))) (λ e. omega arith)

  less : row_then w s < length rows
  less = cond_both (s.column == s.columns) (before + length (recut w (cursor_row s)) - 1) before (λ r. r < length rows)
      (λ e. omega (arith, upper, recut_some w (cursor_row s))) (λ e. omega (arith, upper, recut_some w (cursor_row s)))

  total : length (recut_screen w h s).rows ≡ length rows + (h - length rows)
  total = length-append rows (replicate (h - length rows) (blank_row w)) ∙ ap (λ k. length rows + k) (length-replicate (h - length rows) (blank_row w))

  pub sized : 0 < h → IsSizedInside w h (recut_screen w h s)
  sized some = record {
    columns = refl;
    height = refl;
    inside = record { enough_rows = omega (arith, total); in_window = omega (arith, total); in_rows = omega (arith, total, less, some) };
  }

  pub low_then : length safe ≤ (recut_screen w h s).row + 1
  low_then = omega (arith, fewer w n s.row s.rows low, at_least)

other_size : (w h w' h' : ℕ) (s : Screen) → s.columns ≡ w → s.height ≡ h → ((w == w') && (h == h')) ≡ false → resized w' h' s ≡ recut_screen w' h' s
unfolding resized
other_size w h w' h' s c r e =
    ap (λ k. if (k == w') && (s.height == h') then s else recut_screen w' h' s) c
    ∙ ap (λ k. if (w == w') && (k == h') then s else recut_screen w' h' s) r
    ∙ ap (λ same. if same then s else recut_screen w' h' s) e

pub placed_then : (w h w' h' n : ℕ) (l : Lists) (t : Terminal) → ((w == w') && (h == h')) ≡ false → 0 < h' → n ≤ t.screen.row → Placed w h l t →
    Placed w' h' forgotten_lists (resized_terminal w' h' t) × (length (recut_all w' (take n t.screen.rows)) ≤ safe_rows forgotten_lists (resized_terminal w' h' t))
placed_then w h w' h' n l t e some low p =
    let i = sized_place p in
    let s = t.screen in
    let is : resized w' h' s ≡ recut_screen w' h' s = other_size w h w' h' s i.columns i.height e in
    let with_screen : Screen → Terminal = λ z. record t { screen = z } in
    subst (λ z. Placed w' h' forgotten_lists (with_screen z) × (length (recut_all w' (take n s.rows)) ≤ safe_rows forgotten_lists (with_screen z))) (sym is)
    (broke_placed w' h' (with_screen (recut_screen w' h' s)) (sized w' h' n s i.inside.in_rows low some), low_then w' h' n s i.inside.in_rows low)

pub taken_then : (w h w' h' n : ℕ) (l : Lists) (t : Terminal) → ((w == w') && (h == h')) ≡ false → n ≤ t.screen.row → Placed w h l t →
    take (length (recut_all w' (take n t.screen.rows))) (resized_terminal w' h' t).screen.rows ≡ recut_all w' (take n t.screen.rows)
taken_then w h w' h' n l t e low p =
    let i = sized_place p in
    ap (λ z. take (length (recut_all w' (take n t.screen.rows))) z.rows) (other_size w h w' h' t.screen i.columns i.height e) ∙ taken w' h' n t.screen i.inside.in_rows low
