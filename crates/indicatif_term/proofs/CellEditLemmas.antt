-- What edits do to the cells of a row.
use Rattle.std.proofs.Common.{◌≡◌, ℕ, zero, suc, ◌+◌, ◌-◌, ◌<◌, ◌≤◌, min, false, List, [], ◌∷◌, ◌++◌, length, get_or, drop, replicate, refl, sym, ◌∙◌, ap, arith, length-append, append_assoc, eqb, Some}
use Rattle.std.specs.Prelude.{slice_set}
use Rattle.std.specs.List.{AllByRecursion}
use Rattle.std.proofs.lemmas.List.{set_at, get_or_at, take_at, drop_at}
use Rattle.std.proofs.lemmas.Bool.{le-ltb, le-leb, ne_eqb}
use Rattle.unicode_width.specs.Width.{char_width}
use Rattle.indicatif_text.specs.Columns.{Cell, Blank, Written, Continued, width_of, glyph_cells}
use Rattle.indicatif_term.specs.Screen.{Op, Put, Right, performed, put_sized, written_at, emptied_front, cursor_row}
use Rattle.indicatif_term.specs.Inside.Scanners.{performed_all}
use Rattle.indicatif_term.specs.Terminal.{GREATEST}
use Rattle.indicatif_term.proofs.ScreenRowLemmas.{made, same_screen}
use Rattle.indicatif_term.proofs.GlyphLemmas.{some_width}
use Rattle.indicatif_term.proofs.FeedLemmas.{performed_all-append}
use Rattle.indicatif_term.specs.Inside.RowEdits.{Edit, Stay, Write, Close, Open, IsOwn, AreOwn, edit_columns, narrow, edited, edit_gap}

-- what is written takes a column
abbrev pub IsNarrow : Edit → Type 0
IsNarrow Stay = Unit {0}
IsNarrow (Write c) = width_of c ≡ 1
IsNarrow Close = Unit {0}
IsNarrow (Open s) = Unit {0}

-- what edits ask of a screen
abbrev pub right_ops : ℕ → List Op
right_ops zero = []
right_ops (suc n) = Right (min (suc n) GREATEST) ∷ []

abbrev pub edit_ops : ℕ → List Edit → List Op
edit_ops gap [] = []
edit_ops gap (Stay ∷ es) = edit_ops (suc gap) es
edit_ops gap (Write c ∷ es) = right_ops gap ++ Put c ∷ edit_ops 0 es
edit_ops gap (Close ∷ es) = edit_ops gap es
edit_ops gap (Open s ∷ es) = edit_ops gap es

own_front : (cells : List Cell) → IsOwn (get_or cells 0 Blank) → emptied_front cells ≡ cells
own_front [] e = refl
own_front (Blank ∷ cs) e = refl
own_front (Written g ∷ cs) e = refl
own_front (Continued ∷ cs) e = absurd (cc)

own_behind : (cells rest : List Cell) → AreOwn cells rest → IsOwn (get_or (cells ++ rest) 0 Blank)
own_behind [] rest o = o.behind
own_behind (x ∷ cells) rest o = o.each.0

narrow_written : (c : ℕ) (front : List Cell) (x : Cell) (rest : List Cell) → IsOwn x → IsOwn (get_or rest 0 Blank) →
    written_at (length front) (narrow c ∷ []) (front ++ x ∷ rest) ≡ (front ++ narrow c ∷ []) ++ rest
narrow_written c front x rest e own =
    let here : get_or (front ++ x ∷ rest) (length front) Blank ≡ x = get_or_at front x rest Blank (length front) refl in
    let behind : drop (length front + 1) (front ++ x ∷ rest) ≡ rest =
    ap (λ xs. drop (length front + 1) xs) (sym (append_assoc front (x ∷ []) rest)) ∙ drop_at (front ++ x ∷ []) rest (length front + 1) (length-append front (x ∷ [])) in
    rw (here, e, take_at front (x ∷ rest) (length front) refl, behind, own_front rest own) refl

pub narrow_cells : (c : ℕ) → width_of c ≡ 1 → glyph_cells (record { base = c; joiners = [] }) ≡ narrow c ∷ []
narrow_cells c e = ap (λ n. narrow c ∷ replicate (n - 1) Continued) e

abbrev set_row : List (List Cell) → List Cell → List (List Cell) → List Cell → List (List Cell)
set_row a r b x = slice_set (a ++ r ∷ b) (length a) x

module _ (w h : ℕ) where
  narrow_put : (c : ℕ) (a : List (List Cell)) (front : List Cell) (x : Cell) (rest : List Cell) (b : List (List Cell)) →
      width_of c ≡ 1 → IsOwn x → IsOwn (get_or rest 0 Blank) → length front < w →
      performed (Put c) (made w h (a ++ (front ++ x ∷ rest) ∷ b) (length a) (length front)) ≡ made w h (a ++ ((front ++ narrow c ∷ []) ++ rest) ∷ b) (length a) (length front + 1)
  narrow_put c a front x rest b one e own room =
      let s = made w h (a ++ (front ++ x ∷ rest) ∷ b) (length a) (length front) in
      let row : cursor_row s ≡ front ++ x ∷ rest = get_or_at a (front ++ x ∷ rest) b [] (length a) refl in
      let wide : char_width false c ≡ Some 1 = some_width (char_width false c) (omega (arith, one)) ∙ ap Some one in
      ap (λ o. put_sized c o s) wide
      ∙ rw (le-ltb w 1 (omega arith), le-leb (length front + 1) w (omega arith)) refl
      ∙ ap (λ y. made w h (set_row a (front ++ x ∷ rest) b (written_at (length front) y (cursor_row s))) (length a) (length front + 1)) (narrow_cells c one)
      ∙ ap (λ y. made w h (set_row a (front ++ x ∷ rest) b (written_at (length front) (narrow c ∷ []) y)) (length a) (length front + 1)) row
      ∙ ap (λ y. made w h (set_row a (front ++ x ∷ rest) b y) (length a) (length front + 1)) (narrow_written c front x rest e own)
      ∙ ap (λ y. made w h y (length a) (length front + 1)) (set_at a (front ++ x ∷ rest) b ((front ++ narrow c ∷ []) ++ rest) (length a) refl)

  right_put : (rows : List (List Cell)) (row n gap : ℕ) → gap ≤ n → n < w → w ≤ GREATEST →
      performed_all (right_ops gap) (made w h rows row (n - gap)) ≡ made w h rows row n
  right_put rows row n zero small room low = same_screen _ _ _ _ _ _ _ _ refl refl (omega arith)
  right_put rows row n (suc gap) small room low =
      let away : eqb (n - suc gap) w ≡ false = ne_eqb (n - suc gap) w (λ e. omega arith) in
      rw away (same_screen _ _ _ _ _ _ _ _ refl refl (omega arith))

  -- all edits
  pub edits_put : (es : List Edit) (gap : ℕ) (a : List (List Cell)) (front cells rest : List Cell) (b : List (List Cell)) →
      AllByRecursion IsNarrow es → AreOwn cells rest → length cells ≡ edit_columns es → gap ≤ length front → length front + length cells ≤ w → w ≤ GREATEST →
      performed_all (edit_ops gap es) (made w h (a ++ (front ++ (cells ++ rest)) ∷ b) (length a) (length front - gap))
      ≡ made w h (a ++ (front ++ (edited cells es ++ rest)) ∷ b) (length a) (length front + length cells - edit_gap gap es)
  edits_put [] gap a front [] rest b all own many small room low = same_screen _ _ _ _ _ _ _ _ refl refl (omega arith)
  edits_put [] gap a front (x ∷ cells) rest b all own many small room low = absurd (omega (arith, many))
  edits_put (Close ∷ es) gap a front cells rest b all own many small room low = edits_put es gap a front cells rest b all.1 own many small room low
  edits_put (Open s ∷ es) gap a front cells rest b all own many small room low = edits_put es gap a front cells rest b all.1 own many small room low
  edits_put (Stay ∷ es) gap a front [] rest b all own many small room low = absurd (omega (arith, many))
  edits_put (Stay ∷ es) gap a front (x ∷ cells) rest b all own many small room low =
      let longer : length (front ++ x ∷ []) ≡ length front + 1 = length-append front (x ∷ []) in
      ap (performed_all (edit_ops (suc gap) es)) (same_screen w h _ (a ++ ((front ++ x ∷ []) ++ (cells ++ rest)) ∷ b) _ (length a) _ (length (front ++ x ∷ []) - suc gap)
      (ap (λ r. a ++ r ∷ b) (sym (append_assoc front (x ∷ []) (cells ++ rest)))) refl (omega (arith, longer)))
      ∙ edits_put es (suc gap) a (front ++ x ∷ []) cells rest b all.1 (record { each = own.each.1; behind = own.behind }) (omega (arith, many)) (omega (arith, longer)) (omega (arith, longer)) low
      ∙ same_screen _ _ _ _ _ _ _ _ (ap (λ r. a ++ r ∷ b) (append_assoc front (x ∷ []) (edited cells es ++ rest))) refl (omega (arith, longer))
  edits_put (Write c ∷ es) gap a front [] rest b all own many small room low = absurd (omega (arith, many))
  edits_put (Write c ∷ es) gap a front (x ∷ cells) rest b all own many small room low =
      let own' : AreOwn cells rest = record { each = own.each.1; behind = own.behind } in
      let longer : length (front ++ narrow c ∷ []) ≡ length front + 1 = length-append front (narrow c ∷ []) in
      let start = made w h (a ++ (front ++ (x ∷ (cells ++ rest))) ∷ b) (length a) (length front - gap) in
      performed_all-append (right_ops gap) (Put c ∷ edit_ops 0 es) start
      ∙ ap (performed_all (Put c ∷ edit_ops 0 es)) (right_put (a ++ (front ++ (x ∷ (cells ++ rest))) ∷ b) (length a) (length front) gap small (omega arith) low)
      ∙ ap (performed_all (edit_ops 0 es)) (narrow_put c a front x (cells ++ rest) b all.0 own.each.0 (own_behind cells rest own') (omega arith)
      ∙ same_screen w h _ (a ++ ((front ++ narrow c ∷ []) ++ (cells ++ rest)) ∷ b) _ (length a) _ (length (front ++ narrow c ∷ []) - 0) refl refl (omega (arith, longer)))
      ∙ edits_put es 0 a (front ++ narrow c ∷ []) cells rest b all.1 own' (omega (arith, many)) (omega arith) (omega (arith, longer)) low
      ∙ same_screen _ _ _ _ _ _ _ _ (ap (λ r. a ++ r ∷ b) (append_assoc front (narrow c ∷ []) (edited cells es ++ rest))) refl (omega (arith, longer))
