-- The last line of a drawing leaves the cursor behind the end of its row.
use Rattle.std.proofs.Common.{inl, inr, ◌≡◌, ℕ, suc, ◌+◌, ◌-◌, ◌<◌, ◌≤◌, Bool, true, false, chars, replicate, if◌then◌else◌, List, [], ◌∷◌, ◌++◌, length, take, drop, map, refl, sym, ◌∙◌, ap, subst, arith, length-append}
use Rattle.std.specs.Prelude.{nat_lt, slice_index}
use Rattle.std.proofs.lemmas.Bool.{cases_Bool, ltb-true, ltb-false}
use Rattle.std.proofs.lemmas.List.{take_at, drop_at, map-append, length-map}
use Rattle.indicatif_text.specs.Columns.{Cell, rows_of}
use Rattle.indicatif_term.specs.Shows.{look, looks_of}
use Rattle.indicatif_term.specs.Inside.Changing.{LineChange, Leave, Within, Whole, PlacedLine, filled_whole, ended_by, ending_by, ending, Becomes, Ends, Sits, ends_plainly}
use Rattle.indicatif_term.proofs.FillLemmas.{spaces}
use Rattle.indicatif_term.proofs.FilledLineLemmas.{filled_line}
use Rattle.indicatif_term.proofs.LastLineLemmas.{fill_width}
use Rattle.indicatif_term.proofs.LastCharLemmas.{EndsWith, plain_ends, free_ends}
use Rattle.indicatif_term.proofs.PaintingLemmas.{IsDrawable}
use Rattle.indicatif_term.specs.Inside.RowEdits.{IsNarrowChar, Renews, Write, AreOwn, narrow, edited, edited_row}
use Rattle.indicatif_term.proofs.EditLineLemmas.{whole_cell}

-- a row that looks like this one ends with a cell that looks like its last
last_cell : (cells r : List Cell) (c : Cell) → map look r ≡ map look (cells ++ c ∷ []) →
    (front : List Cell) × (x : Cell) × (r ≡ front ++ x ∷ []) × (length front ≡ length cells) × (map look front ≡ map look cells) × (look x ≡ look c)
last_cell [] [] c e = absurd (cc)
last_cell [] (x ∷ []) c e = ([], x, refl, refl, refl, cc)
last_cell [] (x ∷ y ∷ r) c e = absurd (cc)
last_cell (d ∷ cells) [] c e = absurd (cc)
last_cell (d ∷ cells) (x ∷ r) c e = let q = last_cell cells r c (cc) in (x ∷ q.0, q.1, ap (λ y. x ∷ y) q.2, ap suc q.3, cc (q.4, e), q.5)

-- the last cell of a row written again, as itself: so a last line that stays leaves the cursor waiting
pub last_cell_again : (w : ℕ) (cells r : List Cell) (x : Cell) (c : ℕ) → IsNarrowChar c → length cells + 1 ≡ w → look x ≡ look (narrow c) → map look r ≡ map look (cells ++ x ∷ []) →
    Renews w (w - 1) (Write c ∷ []) r (cells ++ x ∷ [])
last_cell_again w cells r x c narrow_c whole same e =
    let q = last_cell cells r x e in
    let front = q.0 in
    let y = q.1 in
    let k = w - 1 in
    let es = Write c ∷ [] in
    let d = drop k r in
    let at : length front ≡ k = omega (arith, q.3, whole) in
    let upper : take k r ≡ front = ap (take k) q.2 ∙ take_at front (y ∷ []) k at in
    let lower : d ≡ y ∷ [] = ap (drop k) q.2 ∙ drop_at front (y ∷ []) k at in
    let seen : look y ≡ look (narrow c) = q.5 ∙ same in
    let none : List Cell = [] in
    let own : AreOwn (y ∷ []) none = record { each = (whole_cell y c seen, tt); behind = refl } in
    let row : edited_row k es r ≡ front ++ narrow c ∷ [] =
    ap (λ u. u ++ (edited (take 1 d) es ++ drop 1 d)) upper ∙ ap (λ z. front ++ (edited (take 1 z) es ++ drop 1 z)) lower in
    record {
      writable = (narrow_c, tt);
      whole = ap length q.2 ∙ length-append front (y ∷ []) ∙ omega (arith, at, whole);
      room = omega (arith, whole);
      own = subst (λ z. AreOwn (take 1 z) (drop 1 z)) (sym lower) own;
      looks = ap (map look) row ∙ map-append look front (narrow c ∷ []) ∙ ap (λ u. u ++ look (narrow c) ∷ []) q.4 ∙ ap (λ u. map look cells ++ u ∷ []) (sym same)
          ∙ sym (map-append look cells (x ∷ []));
    }

-- ---- the last line of a drawing

-- a last line as it is written: in as many rows, with the cursor behind the end of the last
pub record Ending (w : ℕ) (stood : List (List Cell)) (p q : PlacedLine) : Type 0 where
  pub rows_is : q.rows ≡ p.rows
  pub sits : Sits w stood q
  pub drawable : IsDrawable w q.line
  pub ends : Ends w q.change q.line
  pub looks : looks_of (rows_of w (chars q.line)) ≡ looks_of (rows_of w (chars p.line))

module _ (w : ℕ) (looks : List (List Cell)) (p : PlacedLine) (pos : 0 < w) (d : IsDrawable w p.line) (s : Sits w looks p) where
  whole_ends : Ending w looks p (filled_whole w p)
  whole_ends =
      let f = filled_line w p.line pos d in
      let line = p.line ++ spaces (fill_width w p.line) in
      let same : replicate (w - p.last) 0x20 ≡ spaces (fill_width w p.line) = ap (λ n. replicate (w - n) 0x20) s.last_is in
      let many : p.rows ≡ length (rows_of w (chars line)) =
      s.rows_are ∙ sym (length-map (rows_of w (chars p.line)) (map look)) ∙ ap length (sym f.looks) ∙ length-map (rows_of w (chars line)) (map look) in
      rw same (record {
        rows_is = refl;
        sits = record { rows_are = many; last_is = sym f.full; becomes = tt; waiting = λ e. f.full };
        drawable = f.drawable;
        ends = f.full;
        looks = f.looks;
      })

  again_ends : (c : ℕ) → take p.rows looks ≡ looks_of (rows_of w (chars p.line)) → EndsWith w c p.line → Ending w looks p (ended_by w c p)
  again_ends c same e =
      let row = e.cells ++ e.last ∷ [] in
      let ends : Ends w (Within (w - 1) (Write c ∷ [])) p.line = (omega (arith, pos), refl) in
      record {
        rows_is = refl;
        sits = record {
          rows_are = s.rows_are;
          last_is = s.last_is;
          becomes = record {
            front = e.front;
            before = row;
            afterwards = row;
            stood_is = same ∙ ap looks_of e.split;
            line_is = e.split;
            renews = λ r seen. last_cell_again w e.cells r e.last c e.is_narrow e.whole e.seen seen;
          };
          waiting = λ t. ends;
        };
        drawable = d;
        ends = ends;
        looks = refl;
      }

  left_ends : take p.rows looks ≡ looks_of (rows_of w (chars p.line)) → Ending w looks p (ending_by Leave w p)
  left_ends same = elim (cases_Bool (nat_lt p.last w)) [
    | inl room ↦ rw room (again_ends 0x20 same (free_ends w p.line d (subst (λ n. n < w) s.last_is (ltb-true p.last w room))))
    | inr full ↦ elim (cases_Bool (ends_plainly p.line)) [
      | inl is ↦ rw (full, is) (again_ends (slice_index p.line (length p.line - 1)) same (plain_ends w p.line pos d is (subst (λ n. w ≤ n) s.last_is (ltb-false p.last w full))))
      | inr other ↦ rw (full, other) whole_ends
    ]
  ]

  waited_ends : (b : Bool) → (b ≡ true → Ends w p.change p.line) → Ending w looks p (if b then p else filled_whole w p)
  waited_ends true e = record { rows_is = refl; sits = s; drawable = d; ends = e refl; looks = refl }
  waited_ends false e = whole_ends

  by_change : (c : LineChange) → p.change ≡ c → Becomes w c (take p.rows looks) p.line → Ending w looks p (ending_by c w p)
  by_change Leave e b = left_ends b
  by_change (Within k es) e b = waited_ends p.waits s.waiting
  by_change Whole e b = whole_ends

pub ending_ends : (w : ℕ) (looks : List (List Cell)) (p : PlacedLine) → 0 < w → IsDrawable w p.line → Sits w looks p → Ending w looks p (ending w p)
ending_ends w looks p pos d s = by_change w looks p pos d s p.change refl s.becomes
