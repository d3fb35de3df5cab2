-- Glyphs written over rows that hold anything, where each row is written to its end.
use Rattle.std.proofs.Common.{◌≡◌, ℕ, zero, suc, ◌+◌, ◌-◌, ◌<◌, ◌≤◌, true, false, List, [], ◌∷◌, ◌++◌, length, get_or, drop, replicate, map, refl, sym, ◌∙◌, ap, subst, arith, length-append, append_assoc, append-nil, Some, inl, inr}
use Rattle.std.specs.Prelude.{flat_map, nat_le, nat_lt}
use Rattle.std.specs.List.{AllByRecursion}
use Rattle.std.proofs.lemmas.Bool.{cases_Bool, cond_both, leb-true, le-ltb, lt-ltb}
use Rattle.std.proofs.lemmas.List.{length-replicate, length-map, length-drop, get_or-append_right, get_or_at, set_at, take_at, drop_at, drop-drop, nil_from_length}
use Rattle.std.proofs.lemmas.List.Elements.{recursion_from_All}
use Rattle.unicode_width.specs.Width.{char_width}
use Rattle.indicatif_text.specs.Columns.{Cell, Blank, Written, Continued, Glyph, width_of, glyph_width, glyph_cells, glyphs_of, columns_in, blank_row, row_of, pieces_after, pieces_of}
use Rattle.indicatif_text.proofs.WrappingLemmas.{pieces_some}
use Rattle.indicatif_term.specs.Screen.{Screen, Put, performed, put_here, put_sized, line_feed, is_continued, written_at, emptied_front, cut_before, cursor_row, with_joiner, joined_at}
use Rattle.indicatif_term.specs.Inside.Scanners.{performed_all}
use Rattle.indicatif_term.proofs.CursorRowLemmas.{IsSized, IsShowable, glyph_ops}
use Rattle.indicatif_term.proofs.ScreenRowLemmas.{made, same_screen, joined}
use Rattle.indicatif_term.proofs.GlyphLemmas.{IsPiece, length_cells, is_piece_push, cells_push, columns_push, put_sized_here, put_sized_next, some_width}
use Rattle.indicatif_term.proofs.RowEditLemmas.{length-emptied_front}
use Rattle.indicatif_term.proofs.FeedLemmas.{performed_all-append}
use Rattle.indicatif_term.proofs.WrittenLineLemmas.{joiners_before, split_glyphs, glyphs_sized}

-- ---- cells written over

-- where a glyph ends in front of these cells
abbrev pub IsClean : ℕ → List Cell → Type 0
IsClean n rest = 0 < n → is_continued (get_or rest 0 Blank) ≡ false

cut_front : (row : List Cell) → cut_before 0 row ≡ []
cut_front row = elim (cases_Bool (is_continued (get_or row 0 Blank))) [ inl e ↦ rw e refl | inr e ↦ rw e refl ]

cut_over : (cells rest : List Cell) → IsClean (length cells) rest → cut_before (length cells) (cells ++ rest) ≡ cells
cut_over [] rest clean = cut_front rest
cut_over (c ∷ cells) rest clean =
    let n = length (c ∷ cells) in
    let at : get_or ((c ∷ cells) ++ rest) n Blank ≡ get_or rest 0 Blank =
    get_or-append_right (c ∷ cells) rest n n Blank refl (omega arith) ∙ ap (λ k. get_or rest k Blank) (let e : n - n ≡ 0 = omega arith in e) in
    let none : is_continued (get_or ((c ∷ cells) ++ rest) n Blank) ≡ false = ap is_continued at ∙ clean (omega arith) in
    rw none (take_at (c ∷ cells) rest n refl)

written_over : (cells new rest : List Cell) → IsClean (length cells) rest → written_at (length cells) new (cells ++ rest) ≡ (cells ++ new) ++ emptied_front (drop (length new) rest)
written_over cells new rest clean =
    let n = length cells in
    let behind : drop (n + length new) (cells ++ rest) ≡ drop (length new) rest = sym (drop-drop (length new) n (cells ++ rest)) ∙ ap (drop (length new)) (drop_at cells rest n refl) in
    ap (λ x. (x ++ new) ++ emptied_front (drop (n + length new) (cells ++ rest))) (cut_over cells rest clean) ∙ ap (λ x. (cells ++ new) ++ emptied_front x) behind

clean_front : (n : ℕ) (cs : List Cell) → IsClean n (emptied_front cs)
clean_front n [] p = refl
clean_front n (c ∷ cs) p = elim c as (λ c. is_continued (get_or (emptied_front (c ∷ cs)) 0 Blank) ≡ false) [ Blank ↦ refl | Written g ↦ refl | Continued ↦ refl ]

-- ---- one glyph

-- every row has w cells
abbrev pub AreWide : ℕ → List (List Cell) → Type 0
AreWide w rows = AllByRecursion (λ r. length r ≡ w) rows

-- the row below
record Below (w : ℕ) (b : List (List Cell)) : Type 0 where
  row : List Cell
  more : List (List Cell)
  wide : length row ≡ w
  all : AreWide w more
  dropped : (k : ℕ) → 0 < k → drop (k - 1) more ≡ drop k b
  fed : (h column : ℕ) (a : List (List Cell)) (x : List Cell) → line_feed (made w h (a ++ x ∷ b) (length a) column) ≡ made w h ((a ++ x ∷ []) ++ row ∷ more) (length (a ++ x ∷ [])) column

drop_nil : (k : ℕ) → drop k (let none : List (List Cell) = [] in none) ≡ []
drop_nil zero = refl
drop_nil (suc k) = refl

below : (w : ℕ) (b : List (List Cell)) → AreWide w b → Below w b
below w [] all = record {
  row = blank_row w;
  more = [];
  wide = length-replicate w Blank;
  all = tt;
  dropped = λ k p. drop_nil (k - 1) ∙ sym (drop_nil k);
  fed = λ h column a x.
      let last : nat_lt (length a + 1) (length (a ++ x ∷ [])) ≡ false = le-ltb (length a + 1) (length (a ++ x ∷ [])) (omega (arith, length-append a (x ∷ []))) in
      same_screen _ _ _ _ _ _ _ _ (rw last refl) (omega (arith, length-append a (x ∷ []))) refl;
}
below w (r ∷ b) all = record {
  row = r;
  more = b;
  wide = all.0;
  all = all.1;
  dropped = λ k p. dropped_one k p;
  fed = λ h column a x.
      let more : nat_lt (length a + 1) (length (a ++ x ∷ r ∷ b)) ≡ true = lt-ltb (length a + 1) (length (a ++ x ∷ r ∷ b)) (omega (arith, length-append a (x ∷ r ∷ b))) in
      same_screen _ _ _ _ _ _ _ _ (rw more (sym (append_assoc a (x ∷ []) (r ∷ b)))) (omega (arith, length-append a (x ∷ []))) refl;
} where
  dropped_one : (k : ℕ) → 0 < k → drop (k - 1) b ≡ drop k (r ∷ b)
  dropped_one zero p = absurd (omega arith)
  dropped_one (suc k) p = ap (λ n. drop n b) (let e : suc k - 1 ≡ k = omega arith in e)

-- pieces that fill their rows
abbrev pub AreFull : ℕ → List (List Glyph) → Type 0
AreFull w pieces = AllByRecursion (λ p. columns_in p ≡ w) pieces

-- visible characters of which none joins what stands before them, and which fill their rows
pub record Fills (w : ℕ) (cs : List ℕ) : Type 0 where
  pub printable : AllByRecursion (IsShowable w) cs
  pub unmarked : joiners_before cs ≡ []
  pub full : AreFull w (pieces_of w (glyphs_of cs))

-- their rows
abbrev pub text_cells : ℕ → List ℕ → List (List Cell)
text_cells w cs = map (row_of w) (pieces_of w (glyphs_of cs))

-- those of many
abbrev pub texts_cells : ℕ → List (List ℕ) → List (List Cell)
texts_cells w lines = flat_map (text_cells w) lines

module _ (w h : ℕ) where
  -- a piece in a row with any cells behind it, the cursor after it
  abbrev over_at : List (List Cell) → List Glyph → List Cell → List (List Cell) → Screen
  over_at a piece rest b = made w h (a ++ (flat_map glyph_cells piece ++ rest) ∷ b) (length a) (columns_in piece)

  put_over : (a : List (List Cell)) (cells rest : List Cell) (b : List (List Cell)) (column k : ℕ) (g : Glyph) → length cells ≡ column → IsClean (length cells) rest →
      put_here g k (made w h (a ++ (cells ++ rest) ∷ b) (length a) column) ≡ made w h (a ++ ((cells ++ glyph_cells g) ++ emptied_front (drop (length (glyph_cells g)) rest)) ∷ b) (length a)
      (column + k)
  put_over a cells rest b column k g e clean =
      let new = (cells ++ glyph_cells g) ++ emptied_front (drop (length (glyph_cells g)) rest) in
      let here : cursor_row (made w h (a ++ (cells ++ rest) ∷ b) (length a) (length cells)) ≡ cells ++ rest = get_or_at a (cells ++ rest) b [] (length a) refl in
      rw (← e, here, written_over cells (glyph_cells g) rest clean, set_at a (cells ++ rest) b new (length a) refl) refl

  put_base : (a : List (List Cell)) (piece : List Glyph) (rest : List Cell) (b : List (List Cell)) (c : ℕ) → 0 < width_of c → IsPiece piece → columns_in piece + width_of c ≤ w →
      IsClean (columns_in piece) rest →
      performed (Put c) (over_at a piece rest b) ≡ over_at a (piece ++ record { base = c; joiners = [] } ∷ []) (emptied_front (drop (width_of c) rest)) b
  put_base a piece rest b c pos is fits clean =
      let g : Glyph = record { base = c; joiners = [] } in
      let s = over_at a piece rest b in
      let cells = flat_map glyph_cells piece in
      let long : length (glyph_cells g) ≡ width_of c = length_cells g pos in
      ap (λ o. put_sized c o s) (some_width (char_width false c) pos)
      ∙ put_sized_here c (width_of c) s pos (omega arith) fits
      ∙ put_over a cells rest b (columns_in piece) (width_of c) g is (λ p. clean (omega (arith, is)))
      ∙ same_screen _ _ _ _ _ _ _ _ (ap (λ n. a ++ ((cells ++ glyph_cells g) ++ emptied_front (drop n rest)) ∷ b) long
      ∙ ap (λ x. a ++ (x ++ emptied_front (drop (width_of c) rest)) ∷ b) (sym (cells_push piece g))) refl (sym (columns_push piece g))

  put_joiner_over : (a : List (List Cell)) (piece : List Glyph) (rest : List Cell) (b : List (List Cell)) (c : ℕ) (g : Glyph) → 0 < glyph_width g → IsPiece piece → char_width false c ≡ Some 0 →
      performed (Put c) (over_at a (piece ++ g ∷ []) rest b) ≡ over_at a (piece ++ with_joiner c g ∷ []) rest b
  put_joiner_over a piece rest b c g pos is zero_width =
      let s = over_at a (piece ++ g ∷ []) rest b in
      let cells = flat_map glyph_cells (piece ++ g ∷ []) in
      let new = flat_map glyph_cells (piece ++ with_joiner c g ∷ []) in
      let is' : length cells ≡ columns_in (piece ++ g ∷ []) = is_piece_push piece g pos is in
      let at : columns_in (piece ++ g ∷ []) ≡ length (flat_map glyph_cells piece ++ glyph_cells g) = sym is' ∙ ap length (cells_push piece g) in
      let row : joined_at (columns_in (piece ++ g ∷ [])) c (cells ++ rest) ≡ new ++ rest =
      ap (λ n. joined_at n c (cells ++ rest)) at ∙ ap (λ x. joined_at (length (flat_map glyph_cells piece ++ glyph_cells g)) c (x ++ rest)) (cells_push piece g)
      ∙ joined c (flat_map glyph_cells piece) g rest ∙ ap (λ x. x ++ rest) (sym (cells_push piece (with_joiner c g))) in
      let here : cursor_row s ≡ cells ++ rest = get_or_at a (cells ++ rest) b [] (length a) refl in
      ap (λ o. put_sized c o s) zero_width
      ∙ rw (here, row, set_at a (cells ++ rest) b (new ++ rest) (length a) refl) refl
      ∙ same_screen _ _ _ _ _ _ _ _ refl refl (columns_push piece g ∙ sym (columns_push piece (with_joiner c g)))

  joiners_over : (a : List (List Cell)) (piece : List Glyph) (rest : List Cell) (b : List (List Cell)) (ms : List ℕ) (g : Glyph) → 0 < glyph_width g → IsPiece piece →
      AllByRecursion (λ c. char_width false c ≡ Some 0) ms →
      performed_all (map (λ c. Put c) ms) (over_at a (piece ++ g ∷ []) rest b) ≡ over_at a (piece ++ record g { joiners = g.joiners ++ ms } ∷ []) rest b
  joiners_over a piece rest b [] g pos is all = ap (λ ms. over_at a (piece ++ record g { joiners = ms } ∷ []) rest b) (sym (append-nil g.joiners))
  joiners_over a piece rest b (m ∷ ms) g pos is all =
      ap (performed_all (map (λ c. Put c) ms)) (put_joiner_over a piece rest b m g pos is all.0)
      ∙ joiners_over a piece rest b ms (with_joiner m g) pos is all.1
      ∙ ap (λ ms. over_at a (piece ++ record g { joiners = ms } ∷ []) rest b) (append_assoc g.joiners (m ∷ []) ms)

  glyph_over : (a : List (List Cell)) (piece : List Glyph) (rest : List Cell) (b : List (List Cell)) (g : Glyph) → IsSized w g → IsPiece piece → columns_in piece + glyph_width g ≤ w →
      IsClean (columns_in piece) rest →
      performed_all (glyph_ops g) (over_at a piece rest b) ≡ over_at a (piece ++ g ∷ []) (emptied_front (drop (glyph_width g) rest)) b
  glyph_over a piece rest b g sized is fits clean =
      let rest' = emptied_front (drop (glyph_width g) rest) in
      ap (performed_all (map (λ c. Put c) g.joiners)) (put_base a piece rest b g.base sized.columns is fits clean)
      ∙ joiners_over a piece rest' b g.joiners (record { base = g.base; joiners = [] }) sized.columns is (recursion_from_All (λ c. char_width false c ≡ Some 0) g.joiners sized.joiners)

  -- at the end of a full row, the same as at the front of the next
  glyph_over_next : (a : List (List Cell)) (x : List Cell) (b : List (List Cell)) (n : Below w b) (g : Glyph) → IsSized w g →
      performed_all (glyph_ops g) (made w h (a ++ x ∷ b) (length a) w) ≡ over_at (a ++ x ∷ []) (g ∷ []) (emptied_front (drop (glyph_width g) n.row)) n.more
  glyph_over_next a x b n g sized =
      let c = g.base in
      let s = made w h (a ++ x ∷ b) (length a) w in
      let s' = made w h ((a ++ x ∷ []) ++ n.row ∷ n.more) (length (a ++ x ∷ [])) 0 in
      let pos : 0 < width_of c = sized.columns in
      let fits : width_of c ≤ w = sized.fits in
      let first : performed (Put c) s ≡ performed (Put c) s' =
      ap (λ o. put_sized c o s) (some_width (char_width false c) pos)
      ∙ put_sized_next c (width_of c) s pos fits (omega arith)
      ∙ ap (put_here (record { base = c; joiners = [] }) (width_of c)) (n.fed h 0 a x)
      ∙ sym (put_sized_here c (width_of c) s' pos fits (omega arith))
      ∙ sym (ap (λ o. put_sized c o s') (some_width (char_width false c) pos)) in
      ap (performed_all (map (λ c. Put c) g.joiners)) first
      ∙ glyph_over (a ++ x ∷ []) [] n.row n.more g sized refl (omega arith) (λ p. absurd (omega arith))

  -- ---- glyphs

  -- the screen after these pieces
  abbrev after_pieces : List (List Cell) → List (List Glyph) → List (List Cell) → Screen
  after_pieces a ps b = made w h (a ++ (map (row_of w) ps ++ drop (length ps - 1) b)) (length a + length ps - 1) w

  full_row : (piece : List Glyph) (rest : List Cell) → columns_in piece ≡ w → columns_in piece + length rest ≡ w → flat_map glyph_cells piece ++ rest ≡ row_of w piece
  full_row piece rest e k =
      ap (λ x. flat_map glyph_cells piece ++ x) (nil_from_length rest (omega arith) ∙ ap (λ n. replicate n Blank) (let z : 0 ≡ w - columns_in piece = omega arith in z))

  glyphs_over : (a : List (List Cell)) (piece : List Glyph) (rest : List Cell) (b : List (List Cell)) (gs : List Glyph) → AllByRecursion (IsSized w) gs → IsPiece piece →
      columns_in piece + length rest ≡ w →
      IsClean (columns_in piece) rest → AreWide w b → AreFull w (pieces_after w piece gs) →
      performed_all (flat_map glyph_ops gs) (over_at a piece rest b) ≡ after_pieces a (pieces_after w piece gs) b
  glyphs_over a piece rest b [] sized is k clean wide full =
      same_screen _ _ _ _ _ _ _ _ (ap (λ x. a ++ x ∷ b) (full_row piece rest full.0 k)) (omega arith) full.0
  glyphs_over a piece rest b (g ∷ gs) sized is k clean wide full =
      performed_all-append (glyph_ops g) (flat_map glyph_ops gs) (over_at a piece rest b)
      ∙ cond_both (nat_le (columns_in piece + glyph_width g) w) (pieces_after w (piece ++ g ∷ []) gs) (piece ∷ pieces_after w (g ∷ []) gs)
      (λ ps. AreFull w ps → performed_all (flat_map glyph_ops gs) (performed_all (glyph_ops g) (over_at a piece rest b)) ≡ after_pieces a ps b)
      (λ e. λ f.
      let fits : columns_in piece + glyph_width g ≤ w = leb-true (columns_in piece + glyph_width g) w e in
      let rest' = emptied_front (drop (glyph_width g) rest) in
      ap (performed_all (flat_map glyph_ops gs)) (glyph_over a piece rest b g sized.0 is fits clean)
      ∙ glyphs_over a (piece ++ g ∷ []) rest' b gs sized.1 (is_piece_push piece g sized.0.columns is)
      (omega (arith, columns_push piece g, length-emptied_front (drop (glyph_width g) rest), length-drop (glyph_width g) rest))
      (clean_front (columns_in (piece ++ g ∷ [])) (drop (glyph_width g) rest)) wide f)
      (λ e. λ f.
      let n = below w b wide in
      let x = flat_map glyph_cells piece ++ rest in
      let ps = pieces_after w (g ∷ []) gs in
      let some : 0 < length ps = pieces_some w (g ∷ []) gs in
      let fits : glyph_width g ≤ w = sized.0.fits in
      let rest' = emptied_front (drop (glyph_width g) n.row) in
      ap (λ c. performed_all (flat_map glyph_ops gs) (performed_all (glyph_ops g) (made w h (a ++ x ∷ b) (length a) c))) f.0
      ∙ ap (performed_all (flat_map glyph_ops gs)) (glyph_over_next a x b n g sized.0)
      ∙ glyphs_over (a ++ x ∷ []) (g ∷ []) rest' n.more gs sized.1 (is_piece_push [] g sized.0.columns refl)
      (omega (arith, n.wide, length-emptied_front (drop (glyph_width g) n.row), length-drop (glyph_width g) n.row)) (clean_front (columns_in (g ∷ [])) (drop (glyph_width g) n.row)) n.all f.1
      ∙ next_pieces a x (row_of w piece) ps b n some (full_row piece rest f.0 k))
      full where
        next_pieces : (a : List (List Cell)) (x y : List Cell) (ps : List (List Glyph)) (b : List (List Cell)) (n : Below w b) → 0 < length ps → x ≡ y →
            after_pieces (a ++ x ∷ []) ps n.more ≡ made w h (a ++ ((y ∷ map (row_of w) ps) ++ drop (suc (length ps) - 1) b)) (length a + suc (length ps) - 1) w
        next_pieces a x y ps b n some e =
            let count : suc (length ps) - 1 ≡ length ps = omega arith in
            same_screen _ _ _ _ _ _ _ _
            (append_assoc a (x ∷ []) (map (row_of w) ps ++ drop (length ps - 1) n.more) ∙ ap (λ z. a ++ z ∷ (map (row_of w) ps ++ drop (length ps - 1) n.more)) e
            ∙ ap (λ z. a ++ y ∷ (map (row_of w) ps ++ z)) (n.dropped (length ps) some ∙ ap (λ k. drop k b) (sym count)))
            (omega (arith, length-append a (x ∷ []))) refl

  -- ---- texts

  puts_glyphs : (cs : List ℕ) → Fills w cs → map (λ c. Put c) cs ≡ flat_map glyph_ops (glyphs_of cs)
  puts_glyphs cs f = split_glyphs cs ∙ ap (λ ms. map (λ c. Put c) ms ++ flat_map glyph_ops (glyphs_of cs)) f.unmarked

  -- rows of which the last is full, the cursor at its end, and rows below them
  abbrev pub waiting : List (List Cell) → List (List Cell) → Screen
  waiting rows b = made w h (rows ++ b) (length rows - 1) w

  -- from the front of a row
  text_first : (a : List (List Cell)) (r : List Cell) (b : List (List Cell)) (cs : List ℕ) → Fills w cs → length r ≡ w → AreWide w b →
      performed_all (map (λ c. Put c) cs) (made w h (a ++ r ∷ b) (length a) 0) ≡ waiting (a ++ text_cells w cs) (drop (length (text_cells w cs) - 1) b)
  text_first a r b cs f wide all =
      let ps = pieces_of w (glyphs_of cs) in
      let count : length ps ≡ length (text_cells w cs) = sym (length-map ps (row_of w)) in
      ap (λ ops. performed_all ops (made w h (a ++ r ∷ b) (length a) 0)) (puts_glyphs cs f)
      ∙ glyphs_over a [] r b (glyphs_of cs) (glyphs_sized w cs f.printable) refl (omega (arith, wide)) (λ p. absurd (omega arith)) all f.full
      ∙ same_screen _ _ _ _ _ _ _ _ (sym (append_assoc a (text_cells w cs) (drop (length ps - 1) b)) ∙ ap (λ n. (a ++ text_cells w cs) ++ drop (n - 1) b) count)
      (omega (arith, count, length-append a (text_cells w cs))) refl

  no_glyph : (cs : List ℕ) → 0 < w → AreFull w (pieces_of w (glyphs_of cs)) → glyphs_of cs ≡ [] → ⊥
  no_glyph cs pos full e = let z : AreFull w (pieces_of w []) = subst (λ gs. AreFull w (pieces_of w gs)) e full in let q : 0 ≡ w = z.0 in omega arith

  last_split : (rows : List (List Cell)) → 0 < length rows → (a : List (List Cell)) × (x : List Cell) × (rows ≡ a ++ x ∷ [])
  last_split [] p = absurd (omega arith)
  last_split (x ∷ []) p = ([], x, refl)
  last_split (x ∷ y ∷ rows) p = let s = last_split (y ∷ rows) (omega arith) in (x ∷ s.0, s.1, ap (λ z. x ∷ z) s.2)

  glyphs_next : (a : List (List Cell)) (x : List Cell) (b : List (List Cell)) (gs : List Glyph) → 0 < length gs → AllByRecursion (IsSized w) gs → AreWide w b → AreFull w (pieces_of w gs) →
      performed_all (flat_map glyph_ops gs) (made w h (a ++ x ∷ b) (length a) w) ≡ made w h ((a ++ x ∷ []) ++ (map (row_of w) (pieces_of w gs) ++ drop (length (pieces_of w gs)) b))
      (length (a ++ x ∷ []) + length (pieces_of w gs) - 1) w
  glyphs_next a x b [] some sized wide full = absurd (omega arith)
  glyphs_next a x b (g ∷ gs) some sized wide full =
      let n = below w b wide in
      let fits : glyph_width g ≤ w = sized.0.fits in
      let ps = pieces_of w (g ∷ gs) in
      let pos : 0 < length ps = pieces_some w [] (g ∷ gs) in
      let base = a ++ x ∷ [] in
      let same : performed_all (glyph_ops g) (made w h (a ++ x ∷ b) (length a) w) ≡ performed_all (glyph_ops g) (over_at base [] n.row n.more) =
      glyph_over_next a x b n g sized.0 ∙ sym (glyph_over base [] n.row n.more g sized.0 refl (omega arith) (λ p. absurd (omega arith))) in
      performed_all-append (glyph_ops g) (flat_map glyph_ops gs) (made w h (a ++ x ∷ b) (length a) w)
      ∙ ap (performed_all (flat_map glyph_ops gs)) same
      ∙ sym (performed_all-append (glyph_ops g) (flat_map glyph_ops gs) (over_at base [] n.row n.more))
      ∙ glyphs_over base [] n.row n.more (g ∷ gs) sized refl (omega (arith, n.wide)) (λ p. absurd (omega arith)) n.all full
      ∙ same_screen _ _ _ _ _ _ _ _ (ap (λ z. base ++ (map (row_of w) ps ++ z)) (n.dropped (length ps) pos)) refl refl

  some_glyphs : (gs : List Glyph) → (gs ≡ [] → ⊥) → 0 < length gs
  some_glyphs [] f = absurd (f refl)
  some_glyphs (g ∷ gs) f = omega arith

  -- from the end of a full row
  text_next : (rows b : List (List Cell)) (cs : List ℕ) → 0 < w → 0 < length rows → Fills w cs → AreWide w b →
      performed_all (map (λ c. Put c) cs) (waiting rows b) ≡ waiting (rows ++ text_cells w cs) (drop (length (text_cells w cs)) b)
  text_next rows b cs pos some f wide =
      let s = last_split rows some in
      let a = s.0 in
      let x = s.1 in
      let ps = pieces_of w (glyphs_of cs) in
      let count : length ps ≡ length (text_cells w cs) = sym (length-map ps (row_of w)) in
      let rows_length : length rows ≡ length a + 1 = ap length s.2 ∙ length-append a (x ∷ []) in
      ap (λ ops. performed_all ops (waiting rows b)) (puts_glyphs cs f)
      ∙ ap (performed_all (flat_map glyph_ops (glyphs_of cs))) (same_screen w h (rows ++ b) (a ++ x ∷ b) (length rows - 1) (length a) w w (ap (λ z. z ++ b) s.2 ∙ append_assoc a (x ∷ []) b)
      (omega arith) refl)
      ∙ glyphs_next a x b (glyphs_of cs) (some_glyphs (glyphs_of cs) (no_glyph cs pos f.full)) (glyphs_sized w cs f.printable) wide f.full
      ∙ same_screen _ _ _ _ _ _ _ _ (ap (λ z. z ++ (text_cells w cs ++ drop (length ps) b)) (sym s.2) ∙ sym (append_assoc rows (text_cells w cs) (drop (length ps) b))
      ∙ ap (λ n. (rows ++ text_cells w cs) ++ drop n b) count)
      (omega (arith, ap length s.2, count, length-append rows (text_cells w cs))) refl

  -- ---- many texts

  wide_drop : (k : ℕ) (b : List (List Cell)) → AreWide w b → AreWide w (drop k b)
  wide_drop zero b all = all
  wide_drop (suc k) [] all = tt
  wide_drop (suc k) (r ∷ b) all = wide_drop k b all.1

  texts_next : (rows b : List (List Cell)) (lines : List (List ℕ)) → 0 < w → 0 < length rows → AllByRecursion (Fills w) lines → AreWide w b →
      performed_all (flat_map (λ cs. map (λ c. Put c) cs) lines) (waiting rows b) ≡ waiting (rows ++ texts_cells w lines) (drop (length (texts_cells w lines)) b)
  texts_next rows b [] pos some f wide = same_screen _ _ _ _ _ _ _ _ (ap (λ z. z ++ b) (sym (append-nil rows))) (ap (λ z. length z - 1) (sym (append-nil rows))) refl
  texts_next rows b (cs ∷ lines) pos some f wide =
      let n = length (text_cells w cs) in
      let m = length (texts_cells w lines) in
      performed_all-append (map (λ c. Put c) cs) (flat_map (λ cs. map (λ c. Put c) cs) lines) (waiting rows b)
      ∙ ap (performed_all (flat_map (λ cs. map (λ c. Put c) cs) lines)) (text_next rows b cs pos some f.0 wide)
      ∙ texts_next (rows ++ text_cells w cs) (drop n b) lines pos (omega (arith, length-append rows (text_cells w cs))) f.1 (wide_drop n b wide)
      ∙ same_screen _ _ _ _ _ _ _ _
      (ap (λ z. z ++ drop m (drop n b)) (append_assoc rows (text_cells w cs) (texts_cells w lines))
      ∙ ap (λ z. (rows ++ (text_cells w cs ++ texts_cells w lines)) ++ z) (drop-drop m n b ∙ ap (λ k. drop k b) (sym (length-append (text_cells w cs) (texts_cells w lines)))))
      (ap (λ z. length z - 1) (append_assoc rows (text_cells w cs) (texts_cells w lines))) refl

  -- from the front of the first row
  pub texts_over : (a : List (List Cell)) (r : List Cell) (b : List (List Cell)) (cs : List ℕ) (lines : List (List ℕ)) → 0 < w → AllByRecursion (Fills w) (cs ∷ lines) → length r ≡ w → AreWide w b →
      performed_all (flat_map (λ cs. map (λ c. Put c) cs) (cs ∷ lines)) (made w h (a ++ r ∷ b) (length a) 0)
      ≡ waiting (a ++ texts_cells w (cs ∷ lines)) (drop (length (texts_cells w (cs ∷ lines)) - 1) b)
  texts_over a r b cs lines pos f wide all =
      let n = length (text_cells w cs) in
      let m = length (texts_cells w lines) in
      let some : 0 < n = omega (arith, length-map (pieces_of w (glyphs_of cs)) (row_of w), pieces_some w [] (glyphs_of cs)) in
      performed_all-append (map (λ c. Put c) cs) (flat_map (λ cs. map (λ c. Put c) cs) lines) (made w h (a ++ r ∷ b) (length a) 0)
      ∙ ap (performed_all (flat_map (λ cs. map (λ c. Put c) cs) lines)) (text_first a r b cs f.0 wide all)
      ∙ texts_next (a ++ text_cells w cs) (drop (n - 1) b) lines pos (omega (arith, length-append a (text_cells w cs))) f.1 (wide_drop (n - 1) b all)
      ∙ same_screen _ _ _ _ _ _ _ _
      (ap (λ z. z ++ drop m (drop (n - 1) b)) (append_assoc a (text_cells w cs) (texts_cells w lines))
      ∙ ap (λ z. (a ++ (text_cells w cs ++ texts_cells w lines)) ++ z)
      (drop-drop m (n - 1) b ∙ ap (λ k. drop k b) (omega (arith, length-append (text_cells w cs) (texts_cells w lines)))))
      (ap (λ z. length z - 1) (append_assoc a (text_cells w cs) (texts_cells w lines))) refl
