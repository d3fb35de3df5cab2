-- The cell in the last column of a line's last row: written again alone it shows the same, where it is free or plain ASCII.
use Rattle.std.proofs.Common.{◌≡◌, ℕ, zero, suc, ◌+◌, ◌-◌, ◌<◌, ◌≤◌, Bool, true, false, List, [], ◌∷◌, ◌++◌, length, take, drop, replicate, map, get_or, refl, sym, ◌∙◌, ap, subst, arith, length-append, append_assoc, append-nil, chars}
use Rattle.std.specs.Prelude.{flat_map, nat_le, not, slice_index, ◌==◌}
use Rattle.std.specs.List.{AllByRecursion, list_any}
use Rattle.std.specs.Str.{IsUtf8}
use Rattle.std.specs.Int.{is_in_range}
use Rattle.std.proofs.Math.Utf8.{low_scalar, encode}
use Rattle.std.proofs.lemmas.List.{get_or_at, take_at, drop_at, map-append, length-replicate, replicate-append-replicate}
use Rattle.std.proofs.lemmas.Bool.{cond_both, and_parts, leb-true}
use Rattle.std.proofs.lemmas.Str.{encode_ascii, chars-append, chars-IsAscii, IsUtf8-take, IsCharBoundary-before_ascii}
use Rattle.indicatif_text.specs.Columns.{Cell, Blank, Continued, Glyph, width_of, glyph_width, glyph_cells, columns_in, visible, glyphs_of, pieces_after, pieces_of, row_of, rows_of, is_plain, has_wide, last_columns, columns_of_last}
use Rattle.indicatif_text.specs.Inside.Runs.{IsPrintable}
use Rattle.indicatif_text.proofs.ColourSequenceLemmas.{visible_none}
use Rattle.indicatif_text.proofs.WidthLemmas.{plain_width}
use Rattle.indicatif_text.proofs.WrappingLemmas.{pieces_some, last_more}
use Rattle.indicatif_term.specs.Shows.{look}
use Rattle.indicatif_term.specs.Inside.RowEdits.{IsNarrowChar, narrow}
use Rattle.indicatif_term.specs.Inside.Changing.{ends_plainly, last_byte}
use Rattle.indicatif_term.proofs.CursorRowLemmas.{IsSized}
use Rattle.indicatif_term.proofs.EditLineLemmas.{glyphs_push}
use Rattle.indicatif_term.proofs.FillLemmas.{last_fits}
use Rattle.indicatif_term.proofs.GlyphLemmas.{IsPiece, cells_push, columns_push, is_piece_push}
use Rattle.indicatif_term.proofs.PaintingLemmas.{IsDrawable}
use Rattle.indicatif_term.proofs.PartingLemmas.{front_visible, ones_visible, space_one, unescaped}
use Rattle.indicatif_term.proofs.TerminalStepLemmas.{printable}
use Rattle.indicatif_term.proofs.WrittenLineLemmas.{glyphs_sized}

-- the cell in the last column of a line's last row looks as this character
pub record EndsWith (w c : ℕ) (line : List ℕ) : Type 0 where
  pub front : List (List Cell)
  pub cells : List Cell
  pub last : Cell
  pub split : rows_of w (chars line) ≡ front ++ (cells ++ last ∷ []) ∷ []
  pub whole : length cells + 1 ≡ w
  pub seen : look last ≡ look (narrow c)
  pub is_narrow : IsNarrowChar c

-- ---- the last byte of a line

pub record EndsIn (line : List ℕ) (b : ℕ) : Type 0 where
  pub front : List ℕ
  pub whole : line ≡ front ++ b ∷ []

ends_in : (x : ℕ) (xs : List ℕ) → (b : ℕ) × EndsIn (x ∷ xs) b
ends_in x [] = (x, record { front = []; whole = refl })
ends_in x (y ∷ xs) = let e = ends_in y xs in (e.0, record { front = x ∷ e.1.front; whole = ap (λ ys. x ∷ ys) e.1.whole })

-- a line that ends plainly
pub record IsEnded (line : List ℕ) : Type 0 where
  pub last : ℕ
  pub ends : EndsIn line last
  pub printable : IsPrintable last
  pub last_at : slice_index line (length line - 1) ≡ last
  pub unescaped_bytes : list_any (λ b. b == 0x1B) line ≡ false

none_any : (b : Bool) → not b ≡ true → b ≡ false
none_any true e = absurd (cc)
none_any false e = refl

in_range : (c : ℕ) → is_in_range 0x20 0x7E c ≡ true → IsPrintable c
in_range c e = let p = and_parts (nat_le 0x20 c) (nat_le c 0x7E) e in (leb-true 0x20 c p.0, leb-true c 0x7E p.1)

is_ended : (line : List ℕ) → ends_plainly line ≡ true → IsEnded line
is_ended [] e = absurd (cc)
is_ended (x ∷ xs) e =
    let line = x ∷ xs in
    let p = and_parts (is_in_range 0x20 0x7E (slice_index line (length line - 1))) (not (list_any (λ b. b == 0x1B) line)) e in
    let q = ends_in x xs in
    let at : length line - 1 ≡ length q.1.front = omega (arith, ap length q.1.whole, length-append q.1.front (q.0 ∷ [])) in
    let last : slice_index line (length line - 1) ≡ q.0 =
    ap (λ n. slice_index line n) at ∙ ap (λ ys. slice_index ys (length q.1.front)) q.1.whole ∙ get_or_at q.1.front q.0 [] 0 (length q.1.front) refl in
    record { last = q.0; ends = q.1; printable = in_range q.0 (ap (is_in_range 0x20 0x7E) (sym last) ∙ p.0); last_at = last; unescaped_bytes = none_any (list_any (λ b. b == 0x1B) line) p.1 }

-- ---- its characters

chars_front : (line : List ℕ) (b : ℕ) (e : EndsIn line b) → IsUtf8 line → b < 128 → chars line ≡ chars e.front ++ b ∷ []
chars_front line b e utf8 low =
    let n = length e.front in
    let within : n < length line = omega (arith, ap length e.whole, length-append e.front (b ∷ [])) in
    let at : get_or line n 0 ≡ b = ap (λ xs. get_or xs n 0) e.whole ∙ get_or_at e.front b [] 0 n refl in
    let front : take n line ≡ e.front = ap (take n) e.whole ∙ take_at e.front (b ∷ []) n refl in
    let utf8' : IsUtf8 e.front = subst IsUtf8 front (IsUtf8-take line n utf8 (IsCharBoundary-before_ascii line n within (omega (arith, at, low)))) in
    ap chars e.whole ∙ chars-append e.front (b ∷ []) utf8' ∙ ap (λ x. chars e.front ++ x) (chars-IsAscii (b ∷ []) (one_ascii b low)) where
      one_ascii : (b : ℕ) → b < 128 → (i : ℕ) → slice_index (b ∷ []) i < 128
      one_ascii b low zero = low
      one_ascii b low (suc i) = omega arith

-- ---- its last piece

record LastGlyph (g : Glyph) (pieces : List (List Glyph)) : Type 0 where
  front : List (List Glyph)
  piece : List Glyph
  split : pieces ≡ front ++ (piece ++ g ∷ []) ∷ []
  columns_are : columns_of_last pieces ≡ columns_in piece + glyph_width g
  is : IsPiece piece

last_glyph : (w : ℕ) (g : Glyph) (p gs : List Glyph) → IsPiece p → AllByRecursion (IsSized w) gs → LastGlyph g (pieces_after w p (gs ++ g ∷ []))
last_glyph w g p [] is all = cond_both (nat_le (columns_in p + glyph_width g) w) ((p ++ g ∷ []) ∷ []) (p ∷ (g ∷ []) ∷ []) (LastGlyph g)
    (λ e. record { front = []; piece = p; split = refl; columns_are = columns_push p g; is = is })
    (λ e. record { front = p ∷ []; piece = []; split = refl; columns_are = omega arith; is = refl })
last_glyph w g p (f ∷ gs) is all =
    let some : 0 < glyph_width f = all.0.columns in
    cond_both (nat_le (columns_in p + glyph_width f) w) (pieces_after w (p ++ f ∷ []) (gs ++ g ∷ [])) (p ∷ pieces_after w (f ∷ []) (gs ++ g ∷ [])) (LastGlyph g)
    (λ e. last_glyph w g (p ++ f ∷ []) gs (is_piece_push p f some is) all.1)
    (λ e. let l = last_glyph w g (f ∷ []) gs (is_piece_push [] f some refl) all.1 in
    record {
      front = p ∷ l.front;
      piece = l.piece;
      split = ap (λ ps. p ∷ ps) l.split;
      columns_are = last_more p (pieces_after w (f ∷ []) (gs ++ g ∷ [])) (pieces_some w (f ∷ []) (gs ++ g ∷ [])) ∙ l.columns_are;
      is = l.is;
    })

pub narrow_char : (c : ℕ) → width_of c ≡ 1 → c < 128 → IsNarrowChar c
narrow_char c one low = record { narrow = one; scalar = rw (low_scalar c (omega arith)) refl; seen = ones_visible (c ∷ []) (one, tt) }

pub plain_ends : (w : ℕ) (line : List ℕ) → 0 < w → IsDrawable w line → ends_plainly line ≡ true → w ≤ last_columns w (chars line) → EndsWith w (slice_index line (length line - 1)) line
unfolding rows_of last_columns is_plain has_wide
plain_ends w line pos d e full =
    let i = is_ended line e in
    let c = i.last in
    let front = i.ends.front in
    let low : c < 128 = omega (arith, i.printable.1) in
    let one : width_of c ≡ 1 = plain_width c i.printable in
    let g : Glyph = record { base = c; joiners = [] } in
    let plain = front_visible (chars line) [] (unescaped line d.utf8 i.unescaped_bytes) in
    let seen : visible (chars line) ≡ chars front ++ c ∷ [] =
    ap visible (sym (append-nil (chars line))) ∙ plain ∙ ap (λ x. chars line ++ x) visible_none ∙ append-nil (chars line) ∙ chars_front line c i.ends d.utf8 low in
    let glyphs : glyphs_of (visible (chars line)) ≡ glyphs_of (chars front) ++ g ∷ [] = ap glyphs_of seen ∙ glyphs_push c (chars front) one in
    let sized : AllByRecursion (IsSized w) (glyphs_of (chars front) ++ g ∷ []) =
    subst (AllByRecursion (IsSized w)) glyphs (glyphs_sized w (visible (chars line)) (printable w (visible (chars line)) d.plain d.narrow)) in
    let l = last_glyph w g [] (glyphs_of (chars front)) refl (front_sized (glyphs_of (chars front)) g sized) in
    let pieces : pieces_of w (glyphs_of (visible (chars line))) ≡ l.front ++ (l.piece ++ g ∷ []) ∷ [] = ap (pieces_of w) glyphs ∙ l.split in
    let columns : columns_of_last (pieces_of w (glyphs_of (visible (chars line)))) ≡ columns_in l.piece + width_of c = ap (λ gs. columns_of_last (pieces_of w gs)) glyphs ∙ l.columns_are in
    let fits : columns_of_last (pieces_of w (glyphs_of (visible (chars line)))) ≤ w =
    last_fits w [] (glyphs_of (visible (chars line))) (omega arith) (subst (AllByRecursion (IsSized w)) (sym glyphs) sized) in
    let cells = flat_map glyph_cells l.piece in
    let whole : length cells + 1 ≡ w = omega (arith, l.is, columns, one, fits, full) in
    let none : w - columns_in (l.piece ++ g ∷ []) ≡ 0 = omega (arith, columns_push l.piece g, columns, one, full) in
    let row : row_of w (l.piece ++ g ∷ []) ≡ cells ++ narrow c ∷ [] =
    ap (λ n. flat_map glyph_cells (l.piece ++ g ∷ []) ++ replicate n Blank) none ∙ append-nil (flat_map glyph_cells (l.piece ++ g ∷ []))
    ∙ cells_push l.piece g ∙ ap (λ n. cells ++ narrow c ∷ replicate (n - 1) Continued) one in
    record {
      front = map (row_of w) l.front;
      cells = cells;
      last = narrow c;
      split = ap (map (row_of w)) pieces ∙ map-append (row_of w) l.front ((l.piece ++ g ∷ []) ∷ []) ∙ ap (λ x. map (row_of w) l.front ++ x ∷ []) row;
      whole = whole;
      seen = ap (λ x. look (narrow x)) (sym i.last_at);
      is_narrow = subst IsNarrowChar (sym i.last_at) (narrow_char c one low);
    } where
      front_sized : (gs : List Glyph) (g : Glyph) → AllByRecursion (IsSized w) (gs ++ g ∷ []) → AllByRecursion (IsSized w) gs
      front_sized [] g all = tt
      front_sized (f ∷ gs) g all = (all.0, front_sized gs g all.1)

-- ---- a last column that is free

-- the last of these pieces
record LastPiece (w : ℕ) (pieces : List (List Glyph)) : Type 0 where
  front : List (List Glyph)
  piece : List Glyph
  split : pieces ≡ front ++ piece ∷ []
  columns_are : columns_of_last pieces ≡ columns_in piece
  is : IsPiece piece

last_piece : (w : ℕ) (p gs : List Glyph) → IsPiece p → AllByRecursion (IsSized w) gs → LastPiece w (pieces_after w p gs)
last_piece w p [] is all = record { front = []; piece = p; split = refl; columns_are = refl; is = is }
last_piece w p (g ∷ gs) is all =
    let some : 0 < glyph_width g = all.0.columns in
    cond_both (nat_le (columns_in p + glyph_width g) w) (pieces_after w (p ++ g ∷ []) gs) (p ∷ pieces_after w (g ∷ []) gs) (LastPiece w)
    (λ e. last_piece w (p ++ g ∷ []) gs (is_piece_push p g some is) all.1)
    (λ e. let l = last_piece w (g ∷ []) gs (is_piece_push [] g some refl) all.1 in
    record {
      front = p ∷ l.front;
      piece = l.piece;
      split = ap (λ ps. p ∷ ps) l.split;
      columns_are = last_more p (pieces_after w (g ∷ []) gs) (pieces_some w (g ∷ []) gs) ∙ l.columns_are;
      is = l.is;
    })

last_blank : (m : ℕ) → 0 < m → replicate m Blank ≡ replicate (m - 1) Blank ++ Blank ∷ []
last_blank m some = sym (replicate-append-replicate (m - 1) 1 Blank ∙ ap (λ n. replicate n Blank) (let e : m - 1 + 1 ≡ m = omega arith in e))

pub free_ends : (w : ℕ) (line : List ℕ) → IsDrawable w line → last_columns w (chars line) < w → EndsWith w 0x20 line
unfolding rows_of last_columns is_plain has_wide
free_ends w line d room =
    let gs = glyphs_of (visible (chars line)) in
    let l = last_piece w [] gs refl (glyphs_sized w (visible (chars line)) (printable w (visible (chars line)) d.plain d.narrow)) in
    let own = flat_map glyph_cells l.piece in
    let k : length own ≡ last_columns w (chars line) = l.is ∙ sym l.columns_are in
    let m = w - last_columns w (chars line) in
    let n = m - 1 in
    record {
      front = map (row_of w) l.front;
      cells = own ++ replicate n Blank;
      last = Blank;
      split = ap (map (row_of w)) l.split ∙ map-append (row_of w) l.front (l.piece ∷ []) ∙ ap (λ n. map (row_of w) l.front ++ (own ++ replicate (w - n) Blank) ∷ []) (sym l.columns_are)
          ∙ ap (λ x. map (row_of w) l.front ++ (own ++ x) ∷ []) (last_blank m (omega (arith, room)))
          ∙ ap (λ x. map (row_of w) l.front ++ x ∷ []) (sym (append_assoc own (replicate n Blank) (Blank ∷ [])));
      whole = omega (arith, length-append own (replicate n Blank), length-replicate {A = Cell} n Blank, k, room);
      seen = refl;
      is_narrow = narrow_char 0x20 space_one (omega arith);
    }

-- ---- that byte

pub last_is : (line : List ℕ) → ends_plainly line ≡ true → last_byte line ≡ encode (slice_index line (length line - 1))
last_is line e =
    let i = is_ended line e in
    let front = i.ends.front in
    let at : length line - 1 ≡ length front = omega (arith, ap length i.ends.whole, length-append front (i.last ∷ [])) in
    ap (λ n. drop n line) at ∙ ap (drop (length front)) i.ends.whole ∙ drop_at front (i.last ∷ []) (length front) refl
    ∙ sym (encode_ascii i.last (omega (arith, i.printable.1))) ∙ ap encode (sym i.last_at)
