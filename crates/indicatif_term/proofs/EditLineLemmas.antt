-- Edits of the row of a line make the row of another.
use Rattle.std.proofs.Common.{inl, inr, ◌≡◌, ℕ, zero, suc, ◌+◌, ◌-◌, ◌<◌, ◌≤◌, false, List, [], ◌∷◌, ◌++◌, length, take, drop, map, replicate, get_or, refl, sym, ◌∙◌, ap, arith, length-append, append_assoc, append-nil, eqb, cond}
use Rattle.std.specs.Prelude.{flat_map, ◌&&◌, ◌==◌}
use Rattle.std.specs.List.{AllByRecursion}
use Rattle.std.proofs.lemmas.Bool.{cases_Bool, le-leb}
use Rattle.std.proofs.lemmas.Grind.{flat_map-append}
use Rattle.std.proofs.lemmas.List.{length-map, length-replicate, map-append, take-map, drop-map, take_at, drop_at, replicate-append-replicate}
use Rattle.std.proofs.lemmas.List.Sums.{sum_by-cons, sum_by-append}
use Rattle.indicatif_text.specs.Columns.{Cell, Blank, Written, Continued, Glyph, width_of, glyph_width, glyph_cells, columns_in, visible, glyphs_of, pieces_after, pieces_of, row_of, rows_of}
use Rattle.indicatif_term.specs.Screen.{is_continued}
use Rattle.indicatif_term.specs.Shows.{look}
use Rattle.indicatif_term.proofs.GlyphLemmas.{length_cells, columns_push}
use Rattle.indicatif_term.proofs.WrittenLineLemmas.{joiners_before, joiners_before-cons, has_no_width}
use Rattle.indicatif_term.specs.Inside.RowEdits.{Edit, Stay, Write, Close, Open, IsOwn, edit_columns, narrow, edited, Renews, Lead, padded_chars, Tails, Turns}
use Rattle.indicatif_term.proofs.CellEditLemmas.{narrow_cells}

abbrev pub IsOne : ℕ → Type 0
IsOne c = width_of c ≡ 1

abbrev pub one : ℕ → Glyph
one c = record { base = c; joiners = [] }

-- ---- glyphs

joiners_push : (c : ℕ) (cs : List ℕ) → width_of c ≡ 1 → joiners_before (cs ++ c ∷ []) ≡ joiners_before cs
joiners_push c [] e = let some : has_no_width c ≡ false = ap (λ n. n == 0) e in joiners_before-cons c [] ∙ rw some refl
joiners_push c (d ∷ cs) e = joiners_before-cons d (cs ++ c ∷ []) ∙ ap (λ ms. cond (has_no_width d) (d ∷ ms) []) (joiners_push c cs e) ∙ sym (joiners_before-cons d cs)

pub glyphs_push : (c : ℕ) (cs : List ℕ) → width_of c ≡ 1 → glyphs_of (cs ++ c ∷ []) ≡ glyphs_of cs ++ one c ∷ []
glyphs_push c [] e = let some : eqb (width_of c) 0 ≡ false = ap (λ n. eqb n 0) e in rw some refl
glyphs_push c (d ∷ cs) e = elim (cases_Bool (eqb (width_of d) 0)) [
  | inl none ↦ rw none (glyphs_push c cs e)
  | inr some ↦ rw (some, joiners_push c cs e, glyphs_push c cs e) refl
]

pub glyphs_on : (cs xs : List ℕ) → AllByRecursion IsOne xs → glyphs_of (cs ++ xs) ≡ glyphs_of cs ++ map one xs
glyphs_on cs [] all = ap glyphs_of (append-nil cs) ∙ sym (append-nil (glyphs_of cs))
glyphs_on cs (x ∷ xs) all =
    ap glyphs_of (sym (append_assoc cs (x ∷ []) xs)) ∙ glyphs_on (cs ++ x ∷ []) xs all.1 ∙ ap (λ gs. gs ++ map one xs) (glyphs_push x cs all.0)
    ∙ append_assoc (glyphs_of cs) (one x ∷ []) (map one xs)

pub ones_columns : (xs : List ℕ) → AllByRecursion IsOne xs → columns_in (map one xs) ≡ length xs
ones_columns [] all = refl
ones_columns (x ∷ xs) all =
    let c : columns_in (map one (x ∷ xs)) ≡ width_of x + columns_in (map one xs) = sum_by-cons glyph_width (one x) (map one xs) in
    omega (arith, c, all.0, ones_columns xs all.1)

ones_cells : (xs : List ℕ) → AllByRecursion IsOne xs → flat_map glyph_cells (map one xs) ≡ map narrow xs
ones_cells [] all = refl
ones_cells (x ∷ xs) all = ap (λ y. y ++ flat_map glyph_cells (map one xs)) (narrow_cells x all.0) ∙ ap (λ y. narrow x ∷ y) (ones_cells xs all.1)

some_from : (n : ℕ) → eqb n 0 ≡ false → 0 < n
some_from zero e = absurd (cc)
some_from (suc n) e = omega arith

piece_more : (c : ℕ) (cs : List ℕ) → 0 < width_of c → length (flat_map glyph_cells (glyphs_of cs)) ≡ columns_in (glyphs_of cs) →
    length (flat_map glyph_cells (record { base = c; joiners = joiners_before cs } ∷ glyphs_of cs)) ≡ columns_in (record { base = c; joiners = joiners_before cs } ∷ glyphs_of cs)
piece_more c cs pos e =
    let g : Glyph = record { base = c; joiners = joiners_before cs } in
    let n : columns_in (g ∷ glyphs_of cs) ≡ width_of c + columns_in (glyphs_of cs) = sum_by-cons glyph_width g (glyphs_of cs) in
    let k : length (glyph_cells g) ≡ width_of c = length_cells g pos in
    omega (arith, length-append (glyph_cells g) (flat_map glyph_cells (glyphs_of cs)), k, e, n)

are_piece : (cs : List ℕ) → length (flat_map glyph_cells (glyphs_of cs)) ≡ columns_in (glyphs_of cs)
are_piece [] = refl
are_piece (c ∷ cs) = elim (cases_Bool (eqb (width_of c) 0)) [
  | inl none ↦ rw none (are_piece cs)
  | inr some ↦ rw some (piece_more c cs (some_from (width_of c) some) (are_piece cs))
]

-- ---- a line of one row

pub one_piece : (w : ℕ) (p gs : List Glyph) → columns_in p + columns_in gs ≤ w → pieces_after w p gs ≡ (p ++ gs) ∷ []
one_piece w p [] e = ap (λ x. x ∷ []) (sym (append-nil p))
one_piece w p (g ∷ gs) e =
    let c : columns_in (g ∷ gs) ≡ glyph_width g + columns_in gs = sum_by-cons glyph_width g gs in
    rw (le-leb (columns_in p + glyph_width g) w (omega (arith, c)))
    (one_piece w (p ++ g ∷ []) gs (omega (arith, c, columns_push p g)) ∙ ap (λ x. x ∷ []) (append_assoc p (g ∷ []) gs))

-- its cells: those of what both lines begin with, those of the others, and blanks
abbrev line_cells : ℕ → ℕ → List ℕ → List ℕ → List Cell
line_cells w k same own = flat_map glyph_cells (glyphs_of same) ++ (map narrow own ++ replicate (w - (k + length own)) Blank)

one_row : (w k : ℕ) (line same own : List ℕ) → visible line ≡ same ++ own → AllByRecursion IsOne own → columns_in (glyphs_of same) ≡ k → k + length own ≤ w →
    rows_of w line ≡ line_cells w k same own ∷ []
unfolding rows_of
one_row w k line same own seen all at room =
    let gs = glyphs_of same ++ map one own in
    let columns : columns_in gs ≡ k + length own = sum_by-append glyph_width (glyphs_of same) (map one own) ∙ ap (λ n. n + columns_in (map one own)) at ∙ ap (λ n. k + n) (ones_columns own all) in
    let glyphs : glyphs_of (visible line) ≡ gs = ap glyphs_of seen ∙ glyphs_on same own all in
    let none : columns_in (let empty : List Glyph = [] in empty) ≡ 0 = refl in
    let cells : flat_map glyph_cells gs ≡ flat_map glyph_cells (glyphs_of same) ++ map narrow own =
    flat_map-append glyph_cells (glyphs_of same) (map one own) ∙ ap (λ x. flat_map glyph_cells (glyphs_of same) ++ x) (ones_cells own all) in
    let row : row_of w gs ≡ line_cells w k same own =
    ap (λ n. flat_map glyph_cells gs ++ replicate (w - n) Blank) columns ∙ ap (λ x. x ++ replicate (w - (k + length own)) Blank) cells
    ∙ append_assoc (flat_map glyph_cells (glyphs_of same)) (map narrow own) (replicate (w - (k + length own)) Blank) in
    ap (λ g. map (row_of w) (pieces_of w g)) glyphs ∙ ap (map (row_of w)) (one_piece w [] gs (omega (arith, columns, none))) ∙ ap (λ r. r ∷ []) row

-- ---- looks

blanks_look : (m : ℕ) → map look (replicate m Blank) ≡ replicate m Blank
blanks_look zero = refl
blanks_look (suc m) = ap (λ x. Blank ∷ x) (blanks_look m)

spaces_look : (m : ℕ) → map look (map narrow (replicate m 0x20)) ≡ replicate m Blank
spaces_look zero = refl
spaces_look (suc m) = ap (λ x. Blank ∷ x) (spaces_look m)

filled_length : (n : ℕ) (own : List ℕ) → length own ≤ n → length (padded_chars n own) ≡ n
filled_length n own few = omega (arith, length-append own (replicate (n - length own) 0x20), length-replicate {A = ℕ} (n - length own) 0x20)

-- spaces look as what is free
filled_looks : (w k n : ℕ) (own : List ℕ) → length own ≤ n → k + n ≤ w →
    map look (map narrow (padded_chars n own)) ++ replicate (w - (k + n)) Blank ≡ map look (map narrow own ++ replicate (w - (k + length own)) Blank)
filled_looks w k n own few room =
    let m = n - length own in
    let rest = w - (k + n) in
    let count : m + rest ≡ w - (k + length own) = omega arith in
    ap (λ x. map look x ++ replicate rest Blank) (map-append narrow own (replicate m 0x20))
    ∙ ap (λ x. x ++ replicate rest Blank) (map-append look (map narrow own) (map narrow (replicate m 0x20)) ∙ ap (λ x. map look (map narrow own) ++ x) (spaces_look m))
    ∙ append_assoc (map look (map narrow own)) (replicate m Blank) (replicate rest Blank)
    ∙ ap (λ x. map look (map narrow own) ++ x) (replicate-append-replicate m rest Blank ∙ ap (λ j. replicate j Blank) count)
    ∙ ap (λ x. map look (map narrow own) ++ x) (sym (blanks_look (w - (k + length own))))
    ∙ sym (map-append look (map narrow own) (replicate (w - (k + length own)) Blank))

pub whole_cell : (x : Cell) (c : ℕ) → look x ≡ look (narrow c) → is_continued x ≡ false
whole_cell Blank c e = refl
whole_cell (Written g) c e = refl
whole_cell Continued c e = elim (cases_Bool ((c == 0x20) && (0 == 0))) [
  | inl is ↦ absurd (let f : Continued ≡ Blank = e ∙ rw is refl in cc)
  | inr other ↦ absurd (let f : Continued ≡ Written (record { base = c; joiners = [] }) = e ∙ rw other refl in cc)
]

all_own : (cells : List Cell) (os : List ℕ) → map look cells ≡ map look (map narrow os) → AllByRecursion IsOwn cells
all_own [] os e = tt
all_own (x ∷ cells) [] e = absurd (cc)
all_own (x ∷ cells) (c ∷ os) e = (whole_cell x c (cc), all_own cells os (cc))

behind_own : (cells : List Cell) (m : ℕ) → map look cells ≡ replicate m Blank → IsOwn (get_or cells 0 Blank)
behind_own [] m e = refl
behind_own (x ∷ cells) zero e = absurd (cc)
behind_own (Blank ∷ cells) (suc m) e = refl
behind_own (Written g ∷ cells) (suc m) e = refl
behind_own (Continued ∷ cells) (suc m) e = absurd (let f : Continued ≡ Blank = cc in cc)

edited_looks : (es : List Edit) (cells : List Cell) (os ns : List ℕ) → map look cells ≡ map look (map narrow os) → Lead es os ns → map look (edited cells es) ≡ map look (map narrow ns)
edited_looks [] cells [] [] e l = e
edited_looks [] cells [] (d ∷ ns) e l = absurd l
edited_looks [] cells (c ∷ os) ns e l = absurd l
edited_looks (Close ∷ es) cells os ns e l = edited_looks es cells os ns e l
edited_looks (Open s ∷ es) cells os ns e l = edited_looks es cells os ns e l
edited_looks (Stay ∷ es) cells [] ns e l = absurd l
edited_looks (Stay ∷ es) cells (c ∷ os) [] e l = absurd l
edited_looks (Stay ∷ es) [] (c ∷ os) (d ∷ ns) e l = absurd (cc)
edited_looks (Stay ∷ es) (x ∷ cells) (c ∷ os) (d ∷ ns) e l =
    let rest : map look (edited cells es) ≡ map look (map narrow ns) = edited_looks es cells os ns (cc) l.1 in
    let here : look x ≡ look (narrow d) = let f : look x ≡ look (narrow c) = cc in f ∙ ap (λ z. look (narrow z)) l.0 in
    ap (λ y. y ∷ map look (edited cells es)) here ∙ ap (λ y. look (narrow d) ∷ y) rest
edited_looks (Write q ∷ es) cells [] ns e l = absurd l
edited_looks (Write q ∷ es) cells (c ∷ os) [] e l = absurd l
edited_looks (Write q ∷ es) [] (c ∷ os) (d ∷ ns) e l = absurd (cc)
edited_looks (Write q ∷ es) (x ∷ cells) (c ∷ os) (d ∷ ns) e l =
    let rest : map look (edited cells es) ≡ map look (map narrow ns) = edited_looks es cells os ns (cc) l.1 in
    ap (λ z. look (narrow z) ∷ map look (edited cells es)) l.0 ∙ ap (λ y. look (narrow d) ∷ y) rest

-- ---- the row

module _ (w k : ℕ) (es : List Edit) (old new : List ℕ) (t : Turns w k es old new) where
  abbrev p : Tails w k (edit_columns es) old new
  p = t.part

  abbrev n : ℕ
  n = edit_columns es

  abbrev first : List Cell
  first = flat_map glyph_cells (glyphs_of p.same)

  abbrev before : List Cell
  before = line_cells w k p.same p.olds

  abbrev afterwards : List Cell
  afterwards = line_cells w k p.same p.news

  abbrev olds : List ℕ
  olds = padded_chars n p.olds

  abbrev news : List ℕ
  news = padded_chars n p.news

  abbrev blanks : List Cell
  blanks = replicate (w - (k + n)) Blank

  first_length : length (map look first) ≡ k
  first_length = length-map first look ∙ are_piece p.same ∙ p.column

  looks_before : map look before ≡ map look first ++ (map look (map narrow olds) ++ blanks)
  looks_before = map-append look first (map narrow p.olds ++ replicate (w - (k + length p.olds)) Blank)
      ∙ ap (λ x. map look first ++ x) (sym (filled_looks w k n p.olds p.few_olds p.room))

  looks_after : map look afterwards ≡ map look first ++ (map look (map narrow news) ++ blanks)
  looks_after = map-append look first (map narrow p.news ++ replicate (w - (k + length p.news)) Blank)
      ∙ ap (λ x. map look first ++ x) (sym (filled_looks w k n p.news p.few_news p.room))

  olds_length : length (map look (map narrow olds)) ≡ n
  olds_length = length-map (map narrow olds) look ∙ length-map olds narrow ∙ filled_length n p.olds p.few_olds

  renews : (r : List Cell) → map look r ≡ map look before → Renews w k es r afterwards
  renews r e =
      let seen : map look r ≡ map look first ++ (map look (map narrow olds) ++ blanks) = e ∙ looks_before in
      let lower = drop k r in
      let mid = take n lower in
      let behind = drop n lower in
      let upper_look : map look (take k r) ≡ map look first =
      sym (take-map look k r) ∙ ap (take k) seen ∙ take_at (map look first) (map look (map narrow olds) ++ blanks) k first_length in
      let lower_look : map look lower ≡ map look (map narrow olds) ++ blanks =
      sym (drop-map look k r) ∙ ap (drop k) seen ∙ drop_at (map look first) (map look (map narrow olds) ++ blanks) k first_length in
      let mid_look : map look mid ≡ map look (map narrow olds) =
      sym (take-map look n lower) ∙ ap (take n) lower_look ∙ take_at (map look (map narrow olds)) blanks n olds_length in
      let behind_look : map look behind ≡ blanks =
      sym (drop-map look n lower) ∙ ap (drop n) lower_look ∙ drop_at (map look (map narrow olds)) blanks n olds_length in
      let whole : length r ≡ w =
      sym (length-map r look) ∙ ap length seen
      ∙ omega (
        arith,
        length-append (map look first) (map look (map narrow olds) ++ blanks),
        length-append (map look (map narrow olds)) blanks,
        first_length,
        olds_length,
        length-replicate (w - (k + n)) Blank,
        p.room,
      ) in
      record {
        writable = t.writable;
        whole = whole;
        room = p.room;
        own = record { each = all_own mid olds mid_look; behind = behind_own behind (w - (k + n)) behind_look };
        looks = map-append look (take k r) (edited mid es ++ behind) ∙ ap (λ x. map look (take k r) ++ x) (map-append look (edited mid es) behind)
            ∙ ap (λ x. x ++ (map look (edited mid es) ++ map look behind)) upper_look
            ∙ ap (λ x. map look first ++ (x ++ map look behind)) (edited_looks es mid olds news mid_look t.lead)
            ∙ ap (λ x. map look first ++ (map look (map narrow news) ++ x)) behind_look
            ∙ sym looks_after;
      }

-- a line of one row becomes another by edits of its row: whichever cells look like the one make the other so, and its row is one
pub edits_make_lines : (w k : ℕ) (es : List Edit) (old new : List ℕ) → Turns w k es old new →
    (before : List Cell) × (afterwards : List Cell) × (rows_of w old ≡ before ∷ []) × (rows_of w new ≡ afterwards ∷ [])
    × ((r : List Cell) → map look r ≡ map look before → Renews w k es r afterwards)
edits_make_lines w k es old new t =
    let p = t.part in (
      line_cells w k p.same p.olds,
      line_cells w k p.same p.news,
      one_row w k old p.same p.olds p.old_is p.old_narrow p.column (omega (arith, p.room, p.few_olds)),
      one_row w k new p.same p.news p.new_is p.new_narrow p.column (omega (arith, p.room, p.few_news)),
      renews w k es old new t,
    )
