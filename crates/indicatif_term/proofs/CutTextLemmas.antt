-- The text of a row's glyphs reads back as these glyphs, and a row of cells gives the glyphs that were put in it.
use Rattle.std.proofs.Common.{◌≡◌, ℕ, zero, suc, ◌+◌, ◌-◌, ◌≤◌, Bool, true, false, cond, List, [], ◌∷◌, ◌++◌, length, replicate, refl, sym, ◌∙◌, ap, subst, arith, append-nil, None, inl, inr, if◌then◌else◌}
use Rattle.std.specs.Prelude.{◌==◌, nat_lt, nat_le, flat_map}
use Rattle.std.specs.List.{AllByRecursion, list_all, list_any}
use Rattle.std.proofs.lemmas.Bool.{cases_Bool, cond_both, eqb-true, eqb-false, le-ltb, le-leb, ltb-false, and_parts, and_from, or_parts}
use Rattle.std.proofs.lemmas.List.Sums.{sum_by-cons}
use Rattle.unicode_width.specs.Width.{char_width}
use Rattle.indicatif_text.specs.Columns.{Cell, Blank, Written, Continued, Glyph, width_of, glyph_width, glyph_cells, glyphs_of, columns_in, row_of, visible, visible_from, colour_length, has_wide}
use Rattle.indicatif_term.specs.Pictures.{is_blank, is_empty, trimmed}
use Rattle.indicatif_term.specs.Resizes.{glyph_at, glyphs_in, has_place}
use Rattle.indicatif_term.specs.Inside.Recutting.{glyph_text, guarded, glyphs_text, is_space, without_spaces}
use Rattle.indicatif_term.specs.Inside.Rows.{whole_row}
use Rattle.indicatif_term.proofs.KeptRowLemmas.{text_kept}
use Rattle.indicatif_term.proofs.WrittenLineLemmas.{has_no_width, joiners_before, joiners_before-cons}

-- ---- what is visible of a text in which no colour sequence begins

no_sequence : (c : ℕ) (cs : List ℕ) → (c == 0x1B) ≡ false → colour_length (c ∷ cs) ≡ None
no_sequence c [] e = refl
no_sequence c (d ∷ cs) e = rw e refl

plain_char : (c : ℕ) (cs : List ℕ) → (c == 0x1B) ≡ false → visible_from 0 (c ∷ cs) ≡ c ∷ visible_from 0 cs
plain_char c cs e = rw (no_sequence c cs e) refl

visible_guarded : (cs : List ℕ) → visible_from 0 (guarded cs) ≡ cs
visible_guarded [] = refl
visible_guarded (c ∷ cs) = elim (cases_Bool (c == 0x1B)) [
  | inl e ↦
      let is : c ≡ 0x1B = eqb-true c 0x1B e in
      rw e (ap (λ xs. 0x1B ∷ xs) (visible_guarded cs) ∙ ap (λ x. x ∷ cs) (sym is))
  | inr e ↦ rw e (plain_char c (guarded cs) e ∙ ap (λ xs. c ∷ xs) (visible_guarded cs))
]

-- ---- glyphs

-- a glyph as it is read out of a text: it takes columns, and its joiners take none
pub record IsRead (g : Glyph) : Type 0 where
  pub wide : has_no_width g.base ≡ false
  pub joiners : AllByRecursion (λ m. has_no_width m ≡ true) g.joiners

joiners_read : (cs : List ℕ) → AllByRecursion (λ m. has_no_width m ≡ true) (joiners_before cs)
joiners_read [] = tt
joiners_read (c ∷ cs) = subst (AllByRecursion (λ m. has_no_width m ≡ true)) (sym (joiners_before-cons c cs))
    (cond_both (has_no_width c) (c ∷ joiners_before cs) [] (AllByRecursion (λ m. has_no_width m ≡ true)) (λ e. (e, joiners_read cs)) (λ e. tt))

pub glyphs_read : (cs : List ℕ) → AllByRecursion IsRead (glyphs_of cs)
glyphs_read [] = tt
glyphs_read (c ∷ cs) =
    let g : Glyph = record { base = c; joiners = joiners_before cs } in
    cond_both (has_no_width c) (glyphs_of cs) (g ∷ glyphs_of cs) (AllByRecursion IsRead) (λ e. glyphs_read cs) (λ e. (record { wide = e; joiners = joiners_read cs }, glyphs_read cs))

past_joiners : (ms cs : List ℕ) → AllByRecursion (λ m. has_no_width m ≡ true) ms → glyphs_of (ms ++ cs) ≡ glyphs_of cs
past_joiners [] cs all = refl
past_joiners (m ∷ ms) cs all = let e : has_no_width m ≡ true = all.0 in rw e (past_joiners ms cs all.1)

front_joiners : (ms cs : List ℕ) → AllByRecursion (λ m. has_no_width m ≡ true) ms → joiners_before (ms ++ cs) ≡ ms ++ joiners_before cs
front_joiners [] cs all = refl
front_joiners (m ∷ ms) cs all =
    let e : has_no_width m ≡ true = all.0 in
    joiners_before-cons m (ms ++ cs) ∙ ap (λ b. cond b (m ∷ joiners_before (ms ++ cs)) []) e ∙ ap (λ xs. m ∷ xs) (front_joiners ms cs all.1)

no_joiners : (gs : List Glyph) → AllByRecursion IsRead gs → joiners_before (flat_map glyph_text gs) ≡ []
no_joiners [] all = refl
no_joiners (g ∷ gs) all =
    let e : has_no_width g.base ≡ false = all.0.wide in
    joiners_before-cons g.base (g.joiners ++ flat_map glyph_text gs) ∙ ap (λ b. cond b (g.base ∷ joiners_before (g.joiners ++ flat_map glyph_text gs)) []) e

pub read_back : (gs : List Glyph) → AllByRecursion IsRead gs → glyphs_of (flat_map glyph_text gs) ≡ gs
read_back [] all = refl
read_back (g ∷ gs) all =
    let e : has_no_width g.base ≡ false = all.0.wide in
    let more = flat_map glyph_text gs in
    let joiners : joiners_before (g.joiners ++ more) ≡ g.joiners = front_joiners g.joiners more all.0.joiners ∙ ap (λ xs. g.joiners ++ xs) (no_joiners gs all.1) ∙ append-nil g.joiners in
    let rest : glyphs_of (g.joiners ++ more) ≡ gs = past_joiners g.joiners more all.0.joiners ∙ read_back gs all.1 in
    rw e (ap (λ ms. let x : Glyph = record { base = g.base; joiners = ms } in x ∷ glyphs_of (g.joiners ++ more)) joiners ∙ ap (λ xs. g ∷ xs) rest)

-- the glyphs of a row's text
pub piece_seen : (gs : List Glyph) → visible (glyphs_text gs) ≡ flat_map glyph_text gs
unfolding visible
piece_seen gs = visible_guarded (flat_map glyph_text gs)

pub piece_glyphs : (gs : List Glyph) → AllByRecursion IsRead gs → glyphs_of (visible (glyphs_text gs)) ≡ gs
piece_glyphs gs all = ap glyphs_of (piece_seen gs) ∙ read_back gs all

-- ---- none is wide

abbrev some_wider : ℕ → List ℕ → Bool
some_wider w cs = list_any (λ c. nat_lt w (width_of c)) cs

narrow_joiners : (w : ℕ) (ms cs : List ℕ) → AllByRecursion (λ m. has_no_width m ≡ true) ms → some_wider w (ms ++ cs) ≡ some_wider w cs
narrow_joiners w [] cs all = refl
narrow_joiners w (m ∷ ms) cs all =
    let zero_wide : width_of m ≡ 0 = eqb-true (width_of m) 0 all.0 in
    let e : nat_lt w (width_of m) ≡ false = le-ltb w (width_of m) (omega (arith, zero_wide)) in
    rw e (narrow_joiners w ms cs all.1)

narrow_text : (w : ℕ) (gs : List Glyph) → AllByRecursion IsRead gs → columns_in gs ≤ w → some_wider w (flat_map glyph_text gs) ≡ false
narrow_text w [] all h = refl
narrow_text w (g ∷ gs) all h =
    let sum : columns_in (g ∷ gs) ≡ glyph_width g + columns_in gs = sum_by-cons glyph_width g gs in
    let e : nat_lt w (width_of g.base) ≡ false = le-ltb w (width_of g.base) (omega (arith, sum, h)) in
    rw e (narrow_joiners w g.joiners (flat_map glyph_text gs) all.0.joiners ∙ narrow_text w gs all.1 (omega (arith, sum, h)))

pub piece_narrow : (w : ℕ) (gs : List Glyph) → AllByRecursion IsRead gs → columns_in gs ≤ w → has_wide w (glyphs_text gs) ≡ false
unfolding has_wide
piece_narrow w gs all h = ap (some_wider w) (piece_seen gs) ∙ narrow_text w gs all h

-- a row has place for each glyph of a line none of whose characters is wider
place_from : (w : ℕ) (c : ℕ) → has_no_width c ≡ false → nat_lt w (width_of c) ≡ false → (1 ≤ width_of c) × (width_of c ≤ w)
place_from w c e f =
    let some : width_of c ≡ 0 → ⊥ = eqb-false (width_of c) 0 e in
    (omega (arith, some), ltb-false w (width_of c) f)

pub glyphs_placed : (w : ℕ) (cs : List ℕ) → some_wider w cs ≡ false → list_all (has_place w) (glyphs_of cs) ≡ true
glyphs_placed w [] e = refl
glyphs_placed w (c ∷ cs) e =
    let p = or_parts (nat_lt w (width_of c)) (some_wider w cs) e in
    let g : Glyph = record { base = c; joiners = joiners_before cs } in
    cond_both (has_no_width c) (glyphs_of cs) (g ∷ glyphs_of cs) (λ gs. list_all (has_place w) gs ≡ true)
    (λ none. glyphs_placed w cs p.1)
    (λ some. let fits = place_from w c some p.0 in
    and_from (has_place w g) (list_all (has_place w) (glyphs_of cs))
    (and_from (nat_le 1 (width_of c)) (nat_le (width_of c) w) (le-leb 1 (width_of c) fits.0) (le-leb (width_of c) w fits.1)) (glyphs_placed w cs p.1))

pub line_placed : (w : ℕ) (line : List ℕ) → has_wide w line ≡ false → list_all (has_place w) (glyphs_of (visible line)) ≡ true
unfolding has_wide
line_placed w line e = glyphs_placed w (visible line) e

-- ---- a row of cells

space_width : width_of 0x20 ≡ 1
unfolding char_width
space_width = refl

space_cells : (g : Glyph) (more : List Cell) → is_space g ≡ true → glyph_cells g ++ more ≡ Written g ∷ more
space_cells g more e =
    let p = and_parts (g.base == 0x20) (is_empty g.joiners) e in
    let one : glyph_width g ≡ 1 = ap width_of (eqb-true g.base 0x20 p.0) ∙ space_width in
    ap (λ n. Written g ∷ replicate (n - 1) Continued ++ more) one

all_blank_cells : (gs : List Glyph) → list_all is_blank (flat_map glyph_cells gs) ≡ list_all is_space gs
all_blank_cells [] = refl
all_blank_cells (g ∷ gs) = elim (cases_Bool (is_space g)) [
  | inl e ↦ ap (list_all is_blank) (space_cells g (flat_map glyph_cells gs) e) ∙ rw e (all_blank_cells gs)
  | inr e ↦ rw e refl
]

past_continued : (k : ℕ) (cells : List Cell) → flat_map glyph_at (trimmed (replicate k Continued ++ cells)) ≡ flat_map glyph_at (trimmed cells)
past_continued zero cells = refl
past_continued (suc k) cells = past_continued k cells

cells_glyphs : (gs : List Glyph) → flat_map glyph_at (trimmed (flat_map glyph_cells gs)) ≡ without_spaces gs
cells_glyphs [] = refl
cells_glyphs (g ∷ gs) =
    let more = replicate (glyph_width g - 1) Continued ++ flat_map glyph_cells gs in
    ap (λ b. flat_map glyph_at (if b then [] else Written g ∷ trimmed more)) (all_blank_cells (g ∷ gs))
    ∙ cond_both (list_all is_space (g ∷ gs)) [] (g ∷ without_spaces gs) (λ x. flat_map glyph_at (if list_all is_space (g ∷ gs) then [] else Written g ∷ trimmed more) ≡ x)
    (λ e. rw e refl)
    (λ e. rw e (ap (λ xs. g ∷ xs) (past_continued (glyph_width g - 1) (flat_map glyph_cells gs) ∙ cells_glyphs gs)))

pub row_glyphs : (w : ℕ) (gs : List Glyph) → glyphs_in (row_of w gs) ≡ without_spaces gs
row_glyphs w gs =
    let cells = flat_map glyph_cells gs in
    let k = w - columns_in gs in
    let n : (length cells + k) - length cells ≡ k = omega arith in
    let whole : whole_row (length cells + k) cells ≡ row_of w gs = ap (λ m. cells ++ replicate m Blank) n in
    ap (λ row. flat_map glyph_at (trimmed row)) (sym whole) ∙ ap (flat_map glyph_at) (text_kept (length cells + k) cells) ∙ cells_glyphs gs
