-- The lines that lines become where their rows are cut anew: their rows are those that the rows of the lines become.
use Rattle.std.proofs.Common.{◌≡◌, ℕ, ◌+◌, ◌<◌, ◌≤◌, true, IsFalse, List, [], ◌∷◌, ◌++◌, map, filter, length, take, drop, refl, sym, ◌∙◌, ap, subst, arith, append_assoc, append-nil, chars}
use Rattle.std.proofs.Common.{replicate, get_or, length-append}
use Rattle.std.specs.Prelude.{sum}
use Rattle.std.proofs.lemmas.List.{length-replicate, take_more, replicate-append-replicate}
use Rattle.std.proofs.lemmas.List.Sums.{sum-map, sum_by-cons}
use Rattle.std.proofs.lemmas.List.Concat.{length-flat_map}
use Rattle.std.specs.Prelude.{IsTrue, flat_map, string_bytes}
use Rattle.std.specs.List.{AllByRecursion, list_all}
use Rattle.std.proofs.lemmas.List.{map-append, length-map, drop-drop, length-drop, nil_from_length}
use Rattle.std.proofs.lemmas.List.Concat.{flat_map-append}
use Rattle.indicatif_text.specs.Columns.{Cell, Glyph, columns_in, glyphs_of, pieces_of, row_of, rows_of, visible, has_wide, last_columns, columns_of_last}
use Rattle.indicatif_term.specs.Resizes.{has_place, recut, recut_all}
use Rattle.indicatif_term.specs.Standing.{texts, standing_rows, AreLines}
use Rattle.indicatif_term.specs.Inside.Inks as inks
use Rattle.indicatif_term.specs.Inside.Recutting.{IsFitting, glyphs_text, without_spaces, fitting_count, new_pieces, cut_pieces, cut_line, cut_lines, LineShown, shown_line, shown_lines, row_line, line_bars, cut_bars, Gains, HasMore}
use Rattle.indicatif_term.specs.declared.engine.remembered.StandingLine.{StandingLine}
use Rattle.indicatif_term.specs.declared.engine.recutting.CutLines.{CutLines}
use Rattle.indicatif_term.proofs.CutPieceLemmas.{more_pieces, more_some, first_piece, all_filtered, all_unspaced, all_in_pieces, IsNarrow, narrow_pieces, only_piece, all_placed, placed_taken}
use Rattle.indicatif_term.proofs.CutTextLemmas.{IsRead, glyphs_read, piece_glyphs, piece_narrow, row_glyphs}

-- ---- a line of one row

-- a row that was cut: its glyphs are as they are read, and have at most w columns
pub record IsCut (w : ℕ) (gs : List Glyph) : Type 0 where
  pub read : AllByRecursion IsRead gs
  pub narrow : columns_in gs ≤ w

own_piece : (w : ℕ) (gs : List Glyph) → IsCut w gs → pieces_of w (glyphs_of (visible (glyphs_text gs))) ≡ gs ∷ []
own_piece w gs c = ap (pieces_of w) (piece_glyphs gs c.read) ∙ only_piece w gs c.narrow

own_row : (w : ℕ) (gs : List Glyph) → IsCut w gs → rows_of w (glyphs_text gs) ≡ row_of w gs ∷ []
unfolding rows_of
own_row w gs c = ap (map (row_of w)) (own_piece w gs c)

own_last : (w : ℕ) (gs : List Glyph) → IsCut w gs → last_columns w (glyphs_text gs) ≡ columns_in gs
unfolding last_columns
own_last w gs c = ap columns_of_last (own_piece w gs c)

-- a line by its characters is as it is measured
pub record IsShownRight (w : ℕ) (s : LineShown) : Type 0 where
  pub rows_are : s.rows ≡ length (rows_of w s.text)
  pub last_is : s.last ≡ last_columns w s.text
  pub narrow : IsFalse (has_wide w s.text)
  pub single : IsTrue s.narrow → inks.IsRead s.text

own_right : (w : ℕ) (gs : List Glyph) → IsCut w gs → IsShownRight w (row_line gs)
own_right w gs c = record {
  rows_are = sym (ap length (own_row w gs c));
  last_is = sym (own_last w gs c);
  narrow = piece_narrow w gs c.read c.narrow;
  single = λ e. absurd (cc);
}

-- ---- the pieces of a row

cut_all : (w : ℕ) (ps : List (List Glyph)) → AllByRecursion (AllByRecursion IsRead) ps → AllByRecursion (IsNarrow w) ps → AllByRecursion (IsCut w) ps
cut_all w [] read narrow = tt
cut_all w (p ∷ ps) read narrow = (record { read = read.0; narrow = narrow.0 }, cut_all w ps read.1 narrow.1)

new_cut : (w : ℕ) (row : List Glyph) → AllByRecursion IsRead row → AllByRecursion (IsCut w) (new_pieces w row)
new_cut w row read =
    let left = without_spaces row in
    cut_all w (new_pieces w row)
    (all_in_pieces IsRead w [] (filter (has_place w) left) tt (all_filtered IsRead (has_place w) left (all_unspaced IsRead row read)))
    (narrow_pieces w [] left (let e : 0 ≤ w = omega arith in e))

own_rows : (w : ℕ) (ps : List (List Glyph)) → AllByRecursion (IsCut w) ps → flat_map (λ (s : LineShown). rows_of w s.text) (map row_line ps) ≡ map (row_of w) ps
own_rows w [] all = refl
own_rows w (p ∷ ps) all = rw (own_row w p all.0) (ap (λ xs. row_of w p ∷ xs) (own_rows w ps all.1))

right_rows : (w : ℕ) (ps : List (List Glyph)) → AllByRecursion (IsCut w) ps → AllByRecursion (IsShownRight w) (map row_line ps)
right_rows w [] all = tt
right_rows w (p ∷ ps) all = (own_right w p all.0, right_rows w ps all.1)

row_recut : (w w' : ℕ) (row : List Glyph) → map (row_of w') (new_pieces w' row) ≡ recut w' (row_of w row)
unfolding recut
row_recut w w' row = ap (λ gs. map (row_of w') (pieces_of w' (filter (has_place w') gs))) (sym (row_glyphs w row))

-- ---- the pieces of many rows

-- the rows of lines by their characters
abbrev pub shown_rows_of : ℕ → List LineShown → List (List Cell)
shown_rows_of w ss = flat_map (λ (s : LineShown). rows_of w s.text) ss

-- the lines of the pieces of rows
abbrev pub lines_of_pieces : List (List (List Glyph)) → List LineShown
lines_of_pieces groups = flat_map (map row_line) groups

rows_recut : (w w' : ℕ) (rows : List (List Glyph)) → AllByRecursion (AllByRecursion IsRead) rows →
    shown_rows_of w' (lines_of_pieces (map (new_pieces w') rows)) ≡ recut_all w' (map (row_of w) rows)
rows_recut w w' [] all = refl
rows_recut w w' (r ∷ rows) all =
    flat_map-append (λ (s : LineShown). rows_of w' s.text) (map row_line (new_pieces w' r)) (lines_of_pieces (map (new_pieces w') rows))
    ∙ ap (λ xs. xs ++ shown_rows_of w' (lines_of_pieces (map (new_pieces w') rows))) (own_rows w' (new_pieces w' r) (new_cut w' r all.0) ∙ row_recut w w' r)
    ∙ ap (λ xs. recut w' (row_of w r) ++ xs) (rows_recut w w' rows all.1)

all_joined : {A : Type 0} (P : A → Type 0) (xs ys : List A) → AllByRecursion P xs → AllByRecursion P ys → AllByRecursion P (xs ++ ys)
all_joined P [] ys a b = b
all_joined P (x ∷ xs) ys a b = (a.0, all_joined P xs ys a.1 b)

rows_right : (w' : ℕ) (rows : List (List Glyph)) → AllByRecursion (AllByRecursion IsRead) rows → AllByRecursion (IsShownRight w') (lines_of_pieces (map (new_pieces w') rows))
rows_right w' [] all = tt
rows_right w' (r ∷ rows) all =
    all_joined (IsShownRight w') (map row_line (new_pieces w' r)) (lines_of_pieces (map (new_pieces w') rows)) (right_rows w' (new_pieces w' r) (new_cut w' r all.0)) (rows_right w' rows all.1)

rows_heights : (w w' : ℕ) (rows : List (List Glyph)) → map length (map (new_pieces w') rows) ≡ map (λ row. length (recut w' row)) (map (row_of w) rows)
rows_heights w w' [] = refl
rows_heights w w' (r ∷ rows) =
    let one : length (new_pieces w' r) ≡ length (recut w' (row_of w r)) = sym (length-map (new_pieces w' r) (row_of w')) ∙ ap length (row_recut w w' r) in
    ap (λ n. n ∷ map length (map (new_pieces w') rows)) one ∙ ap (λ ns. length (recut w' (row_of w r)) ∷ ns) (rows_heights w w' rows)

-- ---- lines

line_read : (w : ℕ) (line : List ℕ) → AllByRecursion (AllByRecursion IsRead) (pieces_of w (glyphs_of (visible (chars line))))
line_read w line = all_in_pieces IsRead w [] (glyphs_of (visible (chars line))) tt (glyphs_read (visible (chars line)))

text_rows : (w w' : ℕ) (line : List ℕ) → shown_rows_of w' (lines_of_pieces (cut_line w w' line)) ≡ recut_all w' (rows_of w (chars line))
unfolding rows_of
text_rows w w' line = rows_recut w w' (pieces_of w (glyphs_of (visible (chars line)))) (line_read w line)

text_heights : (w w' : ℕ) (line : List ℕ) → map length (cut_line w w' line) ≡ map (λ row. length (recut w' row)) (rows_of w (chars line))
unfolding rows_of
text_heights w w' line = rows_heights w w' (pieces_of w (glyphs_of (visible (chars line))))

texts_rows : (w w' : ℕ) (lines : List (List ℕ)) → shown_rows_of w' (lines_of_pieces (cut_lines w w' lines)) ≡ recut_all w' (flat_map (λ line. rows_of w (chars line)) lines)
texts_rows w w' [] = refl
texts_rows w w' (l ∷ lines) =
    ap (shown_rows_of w') (flat_map-append (map row_line) (cut_line w w' l) (cut_lines w w' lines))
    ∙ flat_map-append (λ (s : LineShown). rows_of w' s.text) (lines_of_pieces (cut_line w w' l)) (lines_of_pieces (cut_lines w w' lines))
    ∙ ap (λ xs. xs ++ shown_rows_of w' (lines_of_pieces (cut_lines w w' lines))) (text_rows w w' l)
    ∙ ap (λ xs. recut_all w' (rows_of w (chars l)) ++ xs) (texts_rows w w' lines)
    ∙ sym (flat_map-append (recut w') (rows_of w (chars l)) (flat_map (λ line. rows_of w (chars line)) lines))

texts_heights : (w w' : ℕ) (lines : List (List ℕ)) → map length (cut_lines w w' lines) ≡ map (λ row. length (recut w' row)) (flat_map (λ line. rows_of w (chars line)) lines)
texts_heights w w' [] = refl
texts_heights w w' (l ∷ lines) =
    map-append length (cut_line w w' l) (cut_lines w w' lines)
    ∙ ap (λ xs. xs ++ map length (cut_lines w w' lines)) (text_heights w w' l)
    ∙ ap (λ xs. map (λ row. length (recut w' row)) (rows_of w (chars l)) ++ xs) (texts_heights w w' lines)
    ∙ sym (map-append (λ row. length (recut w' row)) (rows_of w (chars l)) (flat_map (λ line. rows_of w (chars line)) lines))

texts_right : (w w' : ℕ) (lines : List (List ℕ)) → AllByRecursion (IsShownRight w') (lines_of_pieces (cut_lines w w' lines))
texts_right w w' [] = tt
texts_right w w' (l ∷ lines) =
    subst (AllByRecursion (IsShownRight w')) (sym (flat_map-append (map row_line) (cut_line w w' l) (cut_lines w w' lines)))
    (all_joined (IsShownRight w') (lines_of_pieces (cut_line w w' l)) (lines_of_pieces (cut_lines w w' lines))
    (rows_right w' (pieces_of w (glyphs_of (visible (chars l)))) (line_read w l)) (texts_right w w' lines))

shown_standing : (w : ℕ) (ls : List StandingLine) → standing_rows w ls ≡ shown_rows_of w (shown_lines ls)
shown_standing w [] = refl
shown_standing w (l ∷ ls) = ap (λ xs. rows_of w (chars (string_bytes l.text)) ++ xs) (shown_standing w ls)

shown_right : (w : ℕ) (ls : List StandingLine) → AllByRecursion (IsShownRight w) (shown_lines ls) → AreLines w ls
shown_right w [] all = tt
shown_right w (l ∷ ls) all = (record { rows_are = all.0.rows_are; last_is = all.0.last_is; narrow = all.0.narrow; single = all.0.single }, shown_right w ls all.1)

-- the lines that lines become
module _ (w w' : ℕ) (ls ls' : List StandingLine) (e : shown_lines ls' ≡ lines_of_pieces (cut_lines w w' (texts ls))) where
  pub cut_rows : standing_rows w' ls' ≡ recut_all w' (standing_rows w ls)
  cut_rows = shown_standing w' ls' ∙ ap (shown_rows_of w') e ∙ texts_rows w w' (texts ls)

  pub cut_right : AreLines w' ls'
  cut_right = shown_right w' ls' (subst (AllByRecursion (IsShownRight w')) (sym e) (texts_right w w' (texts ls)))

pub cut_heights : (w w' : ℕ) (ls : List StandingLine) → map length (cut_lines w w' (texts ls)) ≡ map (λ row. length (recut w' row)) (standing_rows w ls)
cut_heights w w' ls = texts_heights w w' (texts ls)

-- ---- one part after another

pub more_added : (a b c : CutLines) (ps qs rs : List (List (List Glyph))) → HasMore a b ps → HasMore b c qs → ps ++ qs ≡ rs → HasMore a c rs
more_added a b c ps qs rs x y e =
    subst (HasMore a c) e (record {
      lines_are = y.lines_are ∙ ap (λ xs. xs ++ lines_of_pieces qs) x.lines_are ∙ append_assoc (shown_lines a.lines.items) (lines_of_pieces ps) (lines_of_pieces qs)
          ∙ ap (λ xs. shown_lines a.lines.items ++ xs) (sym (flat_map-append (map row_line) ps qs));
      heights_are = y.heights_are ∙ ap (λ xs. xs ++ map length qs) x.heights_are ∙ append_assoc a.heights.items (map length ps) (map length qs)
          ∙ ap (λ xs. a.heights.items ++ xs) (sym (map-append length ps qs));
    })

-- the rows that are left to be cut of glyphs
abbrev pub rows_left : ℕ → ℕ → List Glyph → List (List (List Glyph))
rows_left w w' gs = map (new_pieces w') (more_pieces w gs)

pub first_row : (w w' : ℕ) (gs : List Glyph) → list_all (has_place w) gs ≡ true →
    cut_pieces w w' gs ≡ new_pieces w' (take (fitting_count w 0 gs) gs) ∷ rows_left w w' (drop (fitting_count w 0 gs) gs)
first_row w w' gs e =
    let n = fitting_count w 0 gs in
    ap (cut_pieces w w') (sym (all_placed w gs e)) ∙ ap (map (new_pieces w')) (first_piece w gs)
    ∙ ap (λ p. new_pieces w' p ∷ rows_left w w' (drop n gs)) (all_placed w (take n gs) (placed_taken w n gs e))

pub next_row_cut : (w w' : ℕ) (gs : List Glyph) → 0 < length gs → list_all (has_place w) gs ≡ true →
    rows_left w w' gs ≡ new_pieces w' (take (fitting_count w 0 gs) gs) ∷ rows_left w w' (drop (fitting_count w 0 gs) gs)
next_row_cut w w' gs some e = ap (map (new_pieces w')) (more_some w gs some ∙ ap (pieces_of w) (all_placed w gs e)) ∙ first_row w w' gs e

-- ---- the lines of a row, one after another

-- after the line of the first piece those of the others are left
pub piece_left : (w : ℕ) (cs : List ℕ) (n : ℕ) (before now : List LineShown) → IsFitting w cs n → now ≡ before ++ row_line (filter (has_place w) (glyphs_of (take n cs))) ∷ [] →
    now ++ map row_line (more_pieces w (glyphs_of (drop n cs))) ≡ before ++ map row_line (pieces_of w (filter (has_place w) (glyphs_of cs)))
piece_left w cs n before now fits e =
    let gs = glyphs_of cs in
    let k = fitting_count w 0 gs in
    let more = map row_line (more_pieces w (drop k gs)) in
    ap (λ rest. now ++ map row_line (more_pieces w rest)) fits.rest ∙ ap (λ xs. xs ++ more) (e ∙ ap (λ front. before ++ row_line (filter (has_place w) front) ∷ []) fits.front)
    ∙ append_assoc before (row_line (filter (has_place w) (take k gs)) ∷ []) more ∙ ap (λ xs. before ++ xs) (sym (ap (map row_line) (first_piece w gs)))

pub next_piece_left : (w n at : ℕ) (cs : List ℕ) (before now : List LineShown) → 0 < length (glyphs_of (drop at cs)) → IsFitting w (drop at cs) n →
    now ≡ before ++ row_line (filter (has_place w) (glyphs_of (take n (drop at cs)))) ∷ [] →
    now ++ map row_line (more_pieces w (glyphs_of (drop (at + n) cs))) ≡ before ++ map row_line (more_pieces w (glyphs_of (drop at cs)))
next_piece_left w n at cs before now some fits e =
    ap (λ rest. now ++ map row_line (more_pieces w (glyphs_of rest))) (sym (drop-drop n at cs)) ∙ piece_left w (drop at cs) n before now fits e
    ∙ ap (λ ps. before ++ map row_line ps) (sym (more_some w (glyphs_of (drop at cs)) some))

-- after the rows of one more piece those of the others are left
pub next_rows_left : (w w' n at : ℕ) (cs : List ℕ) (done all : List (List (List Glyph))) → 0 < length (glyphs_of (drop at cs)) → list_all (has_place w) (glyphs_of (drop at cs)) ≡ true →
    IsFitting w (drop at cs) n → done ++ rows_left w w' (glyphs_of (drop at cs)) ≡ all →
    (done ++ new_pieces w' (glyphs_of (take n (drop at cs))) ∷ []) ++ rows_left w w' (glyphs_of (drop (at + n) cs)) ≡ all
next_rows_left w w' n at cs done all some placed fits f =
    let gs = glyphs_of (drop at cs) in
    let row = new_pieces w' (glyphs_of (take n (drop at cs))) in
    let left : rows_left w w' gs ≡ row ∷ rows_left w w' (glyphs_of (drop (at + n) cs)) =
    next_row_cut w w' gs some placed ∙ ap (λ xs. new_pieces w' xs ∷ rows_left w w' (drop (fitting_count w 0 gs) gs)) (sym fits.front)
    ∙ ap (λ xs. row ∷ rows_left w w' xs) (sym fits.rest ∙ ap glyphs_of (drop-drop n at cs)) in
    append_assoc done (row ∷ []) (rows_left w w' (glyphs_of (drop (at + n) cs))) ∙ ap (λ xs. done ++ xs) (sym left) ∙ f

none_behind : (at : ℕ) (cs : List ℕ) → length cs ≤ at → drop at cs ≡ []
none_behind at cs h = nil_from_length (drop at cs) (omega (arith, h, length-drop at cs))

-- behind the last one none is left
pub no_piece_left : (w at : ℕ) (cs : List ℕ) (now all : List LineShown) → length cs ≤ at → now ++ map row_line (more_pieces w (glyphs_of (drop at cs))) ≡ all → now ≡ all
no_piece_left w at cs now all h e = sym (append-nil now) ∙ ap (λ rest. now ++ map row_line (more_pieces w (glyphs_of rest))) (sym (none_behind at cs h)) ∙ e

pub no_row_left : (w w' at : ℕ) (cs : List ℕ) (done all : List (List (List Glyph))) → length cs ≤ at → done ++ rows_left w w' (glyphs_of (drop at cs)) ≡ all → done ≡ all
no_row_left w w' at cs done all h e = sym (append-nil done) ∙ ap (λ rest. done ++ rows_left w w' (glyphs_of rest)) (sym (none_behind at cs h)) ∙ e

-- ---- the bars of the lines

pub gains_one : (bar : ℕ) (old new : List StandingLine) (l : StandingLine) → new ≡ old ++ l ∷ [] → l.bar ≡ bar → Gains bar old new
gains_one bar old new l e b = (1, ap line_bars e ∙ map-append (λ (l : StandingLine). l.bar) old (l ∷ []) ∙ ap (λ x. line_bars old ++ x ∷ []) b)

pub gains_more : (bar : ℕ) (a b c : List StandingLine) → Gains bar a b → Gains bar b c → Gains bar a c
gains_more bar a b c x y = (
  x.0 + y.0,
  y.1 ∙ ap (λ xs. xs ++ replicate y.0 bar) x.1 ∙ append_assoc (line_bars a) (replicate x.0 bar) (replicate y.0 bar) ∙ ap (λ xs. line_bars a ++ xs) (replicate-append-replicate x.0 y.0 bar),
)

pub lines_count : (groups : List (List (List Glyph))) → length (lines_of_pieces groups) ≡ sum (map length groups)
lines_count [] = refl
lines_count (g ∷ groups) =
    let rest : length (lines_of_pieces groups) ≡ sum (map length groups) = lines_count groups in
    omega (arith, rest, length-append (map row_line g) (lines_of_pieces groups), length-map g row_line, sum_by-cons (λ x. x) (length g) (map length groups))

-- the bars of the lines that a line becomes
pub bars_gained : (w w' : ℕ) (a b : CutLines) (l : StandingLine) → HasMore a b (cut_line w w' (string_bytes l.text)) → Gains l.bar a.lines.items b.lines.items →
    line_bars b.lines.items ≡ line_bars a.lines.items ++ cut_bars w w' (l ∷ [])
bars_gained w w' a b l m g =
    let groups = cut_line w w' (string_bytes l.text) in
    let bar = λ (l : StandingLine). l.bar in
    let n : g.0 ≡ sum (map length groups) = omega (
      arith,
      ap length g.1,
      length-map b.lines.items bar,
      length-append (line_bars a.lines.items) (replicate g.0 l.bar),
      length-map a.lines.items bar,
      length-replicate g.0 l.bar,
      ap length m.lines_are,
      length-map b.lines.items shown_line,
      length-append (shown_lines a.lines.items) (lines_of_pieces groups),
      length-map a.lines.items shown_line,
      lines_count groups,
    ) in
    g.1 ∙ ap (λ k. line_bars a.lines.items ++ replicate k l.bar) n ∙ ap (λ xs. line_bars a.lines.items ++ xs) (sym (append-nil (replicate (sum (map length groups)) l.bar)))

taken_next : (i : ℕ) (ls : List StandingLine) (x : StandingLine) → i < length ls → get_or ls i x ≡ x → take (i + 1) ls ≡ take i ls ++ x ∷ []
taken_next i ls x h e = take_more ls i x h ∙ ap (λ y. take i ls ++ y ∷ []) e

pub lines_more : (w w' i : ℕ) (ls : List StandingLine) (x : StandingLine) → i < length ls → get_or ls i x ≡ x →
    cut_lines w w' (texts (take i ls)) ++ cut_line w w' (string_bytes x.text) ≡ cut_lines w w' (texts (take (i + 1) ls))
lines_more w w' i ls x h e =
    sym (ap (λ ys. cut_lines w w' (texts ys)) (taken_next i ls x h e) ∙ ap (cut_lines w w') (map-append (λ (l : StandingLine). string_bytes l.text) (take i ls) (x ∷ []))
    ∙ flat_map-append (cut_line w w') (texts (take i ls)) (string_bytes x.text ∷ []) ∙ ap (λ ys. cut_lines w w' (texts (take i ls)) ++ ys) (append-nil (cut_line w w' (string_bytes x.text))))

pub bars_more : (w w' i : ℕ) (ls : List StandingLine) (x : StandingLine) → i < length ls → get_or ls i x ≡ x →
    cut_bars w w' (take i ls) ++ cut_bars w w' (x ∷ []) ≡ cut_bars w w' (take (i + 1) ls)
bars_more w w' i ls x h e =
    sym (ap (cut_bars w w') (taken_next i ls x h e) ∙ flat_map-append (λ (l : StandingLine). replicate (sum (map length (cut_line w w' (string_bytes l.text)))) l.bar) (take i ls) (x ∷ []))

-- each is of one row
pieces_ones : (ps : List (List Glyph)) (rest : List LineShown) → map (λ (s : LineShown). s.rows) rest ≡ replicate (length rest) 1 →
    map (λ (s : LineShown). s.rows) (map row_line ps ++ rest) ≡ replicate (length (map row_line ps ++ rest)) 1
pieces_ones [] rest e = e
pieces_ones (p ∷ ps) rest e = ap (λ xs. 1 ∷ xs) (pieces_ones ps rest e)

groups_ones : (groups : List (List (List Glyph))) → map (λ (s : LineShown). s.rows) (lines_of_pieces groups) ≡ replicate (length (lines_of_pieces groups)) 1
groups_ones [] = refl
groups_ones (g ∷ groups) = pieces_ones g (lines_of_pieces groups) (groups_ones groups)

shown_heights : (ls : List StandingLine) → map (λ (l : StandingLine). l.rows) ls ≡ map (λ (s : LineShown). s.rows) (shown_lines ls)
shown_heights [] = refl
shown_heights (l ∷ ls) = ap (λ xs. l.rows ∷ xs) (shown_heights ls)

pub one_row_each : (ls : List StandingLine) (groups : List (List (List Glyph))) → shown_lines ls ≡ lines_of_pieces groups → map (λ (l : StandingLine). l.rows) ls ≡ replicate (length ls) 1
one_row_each ls groups e =
    shown_heights ls ∙ ap (map (λ (s : LineShown). s.rows)) e ∙ groups_ones groups ∙ ap (λ n. replicate n 1) (sym (ap length e) ∙ length-map ls shown_line)

pub line_becomes : (w w' : ℕ) (l : StandingLine) → sum (map length (cut_line w w' (string_bytes l.text))) ≡ length (recut_all w' (rows_of w (chars (string_bytes l.text))))
line_becomes w w' l = ap sum (text_heights w w' (string_bytes l.text)) ∙ sum-map (λ row. length (recut w' row)) (rows_of w (chars (string_bytes l.text)))
    ∙ sym (length-flat_map (recut w') (rows_of w (chars (string_bytes l.text))))

-- how many lines these become
pub bars_count : (w w' : ℕ) (ls : List StandingLine) → length (cut_bars w w' ls) ≡ length (recut_all w' (standing_rows w ls))
bars_count w w' [] = refl
bars_count w w' (l ∷ ls) =
    let own = rows_of w (chars (string_bytes l.text)) in
    let n = sum (map length (cut_line w w' (string_bytes l.text))) in
    let rest : length (cut_bars w w' ls) ≡ length (recut_all w' (standing_rows w ls)) = bars_count w w' ls in
    omega (
      arith,
      rest,
      length-append (replicate n l.bar) (cut_bars w w' ls),
      length-replicate n l.bar,
      line_becomes w w' l,
      ap length (flat_map-append (recut w') own (standing_rows w ls)),
      length-append (recut_all w' own) (recut_all w' (standing_rows w ls)),
    )
