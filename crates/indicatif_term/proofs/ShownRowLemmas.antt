-- The rows of the lines that a frame shows are its live rows.
use Rattle.std.proofs.Common.{◌≡◌, ℕ, zero, suc, ◌+◌, ◌-◌, ◌<◌, ◌≤◌, List, [], ◌∷◌, ◌++◌, length, map, take, get_or, replicate, refl, sym, ◌∙◌, ap, arith, append_assoc, append-nil, length-append, chars, eqb}
use Rattle.std.specs.Prelude.{flat_map, fold, nat_le}
use Rattle.std.proofs.lemmas.Bool.{cond_both, leb-true}
use Rattle.std.proofs.lemmas.Grind.{flat_map-append}
use Rattle.std.proofs.lemmas.List.{take_more, length-map, map-append, take-map}
use Rattle.std.proofs.lemmas.Simd.{map-map}
use Rattle.std.proofs.lemmas.List.Concat.{length-flat_map}
use Rattle.std.proofs.lemmas.Str.{chars-nil}
use Rattle.indicatif_text.specs.Columns.{Cell, Blank, blank_row, visible, rows_of}
use Rattle.indicatif_term.specs.Lists.{BarRows, BarLines, segments_height, live_rows, shown_rows, fitting, grouped, onto_segments, lines_of}
use Rattle.indicatif_term.specs.Lines.{bar_lines, all_lines, text_lines, line_text}
use Rattle.indicatif_term.specs.Inside.Plans.{frame_lines}
use Rattle.indicatif_term.specs.declared.target.lines.Segment.{Segment}

abbrev pub rows_in : List BarRows → List (List Cell)
rows_in ss = flat_map (λ (s : BarRows). s.rows) ss

-- ---- grouping moves no row

onto_rows : (ss : List BarRows) (s : BarRows) → rows_in (onto_segments ss s) ≡ rows_in ss ++ s.rows
onto_rows [] s = append-nil s.rows
onto_rows (t ∷ []) s = cond_both (eqb t.bar s.bar) (record t { rows = t.rows ++ s.rows } ∷ []) (t ∷ s ∷ []) (λ ss. rows_in ss ≡ rows_in (t ∷ []) ++ s.rows)
    (λ e. simp (append-nil, append_assoc)) (λ e. simp (append-nil, append_assoc))
onto_rows (t ∷ u ∷ ts) s = ap (λ rs. t.rows ++ rs) (onto_rows (u ∷ ts) s) ∙ sym (append_assoc t.rows (rows_in (u ∷ ts)) s.rows)

fold_rows : (before ss : List BarRows) → rows_in (fold onto_segments before ss) ≡ rows_in before ++ rows_in ss
fold_rows before [] = sym (append-nil (rows_in before))
fold_rows before (s ∷ ss) = fold_rows (onto_segments before s) ss ∙ ap (λ rs. rs ++ rows_in ss) (onto_rows before s) ∙ append_assoc (rows_in before) s.rows (rows_in ss)

pub grouped_rows : (ss : List BarRows) → rows_in (grouped ss) ≡ rows_in ss
unfolding grouped
grouped_rows ss = fold_rows [] ss

-- ---- the lines that fit

pub fitting_height : (h : ℕ) (ss : List BarRows) → length (rows_in (fitting h ss)) ≤ h
unfolding fitting
fitting_height h [] = omega arith
fitting_height h (s ∷ ss) = cond_both (nat_le (length s.rows) h) (s ∷ fitting (h - length s.rows) ss) [] (λ ss. length (rows_in ss) ≤ h)
    (λ e. omega (arith, length-append s.rows (rows_in (fitting (h - length s.rows) ss)), leb-true (length s.rows) h e, fitting_height (h - length s.rows) ss))
    (λ e. omega arith)

pub shown-height : (w h : ℕ) (frame : List BarLines) → segments_height (shown_rows w h frame) ≤ h
unfolding shown_rows
shown-height w h frame = omega (arith, length-flat_map (λ (s : BarRows). s.rows) (shown_rows w h frame), ap length (grouped_rows (fitting h (lines_of w frame))), fitting_height h (lines_of w frame))

pub fitting_front : (h : ℕ) (ss : List BarRows) → fitting h ss ≡ take (length (fitting h ss)) ss
unfolding fitting
fitting_front h [] = refl
fitting_front h (s ∷ ss) = cond_both (nat_le (length s.rows) h) (s ∷ fitting (h - length s.rows) ss) [] (λ xs. xs ≡ take (length xs) (s ∷ ss))
    (λ e. ap (λ xs. s ∷ xs) (fitting_front (h - length s.rows) ss)) (λ e. refl)

pub fitting_length : (h : ℕ) (ss : List BarRows) → length (fitting h ss) ≤ length ss
unfolding fitting
fitting_length h [] = omega arith
fitting_length h (s ∷ ss) = cond_both (nat_le (length s.rows) h) (s ∷ fitting (h - length s.rows) ss) [] (λ xs. length xs ≤ suc (length ss))
    (λ e. omega (arith, fitting_length (h - length s.rows) ss)) (λ e. omega arith)

-- the rows of segments of one line each
taken_rows : (w k : ℕ) (ss : List BarRows) (lines : List (List ℕ)) → map (λ (s : BarRows). s.rows) ss ≡ map (rows_of w) lines → rows_in (take k ss) ≡ flat_map (rows_of w) (take k lines)
taken_rows w zero ss lines e = refl
taken_rows w (suc k) [] [] e = refl
taken_rows w (suc k) [] (line ∷ lines) e = cc
taken_rows w (suc k) (s ∷ ss) [] e = cc
taken_rows w (suc k) (s ∷ ss) (line ∷ lines) e =
    let first : s.rows ≡ rows_of w line = cc in
    let rest : map (λ (s : BarRows). s.rows) ss ≡ map (rows_of w) lines = cc in
    ap (λ rs. rs ++ rows_in (take k ss)) first ∙ ap (λ rs. rows_of w line ++ rs) (taken_rows w k ss lines rest)

abbrev pub line_segments : ℕ → ℕ → List (List ℕ) → List BarRows
line_segments w bar lines = map (λ line. let s : BarRows = record { bar = bar; rows = rows_of w line } in s) lines

line_rows : (w bar : ℕ) (lines : List (List ℕ)) → map (λ (s : BarRows). s.rows) (line_segments w bar lines) ≡ map (rows_of w) lines
line_rows w bar [] = refl
line_rows w bar (line ∷ lines) = ap (λ rs. rows_of w line ∷ rs) (line_rows w bar lines)

pub frame_line_rows : (w : ℕ) (frame : List BarLines) → map (λ (s : BarRows). s.rows) (lines_of w frame) ≡ map (rows_of w) (all_lines frame)
unfolding lines_of
frame_line_rows w [] = refl
frame_line_rows w (s ∷ frame) =
    map-append (λ (s : BarRows). s.rows) (line_segments w s.bar s.lines) (lines_of w frame)
    ∙ ap (λ rs. rs ++ map (λ (s : BarRows). s.rows) (lines_of w frame)) (line_rows w s.bar s.lines)
    ∙ ap (λ rs. map (rows_of w) s.lines ++ rs) (frame_line_rows w frame)
    ∙ sym (map-append (rows_of w) s.lines (all_lines frame))

-- ---- lines as bytes

abbrev pub lines_rows : ℕ → List (List ℕ) → List (List Cell)
lines_rows w lines = flat_map (λ line. rows_of w (chars line)) lines

pub text_rows : (w : ℕ) (text : List (List ℕ)) → lines_rows w text ≡ flat_map (rows_of w) (text_lines text)
text_rows w [] = refl
text_rows w (line ∷ text) = ap (λ rs. rows_of w (chars line) ++ rs) (text_rows w text)

same_lines : (s : Segment) → map chars (map line_text s.lines.items) ≡ (bar_lines s).lines
same_lines s = map-map chars line_text s.lines.items

pub frame_chars : (frame : List Segment) → text_lines (frame_lines frame) ≡ all_lines (map bar_lines frame)
frame_chars [] = refl
frame_chars (s ∷ frame) = map-append chars (map line_text s.lines.items) (frame_lines frame) ∙ ap (λ xs. xs ++ text_lines (frame_lines frame)) (same_lines s)
    ∙ ap (λ xs. (bar_lines s).lines ++ xs) (frame_chars frame)

pub blank_rows : (w k : ℕ) → lines_rows w (replicate k []) ≡ replicate k (blank_row w)
unfolding rows_of visible
blank_rows w zero = refl
blank_rows w (suc k) =
    let one : rows_of w (chars []) ≡ blank_row w ∷ [] = rw chars-nil (ap (λ k. replicate k Blank ∷ []) (let e : w - 0 ≡ w = omega arith in e)) in
    ap (λ rs. rs ++ lines_rows w (replicate k [])) one ∙ ap (λ rs. blank_row w ∷ rs) (blank_rows w k)

module _ (w h : ℕ) (frame : List Segment) where
  -- how many lines fit
  abbrev pub count : ℕ
  count = length (fitting h (lines_of w (map bar_lines frame)))

  pub frame_lines_le : count ≤ length (frame_lines frame)
  frame_lines_le = omega (
    arith,
    fitting_length h (lines_of w (map bar_lines frame)),
    length-map (lines_of w (map bar_lines frame)) (λ (s : BarRows). s.rows),
    ap length (frame_line_rows w (map bar_lines frame)),
    length-map (all_lines (map bar_lines frame)) (rows_of w),
    ap length (frame_chars frame),
    length-map (frame_lines frame) chars,
  )

  rows_shown : rows_in (shown_rows w h (map bar_lines frame)) ≡ lines_rows w (take count (frame_lines frame))
  unfolding shown_rows
  rows_shown =
      grouped_rows (fitting h (lines_of w (map bar_lines frame))) ∙ ap rows_in (fitting_front h (lines_of w (map bar_lines frame)))
      ∙ taken_rows w count (lines_of w (map bar_lines frame)) (all_lines (map bar_lines frame)) (frame_line_rows w (map bar_lines frame))
      ∙ ap (λ lines. flat_map (rows_of w) (take count lines)) (sym (frame_chars frame))
      ∙ ap (flat_map (rows_of w)) (take-map chars count (frame_lines frame))
      ∙ sym (text_rows w (take count (frame_lines frame)))

  -- the lines that a drawing writes, as rows
  pub frame_rows : (blanks : ℕ) → lines_rows w (replicate blanks [] ++ take count (frame_lines frame)) ≡ live_rows w (record { blanks = blanks; segments = shown_rows w h (map bar_lines frame) })
  frame_rows blanks =
      flat_map-append (λ line. rows_of w (chars line)) (replicate blanks []) (take count (frame_lines frame))
      ∙ ap (λ rs. rs ++ lines_rows w (take count (frame_lines frame))) (blank_rows w blanks)
      ∙ ap (λ rs. replicate blanks (blank_row w) ++ rs) (sym rows_shown)

  pub log_rows : (blanks : ℕ) (text : List (List ℕ)) → lines_rows w (text ++ replicate blanks [] ++ take count (frame_lines frame))
      ≡ flat_map (rows_of w) (text_lines text) ++ live_rows w (record { blanks = blanks; segments = shown_rows w h (map bar_lines frame) })
  log_rows blanks text =
      ap (lines_rows w) (append_assoc text (replicate blanks []) (take count (frame_lines frame)))
      ∙ flat_map-append (λ line. rows_of w (chars line)) text (replicate blanks [] ++ take count (frame_lines frame))
      ∙ ap (λ rs. rs ++ lines_rows w (replicate blanks [] ++ take count (frame_lines frame))) (text_rows w text)
      ∙ ap (λ rs. flat_map (rows_of w) (text_lines text) ++ rs) (frame_rows blanks)

-- the lines of one member more
abbrev pub member_lines : Segment → List (List ℕ)
member_lines s = map line_text s.lines.items

pub frame_step : (frame : List Segment) (i : ℕ) (s : Segment) → i < length frame → get_or frame i s ≡ s → frame_lines (take (i + 1) frame) ≡ frame_lines (take i frame) ++ member_lines s
frame_step frame i s h e =
    ap frame_lines (take_more frame i s h ∙ ap (λ x. take i frame ++ x ∷ []) e) ∙ flat_map-append member_lines (take i frame) (s ∷ [])
    ∙ ap (λ xs. frame_lines (take i frame) ++ xs) (append-nil (member_lines s))
