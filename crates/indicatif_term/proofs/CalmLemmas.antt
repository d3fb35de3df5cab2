-- The bytes of each drawing are a calm text, where its lines are plain.
use Rattle.std.proofs.Common.{min, ◌≡◌, ℕ, zero, suc, ◌+◌, ◌-◌, Bool, true, false, List, [], ◌∷◌, ◌++◌, length, take, drop, replicate, refl, sym, ◌∙◌, ap, subst, arith, append-nil, chars, not, if◌then◌else◌, None, inl, inr}
use Rattle.std.specs.Prelude.{IsFalse, ◌&&◌, ◌||◌, ◌==◌, nat_le, nat_lt, is_some, slice_index, flat_map, decimal}
use Rattle.std.specs.List.{AllByRecursion, list_all, list_any}
use Rattle.std.specs.Int.{is_in_range}
use Rattle.std.proofs.Math.Utf8.{encode, encodes, scalar, scalars}
use Rattle.std.proofs.lemmas.Bool.{cases_Bool, and_parts, eqb-true, leb-true}
use Rattle.std.proofs.lemmas.Grind.{flat_map-append}
use Rattle.std.proofs.lemmas.List.{take-append-drop}
use Rattle.std.specs.Str.{all_scalars}
use Rattle.std.proofs.lemmas.Str.{encodes-append, encodes-chars, encodes-IsAscii, scalars-chars, chars-IsAscii, IsUtf8-from_ascii}
use Rattle.unicode_width.specs.Width.{char_width}
use Rattle.indicatif_text.specs.Columns.{Cell, width_of, is_parameter, colour_length, visible, is_plain}
use Rattle.indicatif_text.specs.Pieces.{TextPiece}
use Rattle.indicatif_text.proofs.ColourSequenceLemmas.{hidden, visible_none}
use Rattle.indicatif_text.proofs.PieceLawLemmas.{Parameters, Ended, Further, Sequence, Opened, sequence_is, sequence_length, visible_past, by_pieces}
use Rattle.indicatif_text.proofs.WidthLemmas.{plain_width}
use Rattle.indicatif_term.specs.Calls.{UP, DOWN, RIGHT, move_bytes, clear_bytes, anew_bytes}
use Rattle.indicatif_term.specs.Calm.{Stroke, Character, Colours, Move, Empty, stroke_bytes, IsCalm, AreCalm, Calmly}
use Rattle.indicatif_term.specs.Inside.Inks.{RESET, AreColours}
use Rattle.indicatif_term.specs.Inside.RowEdits.{Edit, Stay, Write, Close, Open, IsNarrowChar, IsWritable, edit_bytes, row_bytes}
use Rattle.indicatif_term.specs.Inside.MoveBytes.{next_row, rows_down, back_bytes, reach_bytes, lines_bytes}
use Rattle.indicatif_term.proofs.PaintingLemmas.{paint_bytes, IsDrawable, AreDrawable}
use Rattle.indicatif_term.specs.Inside.Changing.{LineChange, Leave, Within, Whole, PlacedLine, placed_height, placed_lines, emptied_bytes, step_bytes, step_down, walk_bytes, frame_bytes, filled_whole, ending_by, ending, AreSitting, Becomes, all_stay, free_behind, ends_plainly}
use Rattle.indicatif_term.proofs.AmongLemmas.{rewrite_bytes, change_bytes}
use Rattle.indicatif_term.specs.Inside.Fills.{last_of}
use Rattle.indicatif_term.proofs.ColourLemmas.{sequence_colours, reset_is}
use Rattle.indicatif_term.proofs.GlyphLemmas.{some_width}
use Rattle.indicatif_term.proofs.LastCharLemmas.{narrow_char}
use Rattle.indicatif_term.proofs.PartingLemmas.{space_one}

-- ---- strokes

pub calm_none : IsCalm []
calm_none = ([], refl)

pub calm_append : (a b : List ℕ) → IsCalm a → IsCalm b → IsCalm (a ++ b)
calm_append a b p q = (
  p.0 ++ q.0,
  ap (λ x. x ++ b) p.1 ∙ ap (λ x. flat_map stroke_bytes p.0 ++ x) q.1 ∙ sym (flat_map-append stroke_bytes p.0 q.0),
)

calm_stroke : (s : Stroke) (bytes : List ℕ) → stroke_bytes s ≡ bytes → IsCalm bytes
calm_stroke s bytes e = (s ∷ [], sym (append-nil bytes) ∙ ap (λ x. x ++ []) (sym e))

calm_move : (letter n : ℕ) → is_in_range 0x41 0x44 letter ≡ true → IsCalm (move_bytes letter n)
calm_move letter n e =
    let bytes : List ℕ = 0x1B ∷ 0x5B ∷ (decimal n ++ letter ∷ []) in
    elim (cases_Bool (n == 0)) [
      | inl none ↦ subst (λ b. IsCalm (if b then [] else bytes)) (sym none) calm_none
      | inr some ↦ subst (λ b. IsCalm (if b then [] else bytes)) (sym some) (calm_stroke (Move letter n) bytes (ap (λ b. if b then bytes else []) e))
    ]

pub up_calm : (n : ℕ) → IsCalm (move_bytes UP n)
up_calm n = calm_move UP n refl

down_calm : (n : ℕ) → IsCalm (move_bytes DOWN n)
down_calm n = calm_move DOWN n refl

right_calm : (n : ℕ) → IsCalm (move_bytes RIGHT n)
right_calm n = calm_move RIGHT n refl

pub clear_calm : IsCalm clear_bytes
unfolding encode
clear_calm = (Character 0x0D ∷ Empty ∷ [], refl)

row_calm : IsCalm next_row
unfolding encode
row_calm = (Character 0x0D ∷ Character 0x0A ∷ [], refl)

pub return_calm : IsCalm (0x0D ∷ [])
unfolding encode
return_calm = (Character 0x0D ∷ [], refl)

-- ---- texts

one_shown : (c : ℕ) → width_of c ≡ 1 → is_some (char_width false c) ≡ true
one_shown c e = ap is_some (some_width (char_width false c) (omega (arith, e)))

or_last : (a b x : Bool) → x ≡ true → (a || b || x) ≡ true
or_last true b x e = refl
or_last false true x e = refl
or_last false false x e = e

-- a character with a width
width_calm : (c : ℕ) → (all_scalars (c ∷ []) && is_some (char_width false c)) ≡ true → IsCalm (encode c)
width_calm c shown =
    calm_stroke (Character c) (encode c) (ap (λ b. if b then encode c else []) (or_last (c == 0x0D) (c == 0x0A) (all_scalars (c ∷ []) && is_some (char_width false c)) shown))

char_calm : (c : ℕ) → IsNarrowChar c → IsCalm (encode c)
char_calm c n = width_calm c (rw (n.scalar, one_shown c n.narrow) refl)

space_narrow : IsNarrowChar 0x20
space_narrow = narrow_char 0x20 space_one (omega arith)

pub spaces_calm : (n : ℕ) → IsCalm (replicate n 0x20)
unfolding encode
spaces_calm zero = calm_none
spaces_calm (suc n) = calm_append (0x20 ∷ []) (replicate n 0x20) (char_calm 0x20 space_narrow) (spaces_calm n)

parameters_end : {cs : List ℕ} {n : ℕ} → Parameters cs n → (ps : List ℕ) × (list_all is_parameter ps ≡ true) × (take n cs ≡ ps ++ 0x6D ∷ [])
parameters_end (Ended c cs ended) = ([], refl, ap (λ x. x ∷ []) (eqb-true c 0x6D ended))
parameters_end (Further c n cs other is rest) = let r = parameters_end rest in (c ∷ r.0, rw is r.1, ap (λ x. c ∷ x) r.2)

sequence_calm : {cs : List ℕ} {n : ℕ} → Sequence cs n → IsCalm (take n cs)
sequence_calm (Opened c d n cs opened rest) =
    let p = and_parts (c == 0x1B) (d == 0x5B) opened in
    let r = parameters_end rest in
    let is : 0x1B ∷ 0x5B ∷ (r.0 ++ 0x6D ∷ []) ≡ c ∷ d ∷ take n cs =
    ap (λ x. 0x1B ∷ 0x5B ∷ x) (sym r.2) ∙ ap (λ x. x ∷ 0x5B ∷ take n cs) (sym (eqb-true c 0x1B p.0)) ∙ ap (λ x. c ∷ x ∷ take n cs) (sym (eqb-true d 0x5B p.1)) in
    let bytes : List ℕ = 0x1B ∷ 0x5B ∷ (r.0 ++ 0x6D ∷ []) in
    subst IsCalm is (calm_stroke (Colours r.0) bytes (ap (λ b. if b then bytes else []) r.1))

scalars_drop : (n : ℕ) (cs : List ℕ) → scalars cs ≡ true → scalars (drop n cs) ≡ true
scalars_drop zero cs s = s
scalars_drop (suc n) [] s = refl
scalars_drop (suc n) (c ∷ cs) s = scalars_drop n cs (and_parts (scalar c) (scalars cs) s).1

abbrev IsCalmText : List ℕ → List TextPiece → Type 0
IsCalmText cs ps = scalars cs ≡ true → is_plain cs ≡ true → IsCalm (encodes cs)

shown_calm : (c : ℕ) (cs : List ℕ) (ps : List TextPiece) → colour_length (c ∷ cs) ≡ None → IsCalmText cs ps → IsCalmText (c ∷ cs) ps
unfolding is_plain
shown_calm c cs ps none rest scalars_are plain =
    let s = and_parts (scalar c) (scalars cs) scalars_are in
    let both : (is_some (char_width false c) && list_all (λ d. is_some (char_width false d)) (visible cs)) ≡ true =
    ap (list_all (λ d. is_some (char_width false d))) (visible_past c cs none) ∙ plain in
    let p = and_parts (is_some (char_width false c)) (list_all (λ d. is_some (char_width false d)) (visible cs)) both in
    calm_append (encode c) (encodes cs) (width_calm c (rw (s.0, p.0) refl)) (rest s.1 p.1)

coloured_calm : (n : ℕ) (cs : List ℕ) (ps : List TextPiece) → Sequence cs n → IsCalmText (drop n cs) ps → IsCalmText cs ps
unfolding is_plain
coloured_calm n cs ps s rest scalars_are plain =
    let behind : is_plain (drop n cs) ≡ true = ap (list_all (λ d. is_some (char_width false d))) (sym (hidden n cs (sequence_is s) (sequence_length s))) ∙ plain in
    let same : encodes (take n cs) ++ encodes (drop n cs) ≡ encodes cs = sym (encodes-append (take n cs) (drop n cs)) ∙ ap encodes (take-append-drop n cs) in
    let colours = sequence_colours s in
    let front = subst IsCalm (sym (encodes-IsAscii (take n cs) colours.ascii)) (sequence_calm s) in
    subst IsCalm same (calm_append (encodes (take n cs)) (encodes (drop n cs)) front (rest (scalars_drop n cs scalars_are) behind))

text_calm : (cs : List ℕ) → scalars cs ≡ true → is_plain cs ≡ true → IsCalm (encodes cs)
text_calm cs = by_pieces IsCalmText (λ _ _. calm_none) shown_calm coloured_calm cs

pub line_calm : (w : ℕ) (line : List ℕ) → IsDrawable w line → IsCalm line
line_calm w line d = subst IsCalm (encodes-chars line d.utf8) (text_calm (chars line) (scalars-chars line d.utf8) d.plain)

colours_calm : (s : List ℕ) → AreColours s → IsCalm s
unfolding is_plain
colours_calm s p =
    let none : visible s ≡ [] = ap visible (sym (append-nil s)) ∙ p.unseen [] ∙ visible_none in
    let scalars_are = ap scalars (sym (chars-IsAscii s p.ascii)) ∙ scalars-chars s (IsUtf8-from_ascii s p.ascii) in
    subst IsCalm (encodes-IsAscii s p.ascii) (text_calm s scalars_are (ap (list_all (λ d. is_some (char_width false d))) none))

-- ---- rows

down_through_calm : (n : ℕ) → IsCalm (rows_down n)
down_through_calm zero = calm_none
down_through_calm (suc n) = calm_append (next_row ++ clear_bytes) (rows_down n) (calm_append next_row clear_bytes row_calm clear_calm) (down_through_calm n)

back_calm : (below : Bool) (n : ℕ) → IsCalm (back_bytes below n)
back_calm below zero = calm_none
back_calm below (suc n) =
    let up = if below then suc n else n in
    calm_append (move_bytes UP up ++ (clear_bytes ++ rows_down n)) (move_bytes UP n)
    (calm_append (move_bytes UP up) (clear_bytes ++ rows_down n) (up_calm up) (calm_append clear_bytes (rows_down n) clear_calm (down_through_calm n))) (up_calm n)

pub reach_calm : (down n : ℕ) → IsCalm (reach_bytes down n)
reach_calm down zero = calm_none
reach_calm down (suc n) =
    calm_append (move_bytes DOWN down) (rows_down (suc n) ++ move_bytes UP (down + suc n)) (down_calm down)
    (calm_append (rows_down (suc n)) (move_bytes UP (down + suc n)) (down_through_calm (suc n)) (up_calm (down + suc n)))

row_if_calm : (b : Bool) → IsCalm (if b then next_row else [])
row_if_calm true = row_calm
row_if_calm false = calm_none

lines_calm : (w : ℕ) (at_end : Bool) (lines : List (List ℕ)) → AreDrawable w lines → IsCalm (lines_bytes at_end lines)
lines_calm w at_end [] d = calm_none
lines_calm w at_end (line ∷ lines) d =
    let row = if at_end then next_row else [] in
    calm_append (row ++ line) (lines_bytes true lines) (calm_append row line (row_if_calm at_end) (line_calm w line d.0)) (lines_calm w true lines d.1)

-- rows taken back and lines written
pub paint_calm : (w : ℕ) (below : Bool) (taken : ℕ) (lines : List (List ℕ)) (ends : Bool) → AreDrawable w lines → IsCalm (paint_bytes below taken lines ends)
unfolding paint_bytes
paint_calm w below taken lines ends d =
    let at_end = not below && (taken == 0) in
    let goes = ends && (at_end || nat_lt 0 (length lines)) in
    calm_append (back_bytes below taken ++ lines_bytes at_end lines) (if goes then next_row else [])
    (calm_append (back_bytes below taken) (lines_bytes at_end lines) (back_calm below taken) (lines_calm w at_end lines d)) (row_if_calm goes)

-- ---- edits

edits_calm : (gap : ℕ) (es : List Edit) → AllByRecursion IsWritable es → IsCalm (edit_bytes gap es)
edits_calm gap [] all = calm_none
edits_calm gap (Stay ∷ es) all = edits_calm (suc gap) es all.1
edits_calm gap (Close ∷ es) all = calm_append RESET (edit_bytes gap es) (colours_calm RESET reset_is) (edits_calm gap es all.1)
edits_calm gap (Open s ∷ es) all = calm_append s (edit_bytes gap es) (colours_calm s all.0) (edits_calm gap es all.1)
edits_calm gap (Write c ∷ es) all =
    calm_append (move_bytes RIGHT gap) (encode c ++ edit_bytes 0 es) (right_calm gap) (calm_append (encode c) (edit_bytes 0 es) (char_calm c all.0) (edits_calm 0 es all.1))

-- ---- changes

emptied_calm : (n : ℕ) → IsCalm (emptied_bytes n)
emptied_calm n =
    calm_append (clear_bytes ++ rows_down (n - 1)) (move_bytes UP (n - 1)) (calm_append clear_bytes (rows_down (n - 1)) clear_calm (down_through_calm (n - 1))) (up_calm (n - 1))

-- what is written of a line, from anywhere above it
abbrev HasCalmSteps : PlacedLine → Type 0
HasCalmSteps p = (down : ℕ) → IsCalm (step_bytes p.change down p.rows p.line)

whole_calm : (down rows : ℕ) (line : List ℕ) → IsCalm line → IsCalm (step_bytes Whole down rows line)
whole_calm down rows line c = calm_append (move_bytes DOWN down) (emptied_bytes rows ++ line) (down_calm down) (calm_append (emptied_bytes rows) line (emptied_calm rows) c)

within_calm : (k : ℕ) (es : List Edit) (down rows : ℕ) (line : List ℕ) → IsCalm (edit_bytes k es) → IsCalm (step_bytes (Within k es) down rows line)
within_calm k es down rows line c =
    calm_append (move_bytes DOWN (down + rows - 1)) (row_bytes k es) (down_calm (down + rows - 1)) (calm_append (0x0D ∷ []) (edit_bytes k es) return_calm c)

step_calm : (w : ℕ) (change : LineChange) (down rows : ℕ) (line : List ℕ) (stood : List (List Cell)) → IsCalm line → Becomes w change stood line → IsCalm (step_bytes change down rows line)
step_calm w Leave down rows line stood c b = calm_none
step_calm w (Within k es) down rows line stood c b = let r = b.renews b.before refl in within_calm k es down rows line (edits_calm k es r.writable)
step_calm w Whole down rows line stood c b = whole_calm down rows line c

walk_calm : (down : ℕ) (ps : List PlacedLine) → AllByRecursion HasCalmSteps ps → IsCalm (walk_bytes down ps)
walk_calm down [] all = calm_none
walk_calm down (p ∷ ps) all =
    calm_append (step_bytes p.change down p.rows p.line) (walk_bytes (step_down p.change down p.rows) ps) (all.0 down) (walk_calm (step_down p.change down p.rows) ps all.1)

-- lines that sit on rows
sitting_calm : (w : ℕ) (looks : List (List Cell)) (ps : List PlacedLine) (p : PlacedLine) (more : List PlacedLine) → AreSitting w looks (ps ++ p ∷ more) → AreDrawable w (placed_lines ps) →
    IsDrawable w p.line → AllByRecursion HasCalmSteps ps × HasCalmSteps p
sitting_calm w looks [] p more sit d dp = (tt, λ down. step_calm w p.change down p.rows p.line (take p.rows looks) (line_calm w p.line dp) sit.0.becomes)
sitting_calm w looks (q ∷ ps) p more sit d dp =
    let rest = sitting_calm w (drop q.rows looks) ps p more sit.1 d.1 dp in
    ((λ down. step_calm w q.change down q.rows q.line (take q.rows looks) (line_calm w q.line d.0) sit.0.becomes, rest.0), rest.1)

filled_calm : (w : ℕ) (p : PlacedLine) → IsCalm p.line → HasCalmSteps (filled_whole w p)
filled_calm w p c down = whole_calm down p.rows (p.line ++ replicate (w - p.last) 0x20) (calm_append p.line (replicate (w - p.last) 0x20) c (spaces_calm (w - p.last)))

again_calm : (w c down rows : ℕ) (line : List ℕ) → IsNarrowChar c → IsCalm (step_bytes (Within (w - 1) (Write c ∷ [])) down rows line)
again_calm w c down rows line one =
    within_calm (w - 1) (Write c ∷ []) down rows line (calm_append (move_bytes RIGHT (w - 1)) (encode c ++ []) (right_calm (w - 1)) (calm_append (encode c) [] (char_calm c one) calm_none))

last_one : (line : List ℕ) → ends_plainly line ≡ true → IsNarrowChar (slice_index line (length line - 1))
last_one line e =
    let c = slice_index line (length line - 1) in
    let p = and_parts (is_in_range 0x20 0x7E c) (not (list_any (λ b. b == 0x1B) line)) e in
    let q = and_parts (nat_le 0x20 c) (nat_le c 0x7E) p.0 in
    let high = leb-true c 0x7E q.1 in
    narrow_char c (plain_width c (leb-true 0x20 c q.0, high)) (omega (arith, high))

ending_calm : (w : ℕ) (change : LineChange) (p : PlacedLine) → p.change ≡ change → IsCalm p.line → HasCalmSteps p → HasCalmSteps (ending_by change w p)
ending_calm w Leave p is c all down = elim (cases_Bool (nat_lt p.last w)) [
  | inl free ↦ rw free (again_calm w 0x20 down p.rows p.line space_narrow)
  | inr full ↦ elim (cases_Bool (ends_plainly p.line)) [
    | inl plain ↦ rw (full, plain) (again_calm w (slice_index p.line (length p.line - 1)) down p.rows p.line (last_one p.line plain))
    | inr other ↦ rw (full, other) (filled_calm w p c down)
  ]
]
ending_calm w (Within k es) p is c all down = elim (cases_Bool p.waits) [ inl waits ↦ rw waits (all down) | inr goes ↦ rw goes (filled_calm w p c down) ]
ending_calm w Whole p is c all down = filled_calm w p c down

calm_steps_append : (ps qs : List PlacedLine) → AllByRecursion HasCalmSteps ps → AllByRecursion HasCalmSteps qs → AllByRecursion HasCalmSteps (ps ++ qs)
calm_steps_append [] qs p q = q
calm_steps_append (x ∷ ps) qs p q = (p.0, calm_steps_append ps qs p.1 q)

rewrite_calm : (w taken : ℕ) (front : List PlacedLine) (last : PlacedLine) → AllByRecursion HasCalmSteps (front ++ ending w last ∷ []) → IsCalm (rewrite_bytes w taken front last)
rewrite_calm w taken front last all =
    let ps = front ++ ending w last ∷ [] in
    let up = move_bytes UP (placed_height ps - 1 + min taken 1) in
    let written : IsCalm (back_bytes false taken ++ frame_bytes (min taken 1) ps) =
    calm_append (back_bytes false taken) (frame_bytes (min taken 1) ps) (back_calm false taken) (calm_append up (walk_bytes 0 ps) (up_calm _) (walk_calm 0 ps all)) in
    elim (cases_Bool ((taken == 0) && all_stay (front ++ last ∷ []))) [
      | inl stay ↦ rw stay calm_none
      | inr go ↦ rw go written
    ]

-- lines changed among those that stand, and more below them
pub change_calm : (w taken : ℕ) (looks : List (List Cell)) (ps : List PlacedLine) (p : PlacedLine) (more : List PlacedLine) → AreSitting w looks (ps ++ p ∷ more) →
    AreDrawable w (placed_lines ps) → IsDrawable w p.line → AreDrawable w (placed_lines more) → IsCalm (change_bytes w taken ps p more)
change_calm w taken looks ps p more sit d dp dm =
    let steps = sitting_calm w looks ps p more sit d dp in
    let ends = ending_calm w p.change p refl (line_calm w p.line dp) steps.1 in
    calm_append (rewrite_bytes w taken ps p) (lines_bytes true (placed_lines more) ++ replicate (free_behind w (last_of more)) 0x20)
    (rewrite_calm w taken ps p (calm_steps_append ps (ending w p ∷ []) steps.0 (ends, tt)))
    (calm_append (lines_bytes true (placed_lines more)) (replicate (free_behind w (last_of more)) 0x20) (lines_calm w true (placed_lines more) dm) (spaces_calm (free_behind w (last_of more))))

-- lines one behind another
pub joined_calm : (w : ℕ) (lines : List (List ℕ)) → AreDrawable w lines → IsCalm (flat_map (λ line. line) lines)
joined_calm w [] d = calm_none
joined_calm w (line ∷ lines) d = calm_append line (flat_map (λ line. line) lines) (line_calm w line d.0) (joined_calm w lines d.1)

anew_calm : (b : Bool) → IsCalm (if b then anew_bytes else [])
anew_calm true = calm_append next_row clear_bytes row_calm clear_calm
anew_calm false = calm_none

-- a drawing, that begins on a new row where the terminal has failed
pub led_calm : (b : Bool) (bytes : List ℕ) → IsCalm bytes → IsCalm ((if b then anew_bytes else []) ++ bytes)
led_calm b bytes c = calm_append (if b then anew_bytes else []) bytes (anew_calm b) c

-- ---- drawings one behind another

-- what one drawing wrote: a calm text, after CR LF where the terminal had failed before; or a beginning of that
pub record DrawsCalmly (failed : Bool) (bytes : List ℕ) (fails : Bool) : Type 0 where
  pub text : List ℕ
  pub calm : IsCalm text
  pub rest : List ℕ
  pub whole : bytes ++ rest ≡ (if failed then 0x0D ∷ 0x0A ∷ [] else []) ++ text
  pub all : IsFalse fails → rest ≡ []

pub first_drawing : (failed : Bool) (bytes : List ℕ) (drawings : List (List ℕ)) (fails : Bool) (p : AreCalm failed (bytes ∷ drawings) fails) → DrawsCalmly failed bytes p.2
first_drawing failed bytes drawings fails p = record { text = p.0; calm = p.3; rest = p.1; whole = p.4; all = p.5 }

pub one_drawing : (failed fails ends : Bool) (bytes : List ℕ) → DrawsCalmly failed bytes fails → ends ≡ fails → Calmly failed bytes ends
one_drawing failed fails ends bytes drew e = (bytes ∷ [], (drew.text, drew.rest, fails, drew.calm, drew.whole, drew.all, e), sym (append-nil bytes))

each_append : (failed : Bool) (a : List (List ℕ)) (between : Bool) (b : List (List ℕ)) (fails : Bool) → AreCalm failed a between → AreCalm between b fails → AreCalm failed (a ++ b) fails
each_append failed [] between b fails e q = subst (λ x. AreCalm x b fails) e q
each_append failed (drawing ∷ a) between b fails p q = (p.0, p.1, p.2, p.3, p.4, p.5, each_append p.2 a between b fails p.6 q)

pub no_drawings : (failed : Bool) → Calmly failed [] failed
no_drawings failed = ([], refl, refl)

pub drawings_append : (failed : Bool) (a : List ℕ) (between : Bool) (b : List ℕ) (fails : Bool) → Calmly failed a between → Calmly between b fails → Calmly failed (a ++ b) fails
drawings_append failed a between b fails p q = (
  p.0 ++ q.0,
  each_append failed p.0 between q.0 fails p.1 q.1,
  ap (λ x. x ++ b) p.2 ∙ ap (λ x. flat_map (λ d. d) p.0 ++ x) q.2 ∙ sym (flat_map-append (λ d. d) p.0 q.0),
)
