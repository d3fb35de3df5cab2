-- A drawing that leaves, edits or writes each of its lines, from its first byte to its last.
use Rattle.std.proofs.Common.{◌≡◌, ℕ, suc, ◌+◌, ◌-◌, ◌<◌, ◌≤◌, Bool, false, List, [], ◌∷◌, ◌++◌, length, take, drop, map, refl, sym, ◌∙◌, ap, subst, arith, length-append, append_assoc, append-nil, chars}
use Rattle.std.proofs.lemmas.Grind.{flat_map-append}
use Rattle.std.proofs.lemmas.List.{length-map, drop_at, take-append-drop, length-take-le, length-drop, take-map, drop-map, drop-drop, drop-take, take-take, map-append, nil_from_length}
use Rattle.indicatif_text.specs.Columns.{Cell, rows_of}
use Rattle.indicatif_term.specs.Screen.{Screen}
use Rattle.indicatif_term.specs.Terminal.{Terminal, GREATEST, after}
use Rattle.indicatif_term.specs.Calls.{move_bytes}
use Rattle.indicatif_term.specs.Shows.{look, looks_of}
use Rattle.indicatif_term.proofs.CursorRowLemmas.{Stands}
use Rattle.indicatif_term.proofs.FeedLemmas.{after-append}
use Rattle.indicatif_term.proofs.FilledLineLemmas.{looks-append}
use Rattle.indicatif_term.proofs.ShownRowLemmas.{lines_rows}
use Rattle.indicatif_term.proofs.TerminalStepLemmas.{StandsAfter, rows_some}
use Rattle.indicatif_term.proofs.PaintingLemmas.{IsDrawable, AreDrawable, restand, relead, nothing_leads, leads_then, rises}
use Rattle.indicatif_term.proofs.SkipStepLemmas.{unfronted, falls, changed_leads, changed_column}
use Rattle.indicatif_term.proofs.DrawingLemmas.{looks_split}
use Rattle.indicatif_term.specs.Inside.RowEdits.{Edit, row_bytes, edited_row, Renews}
use Rattle.indicatif_term.specs.Inside.Changing.{changed_bytes, LineChange, Leave, Within, Whole, PlacedLine, step_bytes, step_down, walk_bytes, walk_down, placed_height, placed_lines, frame_bytes, EditsLead, Becomes, Sits, AreSitting, Ends, step_rows, walk_rows}
use Rattle.indicatif_term.proofs.EditStandLemmas.{edit_leads, edit_column}

-- ---- lines one below another

pub height-append : (ps qs : List PlacedLine) → placed_height (ps ++ qs) ≡ placed_height ps + placed_height qs
height-append [] qs = omega arith
height-append (p ∷ ps) qs = let e : placed_height (ps ++ qs) ≡ placed_height ps + placed_height qs = height-append ps qs in omega arith

pub walk-append : (down : ℕ) (ps qs : List PlacedLine) → walk_bytes down (ps ++ qs) ≡ walk_bytes down ps ++ walk_bytes (walk_down down ps) qs
walk-append down [] qs = refl
walk-append down (p ∷ ps) qs =
    ap (λ x. step_bytes p.change down p.rows p.line ++ x) (walk-append (step_down p.change down p.rows) ps qs)
    ∙ sym (append_assoc (step_bytes p.change down p.rows p.line) (walk_bytes (step_down p.change down p.rows) ps) (walk_bytes (walk_down down (p ∷ ps)) qs))

pub down-append : (down : ℕ) (ps qs : List PlacedLine) → walk_down down (ps ++ qs) ≡ walk_down (walk_down down ps) qs
down-append down [] qs = refl
down-append down (p ∷ ps) qs = down-append (step_down p.change down p.rows) ps qs

pub sitting_parts : (w : ℕ) (ps qs : List PlacedLine) (looks : List (List Cell)) → AreSitting w looks (ps ++ qs) → AreSitting w looks ps × AreSitting w (drop (placed_height ps) looks) qs
sitting_parts w [] qs looks s = (tt, s)
sitting_parts w (p ∷ ps) qs looks s =
    let c = sitting_parts w ps qs (drop p.rows looks) s.1 in
    ((s.0, c.0), subst (λ x. AreSitting w x qs) (drop-drop (placed_height ps) p.rows looks) c.1)

pub sitting_both : (w : ℕ) (ps qs : List PlacedLine) (looks : List (List Cell)) → AreSitting w looks ps → AreSitting w (drop (placed_height ps) looks) qs → AreSitting w looks (ps ++ qs)
sitting_both w [] qs looks a b = b
sitting_both w (p ∷ ps) qs looks a b = (a.0, sitting_both w ps qs (drop p.rows looks) a.1 (subst (λ x. AreSitting w x qs) (sym (drop-drop (placed_height ps) p.rows looks)) b))

-- lines sit on the first of the rows as on all, if these are as many as theirs
pub sitting_front : (w n : ℕ) (ps : List PlacedLine) (looks : List (List Cell)) → placed_height ps ≤ n → AreSitting w looks ps → AreSitting w (take n looks) ps
sitting_front w n [] looks k s = tt
sitting_front w n (p ∷ ps) looks k s =
    let rest : drop p.rows (take n looks) ≡ take (n - p.rows) (drop p.rows looks) =
    ap (λ m. drop p.rows (take m looks)) (let e : n ≡ p.rows + (n - p.rows) = omega arith in e) ∙ drop-take p.rows (n - p.rows) looks in (
      record {
        rows_are = s.0.rows_are;
        last_is = s.0.last_is;
        becomes = subst (λ x. Becomes w p.change x p.line) (sym (take-take p.rows n looks (omega arith))) s.0.becomes;
        waiting = s.0.waiting;
      },
      subst (λ x. AreSitting w x ps) (sym rest) (sitting_front w (n - p.rows) ps (drop p.rows looks) (omega arith) s.1),
    )

-- one row that looks like this one
last_seen : (rows : List (List Cell)) (row : List Cell) → looks_of rows ≡ map look row ∷ [] → (r : List Cell) × (rows ≡ r ∷ []) × (map look r ≡ map look row)
last_seen [] row e = absurd (cc)
last_seen (r ∷ []) row e = (r, refl, cc)
last_seen (r ∷ q ∷ rows) row e = absurd (cc)

-- ---- one line

-- the parts of the rows of a line whose last row is edited
record Parts (w k n : ℕ) (es : List Edit) (old : List (List Cell)) (line : List ℕ) : Type 0 where
  upper : List (List Cell)
  r : List Cell
  whole : old ≡ upper ++ (r ∷ drop n old)
  at : length upper + 1 ≡ n
  rows : step_rows w (Within k es) n line old ≡ upper ++ edited_row k es r ∷ []
  wanted : List Cell
  renews : Renews w k es r wanted
  looks : looks_of (upper ++ edited_row k es r ∷ []) ≡ looks_of (rows_of w (chars line))

parts : (w k n : ℕ) (es : List Edit) (old : List (List Cell)) (line : List ℕ) → n ≤ length old → n ≡ length (rows_of w (chars line)) → EditsLead w k es (take n (looks_of old)) line →
    Parts w k n es old line
parts w k n es old line within many f =
    let m = length f.front in
    let count : n ≡ m + 1 = many ∙ ap length f.line_is ∙ length-append f.front (f.afterwards ∷ []) in
    let mine : looks_of (take n old) ≡ looks_of (f.front ++ f.before ∷ []) = sym (take-map (map look) n old) ∙ f.stood_is in
    let split = looks_split (take n old) f.front (f.before ∷ []) mine in
    let upper = take m old in
    let lower = drop m (take n old) in
    let upper_is : take m (take n old) ≡ upper = take-take m n old (omega arith) in
    let lower_look : looks_of lower ≡ map look f.before ∷ [] =
    sym (drop-map (map look) m (take n old)) ∙ ap (drop m) mine ∙ drop-map (map look) m (f.front ++ f.before ∷ []) ∙ ap looks_of (drop_at f.front (f.before ∷ []) m refl) in
    let seen = last_seen lower f.before lower_look in
    let r = seen.0 in
    let all : take n old ≡ upper ++ r ∷ [] = sym (take-append-drop m (take n old)) ∙ ap (λ x. x ++ lower) upper_is ∙ ap (λ x. upper ++ x) seen.1 in
    let whole : old ≡ upper ++ (r ∷ drop n old) = sym (take-append-drop n old) ∙ ap (λ x. x ++ drop n old) all ∙ append_assoc upper (r ∷ []) (drop n old) in
    let size : length upper ≡ m = length-take-le m old (omega arith) in
    let e = f.renews r seen.2 in
    let before : n - 1 ≡ m = omega (arith, count) in
    let last : take 1 (drop (n - 1) old) ≡ r ∷ [] =
    ap (λ i. take 1 (drop i old)) before ∙ ap (λ x. take 1 (drop m x)) whole ∙ ap (take 1) (drop_at upper (r ∷ drop n old) m size) in
    let new : List (List Cell) = edited_row k es r ∷ [] in
    record {
      upper = upper;
      r = r;
      whole = whole;
      at = omega (arith, count, size);
      rows = ap (λ x. take (n - 1) old ++ map (edited_row k es) x) last ∙ ap (λ i. take i old ++ new) before;
      wanted = f.afterwards;
      renews = e;
      looks = looks-append upper new ∙ ap (λ x. looks_of x ++ looks_of new) (sym upper_is) ∙ ap (λ x. x ++ looks_of new) split.2 ∙ ap (λ x. looks_of f.front ++ x ∷ []) e.looks
          ∙ sym (looks-append f.front (f.afterwards ∷ [])) ∙ ap looks_of (sym f.line_is);
    }

step_looks : (w : ℕ) (c : LineChange) (n : ℕ) (line : List ℕ) (old : List (List Cell)) → n ≤ length old → n ≡ length (rows_of w (chars line)) → Becomes w c (take n (looks_of old)) line →
    looks_of (step_rows w c n line old) ≡ looks_of (rows_of w (chars line))
step_looks w Leave n line old within many b = sym (take-map (map look) n old) ∙ b
step_looks w (Within k es) n line old within many b = let p = parts w k n es old line within many b in ap looks_of p.rows ∙ p.looks
step_looks w Whole n line old within many b = refl

same_length : (a b : List (List Cell)) → looks_of a ≡ looks_of b → length a ≡ length b
same_length a b e = sym (length-map a (map look)) ∙ ap length e ∙ length-map b (map look)

step_length : (w : ℕ) (c : LineChange) (n : ℕ) (line : List ℕ) (old : List (List Cell)) → n ≤ length old → n ≡ length (rows_of w (chars line)) → Becomes w c (take n (looks_of old)) line →
    length (step_rows w c n line old) ≡ n
step_length w c n line old within many b = same_length (step_rows w c n line old) (rows_of w (chars line)) (step_looks w c n line old within many b) ∙ sym many

-- the rest of what stands there
come_on : (w n : ℕ) (old : List (List Cell)) (ps : List PlacedLine) → AreSitting w (drop n (looks_of old)) ps → AreSitting w (looks_of (drop n old)) ps
come_on w n old ps s = subst (λ x. AreSitting w x ps) (drop-map (map look) n old) s

pub walk_looks : (w : ℕ) (ps : List PlacedLine) (old : List (List Cell)) → AreSitting w (looks_of old) ps → placed_height ps ≤ length old →
    looks_of (walk_rows w ps old) ≡ looks_of (lines_rows w (placed_lines ps))
walk_looks w [] old s k = refl
walk_looks w (p ∷ ps) old s k =
    let here : looks_of (step_rows w p.change p.rows p.line old) ≡ looks_of (rows_of w (chars p.line)) = step_looks w p.change p.rows p.line old (omega arith) s.0.rows_are s.0.becomes in
    let rest : looks_of (walk_rows w ps (drop p.rows old)) ≡ looks_of (lines_rows w (placed_lines ps)) =
    walk_looks w ps (drop p.rows old) (come_on w p.rows old ps s.1) (omega (arith, length-drop p.rows old)) in
    looks-append (step_rows w p.change p.rows p.line old) (walk_rows w ps (drop p.rows old)) ∙ cc (here, rest) ∙ sym (looks-append (rows_of w (chars p.line)) (lines_rows w (placed_lines ps)))

pub walk_length : (w : ℕ) (ps : List PlacedLine) (old : List (List Cell)) → AreSitting w (looks_of old) ps → placed_height ps ≤ length old → length (walk_rows w ps old) ≡ placed_height ps
walk_length w [] old s k = refl
walk_length w (p ∷ ps) old s k =
    omega (
      arith,
      length-append (step_rows w p.change p.rows p.line old) (walk_rows w ps (drop p.rows old)),
      step_length w p.change p.rows p.line old (omega arith) s.0.rows_are s.0.becomes,
      walk_length w ps (drop p.rows old) (come_on w p.rows old ps s.1) (omega (arith, length-drop p.rows old)),
    )

step_low : (c : LineChange) (down n : ℕ) → 0 < n → step_down c down n ≤ down + n
step_low Leave down n some = omega arith
step_low (Within k es) down n some = omega arith
step_low Whole down n some = omega arith

some_rows : (w : ℕ) (looks : List (List Cell)) (p : PlacedLine) → Sits w looks p → 0 < p.rows
some_rows w looks p s = let q : 0 < length (rows_of w (chars p.line)) = rows_some w (chars p.line) in omega (arith, s.rows_are)

-- the cursor is never further above than by the rows passed
pub walk_low : (w down : ℕ) (ps : List PlacedLine) (looks : List (List Cell)) → AreSitting w looks ps → walk_down down ps ≤ down + placed_height ps
walk_low w down [] looks s = omega arith
walk_low w down (p ∷ ps) looks s =
    let a : step_down p.change down p.rows ≤ down + p.rows = step_low p.change down p.rows (some_rows w looks p s.0) in
    let z : walk_down (step_down p.change down p.rows) ps ≤ step_down p.change down p.rows + placed_height ps = walk_low w (step_down p.change down p.rows) ps (drop p.rows looks) s.1 in
    omega arith

module _ (w h : ℕ) (opening : Screen) (above : List (List Cell)) where
  -- the bytes of one line
  step_leads : (c : LineChange) (n : ℕ) (line : List ℕ) (old more : List (List Cell)) (down row reach : ℕ) (front : Bool) (t : Terminal) → w ≤ GREATEST →
      n ≡ length (rows_of w (chars line)) → Becomes w c (take n (looks_of old)) line → IsDrawable w line →
      n ≤ length old → down + n ≤ GREATEST → reach ≤ length above + h → row + down ≡ length above + length more → length above ≤ suc row →
      Stands w h opening (above ++ (more ++ old)) row reach front t →
      StandsAfter w h opening above t (step_bytes c down n line) (above ++ (more ++ (step_rows w c n line old ++ drop n old))) (length above + length more + n - step_down c down n) reach false
  step_leads Leave n line old more down row reach front t low many b d within small m e on s =
      relead w h opening above t [] _ _ _ _ reach reach false false (ap (λ x. above ++ (more ++ x)) (sym (take-append-drop n old))) (omega (arith, e)) refl refl
      (nothing_leads w h opening above t (above ++ (more ++ old)) row reach false on (unfronted w h opening above t (above ++ (more ++ old)) row reach front s))
  step_leads (Within k es) n line old more down row reach front t low many b d within small m e on s =
      let p = parts w k n es old line within many b in
      let far = down + n - 1 in
      let rest = drop n old in
      let some : 0 < n = omega (arith, p.at) in
      let long : length old ≡ n + length rest = omega (arith, length-drop n old) in
      let fall = falls w h opening above (more ++ old) far row reach front t (omega arith) (omega (arith, e, length-append more old)) on s in
      let at = length above + length (more ++ p.upper) in
      let here : row + far ≡ at = omega (arith, e, length-append more p.upper, p.at) in
      let s' = restand w h opening above (after t (move_bytes 0x42 far)) _ (above ++ ((more ++ p.upper) ++ p.r ∷ rest)) _ at _ reach _ front
      (ap (λ y. above ++ (more ++ y)) p.whole ∙ ap (λ y. above ++ y) (sym (append_assoc more p.upper (p.r ∷ rest)))) here refl refl fall.stands in
      let edit = edit_leads w h opening above (more ++ p.upper) rest p.r p.wanted k es at reach front (after t (move_bytes 0x42 far)) low refl p.renews s' in
      leads_then w h opening above t (move_bytes 0x42 far) (row_bytes k es) _ _ _ _ reach reach front false fall
      (relead w h opening above (after t (move_bytes 0x42 far)) (row_bytes k es) _ _ _ _ reach reach false false
      (ap (λ x. above ++ x) (append_assoc more p.upper (edited_row k es p.r ∷ rest) ∙ ap (λ x. more ++ x) (sym (append_assoc p.upper (edited_row k es p.r ∷ []) rest)
      ∙ ap (λ x. x ++ rest) (sym p.rows))))
      (omega (arith, here, e)) refl refl edit)
  step_leads Whole n line old more down row reach front t low many b d within small m e on s =
      let gone = take n old in
      let rest = drop n old in
      let gone_length : length gone ≡ n = length-take-le n old within in
      subst (λ i. StandsAfter w h opening above t (changed_bytes down i line) (above ++ (more ++ (rows_of w (chars line) ++ rest))) (length above + length more + i - 1) reach false) gone_length
      (changed_leads w h opening above gone more rest line down row reach front t (omega arith) (omega (arith, gone_length)) m d (gone_length ∙ many) e on
      (restand w h opening above t _ _ _ _ reach reach front front (ap (λ x. above ++ (more ++ x)) (sym (take-append-drop n old))) refl refl refl s))

  -- the last line's leave the cursor at the end of its row
  step_column : (c : LineChange) (n : ℕ) (line : List ℕ) (old more : List (List Cell)) (down row reach : ℕ) (front : Bool) (t : Terminal) → w ≤ GREATEST →
      n ≡ length (rows_of w (chars line)) → Becomes w c (take n (looks_of old)) line → Ends w c line → IsDrawable w line →
      n ≤ length old → down + n ≤ GREATEST → reach ≤ length above + h → row + down ≡ length above + length more → length above ≤ suc row →
      Stands w h opening (above ++ (more ++ old)) row reach front t →
      (after t (step_bytes c down n line)).screen.column ≡ w
  step_column Leave n line old more down row reach front t low many b ends d within small m e on s = absurd ends
  step_column (Within k es) n line old more down row reach front t low many b ends d within small m e on s =
      let p = parts w k n es old line within many b in
      let far = down + n - 1 in
      let rest = drop n old in
      let some : 0 < n = omega (arith, p.at) in
      let fall = falls w h opening above (more ++ old) far row reach front t (omega arith) (omega (arith, e, length-append more old)) on s in
      let at = length above + length (more ++ p.upper) in
      let here : row + far ≡ at = omega (arith, e, length-append more p.upper, p.at) in
      let s' = restand w h opening above (after t (move_bytes 0x42 far)) _ (above ++ ((more ++ p.upper) ++ p.r ∷ rest)) _ at _ reach _ front
      (ap (λ y. above ++ (more ++ y)) p.whole ∙ ap (λ y. above ++ y) (sym (append_assoc more p.upper (p.r ∷ rest)))) here refl refl fall.stands in
      ap (λ u. u.screen.column) (after-append t (move_bytes 0x42 far) (row_bytes k es))
      ∙ edit_column w h opening above (more ++ p.upper) rest p.r p.wanted k es at reach front (after t (move_bytes 0x42 far)) low refl p.renews s'
      ∙ omega (arith, ends.0, ends.1)
  step_column Whole n line old more down row reach front t low many b ends d within small m e on s =
      let gone = take n old in
      let gone_length : length gone ≡ n = length-take-le n old within in
      subst (λ i. (after t (changed_bytes down i line)).screen.column ≡ w) gone_length
      (changed_column w h opening above gone more (drop n old) line down row reach front t (omega arith) (omega (arith, gone_length)) m d (gone_length ∙ many) e on
      (restand w h opening above t _ _ _ _ reach reach front front (ap (λ x. above ++ (more ++ x)) (sym (take-append-drop n old))) refl refl refl s) ∙ ends)

  -- down through lines
  pub walk_leads : (ps : List PlacedLine) (old more : List (List Cell)) (down row reach : ℕ) (front : Bool) (t : Terminal) → w ≤ GREATEST → AreSitting w (looks_of old) ps →
      AreDrawable w (placed_lines ps) →
      placed_height ps ≤ length old → down + placed_height ps ≤ GREATEST → reach ≤ length above + h → row + down ≡ length above + length more → length above ≤ suc row →
      Stands w h opening (above ++ (more ++ old)) row reach front t →
      StandsAfter w h opening above t (walk_bytes down ps) (above ++ (more ++ (walk_rows w ps old ++ drop (placed_height ps) old)))
      (length above + length more + placed_height ps - walk_down down ps) reach false
  walk_leads [] old more down row reach front t low sit d k small m e on s =
      relead w h opening above t [] _ _ _ _ reach reach false false refl (omega (arith, e)) refl refl
      (nothing_leads w h opening above t (above ++ (more ++ old)) row reach false on (unfronted w h opening above t (above ++ (more ++ old)) row reach front s))
  walk_leads (p ∷ ps) old more down row reach front t low sit d k small m e on s =
      let rest = drop p.rows old in
      let own = step_rows w p.change p.rows p.line old in
      let next = step_down p.change down p.rows in
      let bytes = step_bytes p.change down p.rows p.line in
      let some : 0 < p.rows = some_rows w (looks_of old) p sit.0 in
      let low_step : next ≤ down + p.rows = step_low p.change down p.rows some in
      let own_length : length own ≡ p.rows = step_length w p.change p.rows p.line old (omega arith) sit.0.rows_are sit.0.becomes in
      let rest_length : length rest ≡ length old - p.rows = length-drop p.rows old in
      let behind : drop (placed_height ps) rest ≡ drop (p.rows + placed_height ps) old = drop-drop (placed_height ps) p.rows old in
      let one = step_leads p.change p.rows p.line old more down row reach front t low sit.0.rows_are sit.0.becomes d.0 (omega arith) (omega arith) m e on s in
      let row' = length above + length more + p.rows - next in
      let longer : length (more ++ own) ≡ length more + p.rows = length-append more own ∙ ap (λ n. length more + n) own_length in
      leads_then w h opening above t bytes (walk_bytes next ps) _ _ _ _ reach reach false false one
      (relead w h opening above (after t bytes) (walk_bytes next ps) _ _ _ _ reach reach false false
      (ap (λ x. above ++ ((more ++ own) ++ (walk_rows w ps rest ++ x))) behind ∙ simp append_assoc refl) (omega (arith, longer)) refl refl
      (walk_leads ps rest (more ++ own) next row' reach false (after t bytes) low (come_on w p.rows old ps sit.1) d.1 (omega (arith, rest_length)) (omega arith) m
      (omega (arith, longer, e)) (omega (arith, e))
      (restand w h opening above (after t bytes) _ _ _ _ reach reach false false (ap (λ x. above ++ x) (sym (append_assoc more own rest))) refl refl refl one.stands)))

  -- all of a drawing
  pub record Drawn (t : Terminal) (bytes : List ℕ) (lines : List (List ℕ)) (n reach : ℕ) : Type 0 where
    pub new : List (List Cell)
    pub leads : StandsAfter w h opening above t bytes (above ++ new) (length above + n - 1) reach false
    pub looks : looks_of new ≡ looks_of (lines_rows w lines)
    pub column : (after t bytes).screen.column ≡ w

  pub frame_leads : (ps : List PlacedLine) (p : PlacedLine) (old : List (List Cell)) (further reach : ℕ) (t : Terminal) → w ≤ GREATEST → Ends w p.change p.line →
      AreSitting w (looks_of old) (ps ++ p ∷ []) → AreDrawable w (placed_lines ps) → IsDrawable w p.line →
      placed_height (ps ++ p ∷ []) ≡ length old → length old + further ≤ GREATEST → reach ≤ length above + h →
      Stands w h opening (above ++ old) (length above + length old - 1 + further) reach false t →
      Drawn t (frame_bytes further (ps ++ p ∷ [])) (placed_lines (ps ++ p ∷ [])) (length old) reach
  frame_leads ps p old further reach t low ends sit d dp k small m s =
      let none : List (List Cell) = [] in
      let qs = ps ++ p ∷ [] in
      let n = placed_height ps in
      let c = sitting_parts w ps (p ∷ []) (looks_of old) sit in
      let last : Sits w (drop n (looks_of old)) p = c.1.0 in
      let some : 0 < p.rows = some_rows w (drop n (looks_of old)) p last in
      let heights : placed_height qs ≡ n + p.rows = height-append ps (p ∷ []) ∙ omega arith in
      let up = move_bytes 0x41 (placed_height qs - 1 + further) in
      let first = rises w h opening above old (placed_height qs - 1 + further) (length above) reach false t (omega (arith, k)) (omega arith) (omega arith)
      (restand w h opening above t _ _ _ _ reach reach false false refl (omega (arith, k, heights)) refl refl s) in
      let t' = after t up in
      let walk = walk_leads ps old none 0 (length above) reach false t' low c.0 d (omega (arith, k, heights)) (omega (arith, k, heights)) m (omega arith) (omega arith) first.stands in
      let below = drop n old in
      let below_length : length below ≡ p.rows = length-drop n old ∙ omega (arith, k, heights) in
      let upper = walk_rows w ps old in
      let upper_length : length upper ≡ n = walk_length w ps old c.0 (omega (arith, k, heights)) in
      let down = walk_down 0 ps in
      let z : down ≤ 0 + n = walk_low w 0 ps (looks_of old) c.0 in
      let t'' = after t' (walk_bytes 0 ps) in
      let becomes : Becomes w p.change (take p.rows (looks_of below)) p.line = subst (λ x. Becomes w p.change (take p.rows x) p.line) (drop-map (map look) n old) last.becomes in
      let stands = restand w h opening above t'' _ (above ++ (upper ++ below)) _ (length above + n - down) _ reach _ false refl (omega arith) refl refl walk.stands in
      let own = step_rows w p.change p.rows p.line below in
      let bytes = step_bytes p.change down p.rows p.line in
      let end = step_leads p.change p.rows p.line below upper down (length above + n - down) reach false t'' low last.rows_are becomes dp (omega (arith, below_length)) (omega (arith, k, heights)) m
      (omega (arith, upper_length)) (omega arith) stands in
      let column = step_column p.change p.rows p.line below upper down (length above + n - down) reach false t'' low last.rows_are becomes ends dp (omega (arith, below_length))
      (omega (arith, k, heights)) m
      (omega (arith, upper_length)) (omega arith) stands in
      let own_length : length own ≡ p.rows = step_length w p.change p.rows p.line below (omega (arith, below_length)) last.rows_are becomes in
      let all_gone : drop p.rows below ≡ [] = nil_from_length (drop p.rows below) (length-drop p.rows below ∙ omega (arith, below_length)) in
      let split : walk_bytes 0 qs ≡ walk_bytes 0 ps ++ bytes = walk-append 0 ps (p ∷ []) ∙ ap (λ x. walk_bytes 0 ps ++ x) (append-nil bytes) in
      let both : StandsAfter w h opening above t' (walk_bytes 0 ps ++ bytes) (above ++ (upper ++ own)) (length above + length old - 1) reach false =
      leads_then w h opening above t' (walk_bytes 0 ps) bytes _ _ _ _ reach reach false false walk
      (relead w h opening above t'' bytes _ (above ++ (upper ++ own)) _ (length above + length old - 1) reach reach false false
      (ap (λ x. above ++ (upper ++ (own ++ x))) all_gone ∙ ap (λ x. above ++ (upper ++ x)) (append-nil own)) (ended p.change down p.rows (length above) (length upper)
      (length old) ends (omega (arith, upper_length, k, heights))) refl refl end) in
      let rows_looks : looks_of (upper ++ own) ≡ looks_of (lines_rows w (placed_lines ps) ++ rows_of w (chars p.line)) =
      looks-append upper own ∙ cc (walk_looks w ps old c.0 (omega (arith, k, heights)), step_looks w p.change p.rows p.line below (omega (arith, below_length)) last.rows_are becomes)
      ∙ sym (looks-append (lines_rows w (placed_lines ps)) (rows_of w (chars p.line))) in
      record {
        new = upper ++ own;
        leads = leads_then w h opening above t up (walk_bytes 0 qs) _ _ _ _ reach reach false false first
            (subst (λ x. StandsAfter w h opening above t' x (above ++ (upper ++ own)) (length above + length old - 1) reach false) (sym split) both);
        looks = rows_looks
            ∙ ap looks_of (ap (λ x. lines_rows w (placed_lines ps) ++ x) (sym (append-nil (rows_of w (chars p.line))))
            ∙ sym (flat_map-append (λ line. rows_of w (chars line)) (placed_lines ps) (p.line ∷ []))
            ∙ ap (lines_rows w) (sym (map-append (λ (q : PlacedLine). q.line) ps (p ∷ []))));
        column = ap (λ u. u.screen.column) (after-append t up (walk_bytes 0 qs) ∙ ap (after t') split ∙ after-append t' (walk_bytes 0 ps) bytes) ∙ column;
      } where
        ended : (c : LineChange) (down n a u old : ℕ) → Ends w c p.line → u + n ≡ old → a + u + n - step_down c down n ≡ a + old - 1
        ended Leave down n a u old e k = absurd e
        ended (Within i es) down n a u old e k = omega arith
        ended Whole down n a u old e k = omega arith
