-- A drawing in the place of rows, the others of which are taken back, and lines below it.
use Rattle.std.proofs.Common.{min, inl, inr, ◌≡◌, ℕ, zero, suc, ◌+◌, ◌-◌, ◌<◌, ◌≤◌, true, false, List, [], ◌∷◌, ◌++◌, length, take, drop, replicate, map, refl, sym, ◌∙◌, ap, arith, length-append, append_assoc, append-nil, chars}
use Rattle.std.specs.Prelude.{◌&&◌, ◌==◌, max}
use Rattle.std.proofs.lemmas.Bool.{cases_Bool, and_parts}
use Rattle.std.proofs.lemmas.Bool.Decides.{nat_tests}
use Rattle.std.proofs.lemmas.Grind.{flat_map-append}
use Rattle.std.proofs.lemmas.List.{length-map, take-append-drop, length-drop, map-append, nil_from_length}
use Rattle.indicatif_text.specs.Columns.{Cell, rows_of}
use Rattle.indicatif_term.specs.Screen.{Screen}
use Rattle.indicatif_term.specs.Terminal.{Terminal, GREATEST, after}
use Rattle.indicatif_term.specs.Shows.{look, looks_of}
use Rattle.indicatif_term.specs.Inside.Changing.{LineChange, Leave, Within, Whole, PlacedLine, placed_height, placed_lines, frame_bytes, Becomes, AreSitting, stays, all_stay, ending, free_behind}
use Rattle.indicatif_term.proofs.AmongLemmas.{rewrite_bytes, change_bytes}
use Rattle.indicatif_term.specs.Inside.MoveBytes.{back_bytes, lines_bytes}
use Rattle.indicatif_term.specs.Inside.Fills.{last_of}
use Rattle.indicatif_term.proofs.CursorRowLemmas.{Stands}
use Rattle.indicatif_term.proofs.FeedLemmas.{after-append}
use Rattle.indicatif_term.proofs.FillLemmas.{IsFull, filled_bytes}
use Rattle.indicatif_term.proofs.LastLineLemmas.{fill_bytes}
use Rattle.indicatif_term.proofs.FilledLineLemmas.{looks-append, refilled, refills}
use Rattle.indicatif_term.proofs.ShownRowLemmas.{lines_rows}
use Rattle.indicatif_term.proofs.TerminalStepLemmas.{StandsAfter, rows_some}
use Rattle.indicatif_term.proofs.PaintingLemmas.{IsDrawable, AreDrawable, restand, relead, nothing_leads, leads_then, row_for, left_at_end, back_leads, lines_lead, lines_column}
use Rattle.indicatif_term.proofs.SkipStepLemmas.{unfronted}
use Rattle.indicatif_term.proofs.EditWalkLemmas.{Drawn, frame_leads, height-append, sitting_parts, sitting_both}
use Rattle.indicatif_term.proofs.EndLemmas.{Ending, ending_ends}
use Rattle.indicatif_term.proofs.DrawingLemmas.{keeps_fewer}

-- ---- other rows below the lines, taken back before

none_equal : (n : ℕ) → (suc n == 0) ≡ false
none_equal n = grind (arith, nat_tests)

-- the row of the cursor after rows were taken back
row_back : (taken n : ℕ) → 0 < n → row_for (left_at_end false taken) n ≡ n - 1 + min taken 1
row_back zero n p = omega arith
row_back (suc k) n p = rw (none_equal k) (omega arith)

module _ (w h : ℕ) (opening : Screen) (above : List (List Cell)) where
  took_back : (old rest : List (List Cell)) (reach : ℕ) (t : Terminal) → 0 < length old → length rest ≤ GREATEST → reach ≤ length above + h →
      Stands w h opening (above ++ (old ++ rest)) (length above + length old + length rest - 1) reach false t →
      StandsAfter w h opening above t (back_bytes false (length rest)) (above ++ old) (length above + length old - 1 + min (length rest) 1) reach false
  took_back old rest reach t some few m s =
      let base = above ++ old in
      let size : length base ≡ length above + length old = length-append above old in
      let back = back_bytes false (length rest) in
      let l = back_leads w h opening base rest false t reach few (omega (arith, size))
      (restand w h opening above t _ (base ++ rest) _ (length base + length rest - 1) reach reach false false (sym (append_assoc above old rest)) (omega (arith, size)) refl refl s) in
      record {
        keeps = keeps_fewer (opening.row + length above) (opening.row + length base) t back (omega (arith, size)) l.keeps;
        stands = unfronted w h opening above (after t back) _ _ reach _
            (restand w h opening above (after t back) _ base _ (length above + length old - 1 + min (length rest) 1) reach reach _ _ (append-nil base)
            (row_back (length rest) (length base) (omega (arith, size)) ∙ omega (arith, size)) refl refl l.stands);
      }

  -- all of it, but where all lines stay and no row is taken back
  anew_leads : (ps : List PlacedLine) (p : PlacedLine) (old rest : List (List Cell)) (reach : ℕ) (t : Terminal) → 0 < w → w ≤ GREATEST →
      AreSitting w (looks_of old) (ps ++ p ∷ []) → AreDrawable w (placed_lines ps) → IsDrawable w p.line →
      placed_height ps + p.rows ≡ length old → length old + length rest ≤ GREATEST → reach ≤ length above + h →
      Stands w h opening (above ++ (old ++ rest)) (length above + length old + length rest - 1) reach false t →
      Drawn w h opening above t (back_bytes false (length rest) ++ frame_bytes (min (length rest) 1) (ps ++ ending w p ∷ [])) (placed_lines ps ++ p.line ∷ []) (length old) reach
  anew_leads ps p old rest reach t pos low sit d dp k small m s =
      let c = sitting_parts w ps (p ∷ []) (looks_of old) sit in
      let some : 0 < p.rows = let q : 0 < length (rows_of w (chars p.line)) = rows_some w (chars p.line) in omega (arith, c.1.0.rows_are) in
      let q = ending w p in
      let e : Ending w (drop (placed_height ps) (looks_of old)) p q = ending_ends w (drop (placed_height ps) (looks_of old)) p pos dp c.1.0 in
      let back = back_bytes false (length rest) in
      let frame = frame_bytes (min (length rest) 1) (ps ++ q ∷ []) in
      let first = took_back old rest reach t (omega (arith, k)) (omega arith) m s in
      let heights : placed_height (ps ++ q ∷ []) ≡ length old = height-append ps (q ∷ []) ∙ omega (arith, e.rows_is, k) in
      let drawn = frame_leads w h opening above ps q old (min (length rest) 1) reach (after t back) low e.ends
      (sitting_both w ps (q ∷ []) (looks_of old) c.0 (e.sits, tt)) d e.drawable heights (omega arith) m first.stands in
      record {
        new = drawn.new;
        leads = leads_then w h opening above t back frame _ _ _ _ reach reach false false first drawn.leads;
        looks = drawn.looks ∙ ap (λ x. looks_of (lines_rows w x)) (map-append (λ (l : PlacedLine). l.line) ps (q ∷ [])) ∙ same_last (placed_lines ps) q.line p.line e.looks;
        column = ap (λ u. u.screen.column) (after-append t back frame) ∙ drawn.column;
      } where
        same_last : (lines : List (List ℕ)) (x y : List ℕ) → looks_of (rows_of w (chars x)) ≡ looks_of (rows_of w (chars y)) →
            looks_of (lines_rows w (lines ++ x ∷ [])) ≡ looks_of (lines_rows w (lines ++ y ∷ []))
        same_last [] x y e = ap looks_of (append-nil (rows_of w (chars x))) ∙ e ∙ sym (ap looks_of (append-nil (rows_of w (chars y))))
        same_last (line ∷ lines) x y e =
            looks-append (rows_of w (chars line)) (lines_rows w (lines ++ x ∷ [])) ∙ ap (λ z. looks_of (rows_of w (chars line)) ++ z) (same_last lines x y e)
            ∙ sym (looks-append (rows_of w (chars line)) (lines_rows w (lines ++ y ∷ [])))

  -- lines that all stay are what is seen
  left_looks : (c : LineChange) (stood : List (List Cell)) (line : List ℕ) → stays c ≡ true → Becomes w c stood line → stood ≡ looks_of (rows_of w (chars line))
  left_looks Leave stood line e b = b
  left_looks (Within k es) stood line e b = absurd (cc)
  left_looks Whole stood line e b = absurd (cc)

  staying_looks : (ps : List PlacedLine) (looks : List (List Cell)) → AreSitting w looks ps → all_stay ps ≡ true → placed_height ps ≡ length looks → looks ≡ looks_of (lines_rows w (placed_lines ps))
  staying_looks [] [] s a k = refl
  staying_looks [] (r ∷ rs) s a k = absurd (omega arith)
  staying_looks (p ∷ ps) looks s a k =
      let c = and_parts (stays p.change) (all_stay ps) a in
      sym (take-append-drop p.rows looks)
      ∙ cc (left_looks p.change (take p.rows looks) p.line c.0 s.0.becomes, staying_looks ps (drop p.rows looks) s.1 c.1 (omega (arith, length-drop p.rows looks)))
      ∙ sym (looks-append (rows_of w (chars p.line)) (lines_rows w (placed_lines ps)))

  nothing_column : (t : Terminal) → (after t []).screen.column ≡ t.screen.column
  unfolding after
  nothing_column t = refl

  no_rest : (n : ℕ) (rest : List (List Cell)) → n ≡ length rest → (n == 0) ≡ true → rest ≡ []
  no_rest n rest e z = nil_from_length rest (let q : n ≡ 0 = is_zero n z in omega (arith, e, q)) where
    is_zero : (n : ℕ) → (n == 0) ≡ true → n ≡ 0
    is_zero n e = grind (arith, nat_tests)

  pub rewrite_leads : (ps : List PlacedLine) (p : PlacedLine) (old rest : List (List Cell)) (reach : ℕ) (t : Terminal) → 0 < w → w ≤ GREATEST →
      AreSitting w (looks_of old) (ps ++ p ∷ []) → AreDrawable w (placed_lines ps) → IsDrawable w p.line →
      placed_height ps + p.rows ≡ length old → length old + length rest ≤ GREATEST → reach ≤ length above + h → t.screen.column ≡ w →
      Stands w h opening (above ++ (old ++ rest)) (length above + length old + length rest - 1) reach false t →
      Drawn w h opening above t (rewrite_bytes w (length rest) ps p) (placed_lines ps ++ p.line ∷ []) (length old) reach
  rewrite_leads ps p old rest reach t pos low sit d dp k small m at s = elim (cases_Bool ((length rest == 0) && all_stay (ps ++ p ∷ []))) [
    | inl all ↦
        let both = and_parts (length rest == 0) (all_stay (ps ++ p ∷ [])) all in
        let none : rest ≡ [] = no_rest (length rest) rest refl both.0 in
        let some : 0 < p.rows = let c = sitting_parts w ps (p ∷ []) (looks_of old) sit in let q : 0 < length (rows_of w (chars p.line)) = rows_some w (chars p.line) in omega (arith, c.1.0.rows_are) in
        rw all (record {
          new = old;
          leads = nothing_leads w h opening above t (above ++ old) (length above + length old - 1) reach false (omega (arith, k))
              (restand w h opening above t _ _ _ _ reach reach false false (ap (λ x. above ++ (old ++ x)) none ∙ ap (λ x. above ++ x) (append-nil old)) (omega (arith, ap length none)) refl refl s);
          looks = staying_looks (ps ++ p ∷ []) (looks_of old) sit both.1 (omega (arith, height-append ps (p ∷ []), k, length-map old (map look)))
              ∙ ap (λ x. looks_of (lines_rows w x)) (map-append (λ (q : PlacedLine). q.line) ps (p ∷ []));
          column = nothing_column t ∙ at;
        })
    | inr some ↦ rw some (anew_leads ps p old rest reach t pos low sit d dp k small m s)
  ]

  -- ---- and lines below them

  -- the spaces behind lines, by the last of them as it was measured
  pub tail_filled : (ps : List PlacedLine) (looks : List (List Cell)) → AreSitting w looks ps → replicate (free_behind w (last_of ps)) 0x20 ≡ fill_bytes false w (placed_lines ps)
  tail_filled [] looks s = refl
  tail_filled (p ∷ []) looks s = ap (λ n. replicate (w - n) 0x20) s.0.last_is
  tail_filled (p ∷ q ∷ ps) looks s = tail_filled (q ∷ ps) (drop p.rows looks) s.1

  -- what is known then
  pub record Changed (t : Terminal) (bytes : List ℕ) (lines : List (List ℕ)) (reach : ℕ) : Type 0 where
    pub new : List (List Cell)
    pub leads : StandsAfter w h opening above t bytes (above ++ new) (length above + length new - 1) (max reach (length above + length new)) false
    pub looks : looks_of new ≡ looks_of (lines_rows w lines)
    pub column : (after t bytes).screen.column ≡ w

  seen_length : (a b : List (List Cell)) → looks_of a ≡ looks_of b → length a ≡ length b
  seen_length a b e = sym (length-map a (map look)) ∙ ap length e ∙ length-map b (map look)

  -- where the cursor is below lines of which the last is filled, or still at the end of the row above them
  more_column : (lines : List (List ℕ)) (upper : List (List Cell)) (t : Terminal) (reach : ℕ) → 0 < w → 0 < length above + length upper → length above + length upper ≤ reach → AreDrawable w lines →
      IsFull w lines →
      t.screen.column ≡ w → Stands w h opening (above ++ upper) (length above + length upper - 1) reach false t → (after t (lines_bytes true lines)).screen.column ≡ w
  more_column [] upper t reach pos some g d full at s = nothing_column t ∙ at
  more_column (line ∷ lines) upper t reach pos some g d full at s = lines_column w h opening above (line ∷ lines) true upper t reach pos (omega arith) (λ e. some) g d full s

  pub change_leads : (ps : List PlacedLine) (p : PlacedLine) (more : List PlacedLine) (old rest : List (List Cell)) (looks : List (List Cell)) (reach : ℕ) (t : Terminal) → 0 < w → w ≤ GREATEST →
      AreSitting w (looks_of old) (ps ++ p ∷ []) → AreSitting w looks more → AreDrawable w (placed_lines ps) → IsDrawable w p.line → AreDrawable w (placed_lines more) →
      placed_height ps + p.rows ≡ length old → length old + length rest ≤ GREATEST → reach ≤ length above + h → length above + length old ≤ reach → t.screen.column ≡ w →
      Stands w h opening (above ++ (old ++ rest)) (length above + length old + length rest - 1) reach false t →
      Changed t (change_bytes w (length rest) ps p more) ((placed_lines ps ++ p.line ∷ []) ++ placed_lines more) reach
  change_leads ps p more old rest looks reach t pos low sit sit' d dp dm k small m used at s =
      let some : 0 < p.rows = let c = sitting_parts w ps (p ∷ []) (looks_of old) sit in let q : 0 < length (rows_of w (chars p.line)) = rows_some w (chars p.line) in omega (arith, c.1.0.rows_are) in
      let upper = rewrite_leads ps p old rest reach t pos low sit d dp k small m at s in
      let bytes = rewrite_bytes w (length rest) ps p in
      let u = after t bytes in
      let lines = refilled false w (placed_lines more) in
      let f = refills false w (placed_lines more) pos dm in
      let heights : length old ≡ length (lines_rows w (placed_lines ps ++ p.line ∷ [])) =
      sym k ∙ sym (height-append ps (p ∷ []) ∙ omega arith) ∙ placed_rows (ps ++ p ∷ []) (looks_of old) sit ∙ ap (λ x. length (lines_rows w x)) (map-append (λ (q : PlacedLine). q.line) ps (p ∷ [])) in
      let size : length upper.new ≡ length old = seen_length upper.new (lines_rows w (placed_lines ps ++ p.line ∷ [])) upper.looks ∙ sym heights in
      let stands = restand w h opening above u _ (above ++ upper.new) _ (length above + length upper.new - 1) reach reach false false refl (omega (arith, size)) refl refl upper.leads.stands in
      let lower = lines_lead w h opening above lines true upper.new u reach pos (λ e. omega (arith, size, k)) (omega (arith, size)) f.drawable stands in
      let new = upper.new ++ lines_rows w lines in
      let new_length : length new ≡ length upper.new + length (lines_rows w lines) = length-append upper.new (lines_rows w lines) in
      let below : StandsAfter w h opening above u (lines_bytes true lines) (above ++ new) (length above + length new - 1) (max reach (length above + length new)) false =
      relead w h opening above u (lines_bytes true lines) _ _ _ _ _ _ _ _ refl (omega (arith, new_length)) (omega (arith, new_length)) refl lower in
      let all : change_bytes w (length rest) ps p more ≡ bytes ++ lines_bytes true lines =
      ap (λ x. bytes ++ x) (ap (λ x. lines_bytes true (placed_lines more) ++ x) (tail_filled more looks sit') ∙ filled_bytes w true (placed_lines more)) in
      rw all (record {
        new = new;
        leads = leads_then w h opening above t bytes (lines_bytes true lines) _ _ _ _ _ _ _ _
            (relead w h opening above t bytes _ (above ++ upper.new) _ (length above + length upper.new - 1) reach reach false false refl (omega (arith, size)) refl refl upper.leads) below;
        looks = looks-append upper.new (lines_rows w lines) ∙ cc (upper.looks, f.looks) ∙ sym (looks-append (lines_rows w (placed_lines ps ++ p.line ∷ [])) (lines_rows w (placed_lines more)))
            ∙ ap looks_of (sym (flat_map-append (λ line. rows_of w (chars line)) (placed_lines ps ++ p.line ∷ []) (placed_lines more)));
        column = ap (λ v. v.screen.column) (after-append t bytes (lines_bytes true lines))
            ∙ more_column lines upper.new u reach pos (omega (arith, size, k)) (omega (arith, size)) f.drawable (f.full refl) upper.column stands;
      }) where
        placed_rows : (qs : List PlacedLine) (looks : List (List Cell)) → AreSitting w looks qs → placed_height qs ≡ length (lines_rows w (placed_lines qs))
        placed_rows [] looks s = refl
        placed_rows (q ∷ qs) looks s =
            let e : placed_height qs ≡ length (lines_rows w (placed_lines qs)) = placed_rows qs (drop q.rows looks) s.1 in
            omega (arith, s.0.rows_are, length-append (rows_of w (chars q.line)) (lines_rows w (placed_lines qs)))
