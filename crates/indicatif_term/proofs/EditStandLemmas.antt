-- Edits of a row that stands among others.
use Rattle.std.proofs.Common.{◌≡◌, ℕ, ◌+◌, ◌-◌, ◌≤◌, Bool, false, List, [], ◌∷◌, ◌++◌, length, take, drop, replicate, refl, sym, ◌∙◌, ap, subst, arith, length-append, append_assoc, take-append-drop}
use Rattle.std.proofs.lemmas.List.{length-take-le, length-drop}
use Rattle.indicatif_text.specs.Columns.{Cell, blank_row}
use Rattle.indicatif_term.specs.Screen.{Screen, Return}
use Rattle.indicatif_term.specs.Inside.Scanners.{performed_all}
use Rattle.indicatif_term.specs.Terminal.{Terminal, GREATEST, after}
use Rattle.indicatif_term.specs.Shows.{resting}
use Rattle.indicatif_term.proofs.CursorRowLemmas.{Stands, IsBelow}
use Rattle.indicatif_term.proofs.ScreenRowLemmas.{made, same_screen}
use Rattle.indicatif_term.proofs.CallLemmas.{Asks, after_asks}
use Rattle.indicatif_term.proofs.MoveLemmas.{asks_append, return_asks}
use Rattle.indicatif_term.proofs.RowsAboveLemmas.{Keeps, keeps, kept_level}
use Rattle.indicatif_term.proofs.TerminalStepLemmas.{StandsAfter, over, screen_of, over_length, leads_from, window}
use Rattle.indicatif_term.specs.Inside.RowEdits.{Edit, edit_columns, edit_bytes, edit_gap, row_bytes, edited_row, Renews}
use Rattle.indicatif_term.proofs.CellEditLemmas.{edit_ops, edits_put}
use Rattle.indicatif_term.proofs.EditByteLemmas.{edits_ask, edits_level, are_narrow}

module _ (w h : ℕ) (opening : Screen) (above more rest : List (List Cell)) (r wanted : List Cell) (k : ℕ) (es : List Edit) (row reach : ℕ) (front : Bool) (t : Terminal)
    (low : w ≤ GREATEST) (here : row ≡ length above + length more) (e : Renews w k es r wanted)
    (s : Stands w h opening (above ++ (more ++ r ∷ rest)) row reach front t) where
  abbrev a : List (List Cell)
  a = over w h opening ++ (above ++ more)

  abbrev b : List (List Cell)
  b = rest ++ replicate s.below (blank_row w)

  abbrev n : ℕ
  n = edit_columns es

  abbrev left : List Cell
  left = take k r

  abbrev cells : List Cell
  cells = take n (drop k r)

  abbrev behind : List Cell
  behind = drop n (drop k r)

  abbrev new : List Cell
  new = edited_row k es r

  abbrev column : ℕ
  column = k + n - edit_gap k es

  a_length : length a ≡ opening.row + row
  a_length = omega (arith, length-append (over w h opening) (above ++ more), length-append above more, over_length w h opening s.opens, here)

  left_length : length left ≡ k
  left_length = length-take-le k r (omega (arith, e.whole, e.room))

  cells_length : length cells ≡ n
  cells_length = length-take-le n (drop k r) (omega (arith, length-drop k r, e.whole, e.room))

  parts : r ≡ left ++ (cells ++ behind)
  parts = sym (take-append-drop k r) ∙ ap (λ x. take k r ++ x) (sym (take-append-drop n (drop k r)))

  asks : Asks (row_bytes k es) (Return ∷ edit_ops k es)
  asks = asks_append (0x0D ∷ []) (edit_bytes k es) (Return ∷ []) (edit_ops k es) return_asks (edits_ask k es e.writable (omega (arith, e.room, low)))

  done : performed_all (edit_ops k es) (made w h (a ++ r ∷ b) (length a) 0) ≡ made w h (a ++ new ∷ b) (length a) column
  done =
      ap (performed_all (edit_ops k es)) (same_screen w h _ (a ++ (left ++ (cells ++ behind)) ∷ b) _ (length a) _ (length left - k)
      (ap (λ x. a ++ x ∷ b) parts) refl (omega (arith, left_length)))
      ∙ edits_put w h es k a left cells behind b (are_narrow es e.writable) e.own cells_length (omega (arith, left_length)) (omega (arith, left_length, cells_length, e.room)) low
      ∙ same_screen _ _ _ _ _ _ _ _ refl refl (omega (arith, left_length, cells_length))

  start : screen_of w h opening (above ++ (more ++ r ∷ rest)) s.below row s.column ≡ made w h (a ++ r ∷ b) (length a) s.column
  start = same_screen _ _ _ _ _ _ _ _ (simp append_assoc refl) (sym a_length) refl

  end : made w h (a ++ new ∷ b) (length a) column ≡ screen_of w h opening (above ++ (more ++ new ∷ rest)) s.below row column
  end = same_screen w h _ (over w h opening ++ (above ++ (more ++ new ∷ rest)) ++ replicate s.below (blank_row w)) _ _ column column (simp append_assoc refl) a_length refl

  led : after (resting (screen_of w h opening (above ++ (more ++ r ∷ rest)) s.below row s.column)) (row_bytes k es)
      ≡ resting (screen_of w h opening (above ++ (more ++ new ∷ rest)) s.below row column)
  led = ap (λ x. after (resting x) (row_bytes k es)) start
      ∙ after_asks (made w h (a ++ r ∷ b) (length a) s.column) (made w h (a ++ new ∷ b) (length a) column) (row_bytes k es) (Return ∷ edit_ops k es) asks done
      ∙ ap (λ x. resting x) end

  stay : Keeps (opening.row + length above) (resting (screen_of w h opening (above ++ (more ++ r ∷ rest)) s.below row s.column)) (row_bytes k es)
  stay =
      let m = opening.row + length above in
      let first = made w h (a ++ r ∷ b) (length a) s.column in
      let below : IsBelow m first = record { below = omega (arith, a_length, here); in_rows = omega (arith, length-append a (r ∷ b)); window = window w h opening s.opens } in
      subst (λ x. Keeps m (resting x) (row_bytes k es)) (sym start)
      (keeps m first (row_bytes k es) (Return ∷ edit_ops k es) (omega (arith, a_length, here)) asks (kept_level m first (Return ∷ edit_ops k es) below (tt, edits_level k es)))

  pub edit_leads : StandsAfter w h opening above t (row_bytes k es) (above ++ (more ++ edited_row k es r ∷ rest)) row reach false
  edit_leads =
      let lengths : length (above ++ (more ++ new ∷ rest)) ≡ length (above ++ (more ++ r ∷ rest)) =
      omega (arith, length-append above (more ++ new ∷ rest), length-append more (new ∷ rest), length-append above (more ++ r ∷ rest), length-append more (r ∷ rest)) in
      leads_from w h opening above (above ++ (more ++ r ∷ rest)) (above ++ (more ++ new ∷ rest)) t (row_bytes k es) row row reach reach s.below column front false s
      stay led (omega (arith, s.in_rows, lengths)) (λ e. cc) (omega (arith, s.scrolled, lengths))

  pub edit_column : (after t (row_bytes k es)).screen.column ≡ k + edit_columns es - edit_gap k es
  edit_column = ap (λ u. (after u (row_bytes k es)).screen.column) s.is ∙ ap (λ u. u.screen.column) led
