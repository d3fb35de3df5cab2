-- Calls of a terminal of unknown width in a row, and that none of them begins above the first row.
use Rattle.std.proofs.Common.{◌≡◌, ℕ, ◌+◌, ◌<◌, ◌≤◌, ◌^◌, List, [], ◌++◌, chars, Result, Ok, Err, refl, sym, subst, arith}
use Rattle.std.specs.Prelude.{IsErrAnd, IsTrue}
use Rattle.std.specs.Str.{IsUtf8}
use Rattle.std.specs.declared.io.Error.{Error}
use Rattle.indicatif_text.specs.Columns.{is_plain}
use Rattle.indicatif_term.specs.Screen.{Screen}
use Rattle.indicatif_term.specs.Terminal.{after}
use Rattle.indicatif_term.specs.Calls.{TermView, line_bytes, clear_bytes, move_bytes, UP}
use Rattle.indicatif_term.specs.Shows.{resting}
use Rattle.indicatif_term.specs.EndedRows.{HasCursor, BeginBelow, OwnDraws}
use Rattle.indicatif_term.specs.declared.target.own_rows.OwnRows.{OwnRows}
use Rattle.uses.specs.AnyWidth.{two_lines, in_place}

-- calls that failed, and those that were to follow
module _ {T : Type 0} (view : T → TermView)
    (broken : (calls more : List (List ℕ)) (old new : OwnRows T) (e : Error) → OwnDraws view calls old new (Err e) → OwnDraws view (calls ++ more) old new (Err e)) where
  pub breaks : (calls more : List (List ℕ)) (old new : OwnRows T) (e : Error) (r : Result Unit Error) → IsErrAnd r (λ x. x ≡ e) → OwnDraws view calls old new (Err e) →
      OwnDraws view (calls ++ more) old new r
  breaks calls more old new e (Ok x) h p = absurd h
  breaks calls more old new e (Err x) h p = subst (λ y. OwnDraws view (calls ++ more) old new (Err y)) (sym h) (broken calls more old new e p)

-- where the cursor is after a call, beside a row that it was on
pub record IsAt (n : ℕ) (s : Screen) : Type 0 where
  pub cursor : HasCursor s
  pub low : n ≤ s.row

none_after : (s : Screen) → (after (resting s) []).screen ≡ s
unfolding after
none_after s = refl

module _
    (line : (s : Screen) (text : List ℕ) → HasCursor s → IsUtf8 text → IsTrue (is_plain (chars text)) →
    let next = (after (resting s) (line_bytes text)).screen in HasCursor next × (s.row + 1 ≤ next.row))
    (cleared : (s : Screen) → HasCursor s → let next = (after (resting s) clear_bytes).screen in HasCursor next × (next.row ≡ s.row))
    (up : (s : Screen) (n : ℕ) → n < 2 ^ 64 → HasCursor s → let next = (after (resting s) (move_bytes UP n)).screen in HasCursor next × (s.row ≤ next.row + n)) where
  at_line : (n : ℕ) (s : Screen) (text : List ℕ) → IsAt n s → IsUtf8 text → IsTrue (is_plain (chars text)) → IsAt (n + 1) (after (resting s) (line_bytes text)).screen
  at_line n s text x utf8 plain = let h = line s text x.cursor utf8 plain in record { cursor = h.0; low = omega (arith, h.1, x.low) }

  at_cleared : (n : ℕ) (s : Screen) → IsAt n s → IsAt n (after (resting s) clear_bytes).screen
  at_cleared n s x = let h = cleared s x.cursor in record { cursor = h.0; low = omega (arith, h.1, x.low) }

  at_none : (n : ℕ) (s : Screen) → IsAt n s → IsAt n (after (resting s) []).screen
  at_none n s x = subst (IsAt n) (sym (none_after s)) x

  at_up : (n : ℕ) (s : Screen) → IsAt (n + 2) s → IsAt n (after (resting s) (move_bytes UP 2)).screen
  at_up n s x = let h = up s 2 (omega arith) x.cursor in record { cursor = h.0; low = omega (arith, h.1, x.low) }

  in_place_below : (n : ℕ) (s : Screen) (text : List ℕ) → IsAt (n + 2) s → IsUtf8 text → IsTrue (is_plain (chars text)) → BeginBelow n s (in_place text)
  in_place_below n s text x utf8 plain =
      let a = at_up n s x in
      let s' = (after (resting s) (move_bytes UP 2)).screen in
      let b = at_cleared n s' a in
      let t = (after (resting s') clear_bytes).screen in
      let d = at_line n t text b utf8 plain in
      let t' = (after (resting t) (line_bytes text)).screen in
      let e = at_cleared (n + 1) t' d in
      let u = (after (resting t') clear_bytes).screen in
      let f = at_line (n + 1) u text e utf8 plain in
      (omega (arith, x.low), (a.low, (b.low, (omega (arith, d.low), (omega (arith, e.low), (omega (arith, f.low), tt))))))

  pub all_below : (s : Screen) (first second : List ℕ) → HasCursor s → IsUtf8 first → IsTrue (is_plain (chars first)) → IsUtf8 second → IsTrue (is_plain (chars second)) →
      BeginBelow s.row s (two_lines first ++ in_place second)
  all_below s first second h utf8 plain utf8' plain' =
      let n = s.row in
      let a = at_line n s first (record { cursor = h; low = omega arith }) utf8 plain in
      let s' = (after (resting s) (line_bytes first)).screen in
      let b = at_line (n + 1) s' first a utf8 plain in
      let t = (after (resting s') (line_bytes first)).screen in
      let d = at_none (n + 2) t (record { cursor = b.cursor; low = omega (arith, b.low) }) in
      (omega arith, (omega (arith, a.low), (omega (arith, b.low), in_place_below n (after (resting t) []).screen second d utf8' plain')))
