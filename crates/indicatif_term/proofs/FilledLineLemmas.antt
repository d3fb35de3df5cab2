-- The lines of a drawing look the same with the last one filled, and can be drawn as well.
use Rattle.std.proofs.Common.{◌≡◌, ℕ, zero, suc, ◌<◌, Bool, true, false, List, [], ◌∷◌, ◌++◌, length, chars, refl, sym, ◌∙◌, ap, append_assoc, append-nil, not}
use Rattle.std.specs.Prelude.{nat_lt, is_some, ◌&&◌, ◌==◌, map}
use Rattle.std.specs.List.{list_any, list_all}
use Rattle.std.proofs.lemmas.Str.{IsUtf8-append}
use Rattle.std.proofs.lemmas.Bool.{le-ltb}
use Rattle.std.proofs.lemmas.List.{map-append}
use Rattle.std.proofs.lemmas.List.Folds.{list_any-append, list_all-append}
use Rattle.unicode_width.specs.Width.{char_width}
use Rattle.indicatif_text.specs.Columns.{Cell, width_of, visible, last_columns, rows_of, is_plain, has_wide}
use Rattle.indicatif_term.specs.Inside.MoveBytes.{back_bytes, lines_bytes}
use Rattle.indicatif_term.proofs.PaintingLemmas.{paint_bytes, IsDrawable, AreDrawable}
use Rattle.indicatif_term.proofs.LastLineLemmas.{fill_bytes, fill_width}
use Rattle.indicatif_term.specs.Shows.{look, looks_of}
use Rattle.indicatif_term.proofs.FillLemmas.{spaces, spaces_utf8, filled_chars, filled_text, with_fill, IsFull, filled_length, filled_bytes}
use Rattle.indicatif_term.proofs.TerminalStepLemmas.{printable}
use Rattle.indicatif_term.proofs.ShownRowLemmas.{lines_rows}

spaces_plain : (n : ℕ) → list_all (λ c. is_some (char_width false c)) (spaces n) ≡ true
unfolding char_width
spaces_plain zero = refl
spaces_plain (suc n) = spaces_plain n

space_narrow : (w : ℕ) → 0 < w → nat_lt w (width_of 0x20) ≡ false
unfolding char_width
space_narrow w p = le-ltb w 1 p

spaces_narrow : (w n : ℕ) → 0 < w → list_any (λ c. nat_lt w (width_of c)) (spaces n) ≡ false
spaces_narrow w zero p = refl
spaces_narrow w (suc n) p = rw (space_narrow w p) (spaces_narrow w n p)

-- a line and the same filled
pub record Filled (w : ℕ) (line : List ℕ) : Type 0 where
  pub drawable : IsDrawable w (line ++ spaces (fill_width w line))
  pub full : last_columns w (chars (line ++ spaces (fill_width w line))) ≡ w
  pub looks : looks_of (rows_of w (chars (line ++ spaces (fill_width w line)))) ≡ looks_of (rows_of w (chars line))

pub filled_line : (w : ℕ) (line : List ℕ) → 0 < w → IsDrawable w line → Filled w line
unfolding is_plain has_wide
filled_line w line p d =
    let cs = chars line in
    let n = fill_width w line in
    let e : chars (line ++ spaces n) ≡ cs ++ spaces n = filled_chars line n d.utf8 in
    let f = filled_text w cs (printable w (visible cs) d.plain d.narrow) in
    let plain : list_all (λ c. is_some (char_width false c)) (visible (cs ++ spaces n)) ≡ true =
    ap (list_all (λ c. is_some (char_width false c))) f.seen ∙ list_all-append (λ c. is_some (char_width false c)) (visible cs) (spaces n) ∙ rw (spaces_plain n, d.plain) refl in
    let narrow : list_any (λ c. nat_lt w (width_of c)) (visible (cs ++ spaces n)) ≡ false =
    ap (list_any (λ c. nat_lt w (width_of c))) f.seen ∙ list_any-append (λ c. nat_lt w (width_of c)) (visible cs) (spaces n) ∙ rw (spaces_narrow w n p, d.narrow) refl in
    record {
      drawable = record { utf8 = IsUtf8-append line (spaces n) d.utf8 (spaces_utf8 n); plain = rw e plain; narrow = rw e narrow };
      full = rw e f.full;
      looks = rw e f.looks;
    }

-- the lines, filled where the cursor does not go below them
abbrev pub refilled : Bool → ℕ → List (List ℕ) → List (List ℕ)
refilled ends w lines = with_fill (fill_bytes ends w lines) lines

no_fill : (lines : List (List ℕ)) → with_fill [] lines ≡ lines
no_fill [] = refl
no_fill (line ∷ []) = ap (λ x. x ∷ []) (append-nil line)
no_fill (line ∷ next ∷ lines) = ap (λ xs. line ∷ xs) (no_fill (next ∷ lines))

pub looks-append : (a b : List (List Cell)) → looks_of (a ++ b) ≡ looks_of a ++ looks_of b
looks-append a b = map-append (map look) a b

filled_drawable : (w : ℕ) (lines : List (List ℕ)) → 0 < w → AreDrawable w lines → AreDrawable w (refilled false w lines)
filled_drawable w [] p d = tt
filled_drawable w (line ∷ []) p d = ((filled_line w line p d.0).drawable, tt)
filled_drawable w (line ∷ next ∷ lines) p d = (d.0, filled_drawable w (next ∷ lines) p d.1)

filled_looks : (w : ℕ) (lines : List (List ℕ)) → 0 < w → AreDrawable w lines → looks_of (lines_rows w (refilled false w lines)) ≡ looks_of (lines_rows w lines)
filled_looks w [] p d = refl
filled_looks w (line ∷ []) p d = rw (append-nil, append-nil) (filled_line w line p d.0).looks
filled_looks w (line ∷ next ∷ lines) p d =
    looks-append (rows_of w (chars line)) (lines_rows w (refilled false w (next ∷ lines)))
    ∙ ap (λ rs. looks_of (rows_of w (chars line)) ++ rs) (filled_looks w (next ∷ lines) p d.1)
    ∙ sym (looks-append (rows_of w (chars line)) (lines_rows w (next ∷ lines)))

filled_full : (w : ℕ) (lines : List (List ℕ)) → 0 < w → AreDrawable w lines → IsFull w (refilled false w lines)
filled_full w [] p d = tt
filled_full w (line ∷ []) p d = (filled_line w line p d.0).full
filled_full w (line ∷ next ∷ []) p d = filled_full w (next ∷ []) p d.1
filled_full w (line ∷ next ∷ more ∷ lines) p d = filled_full w (next ∷ more ∷ lines) p d.1

-- what is known of the lines that are written in the place of others
pub record Refills (ends : Bool) (w : ℕ) (lines : List (List ℕ)) : Type 0 where
  pub drawable : AreDrawable w (refilled ends w lines)
  pub looks : looks_of (lines_rows w (refilled ends w lines)) ≡ looks_of (lines_rows w lines)
  pub full : ends ≡ false → IsFull w (refilled ends w lines)
  pub count : length (refilled ends w lines) ≡ length lines

pub refills : (ends : Bool) (w : ℕ) (lines : List (List ℕ)) → 0 < w → AreDrawable w lines → Refills ends w lines
refills true w lines p d = record { drawable = rw (no_fill lines) d; looks = ap (λ ls. looks_of (lines_rows w ls)) (no_fill lines); full = λ e. cc; count = filled_length [] lines }
refills false w lines p d = record {
  drawable = filled_drawable w lines p d;
  looks = filled_looks w lines p d;
  full = λ e. filled_full w lines p d;
  count = filled_length
      (fill_bytes false w lines) lines;
}

-- a drawing and what fills its row
pub filled_paint : (w : ℕ) (below ends : Bool) (taken : ℕ) (lines : List (List ℕ)) →
    paint_bytes below taken lines ends ++ fill_bytes ends w lines ≡ paint_bytes below taken (refilled ends w lines) ends
unfolding paint_bytes
filled_paint w below true taken lines = append-nil _ ∙ ap (λ ls. paint_bytes below taken ls true) (sym (no_fill lines))
filled_paint w below false taken lines =
    let at_end = not below && (taken == 0) in
    let back = back_bytes below taken in
    ap (λ x. x ++ fill_bytes false w lines) (append-nil (back ++ lines_bytes at_end lines))
    ∙ append_assoc back (lines_bytes at_end lines) (fill_bytes false w lines)
    ∙ ap (λ x. back ++ x) (filled_bytes w at_end lines)
    ∙ sym (append-nil (back ++ lines_bytes at_end (refilled false w lines)))
