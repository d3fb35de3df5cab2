-- A draw whose lines are written over those that stand there, by what an engine remembers.
use Rattle.std.proofs.Common.{◌≡◌, ℕ, zero, suc, ◌+◌, ◌-◌, ◌<◌, ◌≤◌, Bool, true, false, List, [], ◌∷◌, ◌++◌, length, take, replicate, map, chars, refl, sym, ◌∙◌, ap, subst, arith}
use Rattle.std.specs.Prelude.{IsTrue, IsFalse, string_bytes}
use Rattle.std.proofs.lemmas.List.{length-map, nil_from_length}
use Rattle.indicatif_text.specs.Columns.{Cell, rows_of}
use Rattle.indicatif_term.specs.Terminal.{GREATEST}
use Rattle.indicatif_term.specs.Calls.{move_bytes}
use Rattle.indicatif_term.specs.Shows.{look, looks_of, resting_row}
use Rattle.indicatif_term.specs.Lists.{Lists, live_rows, lists_height, drawn, blanks_for}
use Rattle.indicatif_term.specs.Lines.{bar_lines, all_lines, are_plain, some_wide}
use Rattle.indicatif_term.specs.Counts.{CountsOf}
use Rattle.indicatif_term.specs.Inside.Plans.{frame_lines, IsPlan}
use Rattle.indicatif_term.specs.Inside.Changing.{placed_height, run_bytes, moved_bytes, AreEven}
use Rattle.indicatif_term.specs.Standing.{placed, texts, AreLines}
use Rattle.indicatif_term.specs.declared.engine.remembered.StandingLine.{StandingLine}
use Rattle.indicatif_term.specs.declared.engine.remembered.Remembered.{Remembered}
use Rattle.indicatif_term.specs.Remembered.{AreRemembered, AreStanding, live_lines}
use Rattle.indicatif_term.specs.declared.engine.counts.Counts.{Counts}
use Rattle.indicatif_term.specs.declared.engine.layout.Plan.{Plan}
use Rattle.indicatif_term.specs.declared.target.lines.Segment.{Segment}
use Rattle.indicatif_term.proofs.LastLineLemmas.{fill_width}
use Rattle.indicatif_term.proofs.FillLemmas.{spaces}
use Rattle.indicatif_term.proofs.FilledLineLemmas.{filled_line, looks-append}
use Rattle.indicatif_term.proofs.ShownRowLemmas.{lines_rows}
use Rattle.indicatif_term.proofs.CountLemmas.{length-live, live_of}
use Rattle.indicatif_term.proofs.PaintingLemmas.{AreDrawable}
use Rattle.indicatif_term.proofs.DrawingLemmas.{Replaces, drawn_goes}
use Rattle.indicatif_term.proofs.EngineLemmas.{Redraws, frame_drawable, new_lines, new_rows, taken_count, taken_few}
use Rattle.indicatif_term.proofs.RememberedLemmas.{lines_height, live_right}
use Rattle.indicatif_term.proofs.OverLemmas.{AreWide}
use Rattle.indicatif_term.proofs.OverLineLemmas.{solid_line, standing_wide}
use Rattle.indicatif_term.proofs.OverDrawingLemmas.{AreSolid, joined_lines, over_redraws}

-- lines filled up to the ends of their rows
abbrev filled_one : ℕ → StandingLine → List ℕ
filled_one w l = string_bytes l.text ++ spaces (fill_width w (string_bytes l.text))

abbrev filled_all : ℕ → List StandingLine → List (List ℕ)
filled_all w ls = map (filled_one w) ls

all_solid : (w : ℕ) (ls : List StandingLine) → 0 < w → AreDrawable w (texts ls) → AreLines w ls → AreEven w ls → AreSolid w (filled_all w ls)
all_solid w [] pos d all even = tt
all_solid w (l ∷ ls) pos d all even =
    (solid_line w l.rows l.last (string_bytes l.text) pos d.0 all.0.rows_are all.0.last_is even.0.columns_are even.0.alone, all_solid w ls pos d.1 all.1 even.1)

all_bytes : (w : ℕ) (ls : List StandingLine) → AreLines w ls → joined_lines (filled_all w ls) ≡ run_bytes w (placed ls)
all_bytes w [] all = refl
all_bytes w (l ∷ ls) all =
    ap (λ n. (string_bytes l.text ++ replicate (w - n) 0x20) ++ joined_lines (filled_all w ls)) (sym all.0.last_is)
    ∙ ap (λ x. (string_bytes l.text ++ replicate (w - l.last) 0x20) ++ x) (all_bytes w ls all.1)

all_looks : (w : ℕ) (ls : List StandingLine) → 0 < w → AreDrawable w (texts ls) → looks_of (lines_rows w (filled_all w ls)) ≡ looks_of (lines_rows w (texts ls))
all_looks w [] pos d = refl
all_looks w (l ∷ ls) pos d =
    let rs = rows_of w (chars (filled_one w l)) in
    let qs = rows_of w (chars (string_bytes l.text)) in
    looks-append rs (lines_rows w (filled_all w ls)) ∙ ap (λ x. x ++ looks_of (lines_rows w (filled_all w ls))) (filled_line w (string_bytes l.text) pos d.0).looks
    ∙ ap (λ x. looks_of qs ++ x) (all_looks w ls pos d.1) ∙ sym (looks-append qs (lines_rows w (texts ls)))

-- where the cursor rests: below all where no row is taken back, else on the last one that is
abbrev pub RestsThere : Counts → Type 0
RestsThere c = (c.live ≡ 0 → c.below ≡ true) × (0 < c.live → c.below ≡ false)

resting_there : (l : Lists) (c : Counts) → CountsOf c l → RestsThere c → resting_row l ≡ length l.above + length l.kept + (c.live - 1)
resting_there l c o there = by c.live refl where
  by : (n : ℕ) → c.live ≡ n → resting_row l ≡ length l.above + length l.kept + (c.live - 1)
  by zero e = let b : l.below ≡ true = sym o.below_is ∙ there.0 e in rw b (omega (arith, e, live_of c l o))
  by (suc n) e = let b : l.below ≡ false = sym o.below_is ∙ there.1 (omega arith) in rw b (omega (arith, e, live_of c l o))

abbrev move_up : ℕ → List ℕ
move_up n = move_bytes 0x41 (n - 1)

by_lines : (w h : ℕ) (l l' : Lists) (gone : List (List Cell)) (lines plain : List (List ℕ)) → 0 < w → 0 < length lines → AreSolid w lines → AreWide w gone →
    length gone ≤ length (lines_rows w lines) → length gone ≤ GREATEST → looks_of (lines_rows w lines) ≡ looks_of (lines_rows w plain) →
    resting_row l ≡ length l.above + length l.kept + (length gone - 1) → l'.below ≡ false →
    (IsTrue l.under → length (lines_rows w plain) ≤ length gone) → (lists_height l ≤ l.reach → l.reach ≤ length l.above + h → Replaces w h l l' l.kept gone plain) → Redraws w h l l' (move_up
    (length gone) ++ ((0x0D ∷ []) ++ joined_lines lines))
by_lines w h l l' gone [] plain pos some solid wide few small same at on' no_more goes = absurd (omega arith)
by_lines w h l l' gone (line ∷ lines) plain pos some solid wide few small same at on' no_more goes =
    over_redraws w h l l' l.kept gone line lines plain pos solid wide few small same at on' no_more goes

pub draw_moves : (w h : ℕ) (l : Lists) (c next : Counts) (pass blanks : ℕ) (bottom : Bool) (frame : List Segment) (plan : Plan) (ls : List StandingLine) →
    let l' = drawn w h bottom pass (map bar_lines frame) l in
    0 < w → IsTrue (are_plain (all_lines (map bar_lines frame))) → IsFalse (some_wide w (all_lines (map bar_lines frame))) →
    CountsOf c l → IsPlan w h pass (map bar_lines frame) plan → CountsOf next l' → blanks ≡ blanks_for bottom c.live 0 plan.rows →
    RestsThere c → next.below ≡ false → texts ls ≡ replicate blanks [] ++ take plan.lines (frame_lines frame) →
    AreLines w ls → AreEven w ls → c.live ≤ placed_height (placed ls) → 0 < length ls → AreWide w (live_rows w l.live) →
    (IsTrue c.under → placed_height (placed ls) ≤ c.live) → Redraws w h l l' (moved_bytes w c.live (placed ls))
draw_moves w h l c next pass blanks bottom frame plan ls p1 p2 p3 o q o' b there on' t all even less some wide no_more =
    let l' = drawn w h bottom pass (map bar_lines frame) l in
    let gone = live_rows w l.live in
    let lines = new_lines w h pass blanks bottom frame l c plan o q b in
    let rows = new_rows w h pass blanks bottom frame l c plan o q b in
    let count = taken_count w l c o in
    let few = taken_few w l c o in
    let d : AreDrawable w (texts ls) = subst (AreDrawable w) (sym t) (frame_drawable w blanks plan.lines frame p2 p3) in
    let looks = all_looks w ls p1 d in
    let height : length (lines_rows w (filled_all w ls)) ≡ placed_height (placed ls) =
    sym (length-map (lines_rows w (filled_all w ls)) (map look)) ∙ ap length looks ∙ length-map (lines_rows w (texts ls)) (map look) ∙ sym (lines_height w ls all) in
    subst (λ n. Redraws w h l l' (moved_bytes w n (placed ls))) count
    (subst (λ x. Redraws w h l l' (move_up (length gone) ++ ((0x0D ∷ []) ++ x))) (all_bytes w ls all)
    (by_lines w h l l' gone (filled_all w ls) (texts ls) p1 (omega (arith, length-map ls (filled_one w))) (all_solid w ls p1 d all even) wide (omega (arith, count, height)) few looks
    (resting_there l c o there ∙ ap (λ n. length l.above + length l.kept + (n - 1)) (sym count)) (sym o'.below_is ∙ on')
    (λ u. let m = no_more (o.under_is ∙ u) in omega (arith, m, count, lines_height w ls all))
    (λ x y. rw t (drawn_goes w h pass bottom (map bar_lines frame) l lines x y rows))))

-- rows of lines that are remembered have their cells
pub live_wide : (v w : ℕ) (r : Remembered) (l : Lists) (c : Counts) → v ≡ w → 0 < v → AreRemembered r l → CountsOf c l → (0 < c.live → r.width ≡ v) → AreWide w (live_rows w l.live)
live_wide v w r l c same pos a o known = subst (λ n. AreWide n (live_rows n l.live)) same (by c.live refl) where
  by : (n : ℕ) → c.live ≡ n → AreWide v (live_rows v l.live)
  by zero e = let none : live_rows v l.live ≡ [] = nil_from_length (live_rows v l.live) (length-live v l.live ∙ sym (live_of c l o) ∙ e) in subst (AreWide v) (sym none) tt
  by (suc n) e =
      let width : r.width ≡ v = known (omega (arith, e)) in
      let some : 0 < r.width = omega (arith, width, pos) in
      let x = subst (λ n. AreStanding n r l) width (a some) in
      subst (AreWide v) x.live_is (standing_wide v (live_lines r) (subst (λ n. AreLines n (live_lines r)) width (live_right r some)))
