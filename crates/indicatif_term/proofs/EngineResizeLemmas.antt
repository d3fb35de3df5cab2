-- What an engine remembers is right for the lists of the new size.
use Rattle.std.proofs.Common.{◌≡◌, ℕ, zero, suc, ◌+◌, ◌-◌, ◌<◌, ◌≤◌, Bool, true, false, ◌&&◌, List, [], ◌∷◌, ◌++◌, map, length, drop, refl, sym, ◌∙◌, ap, subst, arith, append_assoc, append-nil, length-append}
use Rattle.std.specs.Prelude.{◌==◌, Result, Ok, Err, IfOk}
use Rattle.std.proofs.lemmas.Bool.{false≢true}
use Rattle.std.proofs.lemmas.List.{length-map}
use Rattle.std.proofs.lemmas.List.Concat.{flat_map-append}
use Rattle.indicatif_text.specs.Columns.{Cell}
use Rattle.indicatif_term.specs.Counts.{CountsOf, line_counts}
use Rattle.indicatif_term.specs.Lists.{Lists, all_rows, live_rows, live_height, forgotten_lists}
use Rattle.indicatif_term.specs.Remembered.{AreStanding, AreOwned, live_lines, Suits}
use Rattle.std.proofs.Common.{replicate}
use Rattle.indicatif_term.specs.declared.engine.remembered.StandingLine.{StandingLine}
use Rattle.indicatif_term.proofs.CutOwnedLemmas.{cut_owned, none_cut_owned, settled_owned}
use Rattle.indicatif_term.specs.Standing.{texts, standing_rows, AreLines}
use Rattle.indicatif_term.specs.Resizes.{recut, recut_all, recut_lists, settled_whole, resized_lists}
use Rattle.indicatif_term.specs.Inside.Recutting.{row_heights, IsShownCut, HasMore, cut_lines, cut_bars, line_bars, shown_lines}
use Rattle.indicatif_term.specs.Engines.{Fits}
use Rattle.indicatif_term.specs.declared.engine.Engine.{Engine}
use Rattle.indicatif_term.specs.declared.engine.counts.Counts.{Counts}
use Rattle.indicatif_term.specs.declared.engine.remembered.Remembered.{Remembered}
use Rattle.indicatif_term.specs.declared.engine.recutting.CutLines.{CutLines}
use Rattle.indicatif_term.proofs.CountLemmas.{length-live, live_of}
use Rattle.indicatif_term.proofs.CutLineLemmas.{cut_rows, cut_right, cut_heights, one_row_each, lines_of_pieces}
use Rattle.indicatif_term.proofs.RememberedLemmas.{whole_shown, lines_right, remembered_by}
use Rattle.indicatif_term.proofs.ResizeLemmas.{whole-rows, forgotten_stay}

-- ---- what is remembered, cut anew

pub unknown_cut : (w w' : ℕ) (old : Remembered) (cut : CutLines) → cut.heights.items ≡ [] → cut.lines.items ≡ [] → IsShownCut w w' old cut
unknown_cut w w' old cut e z = record {
  rows = [];
  known = λ l a. (all_rows w l, append-nil (all_rows w l));
  heights_are = e;
  lines_are = ap (standing_rows w') z;
  right = subst (AreLines w') (sym z) tt;
  single = subst (λ ls. map (λ (l : StandingLine). l.rows) ls ≡ replicate (length ls) 1) (sym z) refl;
  owned = λ l a o none. (0, subst (λ ls. AreOwned (line_counts ls) (recut_lists w' l).live) (sym z) (none_cut_owned w' l (line_counts (live_lines old)) o (omega (arith, none))));
}

module _ (w w' : ℕ) (old : Remembered) (a d : CutLines) (known : old.width ≡ w) (some : 0 < w) (none : a.lines.items ≡ []) (flat : a.heights.items ≡ [])
    (more : HasMore a d (cut_lines w w' (texts old.lines))) (bars : line_bars d.lines.items ≡ line_bars a.lines.items ++ cut_bars w w' old.lines) where
  lines : shown_lines d.lines.items ≡ lines_of_pieces (cut_lines w w' (texts old.lines))
  lines = more.lines_are ∙ ap (λ xs. shown_lines xs ++ lines_of_pieces (cut_lines w w' (texts old.lines))) none

  pub known_cut : IsShownCut w w' old d
  known_cut = record {
    rows = standing_rows w old.lines;
    known = λ l r. whole_shown w old l (subst (λ n. 0 < n → AreStanding n old l) known r some);
    heights_are = more.heights_are ∙ ap (λ xs. xs ++ map length (cut_lines w w' (texts old.lines))) flat ∙ cut_heights w w' old.lines;
    lines_are = cut_rows w w' old.lines d.lines.items lines;
    right = cut_right w w' old.lines d.lines.items lines;
    single = one_row_each d.lines.items (cut_lines w w' (texts old.lines)) lines;
    owned = λ l r o _. cut_owned w w' old l d.lines.items (bars ∙ ap (λ ls. line_bars ls ++ cut_bars w w' old.lines) none) (one_row_each d.lines.items (cut_lines w w' (texts old.lines)) lines)
        (subst (λ n. AreLines n old.lines) known (lines_right old (omega (arith, known, some)))) (subst (λ n. 0 < n → AreStanding n old l) known r some) o;
  }

-- ---- the last rows

drop_behind : {A : Type 0} (xs ys : List A) (k : ℕ) → drop (length xs + k) (xs ++ ys) ≡ drop k ys
drop_behind [] ys k = ap (λ n. drop n ys) (let e : 0 + k ≡ k = omega arith in e)
drop_behind (x ∷ xs) ys k = ap (λ n. drop n (x ∷ xs ++ ys)) (let e : suc (length xs) + k ≡ suc (length xs + k) = omega arith in e) ∙ drop_behind xs ys k

drop_all_of : {A : Type 0} (xs ys : List A) → drop (length xs) (xs ++ ys) ≡ ys
drop_all_of [] ys = refl
drop_all_of (x ∷ xs) ys = drop_all_of xs ys

-- what stands behind as many first rows
same_behind : {A : Type 0} (a b c d : List A) → a ++ b ≡ c ++ d → length d ≤ length b → drop (length b - length d) b ≡ d
same_behind a b c d e h =
    let n : length a + (length b - length d) ≡ length c = omega (arith, h, length-append a b, length-append c d, ap length e) in
    sym (drop_behind a b (length b - length d)) ∙ ap (λ k. drop k (a ++ b)) n ∙ ap (drop (length c)) e ∙ drop_all_of c d

map_drop : (w n : ℕ) (rows : List (List Cell)) → drop n (row_heights w rows) ≡ row_heights w (drop n rows)
map_drop w zero rows = refl
map_drop w (suc n) [] = refl
map_drop w (suc n) (r ∷ rows) = map_drop w n rows

-- ---- the lists

module _ (w w' h : ℕ) (l : Lists) (counts counts' : Counts) (failed : Bool) (old new : Remembered) (cut : CutLines) (s : Suits counts failed old l) (sound : failed ≡ false) (some : 0 < h)
    (x : IsShownCut w w' old cut) (enough : counts.kept + counts.live ≤ length cut.heights.items) where
  abbrev heights : List ℕ
  heights = cut.heights.items

  abbrev low : List (List Cell)
  low = l.kept ++ live_rows w l.live

  low_height : length low ≡ counts.kept + counts.live
  low_height = omega (arith, length-append l.kept (live_rows w l.live), length-live w l.live, s.counted.kept_is, live_of counts l s.counted)

  pub last_heights : drop (length heights - (counts.kept + counts.live)) heights ≡ row_heights w' low
  last_heights =
      let f = x.known l s.remembered in
      let n : length heights ≡ length x.rows = ap length x.heights_are ∙ length-map x.rows (λ row. length (recut w' row)) in
      let at : length heights - (counts.kept + counts.live) ≡ length x.rows - length low = omega (arith, n, low_height) in
      ap (λ k. drop k heights) at ∙ ap (drop (length x.rows - length low)) x.heights_are ∙ map_drop w' (length x.rows - length low) x.rows
      ∙ ap (row_heights w') (same_behind f.0 x.rows l.above low (f.1 ∙ append_assoc l.above l.kept (live_rows w l.live)) (omega (arith, enough, n, low_height)))

  pub resized_suits : CountsOf counts' (settled_whole w' h (recut_lists w' l)) → new.lines ≡ cut.lines.items → new.width ≡ w' → new.kept ≡ length cut.lines.items - counts'.live →
      Suits counts' false new (settled_whole w' h (recut_lists w' l))
  resized_suits counted lines width kept =
      let f = x.known l s.remembered in
      let size : length heights ≡ length x.rows = ap length x.heights_are ∙ length-map x.rows (λ row. length (recut w' row)) in
      let bound : length l.kept + live_height l.live ≤ length x.rows = omega (arith, enough, size, s.counted.kept_is, live_of counts l s.counted) in
      let c = x.owned l s.remembered s.owned bound in
      let own : AreOwned (line_counts (live_lines new)) (settled_whole w' h (recut_lists w' l)).live =
      subst (λ ls. AreOwned (line_counts ls) (settled_whole w' h (recut_lists w' l)).live) (sym (ap (drop new.kept) lines ∙ ap (λ n. drop n cut.lines.items) kept))
      (settled_owned w' h counts'.live l cut.lines.items x.single c.0 c.1 (live_of counts' (settled_whole w' h (recut_lists w' l)) counted)) in
      record {
        counted = counted;
        failed_is = sym sound ∙ s.failed_is;
        forgets = λ broke. absurd (false≢true (sym sound ∙ s.failed_is ∙ broke));
        remembered = remembered_by w' new (settled_whole w' h (recut_lists w' l)) (recut_all w' f.0) (λ _. width)
            (ap (λ ls. recut_all w' f.0 ++ standing_rows w' ls) lines ∙ ap (λ rows. recut_all w' f.0 ++ rows) x.lines_are ∙ sym (flat_map-append (recut w') f.0 x.rows) ∙ ap (recut_all w') f.1
            ∙ sym (whole-rows w' h l some w))
            own;
        owned = own;
      }

-- ---- what lists become

-- after a failure there are none, and there are none then
pub none_resized : (w h w' h' : ℕ) (counts : Counts) (failed : Bool) (shown : Remembered) (l : Lists) → 0 < h' → failed ≡ true → Suits counts failed shown l → resized_lists w h w' h' l ≡ l
none_resized w h w' h' counts failed shown l some broke s =
    let none : l ≡ forgotten_lists = s.forgets (sym s.failed_is ∙ broke) in
    ap (resized_lists w h w' h') none ∙ forgotten_stay w h w' h' some ∙ sym none

pub others_resized : (w h w' h' : ℕ) (l : Lists) → ((w == w') && (h == h')) ≡ false → resized_lists w h w' h' l ≡ settled_whole w' h' (recut_lists w' l)
unfolding resized_lists
others_resized w h w' h' l e = rw e refl

pub same_resized : (w h w' h' : ℕ) (l : Lists) → ((w == w') && (h == h')) ≡ true → resized_lists w h w' h' l ≡ l
unfolding resized_lists
same_resized w h w' h' l e = rw e refl

pub suits_same : (counts counts' : Counts) (failed failed' : Bool) (shown shown' : Remembered) (l l' : Lists) → counts' ≡ counts → failed' ≡ failed → shown' ≡ shown → l' ≡ l →
    Suits counts failed shown l → Suits counts' failed' shown' l'
suits_same counts counts' failed failed' shown shown' l l' a b c e s =
    subst (λ x. Suits x failed' shown' l') (sym a) (subst (λ x. Suits counts x shown' l') (sym b) (subst (λ x. Suits counts failed x l') (sym c) (subst (Suits counts failed shown) (sym e) s)))

-- ---- an engine

pub fits_suits : {T : Type 0} (e : Engine T) (l : Lists) → Fits e l → Suits e.counts e.failed e.shown l
unfolding Fits
fits_suits e l f = f

pub suits_fits : {T : Type 0} (e : Engine T) (l l' : Lists) (counts : Counts) (failed : Bool) (shown : Remembered) → e.counts ≡ counts → e.failed ≡ failed → e.shown ≡ shown → l' ≡ l →
    Suits counts failed shown l → Fits e l'
unfolding Fits
suits_fits e l l' counts failed shown a b c d s = suits_same counts e.counts failed e.failed shown e.shown l l' a b c d s

-- what an answer says where the call was made
pub where_made : {A E : Type 0} (result : Result A E) (P : A → Type 0) → ((a : A) → P a) → IfOk result P
where_made (Ok a) P p = p a
where_made (Err e) P p = tt
