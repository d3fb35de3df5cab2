-- The counts that an engine keeps go on as the lists do.
use Rattle.std.proofs.Common.{◌≡◌, ℕ, zero, suc, ◌+◌, ◌-◌, ◌<◌, ◌≤◌, min, max, Bool, true, false, ◌&&◌, List, [], ◌∷◌, ◌++◌, length, take, drop, replicate, refl, sym, ◌∙◌, ap, arith, append_assoc, append-nil, length-append, length-take, length-drop, ⊎_elim, if◌then◌else◌}
use Rattle.std.specs.Prelude.{flat_map, nat_lt, ◌==◌, ◌^◌}
use Rattle.std.proofs.lemmas.Bool.Decides.{nat_tests}
use Rattle.std.proofs.lemmas.Bool.{cases_lt, lt-ltb, le-ltb}
use Rattle.std.proofs.lemmas.List.{length-replicate, take-append-drop}
use Rattle.std.proofs.lemmas.List.Concat.{length-flat_map}
use Rattle.std.proofs.lemmas.List.Sums.{sum_by-take-drop}
use Rattle.indicatif_text.specs.Columns.{blank_row, rows_of}
use Rattle.indicatif_term.specs.declared.engine.layout.Plan.{Plan}
use Rattle.indicatif_term.specs.declared.engine.counts.Counts.{Counts}
use Rattle.indicatif_term.specs.Counts.{CountsOf}
use Rattle.indicatif_term.specs.Inside.Counts.{SettledCounts}
use Rattle.indicatif_term.specs.Inside.Plans.{IsPlan, text_height}
use Rattle.indicatif_term.proofs.OwnedLemmas.{passing_none, passing_some, passing_height}
use Rattle.indicatif_term.specs.Lists.{Lists, Live, BarRows, BarLines, settled, rested, passed, cleared, drawn, logged, lists_height, live_height, segments_height, live_rows, all_rows, live_of_frame, shown_rows, blanks_for}

-- settling moves no row
pub settled-rows : (w h : ℕ) (l : Lists) → all_rows w (settled h l) ≡ all_rows w l
settled-rows w h l =
    let gone = (max l.reach (lists_height l) - h) - length l.above in
    ap (λ x. x ++ live_rows w l.live) (append_assoc l.above (take gone l.kept) (drop gone l.kept) ∙ ap (λ x. l.above ++ x) (take-append-drop gone l.kept))

pub settled-height : (h : ℕ) (l : Lists) → lists_height (settled h l) ≡ lists_height l
settled-height h l = simp (length-append, length-take, length-drop) (omega arith)

-- after settling, what may still change is in the window
pub settled-movable : (h : ℕ) (l : Lists) → l.reach ≤ length l.above + length l.kept + h → live_height l.live ≤ h →
    (settled h l).reach ≤ length (settled h l).above + h
settled-movable h l m k = simp (length-append, length-take) (omega arith)

-- the counts after settling
pub settled-kept : (h low : ℕ) (l : Lists) → low ≡ l.reach - length l.above →
    length (settled h l).kept ≡ length l.kept - min (max low (length l.kept + live_height l.live) - h) (length l.kept)
settled-kept h low l e = simp length-drop (omega arith)

pub settled-low : (h low : ℕ) (l : Lists) → low ≡ l.reach - length l.above →
    (max low (length l.kept + live_height l.live) - min (max low (length l.kept + live_height l.live) - h) (length l.kept)) + length (settled h l).above ≡ (settled h l).reach
settled-low h low l e = simp (length-append, length-take) (omega arith)

flat-take-drop : (n : ℕ) (segments : List BarRows) → flat_map (λ s. s.rows) (take n segments) ++ flat_map (λ s. s.rows) (drop n segments) ≡ flat_map (λ s. s.rows) segments
flat-take-drop zero segments = refl
flat-take-drop (suc n) [] = refl
flat-take-drop (suc n) (s ∷ segments) = append_assoc s.rows (flat_map (λ s. s.rows) (take n segments)) (flat_map (λ s. s.rows) (drop n segments)) ∙ ap (λ x. s.rows ++ x) (flat-take-drop n segments)

-- passing moves no row
pub passed-rows : (w n : ℕ) (l : Lists) → all_rows w (passed w n l) ≡ all_rows w l
passed-rows w zero l = refl
passed-rows w (suc n) l =
    let blanks = replicate l.live.blanks (blank_row w) in
    let a = flat_map (λ (s : BarRows). s.rows) (take (suc n) l.live.segments) in
    let b = flat_map (λ (s : BarRows). s.rows) (drop (suc n) l.live.segments) in
    let e : a ++ b ≡ flat_map (λ s. s.rows) l.live.segments = flat-take-drop (suc n) l.live.segments in
    rw (← e) (simp append_assoc)

pub cleared-rows : (w : ℕ) (l : Lists) → all_rows w (cleared l) ≡ l.above
unfolding cleared
cleared-rows w l = append-nil (l.above ++ []) ∙ append-nil l.above

below_clear : (low above reach : ℕ) → low + above ≡ reach → nat_lt 0 low ≡ ((0 + 0 == 0) && nat_lt (above + 0 + (0 + 0)) reach)
below_clear low above reach e = grind (arith, nat_tests)

below_same : (live kept low above reach height : ℕ) → low + above ≡ reach → height ≡ above + kept + live →
    ((live == 0) && nat_lt kept low) ≡ ((live == 0) && nat_lt height reach)
below_same live kept low above reach height e f = grind (arith, nat_tests)

under_same : (h low reach above more height : ℕ) → low ≡ reach - above → height ≡ above + more → nat_lt (max low more) h ≡ nat_lt (max reach height) (above + h)
under_same h low reach above more height e f = ⊎_elim
    (λ less. lt-ltb (max low more) h less ∙ sym (lt-ltb (max reach height) (above + h) (omega arith)))
    (λ most. le-ltb (max low more) h most ∙ sym (le-ltb (max reach height) (above + h) (omega arith)))
    (cases_lt (max low more) h)

-- the counts of lists after settling are those that the code settles
pub settled_counts_of : (h low kept blanks live : ℕ) (l : Lists) (c : Counts) → SettledCounts low h kept blanks live l.under c →
    kept ≡ length l.kept → blanks ≡ l.live.blanks → live ≡ live_height l.live → low ≡ l.reach - length l.above → CountsOf c (rested (settled h l))
settled_counts_of h low kept blanks live l c s a b e f =
    let k : c.kept ≡ length (settled h l).kept = s.kept_is ∙ simp (a, e) (sym (settled-kept h low l f)) in
    let m : c.reached + length (settled h l).above ≡ (settled h l).reach = rw (s.reached_is, a, e) (settled-low h low l f) in
    record {
      kept_is = k;
      blanks_are = s.blanks_are ∙ b;
      live_is = s.live_is ∙ e;
      reached_is = m;
      below_is = s.below_is ∙ rw e (below_same (live_height l.live) c.kept c.reached (length (settled h l).above) (settled h l).reach (lists_height (settled h l)) m (rw k refl));
      under_is = s.under_is ∙ ap (λ b. l.under && b) (rw (a, e) (under_same h low l.reach (length l.above) (length l.kept + live_height l.live) (lists_height l) f (omega arith)));
    }

pub cleared_counts_of : (l : Lists) (c c' : Counts) → CountsOf c l → c'.kept ≡ 0 → c'.blanks ≡ 0 → c'.live ≡ 0 → c'.reached ≡ c.reached → c'.below ≡ nat_lt 0 c.reached →
    c'.under ≡ c.under →
    CountsOf c' (cleared l)
unfolding cleared
cleared_counts_of l c c' o a b d e f u = record {
  kept_is = a;
  blanks_are = b;
  live_is = d;
  reached_is = rw e o.reached_is;
  below_is = f ∙ below_clear c.reached (length l.above) l.reach o.reached_is;
  under_is = u ∙ o.under_is;
}

pub length-flat : (segments : List BarRows) → length (flat_map (λ (s : BarRows). s.rows) segments) ≡ segments_height segments
length-flat segments = length-flat_map (λ (s : BarRows). s.rows) segments

pub length-live : (w : ℕ) (live : Live) → length (live_rows w live) ≡ live_height live
length-live w live = simp (length-append, length-replicate, length-flat)

-- the counts of live
pub live_of : (c : Counts) (l : Lists) → CountsOf c l → c.live ≡ live_height l.live
live_of c l o = o.live_is

-- a draw's counts
module _ (w h pass : ℕ) (bottom : Bool) (frame : List BarLines) (l : Lists) (c c' : Counts) (p : Plan) (o : CountsOf c l) (q : IsPlan w h pass frame p)
    (s1 : 0 < p.passing → SettledCounts c.reached h (c.kept + (blanks_for bottom c.live 0 p.rows + p.passing_rows)) 0 (p.rows - p.passing_rows) c.under c')
    (s2 : p.passing ≡ 0 → SettledCounts c.reached h c.kept (blanks_for bottom c.live 0 p.rows) (blanks_for bottom c.live 0 p.rows + p.rows) c.under c') where
  abbrev next_live : Live
  next_live = live_of_frame w h bottom (live_height l.live) 0 frame

  same_blanks : blanks_for bottom c.live 0 p.rows ≡ next_live.blanks
  same_blanks = rw (live_of c l o, q.rows_are) refl

  go : (n : ℕ) → length (shown_rows w h (take pass frame)) ≡ n → CountsOf c' (rested (settled h (passed w n (record l { live = next_live }))))
  go zero e = settled_counts_of h c.reached c.kept (blanks_for bottom c.live 0 p.rows) (blanks_for bottom c.live 0 p.rows + p.rows) (record l { live = next_live }) c'
      (rw o.under_is at (s2 (passing_none w h pass frame p q e)))
      o.kept_is same_blanks (rw (same_blanks, q.rows_are) refl) (let m : c.reached + length l.above ≡ l.reach = o.reached_is in omega arith)
  go (suc n) e =
      let first = take (suc n) next_live.segments in
      let sum : segments_height first + segments_height (drop (suc n) next_live.segments) ≡ segments_height next_live.segments =
      sum_by-take-drop (λ (s : BarRows). length s.rows) next_live.segments (suc n) in
      let pr : segments_height first ≡ p.passing_rows = ap (λ k. segments_height (take k next_live.segments)) (sym e) ∙ passing_height w h pass frame p q in
      let rs : p.rows ≡ segments_height next_live.segments = q.rows_are in
      settled_counts_of h c.reached (c.kept + (blanks_for bottom c.live 0 p.rows + p.passing_rows)) 0 (p.rows - p.passing_rows)
      (passed w (suc n) (record l { live = next_live })) c' (rw o.under_is at (s1 (passing_some w h pass frame p q (omega (arith, e)))))
      (rw (o.kept_is, same_blanks, ← pr) (sym (length-append l.kept (live_rows w (record { blanks = next_live.blanks; segments = first }))
      ∙ ap (λ x. length l.kept + x) (length-live w (record { blanks = next_live.blanks; segments = first })))))
      refl
      (omega (arith, sum, pr, rs))
      (let m : c.reached + length l.above ≡ l.reach = o.reached_is in omega arith)

  pub drawn_counts_of : CountsOf c' (drawn w h bottom pass frame l)
  unfolding drawn
  drawn_counts_of = go (length (shown_rows w h (take pass frame))) refl

capped : (test : Bool) (a text t r : ℕ) → a ≤ 65535 → text ≡ min t (2 ^ 64 - 1) → (if test then (a - (text + r)) else 0) ≡ (if test then (a - (t + r)) else 0)
capped true a text t r h e = omega arith
capped false a text t r h e = refl

module _ (w h text : ℕ) (bottom : Bool) (lines : List (List ℕ)) (frame : List BarLines) (l : Lists) (c : Counts) (p : Plan) (o : CountsOf c l) (q : IsPlan w h 0 frame p)
    (e : text ≡ min (text_height w lines) (2 ^ 64 - 1)) where
  pub rows_written : length (flat_map (rows_of w) lines) ≡ text_height w lines
  rows_written = length-flat_map (rows_of w) lines

  pub same_blanks_log : blanks_for bottom (c.kept + c.live) text p.rows ≡ blanks_for bottom (length l.kept + live_height l.live) (length (flat_map (rows_of w) lines))
      (segments_height (shown_rows w h frame))
  same_blanks_log =
      let small : c.kept + c.live ≤ 65535 = let f : c.kept + c.live ≤ c.reached = c.fits in let k : c.reached ≤ 65535 = c.small in omega arith in
      capped (bottom && nat_lt 0 p.rows) (c.kept + c.live) text (length (flat_map (rows_of w) lines)) p.rows small (e ∙ rw rows_written refl)
      ∙ rw (o.kept_is, live_of c l o, q.rows_are) refl

-- a log's counts
module _ (w h text : ℕ) (bottom : Bool) (lines : List (List ℕ)) (frame : List BarLines) (l : Lists) (c c' : Counts) (p : Plan) (o : CountsOf c l) (q : IsPlan w h 0 frame p)
    (e : text ≡ min (text_height w lines) (2 ^ 64 - 1)) (fits : p.rows ≤ 65535)
    (s : SettledCounts (c.reached - text) h 0 (blanks_for bottom (c.kept + c.live) text p.rows) (blanks_for bottom (c.kept + c.live) text p.rows + p.rows) c.under c') where
  pub logged_counts_of : CountsOf c' (logged w h bottom lines frame l)
  unfolding logged
  logged_counts_of =
      let same : blanks_for bottom (c.kept + c.live) text p.rows ≡ blanks_for bottom (length l.kept + live_height l.live) (length (flat_map (rows_of w) lines))
      (segments_height (shown_rows w h frame)) =
      same_blanks_log w h text bottom lines frame l c p o q e in
      settled_counts_of h (c.reached - text) 0 (blanks_for bottom (c.kept + c.live) text p.rows) (blanks_for bottom (c.kept + c.live) text p.rows + p.rows)
      (record l { above = l.above ++ flat_map (rows_of w) lines; kept = []; live = live_of_frame w h bottom (length l.kept + live_height l.live) (length (flat_map (rows_of w) lines)) frame }) c'
      (rw o.under_is at s)
      refl same (rw (same, q.rows_are) refl)
      (let m : c.reached + length l.above ≡ l.reach = o.reached_is in let k : c.reached ≤ 65535 = c.small in
      let r : length (flat_map (rows_of w) lines) ≡ text_height w lines = rows_written w h text bottom lines frame l c p o q e in simp length-append (rw r (omega arith)))
