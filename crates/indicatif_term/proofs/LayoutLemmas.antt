-- A frame laid out line by line is the plan of the whole frame.
use Rattle.std.proofs.Common.{◌≡◌, ℕ, zero, suc, ◌+◌, ◌-◌, ◌<◌, ◌≤◌, Bool, true, false, cond, List, [], ◌∷◌, ◌++◌, ◌||◌, length, map, take, drop, min, get_or, refl, sym, ◌∙◌, ap, subst, arith, append_assoc, append-nil, length-append, chars, inl, inr}
use Rattle.std.specs.Prelude.{nat_le, sum_by}
use Rattle.std.proofs.Math.Bool.{or-true}
use Rattle.std.proofs.lemmas.Bool.{cases_lt, le-leb, lt-leb}
use Rattle.std.proofs.lemmas.List.{length-map, map-append, take_more, take-append-drop, take_all, take-map}
use Rattle.std.proofs.Math.ListN.{get_or-map}
use Rattle.std.proofs.lemmas.List.Concat.{length-flat_map}
use Rattle.std.proofs.lemmas.List.Folds.{list_any-append}
use Rattle.std.proofs.lemmas.List.Sums.{sum_by-cons, sum_by_push, sum_by-take-drop}
use Rattle.std.proofs.lemmas.Grind.{flat_map-append}
use Rattle.indicatif_text.specs.Columns.{rows_of, has_wide}
use Rattle.indicatif_term.specs.Lists.{BarRows, BarLines, segments_height, shown_rows, fitting, grouped, lines_of}
use Rattle.indicatif_term.specs.Lines.{bar_lines, all_lines, some_wide, line_text}
use Rattle.indicatif_term.specs.Counts.{RowCount, row_count, line_count, line_counts}
use Rattle.indicatif_term.specs.Inside.Owned.{through, no_plan}
use Rattle.indicatif_term.specs.Inside.Changing.{placed_height}
use Rattle.indicatif_term.specs.Standing.{placed}
use Rattle.indicatif_term.specs.declared.engine.remembered.StandingLine.{StandingLine}
use Rattle.indicatif_term.proofs.OwnedLemmas.{lines_split, rows_by, height_counted, counts_height}
use Rattle.indicatif_term.specs.Inside.Plans.{passing_of, IsLaidOut, IsSummed, IsPlan, IsWithheld}
use Rattle.indicatif_term.specs.declared.engine.layout.Plan.{Plan}
use Rattle.indicatif_term.specs.declared.target.lines.Segment.{Segment}
use Rattle.indicatif_term.specs.declared.target.lines.LineType.{LineType}
use Rattle.indicatif_text.specs.declared.refusal.Refusal.{Refusal}
use Rattle.indicatif_term.proofs.ShownRowLemmas.{line_segments, grouped_rows}
use Rattle.indicatif_term.proofs.MeasureLemmas.{withheld_by}

-- ---- one more line

fits_first : (b : Bool) (t : BarRows) (rest ts : List BarRows) → cond b (t ∷ rest) [] ≡ t ∷ ts → (b ≡ true) × (rest ≡ ts)
fits_first true t rest ts e = let same : rest ≡ ts = cc in (refl, same)
fits_first false t rest ts e = cc

-- what comes after lines that all fit
fitting_after : (h : ℕ) (ss xs : List BarRows) → fitting h ss ≡ ss → fitting h (ss ++ xs) ≡ ss ++ fitting (h - segments_height ss) xs
unfolding fitting
fitting_after h [] xs e = ap (λ n. fitting n xs) (let same : h ≡ h - 0 = omega arith in same)
fitting_after h (t ∷ ts) xs e =
    let parts = fits_first (nat_le (length t.rows) h) t (fitting (h - length t.rows) ts) ts e in
    let room : (h - length t.rows) - segments_height ts ≡ h - segments_height (t ∷ ts) = omega (arith, sum_by-cons (λ (s : BarRows). length s.rows) t ts) in
    rw parts.0 (ap (λ ys. t ∷ ys) (fitting_after (h - length t.rows) ts xs parts.1 ∙ ap (λ n. ts ++ fitting n xs) room))

sum_more : (ss : List BarRows) (s : BarRows) → segments_height (ss ++ s ∷ []) ≡ segments_height ss + length s.rows
sum_more ss s = sum_by_push (λ (s : BarRows). length s.rows) ss s

module _ (h : ℕ) (before : List BarRows) (s : BarRows) (p : Plan) (cs : List RowCount) (o : IsLaidOut h before p cs) where
  -- where it is not shown_rows, nor any after it
  full_after : ((more : List BarRows) → fitting h (before ++ s ∷ more) ≡ fitting h before) → IsLaidOut h (before ++ s ∷ []) (record p { full = true }) cs
  full_after f = record {
    counts_are = rw (f []) o.counts_are;
    rows_are = rw (f []) o.rows_are;
    lines_are = rw (f []) o.lines_are;
    all_fit = λ e. cc;
    none_more = λ e more. ap (fitting h) (append_assoc before (s ∷ []) more) ∙ f more ∙ sym (f []);
  }

  pub still_full : p.full ≡ true → IsLaidOut h (before ++ s ∷ []) (record p { full = true }) cs
  still_full e = full_after (λ more. o.none_more e (s ∷ more))

  height_before : p.full ≡ false → p.rows ≡ segments_height before
  height_before e = o.rows_are ∙ ap segments_height (o.all_fit e)

  pub now_full : p.full ≡ false → h - p.rows < length s.rows → IsLaidOut h (before ++ s ∷ []) (record p { full = true }) cs
  unfolding fitting
  now_full e over =
      let all : fitting h before ≡ before = o.all_fit e in
      full_after (λ more. fitting_after h before (s ∷ more) all
      ∙ ap (λ b. before ++ cond b (s ∷ fitting ((h - segments_height before) - length s.rows) more) []) (lt-leb (length s.rows) (h - segments_height before) (omega (arith, height_before e)))
      ∙ append-nil before ∙ sym all)

  pub one_more : (p' : Plan) (cs' : List RowCount) → p.full ≡ false → length s.rows ≤ h - p.rows → cs' ≡ cs ++ row_count s ∷ [] →
      p'.rows ≡ p.rows + length s.rows → p'.lines ≡ p.lines + 1 → p'.full ≡ p.full → IsLaidOut h (before ++ s ∷ []) p' cs'
  unfolding fitting
  one_more p' cs' e fits a b c d =
      let all : fitting h before ≡ before = o.all_fit e in
      let now : fitting h (before ++ s ∷ []) ≡ before ++ s ∷ [] =
      fitting_after h before (s ∷ []) all
      ∙ ap (λ b. before ++ cond b (s ∷ []) []) (le-leb (length s.rows) (h - segments_height before) (omega (arith, height_before e))) in
      record {
        counts_are = a ∙ ap (λ xs. xs ++ row_count s ∷ []) (o.counts_are ∙ ap (map row_count) all) ∙ sym (map-append row_count before (s ∷ [])) ∙ ap (map row_count) (sym now);
        rows_are = b ∙ omega (arith, height_before e, sum_more before s) ∙ ap segments_height (sym now);
        lines_are = c ∙ omega (arith, o.lines_are, ap length all, length-append before (s ∷ [])) ∙ ap length (sym now);
        all_fit = λ x. now;
        none_more = λ x. let k : true ≡ false = sym x ∙ d ∙ e in cc;
      }

-- ---- the lines of a member

line_step : (w bar j : ℕ) (lines : List (List ℕ)) (line : List ℕ) → j < length lines → get_or lines j line ≡ line →
    line_segments w bar (take (j + 1) lines) ≡ line_segments w bar (take j lines) ++ record { bar = bar; rows = rows_of w line } ∷ []
line_step w bar j lines line h e =
    let f = λ (line : List ℕ). let s : BarRows = record { bar = bar; rows = rows_of w line } in s in
    ap (map f) (take_more lines j line h ∙ ap (λ x. take j lines ++ x ∷ []) e) ∙ map-append f (take j lines) (line ∷ [])

-- a line of a member, from the string in its place
pub string_at : (s : Segment) (items : List (LineType)) (j : ℕ) (x : LineType) → items ≡ s.lines.items → j < length items → get_or items j x ≡ x →
    (j < length (bar_lines s).lines) × (get_or (bar_lines s).lines j (chars (line_text x)) ≡ chars (line_text x))
string_at s items j x e within at = (
  omega (arith, length-map s.lines.items (λ (x : LineType). chars (line_text x)), ap length e),
  get_or-map (λ (x : LineType). chars (line_text x)) s.lines.items j x ∙ ap (λ (x : LineType). chars (line_text x)) (ap (λ xs. get_or xs j x) (sym e) ∙ at),
)

-- the bars' rows with those of one line more of a member
pub line_bars : (w : ℕ) (s : Segment) (j : ℕ) (line : List ℕ) → j < length (bar_lines s).lines → get_or (bar_lines s).lines j line ≡ line → (bars : List BarRows) →
    (bars ++ line_segments w s.bar (take j (bar_lines s).lines)) ++ record { bar = s.bar; rows = rows_of w line } ∷ [] ≡ bars ++ line_segments w s.bar (take (j + 1) (bar_lines s).lines)
line_bars w s j line within at bars =
    append_assoc bars (line_segments w s.bar (take j (bar_lines s).lines)) (record { bar = s.bar; rows = rows_of w line } ∷ [])
    ∙ ap (λ ls. bars ++ ls) (sym (line_step w s.bar j (bar_lines s).lines line within at))

-- and with all of them
pub member_bars : (w j : ℕ) (s : Segment) → length (bar_lines s).lines ≤ j → (bars : List BarRows) →
    bars ++ line_segments w s.bar (take j (bar_lines s).lines) ≡ bars ++ lines_of w (bar_lines s ∷ [])
unfolding lines_of
member_bars w j s all bars = ap (λ ls. bars ++ ls) (ap (line_segments w s.bar) (take_all j (bar_lines s).lines all) ∙ sym (append-nil (line_segments w s.bar (bar_lines s).lines)))

-- ---- the members of a frame

module _ (w : ℕ) (frame : List Segment) (i : ℕ) (s : Segment) (within : i < length frame) (at : get_or frame i s ≡ s) where
  members_step : map bar_lines (take (i + 1) frame) ≡ map bar_lines (take i frame) ++ bar_lines s ∷ []
  members_step = ap (map bar_lines) (take_more frame i s within ∙ ap (λ x. take i frame ++ x ∷ []) at) ∙ map-append bar_lines (take i frame) (s ∷ [])

  pub lines_step : lines_of w (map bar_lines (take i frame)) ++ lines_of w (bar_lines s ∷ []) ≡ lines_of w (map bar_lines (take (i + 1) frame))
  lines_step = sym (ap (lines_of w) members_step ∙ lines_split w (map bar_lines (take i frame)) (bar_lines s ∷ []))

  pub narrow_step : some_wide w (all_lines (map bar_lines (take i frame))) ≡ false → some_wide w (bar_lines s).lines ≡ false → some_wide w (all_lines (map bar_lines (take (i + 1) frame))) ≡ false
  narrow_step a b = ap (λ ms. some_wide w (all_lines ms)) members_step
      ∙ ap (some_wide w) (flat_map-append (λ (s : BarLines). s.lines) (map bar_lines (take i frame)) (bar_lines s ∷ [])
      ∙ ap (λ ls. all_lines (map bar_lines (take i frame)) ++ ls) (append-nil (bar_lines s).lines))
      ∙ list_any-append (has_wide w) (all_lines (map bar_lines (take i frame))) (bar_lines s).lines ∙ rw (a, b) refl

  pub wide_member : some_wide w (bar_lines s).lines ≡ true → some_wide w (all_lines (map bar_lines frame)) ≡ true
  wide_member e =
      let whole : all_lines (map bar_lines frame) ≡ all_lines (map bar_lines (take i frame)) ++ ((bar_lines s).lines ++ all_lines (map bar_lines (drop (i + 1) frame))) =
      ap (λ ms. all_lines (map bar_lines ms)) (sym (take-append-drop (i + 1) frame)) ∙ ap all_lines (map-append bar_lines (take (i + 1) frame) (drop (i + 1) frame))
      ∙ flat_map-append (λ (s : BarLines). s.lines) (map bar_lines (take (i + 1) frame)) (map bar_lines (drop (i + 1) frame))
      ∙ ap (λ ls. ls ++ all_lines (map bar_lines (drop (i + 1) frame))) (ap all_lines members_step ∙ flat_map-append (λ (s : BarLines). s.lines) (map bar_lines (take i frame)) (bar_lines s ∷ [])
      ∙ ap (λ ls. all_lines (map bar_lines (take i frame)) ++ ls) (append-nil (bar_lines s).lines))
      ∙ append_assoc (all_lines (map bar_lines (take i frame))) (bar_lines s).lines (all_lines (map bar_lines (drop (i + 1) frame))) in
      ap (some_wide w) whole ∙ list_any-append (has_wide w) (all_lines (map bar_lines (take i frame))) ((bar_lines s).lines ++ all_lines (map bar_lines (drop (i + 1) frame)))
      ∙ ap (λ b. some_wide w (all_lines (map bar_lines (take i frame))) || b) (list_any-append (has_wide w) (bar_lines s).lines (all_lines (map bar_lines (drop (i + 1) frame))) ∙ rw e refl)
      ∙ or-true (some_wide w (all_lines (map bar_lines (take i frame))))

  pub frame_refused : (e : Refusal) → IsWithheld w (bar_lines s).lines e → IsWithheld w (all_lines (map bar_lines frame)) e
  frame_refused e m = withheld_by w (bar_lines s).lines (all_lines (map bar_lines frame)) e wide_member m

-- a member with a line is in a frame with one
pub some_line : (frame : List Segment) (i : ℕ) (s : Segment) → i < length frame → get_or frame i s ≡ s → 0 < length (bar_lines s).lines → 0 < length (all_lines (map bar_lines frame))
some_line [] i s h e p = absurd (omega arith)
some_line (x ∷ frame) zero s h e p = omega (arith, length-append (bar_lines x).lines (all_lines (map bar_lines frame)), ap (λ (y : Segment). length (bar_lines y).lines) e, p)
some_line (x ∷ frame) (suc i) s h e p = omega (arith, length-append (bar_lines x).lines (all_lines (map bar_lines frame)), some_line frame i s (omega arith) e p)

-- nothing yet
pub nothing_laid : (h : ℕ) (p : Plan) → p ≡ no_plan → IsSummed h p × IsLaidOut h [] p []
unfolding fitting
nothing_laid h p e = subst (λ q. IsSummed h q × IsLaidOut h [] q []) (sym e) (
  record { fit = omega arith; lines_fit = omega arith; passing_in = omega arith },
  record { counts_are = refl; rows_are = refl; lines_are = refl; all_fit = λ x. refl; none_more = λ x. cc },
)

-- the plan of all members
pub planned : (w h pass : ℕ) (frame : List BarLines) (p : Plan) (cs : List RowCount) → IsLaidOut h (lines_of w frame) p cs →
    p.passing ≡ through (length (fitting h (lines_of w (take pass frame)))) (map row_count (fitting h (lines_of w frame))) →
    p.passing_rows ≡ segments_height (take p.passing (fitting h (lines_of w frame))) → IsPlan w h pass frame p
unfolding shown_rows
planned w h pass frame p cs o e f = record {
  rows_are = o.rows_are ∙ sym (length-flat_map (λ (s : BarRows). s.rows) (fitting h (lines_of w frame))) ∙ ap length (sym (grouped_rows (fitting h (lines_of w frame))))
      ∙ length-flat_map (λ (s : BarRows). s.rows) (grouped (fitting h (lines_of w frame)));
  lines_are = o.lines_are;
  passing_is = e;
  passing_rows_are = f;
}

pub no_bars : (w : ℕ) → lines_of w [] ≡ []
unfolding lines_of
no_bars w = refl

-- ---- the members that are passed on, and the others

pub still_summed : (h n : ℕ) (p : Plan) → IsSummed h p → IsSummed h (record p { passing = n })
still_summed h n p s = record { fit = s.fit; lines_fit = s.lines_fit; passing_in = s.passing_in }

pub still_laid : (h n m : ℕ) (lines : List BarRows) (p : Plan) (cs : List RowCount) → IsLaidOut h lines p cs → IsLaidOut h lines (record p { passing = n; passing_rows = m }) cs
still_laid h n m lines p cs o = record { counts_are = o.counts_are; rows_are = o.rows_are; lines_are = o.lines_are; all_fit = o.all_fit; none_more = o.none_more }

pub nothing_passes : (w h pass : ℕ) (frame : List Segment) → 0 ≡ passing_of w h pass 0 frame
unfolding lines_of fitting
nothing_passes w h pass frame = let m : min pass 0 ≡ 0 = omega arith in rw m refl

front_of : {A : Type 0} (n i : ℕ) (xs : List A) → length xs ≤ i → take (min n i) xs ≡ take n xs
front_of n i xs k = elim (cases_lt n i) [
  | inl a ↦ ap (λ m. take m xs) (omega arith)
  | inr b ↦ ap (λ m. take m xs) (omega arith) ∙ take_all i xs k ∙ sym (take_all n xs (omega arith))
]

-- how many lines pass once another member is placed
pub passing_now : (w h pass i n : ℕ) (frame : List Segment) (p : Plan) (cs : List RowCount) → IsLaidOut h (lines_of w (map bar_lines (take (i + 1) frame))) p cs → i < pass → n ≡ p.lines →
    n ≡ passing_of w h pass (i + 1) frame
passing_now w h pass i n frame p cs o k e =
    let m : min pass (i + 1) ≡ i + 1 = omega arith in
    e ∙ o.lines_are ∙ ap (λ n. length (fitting h (lines_of w (map bar_lines (take n frame))))) (sym m)

pub passing_same : (w h pass i n : ℕ) (frame : List Segment) → pass ≤ i → n ≡ passing_of w h pass i frame → n ≡ passing_of w h pass (i + 1) frame
passing_same w h pass i n frame k e = let m : min pass i ≡ min pass (i + 1) = omega arith in e ∙ ap (λ n. length (fitting h (lines_of w (map bar_lines (take n frame))))) m

pub passing_all : (w h pass i n : ℕ) (frame : List Segment) → length frame ≤ i → n ≡ passing_of w h pass i frame → n ≡ length (fitting h (lines_of w (take pass (map bar_lines frame))))
passing_all w h pass i n frame k e =
    let m : take (min pass i) frame ≡ take pass frame = front_of pass i frame k in
    e ∙ ap (λ ms. length (fitting h (lines_of w ms))) (ap (map bar_lines) m ∙ sym (take-map bar_lines pass frame))

-- the rows of the lines that are passed on
pub passing_height : (w h n : ℕ) (frame : List BarLines) (p : Plan) (ls : List StandingLine) → IsLaidOut h (lines_of w frame) p (line_counts ls) →
    (placed_height (placed (take n ls)) ≡ segments_height (take n (fitting h (lines_of w frame)))) × (placed_height (placed (take n ls)) ≤ p.rows)
passing_height w h n frame p ls o =
    let parts = fitting h (lines_of w frame) in
    let front : placed_height (placed (take n ls)) ≡ segments_height (take n parts) =
    height_counted (take n ls) ∙ ap (sum_by rows_by) (sym (take-map line_count n ls) ∙ ap (take n) o.counts_are ∙ take-map row_count n parts) ∙ counts_height (take n parts) in
    (front, omega (arith, front, o.rows_are, sum_by-take-drop (λ (s : BarRows). length s.rows) parts n))
