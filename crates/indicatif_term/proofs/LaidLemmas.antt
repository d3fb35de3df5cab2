-- A frame laid out line by line beside those that stand, and its lines as they are put in the place of these.
use Rattle.std.proofs.Common.{◌≡◌, ◌⊎◌, ℕ, zero, suc, ◌+◌, ◌-◌, ◌<◌, ◌≤◌, true, false, List, [], ◌∷◌, ◌++◌, length, take, drop, map, replicate, get_or, refl, sym, ◌∙◌, ap, subst, arith, append_assoc, append-nil, length-append, inl, inr, chars, Result, Ok, Err, Bool, max}
use Rattle.std.specs.Prelude.{string_bytes, sum_by, IfOk, IfErr}
use Rattle.std.proofs.lemmas.List.Sums.{sum_by-append}
use Rattle.std.proofs.lemmas.List.{take_all, take_more, take-append-le, take-append-drop, map-append, take-map, drop-map, length-map, length-take-le, length-drop, length-replicate, take_at, drop_at, drop-append-le, get_or-drop, get_or-take, get_or-append_right}
use Rattle.std.proofs.Math.ListN.{get_or-append}
use Rattle.std.proofs.Math.Seq.{take-append-add}
use Rattle.indicatif_text.specs.Columns.{Cell, has_wide, rows_of}
use Rattle.indicatif_term.specs.Shows.{looks_of}
use Rattle.indicatif_term.specs.Lists.{Lists, BarLines, BarRows, fitting, lines_of, live_rows, blanks_for}
use Rattle.indicatif_term.specs.Counts.{row_count, line_count, line_counts}
use Rattle.indicatif_term.specs.Standing.{placed_of, placed, texts, standing_rows, IsLine, AreLines}
use Rattle.indicatif_term.specs.Inside.Owned.{run_length, through, blank_count, no_plan, kept_below}
use Rattle.indicatif_term.proofs.GroupLemmas.{through_at}
use Rattle.indicatif_term.proofs.ShownRowLemmas.{line_segments}
use Rattle.indicatif_term.specs.Inside.Parting.{IsReady}
use Rattle.indicatif_term.specs.Inside.Plans.{IsPlan, IsSummed, IsLaidOut, IsWithheld, frame_lines}
use Rattle.indicatif_term.specs.Lines.{bar_lines, all_lines, line_text}
use Rattle.indicatif_text.specs.declared.refusal.Refusal.{Refusal}
use Rattle.indicatif_text.specs.declared.refusal.Refusal.TheVariants.{Memory}
use Rattle.indicatif_term.specs.Inside.Changing.{placed_height, AreSitting}
use Rattle.indicatif_term.specs.Inside.Renewed.{AreFitting, renewed, AreInPlace, AreOver}
use Rattle.indicatif_term.specs.Inside.Layouts.{AreBlank, AreWhole, laid_lines, laid_texts, own_lines, IsBeside, IsLaid, IsLaidOn, IsFrameLaid, FrameLaid, AreBlanksFor, IsPlannedFor, ArePut, CanPut}
use Rattle.std.proofs.lemmas.Bool.{or_parts}
use Rattle.indicatif_term.proofs.MeasureLemmas.{narrow_more}
use Rattle.indicatif_term.specs.declared.target.lines.LineType.{LineType}
use Rattle.indicatif_term.specs.declared.engine.layout.Laid.{Laid}
use Rattle.indicatif_term.specs.declared.engine.layout.Plan.{Plan}
use Rattle.indicatif_term.specs.declared.target.lines.Segment.{Segment}
use Rattle.indicatif_term.specs.declared.engine.comparing.Step.TheVariants.{Whole}
use Rattle.indicatif_term.specs.Remembered.{AreRemembered, AreStanding, live_lines}
use Rattle.indicatif_term.specs.declared.engine.remembered.Remembered.{Remembered}
use Rattle.indicatif_term.specs.declared.engine.remembered.Span.{Span}
use Rattle.indicatif_term.specs.declared.engine.remembered.StandingLine.{StandingLine}
use Rattle.indicatif_term.proofs.OwnedLemmas.{count_more, rows_by, height_counted, counts_height, blank_height, ones_of, passing_within}
use Rattle.indicatif_term.proofs.RememberedLemmas.{lines_taken, live_right}
use Rattle.indicatif_term.proofs.BesideLemmas.{line_texts_step, all_append, replicate_push}
use Rattle.indicatif_term.proofs.LayoutLemmas.{nothing_laid, one_more, still_laid, string_at, line_bars, member_bars}
use Rattle.indicatif_term.proofs.EditWalkLemmas.{sitting_both}
use Rattle.indicatif_term.proofs.TerminalStepLemmas.{rows_some}
use Rattle.indicatif_term.proofs.RenewedLemmas.{none_fit, fits_taken, renewed_taken, place_right, over_ready, place_sits, whole_sits, whole_ready}

abbrev bytes : StandingLine → List ℕ
bytes = λ (l : StandingLine). string_bytes l.text

-- ---- blank lines

-- the first so many lines, of which nothing is to be seen
abbrev pub ShowNothing : ℕ → List StandingLine → Type 0
ShowNothing n on = (texts (take n on) ≡ replicate n []) × (line_counts (take n on) ≡ replicate n blank_count)

pub one_blank : (on : List StandingLine) (n : ℕ) (x : StandingLine) → n < length on → get_or on n x ≡ x → string_bytes x.text ≡ [] → line_count x ≡ blank_count → ShowNothing n on →
    ShowNothing (n + 1) on
one_blank on n x h e t m b =
    let more : take (n + 1) on ≡ take n on ++ x ∷ [] = take_more on n x h ∙ ap (λ y. take n on ++ y ∷ []) e in (
      ap texts more ∙ map-append bytes (take n on) (x ∷ []) ∙ ap (λ ys. ys ++ string_bytes x.text ∷ []) b.0 ∙ ap (λ y. replicate n [] ++ y ∷ []) t ∙ replicate_push n [],
      ap line_counts more ∙ map-append line_count (take n on) (x ∷ []) ∙ ap (λ ys. ys ++ line_count x ∷ []) b.1 ∙ ap (λ y. replicate n blank_count ++ y ∷ []) m ∙ replicate_push n blank_count,
    )

-- ---- line by line

-- nothing yet
pub laid_none : (w h : ℕ) (on : List StandingLine) (l : Laid) → AreBlank l.blanks on → l.at ≡ l.blanks → l.plan ≡ no_plan → l.changed.items ≡ [] → l.more.items ≡ [] → IsLaid w h on [] [] l
laid_none w h on l b a p c m =
    let none = (nothing_laid h l.plan p).1 in
    let zeros : l.plan.lines ≡ 0 = ap (λ (q : Plan). q.lines) p in
    let in_lines : l.blanks ≤ length on = b.in_lines in
    record {
      at_in = omega (arith, a, in_lines);
      blanks_in = omega (arith, a);
      fit = subst (AreFitting w on l.at) (sym c) tt;
      lines_in = omega (arith, zeros);
      all_in = λ _. zeros;
      texts_are = ap (λ ns. take l.at (renewed (texts on) ns) ++ texts l.more.items) c ∙ ap (λ ls. take l.at (texts on) ++ texts ls) m ∙ append-nil (take l.at (texts on))
          ∙ ap (λ n. take n (texts on)) a ∙ take-map bytes l.blanks on ∙ b.empty ∙ sym (append-nil (replicate l.blanks [])) ∙ ap (λ n. replicate l.blanks [] ++ take n []) (sym zeros);
      counts = [];
      counts_are = ap (λ ls. line_counts (take l.at on ++ ls)) m ∙ ap line_counts (append-nil (take l.at on)) ∙ ap (λ n. line_counts (take n on)) a ∙ b.counts
          ∙ sym (append-nil (replicate l.blanks blank_count));
      laid = none;
      measured = subst (AreLines w) (sym m) tt;
      whole = subst AreWhole (sym m) tt;
    }

module _ (w h : ℕ) (on : List StandingLine) (before : List (List ℕ)) (bars : List BarRows) (text : List ℕ) (s : BarRows) (l : Laid) (o : IsLaid w h on before bars l) where
  -- a line that is not shown, nor any after it
  pub laid_full : IsLaidOut h (bars ++ s ∷ []) (record l.plan { full = true }) o.counts → IsLaid w h on (before ++ text ∷ []) (bars ++ s ∷ []) (record l { plan = record l.plan { full = true } })
  laid_full out = record {
    at_in = o.at_in;
    blanks_in = o.blanks_in;
    fit = o.fit;
    lines_in = omega (arith, o.lines_in, length-append before (text ∷ []));
    all_in = λ f. let no : true ≡ false = f in cc;
    texts_are = o.texts_are ∙ ap (λ xs. replicate l.blanks [] ++ xs) (sym (take-append-le l.plan.lines before (text ∷ []) o.lines_in));
    counts = o.counts;
    counts_are = o.counts_are;
    laid = out;
    measured = o.measured;
    whole = o.whole;
  }

  module _ (f : l.plan.full ≡ false) (l' : Laid) (b : l'.blanks ≡ l.blanks) (rows : l'.plan.rows ≡ l.plan.rows + length s.rows) (lines : l'.plan.lines ≡ l.plan.lines + 1)
      (full : l'.plan.full ≡ l.plan.full) (fits : length s.rows ≤ h - l.plan.rows) where
    lines_now : l'.plan.lines ≡ length (before ++ text ∷ [])
    lines_now = omega (arith, lines, o.all_in f, length-append before (text ∷ []))

    old_lines : take l.plan.lines before ≡ before
    old_lines = take_all l.plan.lines before (omega (arith, o.all_in f))

    more_texts : laid_texts on l' ≡ laid_texts on l ++ text ∷ [] → laid_texts on l' ≡ replicate l'.blanks [] ++ take l'.plan.lines (before ++ text ∷ [])
    more_texts t = t ∙ ap (λ xs. xs ++ text ∷ []) (o.texts_are ∙ ap (λ xs. replicate l.blanks [] ++ xs) old_lines) ∙ append_assoc (replicate l.blanks []) before (text ∷ [])
        ∙ ap (λ xs. replicate l.blanks [] ++ xs) (sym (take_all l'.plan.lines (before ++ text ∷ []) (omega (arith, lines_now))))
        ∙ ap (λ n. replicate n [] ++ take l'.plan.lines (before ++ text ∷ [])) (sym b)

    more_counts : line_counts (laid_lines on l') ≡ line_counts (laid_lines on l) ++ row_count s ∷ [] →
        line_counts (laid_lines on l') ≡ replicate l'.blanks blank_count ++ (o.counts ++ row_count s ∷ [])
    more_counts t = t ∙ ap (λ xs. xs ++ row_count s ∷ []) o.counts_are ∙ append_assoc (replicate l.blanks blank_count) o.counts (row_count s ∷ [])
        ∙ ap (λ n. replicate n blank_count ++ (o.counts ++ row_count s ∷ [])) (sym b)

    out : IsLaidOut h (bars ++ s ∷ []) l'.plan (o.counts ++ row_count s ∷ [])
    out = one_more h bars s l.plan o.counts o.laid l'.plan (o.counts ++ row_count s ∷ []) f fits refl rows lines full

    -- a line in the place of one that stands
    pub laid_in_place : (x : StandingLine) → l.more.items ≡ [] → l'.more.items ≡ l.more.items → l'.at ≡ l.at + 1 → l.at < length on → get_or on l.at x ≡ x → x.bar ≡ s.bar → x.rows ≡ length s.rows →
        AreFitting w on (l.at + 1) l'.changed.items → take (l.at + 1) (renewed (texts on) l'.changed.items) ≡ take l.at (renewed (texts on) l.changed.items) ++ text ∷ [] →
        IsLaid w h on (before ++ text ∷ []) (bars ++ s ∷ []) l'
    laid_in_place x m m' at k e c r fit t =
        let none : l'.more.items ≡ [] = m' ∙ m in
        record {
          at_in = omega (arith, at, k);
          blanks_in = omega (arith, at, b, o.blanks_in, ap length m');
          fit = subst (λ n. AreFitting w on n l'.changed.items) (sym at) fit;
          lines_in = omega (arith, lines_now);
          all_in = λ _. lines_now;
          texts_are = more_texts (ap (λ ls. take l'.at (renewed (texts on) l'.changed.items) ++ texts ls) none ∙ append-nil (take l'.at (renewed (texts on) l'.changed.items))
              ∙ ap (λ n. take n (renewed (texts on) l'.changed.items)) at ∙ t
              ∙ ap (λ xs. xs ++ text ∷ []) (sym (ap (λ ls. take l.at (renewed (texts on) l.changed.items) ++ texts ls) m ∙ append-nil (take l.at (renewed (texts on) l.changed.items)))));
          counts = o.counts ++ row_count s ∷ [];
          counts_are = more_counts (ap (λ ls. line_counts (take l'.at on ++ ls)) none ∙ ap line_counts (append-nil (take l'.at on)) ∙ ap (λ n. line_counts (take n on)) at
              ∙ sym (take-map line_count (l.at + 1) on) ∙ count_more on l.at x s k e c r ∙ ap (λ xs. xs ++ row_count s ∷ []) (take-map line_count l.at on
              ∙ sym (ap (λ ls. line_counts (take l.at on ++ ls)) m ∙ ap line_counts (append-nil (take l.at on)))));
          laid = out;
          measured = subst (AreLines w) (sym none) tt;
          whole = subst AreWhole (sym none) tt;
        }

    -- a line below them
    pub laid_below : (x : StandingLine) → l'.more.items ≡ l.more.items ++ x ∷ [] → l'.at ≡ l.at → l'.changed.items ≡ l.changed.items → string_bytes x.text ≡ text →
        line_count x ≡ row_count s → IsLine w x → AreWhole (x ∷ []) → IsLaid w h on (before ++ text ∷ []) (bars ++ s ∷ []) l'
    laid_below x m at changed t c line whole = record {
      at_in = omega (arith, at, o.at_in);
      blanks_in = omega (arith, at, b, o.blanks_in, ap length m, length-append l.more.items (x ∷ []));
      fit = subst (AreFitting w on l'.at) (sym changed) (subst (λ n. AreFitting w on n l.changed.items) (sym at) o.fit);
      lines_in = omega (arith, lines_now);
      all_in = λ _. lines_now;
      texts_are = more_texts (ap (λ ls. take l'.at (renewed (texts on) l'.changed.items) ++ texts ls) m
          ∙ ap (λ xs. take l'.at (renewed (texts on) l'.changed.items) ++ xs) (map-append bytes l.more.items (x ∷ []) ∙ ap (λ y. texts l.more.items ++ y ∷ []) t)
          ∙ ap (λ n. take n (renewed (texts on) l'.changed.items) ++ (texts l.more.items ++ text ∷ [])) at
          ∙ ap (λ ns. take l.at (renewed (texts on) ns) ++ (texts l.more.items ++ text ∷ [])) changed
          ∙ sym (append_assoc (take l.at (renewed (texts on) l.changed.items)) (texts l.more.items) (text ∷ [])));
      counts = o.counts ++ row_count s ∷ [];
      counts_are = more_counts (ap (λ ls. line_counts (take l'.at on ++ ls)) m ∙ ap (λ n. line_counts (take n on ++ (l.more.items ++ x ∷ []))) at
          ∙ ap line_counts (sym (append_assoc (take l.at on) l.more.items (x ∷ []))) ∙ map-append line_count (take l.at on ++ l.more.items) (x ∷ [])
          ∙ ap (λ y. line_counts (laid_lines on l) ++ y ∷ []) c);
      laid = out;
      measured = subst (AreLines w) (sym m) (all_append (IsLine w) l.more.items (x ∷ []) o.measured (line, tt));
      whole = subst AreWhole (sym m) (all_append (λ (l : StandingLine). l.step ≡ Whole) l.more.items (x ∷ []) o.whole whole);
    }

-- the same lines, said otherwise
pub laid_as : (w h : ℕ) (on : List StandingLine) (before before' : List (List ℕ)) (bars bars' : List BarRows) (l : Laid) → before ≡ before' → bars ≡ bars' → IsLaid w h on before bars l →
    IsLaid w h on before' bars' l
laid_as w h on before before' bars bars' l e f o = subst (λ xs. IsLaid w h on xs bars' l) e (subst (λ ys. IsLaid w h on before ys l) f o)

-- the members that are passed on change nothing of that
pub laid_still : (w h n m : ℕ) (on : List StandingLine) (before : List (List ℕ)) (bars : List BarRows) (l : Laid) → IsLaid w h on before bars l →
    IsLaid w h on before bars (record l { plan = record l.plan { passing = n; passing_rows = m } })
laid_still w h n m on before bars l o = record {
  at_in = o.at_in;
  blanks_in = o.blanks_in;
  fit = o.fit;
  lines_in = o.lines_in;
  all_in = o.all_in;
  texts_are = o.texts_are;
  counts = o.counts;
  counts_are = o.counts_are;
  laid = still_laid h n m bars l.plan o.counts o.laid;
  measured = o.measured;
  whole = o.whole;
}

-- ---- the lines behind the blank ones

module _ (w h : ℕ) (on : List StandingLine) (before : List (List ℕ)) (bars : List BarRows) (l : Laid) (o : IsLaid w h on before bars l) where
  pub own_counts : line_counts (own_lines on l) ≡ o.counts
  own_counts = sym (drop-map line_count l.blanks (laid_lines on l)) ∙ ap (drop l.blanks) o.counts_are
      ∙ drop_at (replicate l.blanks blank_count) o.counts l.blanks (length-replicate l.blanks blank_count)

  pub own_laid : IsLaidOut h bars l.plan (line_counts (own_lines on l))
  own_laid = subst (IsLaidOut h bars l.plan) (sym own_counts) o.laid

  pub own_count : l.blanks + l.plan.lines ≡ l.at + length l.more.items
  own_count =
      let all : length (laid_lines on l) ≡ l.at + length l.more.items = length-append (take l.at on) l.more.items ∙ ap (λ n. n + length l.more.items) (length-take-le l.at on o.at_in) in
      let counted : length (laid_lines on l) ≡ l.blanks + length o.counts = sym (length-map (laid_lines on l) line_count) ∙ ap length o.counts_are
      ∙ length-append (replicate l.blanks blank_count) o.counts ∙ ap (λ n. n + length o.counts) (length-replicate l.blanks blank_count) in
      let size : length o.counts ≡ l.plan.lines = ap length o.laid.counts_are ∙ length-map (fitting h bars) row_count ∙ sym o.laid.lines_are in
      omega (arith, all, counted, size)

-- ---- beside other lines, or none

-- a frame of which no line keeps its rows
pub laid_on_any : (w h : ℕ) (on on' : List StandingLine) (before : List (List ℕ)) (bars : List BarRows) (l : Laid) → l.at ≡ 0 → IsLaid w h on before bars l → IsLaid w h on' before bars l
laid_on_any w h on on' before bars l e o =
    let none : l.changed.items ≡ [] = none_fit w on 0 l.changed.items (subst (λ n. AreFitting w on n l.changed.items) e o.fit) in
    let nothing : (ts : List (List ℕ)) → take l.at ts ≡ [] = λ ts. ap (λ n. take n ts) e in
    let no_line : (ls : List StandingLine) → take l.at ls ≡ [] = λ ls. ap (λ n. take n ls) e in
    record {
      at_in = omega (arith, e);
      blanks_in = o.blanks_in;
      fit = subst (AreFitting w on' l.at) (sym none) tt;
      lines_in = o.lines_in;
      all_in = o.all_in;
      texts_are = ap (λ xs. xs ++ texts l.more.items) (nothing (renewed (texts on') l.changed.items) ∙ sym (nothing (renewed (texts on) l.changed.items))) ∙ o.texts_are;
      counts = o.counts;
      counts_are = ap (λ xs. line_counts (xs ++ l.more.items)) (no_line on' ∙ sym (no_line on)) ∙ o.counts_are;
      laid = o.laid;
      measured = o.measured;
      whole = o.whole;
    }

pub frame_on_any : (w h pass : ℕ) (on on' : List StandingLine) (frame : List Segment) (l : Laid) → l.at ≡ 0 → IsFrameLaid w h pass on frame l → IsFrameLaid w h pass on' frame l
frame_on_any w h pass on on' frame l e f =
    record { narrow = f.narrow; plan_is = f.plan_is; is_summed = f.is_summed; is_laid = laid_on_any w h on on' (frame_lines frame) (lines_of w (map bar_lines frame)) l e f.is_laid }

-- beside nothing none keeps them
pub none_stays : (w h pass : ℕ) (frame : List Segment) (l : Laid) → IsFrameLaid w h pass [] frame l → l.at ≡ 0
none_stays w h pass frame l f = omega (arith, f.is_laid.at_in)

-- beside the live lines, if these are known
pub frame_live : (w h pass : ℕ) (on : List StandingLine) (r : Remembered) (frame : List Segment) (l : Laid) → (on ≡ []) ⊎ ((r.width ≡ w) × (on ≡ live_lines r)) → IsFrameLaid w h pass on frame l →
    IsFrameLaid w h pass (live_lines r) frame l × (0 < l.at → r.width ≡ w)
frame_live w h pass on r frame l live f = elim live [
  | inl none ↦ let f' = subst (λ xs. IsFrameLaid w h pass xs frame l) none f in
      let z = none_stays w h pass frame l f' in
      (frame_on_any w h pass [] (live_lines r) frame l z f', λ p. absurd (omega (arith, z, p)))
  | inr same ↦ (subst (λ xs. IsFrameLaid w h pass xs frame l) same.1 f, λ _. same.0)
]

-- on a terminal of the same size
pub planned_on : (w v h k pass free : ℕ) (bottom : Bool) (frame : List Segment) (r : Remembered) (l : Laid) → w ≡ v → h ≡ k → IsPlannedFor w h pass bottom frame free r l →
    IsPlannedFor v k pass bottom frame free r l
planned_on w v h k pass free bottom frame r l e d p =
    subst (λ n. IsPlannedFor n k pass bottom frame free r l) e (subst (λ n. IsPlannedFor w n pass bottom frame free r l) d p)

-- below blank lines
pub laid_blanks : (w h pass : ℕ) (on : List StandingLine) (frame : List Segment) (l l' : Laid) → l.blanks ≡ 0 → IsFrameLaid w h pass [] frame l → l'.plan ≡ l.plan → l'.at ≡ l.at →
    l'.changed.items ≡ l.changed.items → texts l'.more.items ≡ replicate l'.blanks [] ++ texts l.more.items → line_counts l'.more.items ≡ replicate l'.blanks blank_count ++ line_counts l.more.items →
    ((v : ℕ) → AreLines v l.more.items → AreLines v l'.more.items) → (AreWhole l.more.items → AreWhole l'.more.items) → IsFrameLaid w h pass on frame l'
laid_blanks w h pass on frame l l' none f p at changed t c right whole =
    let o = f.is_laid in
    let zeros : l'.at ≡ 0 = at ∙ none_stays w h pass frame l f in
    let counts : line_counts l.more.items ≡ o.counts = sym (ap (λ xs. line_counts (xs ++ l.more.items)) (ap (λ n. take n []) (none_stays w h pass frame l f))) ∙ o.counts_are
    ∙ ap (λ n. replicate n blank_count ++ o.counts) none in
    let shown : texts l.more.items ≡ take l.plan.lines (frame_lines frame) = sym (ap (λ n. take n (renewed [] l.changed.items) ++ texts l.more.items) (none_stays w h pass frame l f)) ∙ o.texts_are
    ∙ ap (λ n. replicate n [] ++ take l.plan.lines (frame_lines frame)) none in
    frame_on_any w h pass [] on frame l' zeros (record {
      narrow = f.narrow;
      plan_is = subst (λ q. IsPlan w h pass (map bar_lines frame) q) (sym p) f.plan_is;
      is_summed = subst (IsSummed h) (sym p) f.is_summed;
      is_laid = record {
        at_in = omega (arith, zeros);
        blanks_in = omega (arith, length-map l'.more.items line_count, ap length c, length-append (replicate l'.blanks blank_count) (line_counts l.more.items), length-replicate l'.blanks blank_count);
        fit = subst (AreFitting w [] l'.at) (sym changed) (subst (λ n. AreFitting w [] n l.changed.items) (sym at) o.fit);
        lines_in = omega (arith, ap (λ (q : Plan). q.lines) p, o.lines_in);
        all_in = λ e. ap (λ (q : Plan). q.lines) p ∙ o.all_in (sym (ap (λ (q : Plan). q.full) p) ∙ e);
        texts_are = ap (λ n. take n (renewed [] l'.changed.items) ++ texts l'.more.items) zeros ∙ t
            ∙ ap (λ xs. replicate l'.blanks [] ++ xs) (shown ∙ ap (λ n. take n (frame_lines frame)) (sym (ap (λ (q : Plan). q.lines) p)));
        counts = o.counts;
        counts_are = ap (λ xs. line_counts (xs ++ l'.more.items)) (ap (λ n. take n []) zeros) ∙ c ∙ ap (λ xs. replicate l'.blanks blank_count ++ xs) counts;
        laid = subst (λ q. IsLaidOut h (lines_of w (map bar_lines frame)) q o.counts) (sym p) o.laid;
        measured = right w o.measured;
        whole = whole o.whole;
      };
    })

-- or it is refused
pub blanks_or_refused : (w h pass k : ℕ) (on : List StandingLine) (frame : List Segment) (l : Laid) (r : Result Unit Refusal) → IfErr r (λ e. (e ≡ Memory) × (0 < k)) →
    IfOk r (λ _. IsFrameLaid w h pass on frame l) → FrameLaid w h pass on frame l r
blanks_or_refused w h pass k on frame l (Ok u) e f = f
blanks_or_refused w h pass k on frame l (Err x) e f = subst (IsWithheld w (all_lines (map bar_lines frame))) (sym e.0) (refl, tt)

-- the blank lines in the place of so many rows, however the frame was laid out
pub low_below : (w h pass free b : ℕ) (bottom : Bool) (on on' : List StandingLine) (frame : List Segment) (l l' : Laid) (r : Result Unit Refusal) → IsFrameLaid w h pass on frame l →
    IfOk r (λ _. l'.blanks ≡ b) → IfOk r (λ _. IsFrameLaid w h pass on' frame l') → ((taken text : ℕ) → free ≡ taken - text → b ≡ blanks_for bottom taken text l.plan.rows) →
    b + l.plan.rows ≤ max free l.plan.rows → IfOk r (λ _. AreBlanksFor bottom free l')
low_below w h pass free b bottom on on' frame l l' (Ok u) f e g are room =
    let same : l'.plan.rows ≡ l.plan.rows = g.plan_is.rows_are ∙ sym f.plan_is.rows_are in
    record { are = λ taken text d. e ∙ are taken text d ∙ ap (blanks_for bottom taken text) (sym same); room = omega (arith, e, same, room) }
low_below w h pass free b bottom on on' frame l l' (Err x) f e g are room = tt

-- ---- as they are put

parts : {A : Type 0} (n m : ℕ) (xs : List A) → n ≤ length xs → take (n + m) xs ≡ take n xs ++ take m (drop n xs)
parts n m xs h =
    let size : length (take n xs) ≡ n = length-take-le n xs h in
    ap (take (n + m)) (sym (take-append-drop n xs)) ∙ ap (λ k. take (k + m) (take n xs ++ drop n xs)) (sym size) ∙ take-append-add (take n xs) (drop n xs) m

-- some lines of which the first ones stay above, and others in their places
pub stay_above : (from to at : ℕ) (xs : List StandingLine) → from ≤ to → to + at ≤ length xs → take (to - from) (drop from (take (to + at) xs)) ≡ drop from (take to xs)
stay_above from to at xs h k =
    let split : take (to + at) xs ≡ take to xs ++ take at (drop to xs) = parts to at xs (omega arith) in
    let size : length (take to xs) ≡ to = length-take-le to xs (omega arith) in
    ap (λ ys. take (to - from) (drop from ys)) split ∙ ap (take (to - from)) (drop-append-le from (take to xs) (take at (drop to xs)) (omega (arith, size)))
    ∙ take_at (drop from (take to xs)) (take at (drop to xs)) (to - from) (length-drop from (take to xs) ∙ omega (arith, size))

pub stay_below : (from to at : ℕ) (xs : List StandingLine) → from ≤ to → to + at ≤ length xs → drop (to - from) (drop from (take (to + at) xs)) ≡ take at (drop to xs)
stay_below from to at xs h k =
    let split : take (to + at) xs ≡ take to xs ++ take at (drop to xs) = parts to at xs (omega arith) in
    let size : length (take to xs) ≡ to = length-take-le to xs (omega arith) in
    ap (λ ys. drop (to - from) (drop from ys)) split ∙ ap (drop (to - from)) (drop-append-le from (take to xs) (take at (drop to xs)) (omega (arith, size)))
    ∙ drop_at (drop from (take to xs)) (take at (drop to xs)) (to - from) (length-drop from (take to xs) ∙ omega (arith, size))

first_sits : (n : ℕ) (w : ℕ) (on front : List StandingLine) (looks : List (List Cell)) → AreLines w (take n on) → AreInPlace w (take n on) front → AreOver w (take n on) front →
    (0 < n → looks ≡ looks_of (standing_rows w on)) → AreSitting w looks (placed front)
first_sits zero w on [] looks a p q e = tt
first_sits zero w on (x ∷ front) looks a p q e = absurd p
first_sits (suc n) w on front looks a p q e =
    subst (λ xs. AreSitting w xs (placed front)) (ap (λ xs. looks_of (standing_rows w xs)) (take-append-drop (suc n) on) ∙ sym (e (omega arith)))
    (place_sits w (take (suc n) on) (drop (suc n) on) front a p q)

-- the first lines renewed, and the others below them
pub are_put : (w : ℕ) (on : List StandingLine) (l : Laid) (front : List StandingLine) → AreFitting w on l.at l.changed.items → AreLines w (take l.at on) →
    texts front ≡ renewed (texts (take l.at on)) l.changed.items → line_counts front ≡ line_counts (take l.at on) → AreInPlace w (take l.at on) front → AreOver w (take l.at on) front →
    AreLines w l.more.items → AreWhole l.more.items → ArePut w on l (front ++ l.more.items)
are_put w on l front fit all t c p q right whole = record {
  texts_are = map-append bytes front l.more.items ∙ ap (λ xs. xs ++ texts l.more.items) (t ∙ renewed_taken w on l.at l.changed.items fit);
  counts_are = map-append line_count front l.more.items ∙ ap (λ xs. xs ++ line_counts l.more.items) c ∙ sym (map-append line_count (take l.at on) l.more.items);
  right = all_append (IsLine w) front l.more.items (place_right w (take l.at on) front p) right;
  ready = all_append (λ (x : StandingLine). IsReady x.step (string_bytes x.before) (string_bytes x.text)) front l.more.items (over_ready w (take l.at on) front q) (whole_ready l.more.items whole);
  sits = λ looks e. subst (AreSitting w looks) (sym (map-append placed_of front l.more.items))
      (sitting_both w (placed front) (placed l.more.items) looks (first_sits l.at w on front looks all p q e) (whole_sits w (drop (placed_height (placed front)) looks) l.more.items right whole));
}

-- ---- a line behind the blank ones

own_at : (on : List StandingLine) (l : Laid) (place : ℕ) (x : StandingLine) → get_or (laid_lines on l) (l.blanks + place) x ≡ x → get_or (own_lines on l) place x ≡ x
own_at on l place x e = get_or-drop l.blanks (laid_lines on l) place x ∙ e

pub own_at_front : (on : List StandingLine) (l : Laid) (place : ℕ) (x : StandingLine) → l.at ≤ length on → l.blanks + place < l.at → get_or on (l.blanks + place) x ≡ x →
    get_or (own_lines on l) place x ≡ x
own_at_front on l place x h k e =
    own_at on l place x (get_or-append (take l.at on) l.more.items x (l.blanks + place) (omega (arith, k, length-take-le l.at on h)) ∙ get_or-take l.at on (l.blanks + place) x k ∙ e)

pub own_at_more : (on : List StandingLine) (l : Laid) (place : ℕ) (x : StandingLine) → l.at ≤ length on → l.at ≤ l.blanks + place → get_or l.more.items (l.blanks + place - l.at) x ≡ x →
    get_or (own_lines on l) place x ≡ x
own_at_more on l place x h k e =
    let size : length (take l.at on) ≡ l.at = length-take-le l.at on h in
    own_at on l place x (get_or-append_right (take l.at on) l.more.items l.at (l.blanks + place) x size k ∙ e)

-- ---- a plan with one line more

pub summed_more : (h rows : ℕ) (p p' : Plan) → IsSummed h p → 0 < rows → rows ≤ h - p.rows → p'.rows ≡ p.rows + rows → p'.lines ≡ p.lines + 1 → p'.passing_rows ≡ p.passing_rows → IsSummed h p'
summed_more h rows p p' s some fits r l k = record { fit = omega (arith, s.fit, r, fits); lines_fit = omega (arith, s.lines_fit, l, r, some); passing_in = omega (arith, s.passing_in, k, r) }

-- one more line that keeps its rows, with its text or with a new one
pub kept_on : (w h bar rows : ℕ) (on : List StandingLine) (text : List ℕ) (x : StandingLine) (l m l' : Laid) → IsSummed h l.plan → IsBeside h on l bar x → rows ≡ length (rows_of w (chars text)) →
    x.rows ≡ rows → has_wide w (chars text) ≡ false → m.plan ≡ l.plan → m.at ≡ l.at → m.blanks ≡ l.blanks → m.more ≡ l.more →
    l' ≡ record m { plan = record m.plan { rows = m.plan.rows + rows; lines = m.plan.lines + 1 }; at = m.at + 1 } →
    (AreFitting w on l.at l.changed.items →
    AreFitting w on (l.at + 1) m.changed.items × (take (l.at + 1) (renewed (texts on) m.changed.items) ≡ take l.at (renewed (texts on) l.changed.items) ++ text ∷ [])) →
    IsLaidOn w h on (text ∷ []) (chars text ∷ []) (record { bar = bar; rows = rows_of w (chars text) } ∷ []) l l'
kept_on w h bar rows on text x l m l' s b size same narrow plan at blanks more e new =
    let p : l'.plan ≡ record l.plan { rows = l.plan.rows + rows; lines = l.plan.lines + 1 } =
    ap (λ (l : Laid). l.plan) e ∙ ap (λ (p : Plan). record p { rows = p.rows + rows; lines = p.lines + 1 }) plan in
    let changed : l'.changed.items ≡ m.changed.items = ap (λ (l : Laid). l.changed.items) e in
    let some : 0 < rows = omega (arith, size, rows_some w (chars text)) in
    record {
      summed = summed_more h rows l.plan l'.plan s some (omega (arith, b.fits, same)) (ap (λ (p : Plan). p.rows) p) (ap (λ (p : Plan). p.lines) p) (ap (λ (p : Plan). p.passing_rows) p);
      passing_same = ap (λ (p : Plan). p.passing) p;
      blanks_same = ap (λ (l : Laid). l.blanks) e ∙ blanks;
      narrow = rw narrow refl;
      laid = λ before bars o. let n = new o.fit in
          laid_in_place w h on before bars text (record { bar = bar; rows = rows_of w (chars text) }) l o b.not_full l' (ap (λ (l : Laid). l.blanks) e ∙ blanks)
          (ap (λ (p : Plan). p.rows) p ∙ ap (λ n. l.plan.rows + n) size) (ap (λ (p : Plan). p.lines) p) (ap (λ (p : Plan). p.full) p) (omega (arith, b.fits, same, size)) x b.none_below
          (ap (λ (l : Laid). l.more.items) e ∙ ap (λ v. v.items) more) (ap (λ (l : Laid). l.at) e ∙ ap (λ n. n + 1) at) b.within b.line_is b.bar_is (same ∙ size)
          (subst (AreFitting w on (l.at + 1)) (sym changed) n.0) (ap (λ ns. take (l.at + 1) (renewed (texts on) ns)) changed ∙ n.1);
    }

-- ---- the lines of a member

-- none of them yet
pub member_none : (w h : ℕ) (on : List StandingLine) (l : Laid) → IsSummed h l.plan → IsLaidOn w h on [] [] [] l l
member_none w h on l s = record {
  summed = s;
  passing_same = refl;
  blanks_same = refl;
  narrow = refl;
  laid = λ before bars o. laid_as w h on before _ bars _ l (sym (append-nil before)) (sym (append-nil bars)) o;
}

-- the first i
abbrev pub MemberLaid : ℕ → ℕ → List StandingLine → Segment → ℕ → Laid → Laid → Type 0
MemberLaid w h on s i l m =
    let own = take i (bar_lines s).lines in
    IsLaidOn w h on (map line_text (take i s.lines.items)) own (line_segments w s.bar own) l m

-- one more
pub member_more : (w h : ℕ) (on : List StandingLine) (s : Segment) (i : ℕ) (x : LineType) (l m n : Laid) → i < length s.lines.items → get_or s.lines.items i x ≡ x →
    MemberLaid w h on s i l m →
    IsLaidOn w h on (line_text x ∷ []) (chars (line_text x) ∷ []) (record { bar = s.bar; rows = rows_of w (chars (line_text x)) } ∷ []) m n → MemberLaid w h on s (i + 1) l n
member_more w h on s i x l m n k e old one =
    let own = line_text x in
    let items = s.lines.items in
    let at = string_at s items i x refl k e in
    record {
      summed = one.summed;
      passing_same = one.passing_same ∙ old.passing_same;
      blanks_same = one.blanks_same ∙ old.blanks_same;
      narrow = narrow_more w (bar_lines s).lines i (chars own) at.0 at.1 old.narrow (or_parts (has_wide w (chars own)) false one.narrow).0;
      laid = λ before bars o.
          laid_as w h on _ _ _ _ n (append_assoc before (map line_text (take i items)) (own ∷ []) ∙ ap (λ xs. before ++ xs) (sym (line_texts_step items i x k e)))
          (line_bars w s i (chars own) at.0 at.1 bars) (one.laid _ _ (old.laid before bars o));
    }

-- all
pub member_whole : (w h : ℕ) (on : List StandingLine) (s : Segment) (i : ℕ) (l m : Laid) → length s.lines.items ≤ i → MemberLaid w h on s i l m →
    IsLaidOn w h on (map line_text s.lines.items) (bar_lines s).lines (lines_of w (bar_lines s ∷ [])) l m
member_whole w h on s i l m k old =
    let all : length (bar_lines s).lines ≤ i = omega (arith, length-map s.lines.items (λ x. chars (line_text x)), k) in
    record {
      summed = old.summed;
      passing_same = old.passing_same;
      blanks_same = old.blanks_same;
      narrow = rw (take_all i (bar_lines s).lines all) at old.narrow;
      laid = λ before bars o. laid_as w h on _ _ _ _ m (ap (λ xs. before ++ map line_text xs) (take_all i s.lines.items k)) (member_bars w i s all bars) (old.laid before bars o);
    }

pub own_length : (on : List StandingLine) (l : Laid) → l.at ≤ length on → length (own_lines on l) ≡ l.at + length l.more.items - l.blanks
own_length on l h = length-drop l.blanks (laid_lines on l) ∙ ap (λ n. n - l.blanks) (length-append (take l.at on) l.more.items ∙ ap (λ n. n + length l.more.items) (length-take-le l.at on h))

-- the lines of the members to be dropped, with those below them of the same bar as the last one
pub through_last : (n : ℕ) (ls : List StandingLine) (x : StandingLine) → 0 < n → n ≤ length ls → get_or ls (n - 1) x ≡ x → n + run_length x.bar (line_counts (drop n ls)) ≡ through n (line_counts ls)
through_last n ls x some h e =
    let back : n - 1 + 1 ≡ n = omega arith in
    rw back at (through_at (n - 1) ls x (omega arith) e)

-- the first so many lines behind others, of which there may be none
pub front_same : (at to kept : ℕ) (xs : List StandingLine) → (0 < at → to ≡ kept) → take at (drop to xs) ≡ take at (drop kept xs)
front_same zero to kept xs e = refl
front_same (suc at) to kept xs e = ap (λ n. take (suc at) (drop n xs)) (e (omega arith))

pub front_in : (at to kept : ℕ) (xs : List StandingLine) → (0 < at → to ≡ kept) → to + at ≤ length xs → at ≤ length (drop kept xs)
front_in zero to kept xs e h = omega arith
front_in (suc at) to kept xs e h = let same : to ≡ kept = e (omega arith) in omega (arith, same, h, length-drop kept xs)

pub front_right : (at w : ℕ) (r : Remembered) → 0 < w → (0 < at → r.width ≡ w) → AreLines w (take at (live_lines r))
front_right zero w r some e = tt
front_right (suc at) w r some e =
    let same : r.width ≡ w = e (omega arith) in
    lines_taken w (suc at) (live_lines r) (subst (λ n. AreLines n (live_lines r)) same (live_right r (omega (arith, same, some))))

-- ---- the remembered lines, as they are put

pub above_length : (from to at : ℕ) (xs : List StandingLine) → to + at ≤ length xs → length (drop from (take to xs)) ≡ to - from
above_length from to at xs h = length-drop from (take to xs) ∙ ap (λ n. n - from) (length-take-le to xs (omega arith))

module _ (from to at : ℕ) (xs front more now : List StandingLine) (h : from ≤ to) (k : to + at ≤ length xs)
    (e : now ≡ (take (to - from) (drop from (take (to + at) xs)) ++ front) ++ more) where
  pub put_lines : now ≡ drop from (take to xs) ++ (front ++ more)
  put_lines = e ∙ append_assoc (take (to - from) (drop from (take (to + at) xs))) front more ∙ ap (λ ys. ys ++ (front ++ more)) (stay_above from to at xs h k)

  pub put_length : line_counts front ≡ line_counts (drop (to - from) (drop from (take (to + at) xs))) → length now ≡ (to - from) + (at + length more)
  put_length c =
      let own : length front ≡ at = sym (length-map front line_count) ∙ ap length (c ∙ ap line_counts (stay_below from to at xs h k)) ∙ length-map (take at (drop to xs)) line_count
      ∙ length-take-le at (drop to xs) (omega (arith, length-drop to xs)) in
      omega (arith, ap length put_lines, length-append (drop from (take to xs)) (front ++ more), length-append front more, above_length from to at xs k, own)

pub put_now : (w from to : ℕ) (r : Remembered) (l : Laid) (front : List StandingLine) → from ≤ to → 0 < w → to + l.at ≤ length r.lines → (0 < l.at → (r.width ≡ w) × (to ≡ r.kept)) →
    AreFitting w (live_lines r) l.at l.changed.items →
    let on = drop (to - from) (drop from (take (to + l.at) r.lines)) in
    texts front ≡ renewed (texts on) l.changed.items → line_counts front ≡ line_counts on →
    ((v : ℕ) → AreLines v on → AreFitting v on (length on) l.changed.items → AreInPlace v on front) → ((v : ℕ) → AreFitting v on (length on) l.changed.items → AreOver v on front) →
    AreLines w l.more.items → AreWhole l.more.items → ArePut w (live_lines r) l (front ++ l.more.items)
put_now w from to r l front h some k known fit t c p q right whole =
    let same = λ (x : 0 < l.at). (known x).1 in
    let live = live_lines r in
    let is : drop (to - from) (drop from (take (to + l.at) r.lines)) ≡ take l.at live = stay_below from to l.at r.lines h k ∙ front_same l.at to r.kept r.lines same in
    let fits : AreFitting w (take l.at live) (length (take l.at live)) l.changed.items = fits_taken w live l.at l.changed.items (front_in l.at to r.kept r.lines same k) fit in
    let lines : AreLines w (take l.at live) = front_right l.at w r some (λ x. (known x).0) in
    are_put w live l front fit lines (subst (λ ys. texts front ≡ renewed (texts ys) l.changed.items) is t) (subst (λ ys. line_counts front ≡ line_counts ys) is c)
    (subst (λ ys. (v : ℕ) → AreLines v ys → AreFitting v ys (length ys) l.changed.items → AreInPlace v ys front) is p w lines fits)
    (subst (λ ys. (v : ℕ) → AreFitting v ys (length ys) l.changed.items → AreOver v ys front) is q w fits) right whole

pub stays_within : (at to : ℕ) (r : Remembered) → to ≤ length r.lines → (0 < at → to ≡ r.kept) → at ≤ length (live_lines r) → to + at ≤ length r.lines
stays_within zero to r h e k = omega (arith, h)
stays_within (suc at) to r h e k = let same : to ≡ r.kept = e (omega arith) in omega (arith, same, h, k, length-drop r.kept r.lines)

-- lines on the rows of those that are remembered
pub put_sits : (v w : ℕ) (r : Remembered) (l : Laid) (x : Lists) (ls : List StandingLine) → v ≡ w → 0 < v → ArePut v (live_lines r) l ls → AreRemembered r x → r.width ≡ v →
    AreSitting w (looks_of (live_rows w x.live)) (placed ls)
put_sits v w r l x ls e some put known same =
    let stands = subst (λ n. AreStanding n r x) same (known (omega (arith, same, some))) in
    subst (λ n. AreSitting n (looks_of (live_rows n x.live)) (placed ls)) e (put.sits (looks_of (live_rows v x.live)) (λ _. ap looks_of (sym stands.live_is)))

-- a frame that was laid out beside the live lines can be put in their place
pub can_be_put : (v w h pass : ℕ) (above : Span) (r : Remembered) (frame : List Segment) (l : Laid) → v ≡ w → above.to ≤ length r.lines → (0 < l.at → (r.width ≡ v) × (above.to ≡ r.kept)) →
    AreLines v (drop above.from (take above.to r.lines)) → IsFrameLaid w h pass (live_lines r) frame l → CanPut v above r l
can_be_put v w h pass above r frame l e within known right f = record {
  within = stays_within l.at above.to r within (λ some. (known some).1) f.is_laid.at_in;
  known = known;
  kept = omega (arith, own_count w h (live_lines r) _ _ l f.is_laid, passing_within w h pass (map bar_lines frame) l.plan f.plan_is);
  fit = subst (λ n. AreFitting n (live_lines r) l.at l.changed.items) (sym e) f.is_laid.fit;
  right = right;
  more = subst (λ n. AreLines n l.more.items) (sym e) f.is_laid.measured;
  whole = f.is_laid.whole;
}

-- and takes so many rows
pub put_height : (v w h : ℕ) (on ls : List StandingLine) (before : List (List ℕ)) (bars : List BarRows) (l : Laid) → IsLaid w h on before bars l → ArePut v on l ls →
    l.blanks + l.plan.rows ≡ placed_height (placed ls)
put_height v w h on ls before bars l o put =
    let blank : sum_by rows_by (replicate l.blanks blank_count) ≡ l.blanks = blank_height l.blanks (replicate l.blanks blank_count) (ones_of l.blanks) in
    let own : sum_by rows_by o.counts ≡ l.plan.rows = ap (sum_by rows_by) o.laid.counts_are ∙ counts_height (fitting h bars) ∙ sym o.laid.rows_are in
    let all : sum_by rows_by (line_counts ls) ≡ sum_by rows_by (replicate l.blanks blank_count) + sum_by rows_by o.counts =
    ap (sum_by rows_by) (put.counts_are ∙ o.counts_are) ∙ sum_by-append rows_by (replicate l.blanks blank_count) o.counts in
    omega (arith, blank, own, all, height_counted ls)

-- where none is dropped, no line becomes a kept one
pub none_kept : (w h : ℕ) (frame : List BarLines) (p : Plan) (blanks : ℕ) → IsPlan w h 0 frame p → kept_below p blanks ≡ 0
unfolding lines_of fitting
none_kept w h frame p blanks q = let none : p.passing ≡ 0 = q.passing_is in rw none refl
