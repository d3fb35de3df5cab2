-- The lines of live rows, by their bars.
use Rattle.std.proofs.Common.{◌≡◌, ℕ, zero, suc, ◌+◌, ◌-◌, ◌<◌, ◌≤◌, Bool, true, false, List, [], ◌∷◌, ◌++◌, length, map, take, drop, replicate, refl, sym, ◌∙◌, ap, subst, arith, inl, inr, length-append, chars, get_or}
use Rattle.std.specs.Prelude.{◌==◌, nat_le, sum, sum_by, flat_map, string_bytes}
use Rattle.std.specs.List.{list_any, list_all}
use Rattle.std.proofs.lemmas.Bool.{cond_both, cases_Bool, lt-ltb, and_parts, ne_eqb}
use Rattle.std.proofs.lemmas.List.{nil_from_length, length-map, length-take, length-replicate, drop-drop, drop-map, take_at, drop_at, take-append-drop, take_more, get_or-map}
use Rattle.std.proofs.lemmas.List.Sums.{sum-map, sum_by-take-drop, sum_by-cons}
use Rattle.std.proofs.lemmas.Grind.{flat_map-append}
use Rattle.indicatif_text.specs.Columns.{rows_of}
use Rattle.indicatif_term.specs.Lists.{Lists, Live, BarRows, BarLines, no_live, live_height, segments_height, grouped, fitting, lines_of, shown_rows, is_first, has_rows, passed, live_of_frame, drawn}
use Rattle.indicatif_term.specs.Counts.{RowCount, row_count, line_count, line_counts}
use Rattle.indicatif_term.specs.Remembered.{AreOwned, has_row}
use Rattle.indicatif_term.specs.Standing.{placed, AreLines}
use Rattle.indicatif_term.specs.Inside.Changing.{placed_height}
use Rattle.indicatif_term.specs.Inside.Owned.{run_length, through, blank_count, kept_below}
use Rattle.indicatif_term.specs.Inside.Plans.{IsPlan}
use Rattle.indicatif_term.specs.declared.engine.layout.Plan.{Plan}
use Rattle.indicatif_term.specs.declared.engine.remembered.StandingLine.{StandingLine}
use Rattle.indicatif_term.proofs.ShownRowLemmas.{grouped_rows}
use Rattle.indicatif_term.proofs.TerminalStepLemmas.{rows_some}
use Rattle.indicatif_term.proofs.GroupLemmas.{grouped-none, grouped_nil, through_drop, through_some, through_within, first_none, first_some, among}

abbrev pub rows_by : RowCount → ℕ
rows_by c = c.rows

abbrev pub counted : ℕ → ℕ → RowCount
counted bar rows = record { bar = bar; rows = rows }

pub count_same : (bar rows : ℕ) (s : BarRows) → bar ≡ s.bar → rows ≡ length s.rows → counted bar rows ≡ row_count s
count_same bar rows s a b = ap (λ x. counted x rows) a ∙ ap (counted s.bar) b

-- one more line
pub count_more : (ls : List StandingLine) (i : ℕ) (x : StandingLine) (s : BarRows) → i < length ls → get_or ls i x ≡ x → x.bar ≡ s.bar → x.rows ≡ length s.rows →
    take (i + 1) (line_counts ls) ≡ take i (line_counts ls) ++ row_count s ∷ []
count_more ls i x s h e a b =
    take_more (line_counts ls) i (line_count x) (omega (arith, h, length-map ls line_count))
    ∙ ap (λ c. take i (line_counts ls) ++ c ∷ []) (get_or-map line_count ls i x (line_count x) h ∙ ap line_count e ∙ count_same x.bar x.rows s a b)

-- ---- heights

pub height_counted : (ls : List StandingLine) → placed_height (placed ls) ≡ sum_by rows_by (line_counts ls)
height_counted [] = refl
height_counted (l ∷ ls) = ap (λ n. l.rows + n) (height_counted ls) ∙ sym (sum_by-cons rows_by (line_count l) (line_counts ls))

pub counts_height : (ss : List BarRows) → sum_by rows_by (map row_count ss) ≡ segments_height ss
counts_height [] = refl
counts_height (s ∷ ss) = sum_by-cons rows_by (row_count s) (map row_count ss) ∙ ap (λ n. length s.rows + n) (counts_height ss) ∙ sym (sum_by-cons (λ (s : BarRows). length s.rows) s ss)

rows_height : (ss : List BarRows) → length (flat_map (λ (s : BarRows). s.rows) ss) ≡ segments_height ss
rows_height [] = refl
rows_height (s ∷ ss) =
    let rest : length (flat_map (λ (s : BarRows). s.rows) ss) ≡ segments_height ss = rows_height ss in
    omega (arith, rest, length-append s.rows (flat_map (λ (s : BarRows). s.rows) ss), sum_by-cons (λ (s : BarRows). length s.rows) s ss)

pub grouped_height : (ss : List BarRows) → segments_height (grouped ss) ≡ segments_height ss
grouped_height ss = sym (rows_height (grouped ss)) ∙ ap length (grouped_rows ss) ∙ rows_height ss

ones : (n : ℕ) → sum (replicate n 1) ≡ n
ones zero = refl
ones (suc n) = let r : sum (replicate n 1) ≡ n = ones n in omega (arith, r, sum_by-cons (λ x. x) 1 (replicate n 1))

pub blank_height : (n : ℕ) (cs : List RowCount) → map rows_by cs ≡ replicate n 1 → sum_by rows_by cs ≡ n
blank_height n cs e = sym (sum-map rows_by cs) ∙ ap sum e ∙ ones n

pub own_height : (cs : List RowCount) (live : Live) → AreOwned cs live → sum_by rows_by (drop live.blanks cs) ≡ segments_height live.segments
own_height cs live o = ap (sum_by rows_by) (sym o.parts_are) ∙ counts_height o.parts ∙ sym (grouped_height o.parts) ∙ ap segments_height (sym o.segments_are)

pub owned_height : (cs : List RowCount) (live : Live) → AreOwned cs live → sum_by rows_by cs ≡ live_height live
owned_height cs live o =
    let front : sum_by rows_by (take live.blanks cs) ≡ live.blanks = blank_height live.blanks (take live.blanks cs) o.blank in
    omega (arith, front, own_height cs live o, sum_by-take-drop rows_by cs live.blanks)

pub blanks_in : (cs : List RowCount) (live : Live) → AreOwned cs live → live.blanks ≤ length cs
blanks_in cs live o =
    let n : length (take live.blanks cs) ≡ live.blanks = sym (length-map (take live.blanks cs) rows_by) ∙ ap length o.blank ∙ length-replicate live.blanks 1 in
    omega (arith, n, length-take live.blanks cs)

-- ---- lines that have rows

pub rows_taken : (n : ℕ) (cs : List RowCount) → list_all has_row cs ≡ true → list_all has_row (drop n cs) ≡ true
rows_taken zero cs e = e
rows_taken (suc n) [] e = e
rows_taken (suc n) (c ∷ cs) e = rows_taken n cs (and_parts (has_row c) (list_all has_row cs) e).1

pub lines_have : (w : ℕ) (ls : List StandingLine) → AreLines w ls → list_all has_row (line_counts ls) ≡ true
lines_have w [] all = refl
lines_have w (l ∷ ls) all =
    let some : 0 < l.rows = omega (arith, all.0.rows_are, rows_some w (chars (string_bytes l.text))) in
    rw (lt-ltb 0 l.rows some) (lines_have w ls all.1)

pub none_owned : (cs : List RowCount) → cs ≡ [] → AreOwned cs no_live
none_owned cs e = subst (λ xs. AreOwned xs no_live) (sym e) (record { blank = refl; parts = []; parts_are = refl; segments_are = sym grouped-none; some = refl })

-- ---- the lines behind the blank ones and some of a bar

owned_by : (cs : List RowCount) (b m : ℕ) (ps : List BarRows) → drop b cs ≡ map row_count ps → list_all has_row (drop b cs) ≡ true →
    AreOwned (drop (b + m) cs) (record { blanks = 0; segments = grouped (drop m ps) })
owned_by cs b m ps e some =
    let rest : drop (b + m) cs ≡ drop m (drop b cs) = sym (drop-drop m b cs) in
    record {
      blank = refl;
      parts = drop m ps;
      parts_are = sym (drop-map row_count m ps) ∙ ap (drop m) (sym e) ∙ sym rest;
      segments_are = refl;
      some = ap (list_all has_row) rest ∙ rows_taken m (drop b cs) some;
    }

pub owned_rest : (cs : List RowCount) (live : Live) (o : AreOwned cs live) (m : ℕ) → AreOwned (drop (live.blanks + m) cs) (record { blanks = 0; segments = grouped (drop m o.parts) })
owned_rest cs live o m = owned_by cs live.blanks m o.parts (sym o.parts_are) o.some

module _ (bar : ℕ) (cs : List RowCount) (live : Live) (o : AreOwned cs live) where
  abbrev own : List RowCount
  own = drop live.blanks cs

  counts : (n : ℕ) → n ≡ run_length bar own → n ≡ run_length bar (map row_count o.parts)
  counts n e = e ∙ ap (run_length bar) (sym o.parts_are)

  pub not_first : 0 ≡ run_length bar own → is_first bar live.segments ≡ false
  not_first e = ap (is_first bar) o.segments_are ∙ first_none bar o.parts (sym (counts 0 e))

  pub is_among : list_any (λ (c : RowCount). c.bar == bar) own ≡ has_rows bar live.segments
  is_among = ap (list_any (λ (c : RowCount). c.bar == bar)) (sym o.parts_are) ∙ sym (among bar o.parts) ∙ ap (has_rows bar) (sym o.segments_are)

  module _ (n : ℕ) (some : 0 < n) (e : n ≡ run_length bar own) where
    found : (is_first bar (grouped o.parts) ≡ true) × (drop 1 (grouped o.parts) ≡ grouped (drop (run_length bar (map row_count o.parts)) o.parts))
    found = first_some bar o.parts (omega (arith, counts n e))

    pub is_front : is_first bar live.segments ≡ true
    is_front = ap (is_first bar) o.segments_are ∙ found.0

    rest : drop 1 live.segments ≡ grouped (drop n o.parts)
    rest = ap (drop 1) o.segments_are ∙ found.1 ∙ ap (λ k. grouped (drop k o.parts)) (sym (counts n e))

    pub rest_owned : AreOwned (drop (live.blanks + n) cs) (record { blanks = 0; segments = drop 1 live.segments })
    rest_owned = subst (λ ss. let l : Live = record { blanks = 0; segments = ss } in AreOwned (drop (live.blanks + n) cs) l) (sym rest) (owned_rest cs live o n)

    pub front_height : segments_height (take 1 live.segments) ≡ sum_by rows_by (take n own)
    front_height =
        let a : segments_height (take 1 live.segments) + segments_height (drop 1 live.segments) ≡ segments_height live.segments = sum_by-take-drop (λ (s : BarRows). length s.rows) live.segments 1 in
        let b : segments_height live.segments ≡ sum_by rows_by own = ap segments_height o.segments_are ∙ grouped_height o.parts ∙ sym (counts_height o.parts) ∙ ap (sum_by rows_by) o.parts_are in
        let c : segments_height (drop 1 live.segments) ≡ sum_by rows_by (drop n own) =
        ap segments_height rest ∙ grouped_height (drop n o.parts) ∙ sym (counts_height (drop n o.parts)) ∙ ap (sum_by rows_by) (sym (drop-map row_count n o.parts) ∙ ap (drop n) o.parts_are) in
        omega (arith, a, b, c, sum_by-take-drop rows_by own n)

-- ---- the lines of a frame

fitting_start : (h : ℕ) (a b : List BarRows) → fitting h a ≡ take (length (fitting h a)) (fitting h (a ++ b))
unfolding fitting
fitting_start h [] b = refl
fitting_start h (s ∷ a) b = elim (cases_Bool (nat_le (length s.rows) h)) [
  | inl e ↦ rw e (ap (λ xs. s ∷ xs) (fitting_start (h - length s.rows) a b))
  | inr e ↦ rw e refl
]

pub lines_split : (w : ℕ) (a b : List BarLines) → lines_of w (a ++ b) ≡ lines_of w a ++ lines_of w b
unfolding lines_of
lines_split w a b = flat_map-append (λ (s : BarLines). map (λ line. let r : BarRows = record { bar = s.bar; rows = rows_of w line } in r) s.lines) a b

positive : (n : ℕ) → (n ≡ 0 → 0 < n) → 0 < n
positive zero f = f refl
positive (suc n) f = omega arith

module _ (w h pass : ℕ) (frame : List BarLines) where
  abbrev pub parts : List BarRows
  parts = fitting h (lines_of w frame)

  abbrev first : List BarRows
  first = fitting h (lines_of w (take pass frame))

  first_is : first ≡ take (length first) parts
  first_is = fitting_start h (lines_of w (take pass frame)) (lines_of w (drop pass frame))
      ∙ ap (λ xs. take (length first) (fitting h xs)) (sym (lines_split w (take pass frame) (drop pass frame)) ∙ ap (lines_of w) (take-append-drop pass frame))

  pub first_within : length first ≤ length parts
  first_within = omega (arith, ap length first_is, length-take (length first) parts)

  module _ (p : Plan) (q : IsPlan w h pass frame p) where
    pub passing_none : length (shown_rows w h (take pass frame)) ≡ 0 → p.passing ≡ 0
    unfolding shown_rows
    passing_none e = q.passing_is ∙ ap (λ n. through n (map row_count parts)) (grouped_nil first e)

    pub passing_some : 0 < length (shown_rows w h (take pass frame)) → 0 < p.passing
    unfolding shown_rows
    passing_some e =
        let a : 0 < length first = positive (length first) (λ z. let none : first ≡ [] = nil_from_length first z in
        let zeros : length (grouped first) ≡ 0 = ap (λ xs. length (grouped xs)) none ∙ ap length grouped-none in absurd (omega arith)) in
        let b : length first ≤ length parts = omega (arith, ap length first_is, length-take (length first) parts) in
        omega (arith, q.passing_is, through_some (length first) (map row_count parts) a (omega (arith, length-map parts row_count)))

    pub rest_are : drop (length (shown_rows w h (take pass frame))) (shown_rows w h frame) ≡ grouped (drop p.passing parts)
    unfolding shown_rows
    rest_are = ap (λ xs. drop (length (grouped xs)) (grouped parts)) first_is ∙ through_drop (length first) parts ∙ ap (λ n. grouped (drop n parts)) (sym q.passing_is)

    pub passing_height : segments_height (take (length (shown_rows w h (take pass frame))) (shown_rows w h frame)) ≡ p.passing_rows
    unfolding shown_rows
    passing_height =
        let n = length (grouped first) in
        let a : segments_height (take n (grouped parts)) + segments_height (drop n (grouped parts)) ≡ segments_height (grouped parts) =
        sum_by-take-drop (λ (s : BarRows). length s.rows) (grouped parts) n in
        let b : segments_height (take p.passing parts) + segments_height (drop p.passing parts) ≡ segments_height parts = sum_by-take-drop (λ (s : BarRows). length s.rows) parts p.passing in
        let c : segments_height (drop n (grouped parts)) ≡ segments_height (drop p.passing parts) = ap segments_height rest_are ∙ grouped_height (drop p.passing parts) in
        omega (arith, a, b, c, grouped_height parts, q.passing_rows_are)

-- ---- what a drawing owns

pub ones_of : (n : ℕ) → map rows_by (replicate n blank_count) ≡ replicate n 1
ones_of zero = refl
ones_of (suc n) = ap (λ xs. 1 ∷ xs) (ones_of n)

module _ (w h blanks : ℕ) (frame : List BarLines) (cs : List RowCount) (e : cs ≡ replicate blanks blank_count ++ map row_count (fitting h (lines_of w frame)))
    (some : list_all has_row cs ≡ true) where
  abbrev own_parts : List BarRows
  own_parts = fitting h (lines_of w frame)

  own_are : drop blanks cs ≡ map row_count own_parts
  own_are = ap (drop blanks) e ∙ drop_at (replicate blanks blank_count) (map row_count own_parts) blanks (length-replicate blanks blank_count)

  pub frame_owned : (n : ℕ) → blanks ≡ n → AreOwned cs (record { blanks = n; segments = shown_rows w h frame })
  unfolding shown_rows
  frame_owned n same = subst (λ k. let v : Live = record { blanks = k; segments = grouped own_parts } in AreOwned cs v) same (record {
    blank = ap (map rows_by) (ap (take blanks) e ∙ take_at (replicate blanks blank_count) (map row_count own_parts) blanks (length-replicate blanks blank_count)) ∙ ones_of blanks;
    parts = own_parts;
    parts_are = sym own_are;
    segments_are = refl;
    some = rows_taken blanks cs some;
  })

  module _ (pass : ℕ) (bottom : Bool) (l : Lists) (p : Plan) (q : IsPlan w h pass frame p) (same : blanks ≡ (live_of_frame w h bottom (live_height l.live) 0 frame).blanks) where
    abbrev made : Lists
    made = record l { live = live_of_frame w h bottom (live_height l.live) 0 frame }

    go : (n : ℕ) → length (shown_rows w h (take pass frame)) ≡ n → AreOwned (drop (kept_below p blanks) cs) (passed w n made).live
    go zero z =
        let none : p.passing ≡ 0 = passing_none w h pass frame p q z in
        let k : kept_below p blanks ≡ 0 = rw none refl in
        subst (λ n. AreOwned (drop n cs) made.live) (sym k) (frame_owned made.live.blanks same)
    go (suc n) z =
        let some_pass : 0 < p.passing = passing_some w h pass frame p q (omega (arith, z)) in
        let k : kept_below p blanks ≡ blanks + p.passing = rw (ne_eqb p.passing 0 (λ x. absurd (omega (arith, x, some_pass)))) refl in
        let rest : drop (suc n) (shown_rows w h frame) ≡ grouped (drop p.passing own_parts) = ap (λ m. drop m (shown_rows w h frame)) (sym z) ∙ rest_are w h pass frame p q in
        subst (λ ss. let v : Live = record { blanks = 0; segments = ss } in AreOwned (drop (kept_below p blanks) cs) v) (sym rest)
        (subst (λ m. let v : Live = record { blanks = 0; segments = grouped (drop p.passing own_parts) } in AreOwned (drop m cs) v) (sym k)
        (owned_by cs blanks p.passing own_parts own_are (rows_taken blanks cs some)))

    pub owned_drawn : AreOwned (drop (kept_below p blanks) cs) (drawn w h bottom pass frame l).live
    unfolding drawn
    owned_drawn = go (length (shown_rows w h (take pass frame))) refl

pub passing_within : (w h pass : ℕ) (frame : List BarLines) (p : Plan) → IsPlan w h pass frame p → p.passing ≤ p.lines
passing_within w h pass frame p q =
    let parts = fitting h (lines_of w frame) in
    omega (arith, q.passing_is, q.lines_are, through_within (length (fitting h (lines_of w (take pass frame)))) (map row_count parts), length-map parts row_count)

pub kept_in : (p : Plan) (blanks : ℕ) → kept_below p blanks ≤ blanks + p.passing
kept_in p blanks = cond_both (p.passing == 0) 0 (blanks + p.passing) (λ n. n ≤ blanks + p.passing) (λ _. omega arith) (λ _. omega arith)
