-- The lines of live rows that are cut anew, by their bars.
use Rattle.std.proofs.Common.{◌≡◌, ℕ, zero, suc, ◌+◌, ◌-◌, ◌<◌, ◌≤◌, true, false, List, [], ◌∷◌, ◌++◌, length, map, take, drop, get_or, replicate, refl, sym, ◌∙◌, ap, subst, arith, append_assoc, length-append, chars, inl, inr}
use Rattle.std.specs.Prelude.{◌==◌, nat_le, sum, sum_by, string_bytes}
use Rattle.std.specs.List.{list_all}
use Rattle.std.proofs.lemmas.Bool.{cases_Bool, cases_lt, eqb-true, eq-eqb, le-leb, lt-leb, lt-ltb, ltb-true, and_parts}
use Rattle.std.proofs.lemmas.List.{length-map, length-drop, length-take, length-replicate, map-append, take-map, drop-map, drop-drop, take_at, drop_at, take-append-drop, nil_from_length}
use Rattle.std.proofs.lemmas.List.Sums.{sum_by-cons}
use Rattle.std.proofs.lemmas.Grind.{flat_map-append}
use Rattle.indicatif_text.specs.Columns.{Cell, rows_of, blank_row}
use Rattle.indicatif_term.specs.Lists.{Lists, Live, BarRows, live_height, segments_height, grouped}
use Rattle.indicatif_term.specs.Resizes.{recut, recut_all, recut_bar, recut_lists, segments_after, settled_whole}
use Rattle.indicatif_term.specs.Counts.{RowCount, row_count, line_count, line_counts}
use Rattle.indicatif_term.specs.Standing.{standing_rows, AreLines}
use Rattle.indicatif_term.specs.Remembered.{AreOwned, AreStanding, has_row, kept_lines, live_lines}
use Rattle.indicatif_term.specs.Inside.Recutting.{line_bars, cut_bars, cut_line}
use Rattle.indicatif_term.specs.declared.engine.remembered.Remembered.{Remembered}
use Rattle.indicatif_term.specs.declared.engine.remembered.StandingLine.{StandingLine}
use Rattle.indicatif_term.proofs.ShownRowLemmas.{rows_in, grouped_rows}
use Rattle.indicatif_term.proofs.RecutLemmas.{recut_blanks, recut_more}
use Rattle.indicatif_term.proofs.CutLineLemmas.{bars_count, line_becomes}
use Rattle.indicatif_term.proofs.RememberedLemmas.{rows-append, lines_height, lines_taken, lines_dropped}
use Rattle.indicatif_term.proofs.GroupLemmas.{joined, grouped-none, grouped-cons}
use Rattle.indicatif_term.proofs.OwnedLemmas.{rows_by, blank_height, height_counted, owned_height, grouped_height, rows_taken, none_owned}

-- ---- lines of one row each

abbrev pub one : ℕ → RowCount
one bar = record { bar = bar; rows = 1 }

abbrev heights_of : List StandingLine → List ℕ
heights_of ls = map (λ (l : StandingLine). l.rows) ls

pub counts_of_bars : (ls : List StandingLine) → heights_of ls ≡ replicate (length ls) 1 → line_counts ls ≡ map one (line_bars ls)
counts_of_bars [] e = refl
counts_of_bars (l ∷ ls) e =
    let here : l.rows ≡ 1 = ap (λ xs. get_or xs 0 0) e in
    let rest : heights_of ls ≡ replicate (length ls) 1 = ap (drop 1) e in
    ap (λ n. let c : RowCount = record { bar = l.bar; rows = n } in c ∷ line_counts ls) here ∙ ap (λ cs. one l.bar ∷ cs) (counts_of_bars ls rest)

pub single_dropped : (n : ℕ) (ls : List StandingLine) → heights_of ls ≡ replicate (length ls) 1 → heights_of (drop n ls) ≡ replicate (length (drop n ls)) 1
single_dropped zero ls e = e
single_dropped (suc n) [] e = e
single_dropped (suc n) (l ∷ ls) e = single_dropped n ls (ap (drop 1) e)

ones_rows : (xs : List ℕ) → map rows_by (map one xs) ≡ replicate (length xs) 1
ones_rows [] = refl
ones_rows (x ∷ xs) = ap (λ ys. 1 ∷ ys) (ones_rows xs)

pub ones_height : (xs : List ℕ) → sum_by rows_by (map one xs) ≡ length xs
ones_height xs = blank_height (length xs) (map one xs) (ones_rows xs)

ones_have : (xs : List ℕ) → list_all has_row (map one xs) ≡ true
ones_have [] = refl
ones_have (x ∷ xs) = ones_have xs

-- ---- each row as a segment of its own

abbrev singles_of : ℕ → List (List Cell) → List BarRows
singles_of bar rows = map (λ row. let s : BarRows = record { bar = bar; rows = row ∷ [] } in s) rows

abbrev singles : List BarRows → List BarRows
singles [] = []
singles (s ∷ ps) = singles_of s.bar s.rows ++ singles ps

abbrev of_bar : ℕ → List (List Cell) → BarRows
of_bar bar rows = record { bar = bar; rows = rows }

joined_twice : (b : ℕ) (xs ys : List (List Cell)) (g : List BarRows) → joined (of_bar b xs) (joined (of_bar b ys) g) ≡ joined (of_bar b (xs ++ ys)) g
joined_twice b xs ys [] = rw (eq-eqb b b refl) refl
joined_twice b xs ys (s ∷ ss) = elim (cases_Bool (b == s.bar)) [
  | inl e ↦ rw (e, eq-eqb b b refl) (ap (λ rs. of_bar b rs ∷ ss) (sym (append_assoc xs ys s.rows)))
  | inr e ↦ rw (e, eq-eqb b b refl) refl
]

grouped_singles_of : (b : ℕ) (r : List Cell) (rs : List (List Cell)) (xs : List BarRows) → grouped (singles_of b (r ∷ rs) ++ xs) ≡ joined (of_bar b (r ∷ rs)) (grouped xs)
grouped_singles_of b r [] xs = grouped-cons (of_bar b (r ∷ [])) xs
grouped_singles_of b r (q ∷ rs) xs =
    grouped-cons (of_bar b (r ∷ [])) (singles_of b (q ∷ rs) ++ xs) ∙ ap (joined (of_bar b (r ∷ []))) (grouped_singles_of b q rs xs) ∙ joined_twice b (r ∷ []) (q ∷ rs) (grouped xs)

grouped_first : (b : ℕ) (rows : List (List Cell)) (xs : List BarRows) → 0 < length rows → grouped (singles_of b rows ++ xs) ≡ joined (of_bar b rows) (grouped xs)
grouped_first b [] xs h = absurd (omega arith)
grouped_first b (r ∷ rs) xs h = grouped_singles_of b r rs xs

grouped_singles : (ps : List BarRows) → list_all has_row (map row_count ps) ≡ true → grouped (singles ps) ≡ grouped ps
grouped_singles [] e = refl
grouped_singles (s ∷ ps) e =
    let p = and_parts (has_row (row_count s)) (list_all has_row (map row_count ps)) e in
    grouped_first s.bar s.rows (singles ps) (ltb-true 0 (length s.rows) p.0) ∙ ap (joined s) (grouped_singles ps p.1) ∙ sym (grouped-cons s ps)

-- ---- segments that are cut

recut_joined : (w : ℕ) (x : BarRows) (g : List BarRows) → map (recut_bar w) (joined x g) ≡ joined (recut_bar w x) (map (recut_bar w) g)
recut_joined w x [] = refl
recut_joined w x (s ∷ ss) = elim (cases_Bool (x.bar == s.bar)) [
  | inl e ↦ rw e (ap (λ rs. of_bar x.bar rs ∷ map (recut_bar w) ss) (flat_map-append (recut w) x.rows s.rows))
  | inr e ↦ rw e refl
]

recut_grouped : (w : ℕ) (ps : List BarRows) → map (recut_bar w) (grouped ps) ≡ grouped (map (recut_bar w) ps)
recut_grouped w [] = ap (map (recut_bar w)) grouped-none ∙ sym grouped-none
recut_grouped w (x ∷ ps) = ap (map (recut_bar w)) (grouped-cons x ps) ∙ recut_joined w x (grouped ps) ∙ ap (joined (recut_bar w x)) (recut_grouped w ps)
    ∙ sym (grouped-cons (recut_bar w x) (map (recut_bar w) ps))

recut_have : (w : ℕ) (ps : List BarRows) → list_all has_row (map row_count ps) ≡ true → list_all has_row (map row_count (map (recut_bar w) ps)) ≡ true
recut_have w [] e = refl
recut_have w (s ∷ ps) e =
    let p = and_parts (has_row (row_count s)) (list_all has_row (map row_count ps)) e in
    let some : 0 < length (recut_all w s.rows) = omega (arith, ltb-true 0 (length s.rows) p.0, recut_more w s.rows) in
    rw (lt-ltb 0 (length (recut_all w s.rows)) some) (recut_have w ps p.1)

-- ---- the segments of lines

abbrev own_of : ℕ → StandingLine → BarRows
own_of w l = of_bar l.bar (rows_of w (chars (string_bytes l.text)))

parts_own : (w : ℕ) (ps : List BarRows) (ls : List StandingLine) → map row_count ps ≡ line_counts ls → rows_in ps ≡ standing_rows w ls → AreLines w ls → ps ≡ map (own_of w) ls
parts_own w [] [] e f all = refl
parts_own w [] (l ∷ ls) e f all = absurd (omega (arith, ap length e))
parts_own w (p ∷ ps) [] e f all = absurd (omega (arith, ap length e))
parts_own w (p ∷ ps) (l ∷ ls) e f all =
    let own = rows_of w (chars (string_bytes l.text)) in
    let head : row_count p ≡ line_count l = ap (λ xs. get_or xs 0 (row_count p)) e in
    let bar : p.bar ≡ l.bar = ap (λ (c : RowCount). c.bar) head in
    let size : length p.rows ≡ l.rows = ap rows_by head in
    let same : length own ≡ length p.rows = sym all.0.rows_are ∙ sym size in
    let rows : p.rows ≡ own = sym (take_at p.rows (rows_in ps) (length p.rows) refl) ∙ ap (take (length p.rows)) f ∙ take_at own (standing_rows w ls) (length p.rows) same in
    let rest : rows_in ps ≡ standing_rows w ls = sym (drop_at p.rows (rows_in ps) (length p.rows) refl) ∙ ap (drop (length p.rows)) f ∙ drop_at own (standing_rows w ls) (length p.rows) same in
    ap (λ b. of_bar b p.rows ∷ ps) bar ∙ ap (λ rs. of_bar l.bar rs ∷ ps) rows ∙ ap (λ xs. own_of w l ∷ xs) (parts_own w ps ls (ap (drop 1) e) rest all.1)

singles_of_counts : (b : ℕ) (rows : List (List Cell)) → map row_count (singles_of b rows) ≡ map one (replicate (length rows) b)
singles_of_counts b [] = refl
singles_of_counts b (r ∷ rows) = ap (λ cs. one b ∷ cs) (singles_of_counts b rows)

abbrev sum_lines : ℕ → ℕ → StandingLine → ℕ
sum_lines w w' l = sum (map length (cut_line w w' (string_bytes l.text)))

singles_counts : (w w' : ℕ) (ls : List StandingLine) → map row_count (singles (map (recut_bar w') (map (own_of w) ls))) ≡ map one (cut_bars w w' ls)
singles_counts w w' [] = refl
singles_counts w w' (l ∷ ls) =
    let rows = recut_all w' (rows_of w (chars (string_bytes l.text))) in
    let rest = singles (map (recut_bar w') (map (own_of w) ls)) in
    map-append row_count (singles_of l.bar rows) rest ∙ ap (λ cs. cs ++ map row_count rest) (singles_of_counts l.bar rows ∙ ap (λ n. map one (replicate n l.bar)) (sym (line_becomes w w' l)))
    ∙ ap (λ cs. map one (replicate (sum_lines w w' l) l.bar) ++ cs) (singles_counts w w' ls) ∙ sym (map-append one (replicate (sum_lines w w' l) l.bar) (cut_bars w w' ls))

-- ---- lines that are cut

module _ (w w' : ℕ) (old : Remembered) (l : Lists) (d : List StandingLine) (bars : line_bars d ≡ cut_bars w w' old.lines) (single : heights_of d ≡ replicate (length d) 1)
    (right : AreLines w old.lines) (stand : AreStanding w old l) (o : AreOwned (line_counts (live_lines old)) l.live) where
  abbrev live : List StandingLine
  live = live_lines old

  abbrev b : ℕ
  b = l.live.blanks

  abbrev first : List StandingLine
  first = take b live

  abbrev own : List StandingLine
  own = drop b live

  abbrev upper : ℕ
  upper = length (cut_bars w w' (kept_lines old))

  bars_split : (n : ℕ) (ls : List StandingLine) → cut_bars w w' ls ≡ cut_bars w w' (take n ls) ++ cut_bars w w' (drop n ls)
  bars_split n ls = ap (cut_bars w w') (sym (take-append-drop n ls)) ∙ flat_map-append (λ (l : StandingLine). replicate (sum_lines w w' l) l.bar) (take n ls) (drop n ls)

  counts : line_counts (drop upper d) ≡ map one (cut_bars w w' live)
  counts =
      sym (drop-map line_count upper d) ∙ ap (drop upper) (counts_of_bars d single ∙ ap (map one) (bars ∙ bars_split old.kept old.lines))
      ∙ drop-map one upper (cut_bars w w' (kept_lines old) ++ cut_bars w w' live) ∙ ap (map one) (drop_at (cut_bars w w' (kept_lines old)) (cut_bars w w' live) upper refl)

  live_are : AreLines w live
  live_are = lines_dropped w old.kept old.lines right

  first_height : length (standing_rows w first) ≡ b
  first_height = sym (lines_height w first (lines_taken w b live live_are)) ∙ height_counted first
      ∙ ap (sum_by rows_by) (sym (take-map line_count b live)) ∙ blank_height b (take b (line_counts live)) o.blank

  whole : standing_rows w first ++ standing_rows w own ≡ replicate b (blank_row w) ++ rows_in l.live.segments
  whole = sym (rows-append w first own) ∙ ap (standing_rows w) (take-append-drop b live) ∙ stand.live_is

  blank_rows : standing_rows w first ≡ replicate b (blank_row w)
  blank_rows = sym (take_at (standing_rows w first) (standing_rows w own) b first_height) ∙ ap (take b) whole
      ∙ take_at (replicate b (blank_row w)) (rows_in l.live.segments) b (length-replicate b (blank_row w))

  own_rows : rows_in o.parts ≡ standing_rows w own
  own_rows = sym (grouped_rows o.parts) ∙ ap rows_in (sym o.segments_are) ∙ sym (drop_at (replicate b (blank_row w)) (rows_in l.live.segments) b (length-replicate b (blank_row w)))
      ∙ ap (drop b) (sym whole) ∙ drop_at (standing_rows w first) (standing_rows w own) b first_height

  own_parts : o.parts ≡ map (own_of w) own
  own_parts = parts_own w o.parts own (o.parts_are ∙ drop-map line_count b live) own_rows (lines_dropped w b live live_are)

  blanks_then : length (cut_bars w w' first) ≡ b
  blanks_then = bars_count w w' first ∙ ap length (ap (recut_all w') blank_rows ∙ recut_blanks w' w b) ∙ length-replicate b (blank_row w')

  abbrev parts_then : List BarRows
  parts_then = singles (map (recut_bar w') o.parts)

  own_then : AreOwned (map one (cut_bars w w' first ++ cut_bars w w' own)) (recut_lists w' l).live
  own_then =
      let xs = cut_bars w w' first in
      let ys = cut_bars w w' own in
      let size : length (map one xs) ≡ b = length-map xs one ∙ blanks_then in
      let whole_are = map-append one xs ys in
      let parts_have : list_all has_row (map row_count o.parts) ≡ true = ap (list_all has_row) o.parts_are ∙ o.some in
      record {
        blank = ap (λ cs. map rows_by (take b cs)) whole_are ∙ ap (map rows_by) (take_at (map one xs) (map one ys) b size) ∙ ones_rows xs ∙ ap (λ n. replicate n 1) blanks_then;
        parts = parts_then;
        parts_are = ap (λ ps. map row_count (singles (map (recut_bar w') ps))) own_parts ∙ singles_counts w w' own ∙ sym (ap (drop b) whole_are ∙ drop_at (map one xs) (map one ys) b size);
        segments_are = ap (map (recut_bar w')) o.segments_are ∙ recut_grouped w' o.parts ∙ sym (grouped_singles (map (recut_bar w') o.parts) (recut_have w' o.parts parts_have));
        some = rows_taken b (map one (xs ++ ys)) (ones_have (xs ++ ys));
      }

  pub cut_owned : (n : ℕ) × AreOwned (line_counts (drop n d)) (recut_lists w' l).live
  cut_owned = (upper, subst (λ cs. AreOwned cs (recut_lists w' l).live) (sym (counts ∙ ap (map one) (bars_split b live))) own_then)

-- ---- no line

no_parts : (ps : List BarRows) → list_all has_row (map row_count ps) ≡ true → segments_height ps ≡ 0 → ps ≡ []
no_parts [] e h = refl
no_parts (s ∷ ps) e h =
    let p = and_parts (has_row (row_count s)) (list_all has_row (map row_count ps)) e in
    absurd (omega (arith, ltb-true 0 (length s.rows) p.0, h, sum_by-cons (λ (s : BarRows). length s.rows) s ps))

pub none_cut_owned : (w' : ℕ) (l : Lists) (cs : List RowCount) → AreOwned cs l.live → live_height l.live ≡ 0 → AreOwned [] (recut_lists w' l).live
none_cut_owned w' l cs o h =
    let parts_have : list_all has_row (map row_count o.parts) ≡ true = ap (list_all has_row) o.parts_are ∙ o.some in
    let sum : segments_height l.live.segments ≡ segments_height o.parts = ap segments_height o.segments_are ∙ grouped_height o.parts in
    let none : o.parts ≡ [] = no_parts o.parts parts_have (omega (arith, h, sum)) in
    let segments : l.live.segments ≡ [] = o.segments_are ∙ ap grouped none ∙ grouped-none in
    let blanks : l.live.blanks ≡ 0 = omega (arith, h) in
    subst (λ ss. let v : Live = record { blanks = l.live.blanks; segments = map (recut_bar w') ss } in AreOwned [] v) (sym segments)
    (subst (λ n. let v : Live = record { blanks = n; segments = [] } in AreOwned [] v) (sym blanks) (none_owned [] refl))

-- ---- rows that scroll away

joined_after : (x : BarRows) (g : List BarRows) (n : ℕ) → length x.rows ≡ 1 → segments_after (suc n) (joined x g) ≡ segments_after n g
joined_after x [] n e = let test : nat_le (length x.rows) (suc n) ≡ true = le-leb (length x.rows) (suc n) (omega (arith, e)) in rw test refl
joined_after x (s ∷ ss) n e = elim (cases_Bool (x.bar == s.bar)) [
  | inl same ↦
      let total : length (x.rows ++ s.rows) ≡ suc (length s.rows) = length-append x.rows s.rows ∙ omega (arith, e) in
      elim (cases_lt n (length s.rows)) [
        | inl less ↦
            let a : nat_le (length (x.rows ++ s.rows)) (suc n) ≡ false = lt-leb (length (x.rows ++ s.rows)) (suc n) (omega (arith, total, less)) in
            let b : nat_le (length s.rows) n ≡ false = lt-leb (length s.rows) n less in
            let rest : drop (suc n) (x.rows ++ s.rows) ≡ drop n s.rows =
            ap (λ k. drop k (x.rows ++ s.rows)) (let k : suc n ≡ 1 + n = omega arith in k) ∙ sym (drop-drop n 1 (x.rows ++ s.rows)) ∙ ap (drop n) (drop_at x.rows s.rows 1 e) in
            rw (same, a, b) (ap (λ rs. of_bar x.bar rs ∷ ss) rest ∙ ap (λ k. of_bar k (drop n s.rows) ∷ ss) (eqb-true x.bar s.bar same))
        | inr most ↦
            let a : nat_le (length (x.rows ++ s.rows)) (suc n) ≡ true = le-leb (length (x.rows ++ s.rows)) (suc n) (omega (arith, total, most)) in
            let b : nat_le (length s.rows) n ≡ true = le-leb (length s.rows) n most in
            rw (same, a, b) (ap (λ k. segments_after k ss) (omega (arith, total)))
      ]
  | inr other ↦
      let test : nat_le (length x.rows) (suc n) ≡ true = le-leb (length x.rows) (suc n) (omega (arith, e)) in
      rw (other, test) (ap (λ k. segments_after k (s ∷ ss)) (omega (arith, e)))
]

joined_stays : (x : BarRows) (g : List BarRows) → length x.rows ≡ 1 → segments_after 0 (joined x g) ≡ joined x g
joined_stays x [] e = let test : nat_le (length x.rows) 0 ≡ false = lt-leb (length x.rows) 0 (omega (arith, e)) in rw test refl
joined_stays x (s ∷ ss) e = elim (cases_Bool (x.bar == s.bar)) [
  | inl same ↦ let test : nat_le (length (x.rows ++ s.rows)) 0 ≡ false = lt-leb (length (x.rows ++ s.rows)) 0 (omega (arith, e, length-append x.rows s.rows)) in rw (same, test) refl
  | inr other ↦ let test : nat_le (length x.rows) 0 ≡ false = lt-leb (length x.rows) 0 (omega (arith, e)) in rw (other, test) refl
]

none_left : (n : ℕ) → drop {A = BarRows} n [] ≡ []
none_left zero = refl
none_left (suc n) = refl

pub grouped_after : (n : ℕ) (ps : List BarRows) (bs : List ℕ) → map row_count ps ≡ map one bs → segments_after n (grouped ps) ≡ grouped (drop n ps)
grouped_after n [] bs e = ap (segments_after n) grouped-none ∙ sym grouped-none ∙ ap grouped (sym (none_left n))
grouped_after n (p ∷ ps) [] e = absurd (omega (arith, ap length e))
grouped_after zero (p ∷ ps) (x ∷ bs) e =
    let size : length p.rows ≡ 1 = ap (λ cs. rows_by (get_or cs 0 (row_count p))) e in
    ap (segments_after 0) (grouped-cons p ps) ∙ joined_stays p (grouped ps) size ∙ sym (grouped-cons p ps)
grouped_after (suc n) (p ∷ ps) (x ∷ bs) e =
    let size : length p.rows ≡ 1 = ap (λ cs. rows_by (get_or cs 0 (row_count p))) e in
    ap (segments_after (suc n)) (grouped-cons p ps) ∙ joined_after p (grouped ps) n size ∙ grouped_after n ps bs (ap (drop 1) e)

owned_after : (bs : List ℕ) (live : Live) → AreOwned (map one bs) live → live.blanks ≤ length bs → (g : ℕ) →
    AreOwned (drop g (map one bs)) (record { blanks = live.blanks - g; segments = segments_after (g - live.blanks) live.segments })
owned_after bs live o in_bars g =
    let k = live.blanks - g in
    let m = g - live.blanks in
    let left = drop g bs in
    let front : length (take k left) ≡ k = omega (arith, length-take k left, length-drop g bs, in_bars) in
    let blank : map rows_by (take k (drop g (map one bs))) ≡ replicate k 1 =
    ap (λ cs. map rows_by (take k cs)) (drop-map one g bs) ∙ ap (map rows_by) (take-map one k left) ∙ ones_rows (take k left) ∙ ap (λ n. replicate n 1) front in
    let both : drop k (drop g (map one bs)) ≡ drop m (drop live.blanks (map one bs)) =
    drop-drop k g (map one bs) ∙ ap (λ n. drop n (map one bs)) (let n : g + k ≡ live.blanks + m = omega arith in n) ∙ sym (drop-drop m live.blanks (map one bs)) in
    let own : map row_count o.parts ≡ map one (drop live.blanks bs) = o.parts_are ∙ drop-map one live.blanks bs in
    record {
      blank = blank;
      parts = drop m o.parts;
      parts_are = sym (drop-map row_count m o.parts) ∙ ap (drop m) o.parts_are ∙ sym both;
      segments_are = ap (segments_after m) o.segments_are ∙ grouped_after m o.parts (drop live.blanks bs) own;
      some = ap (list_all has_row) both ∙ rows_taken m (drop live.blanks (map one bs)) o.some;
    }

-- the last lines, as many as are live
last_dropped : (m k : ℕ) (ls : List StandingLine) → length (drop m ls) ≡ k → drop (length ls - k) ls ≡ drop m ls
last_dropped m k ls e = elim (cases_lt (length ls) m) [
  | inl less ↦
      let none : length (drop m ls) ≡ 0 = length-drop m ls ∙ omega arith in
      nil_from_length (drop (length ls - k) ls) (length-drop (length ls - k) ls ∙ omega (arith, e, none)) ∙ sym (nil_from_length (drop m ls) none)
  | inr most ↦ ap (λ n. drop n ls) (omega (arith, e, length-drop m ls))
]

module _ (w' h live : ℕ) (l : Lists) (d : List StandingLine) (single : heights_of d ≡ replicate (length d) 1) (n : ℕ) (o : AreOwned (line_counts (drop n d)) (recut_lists w' l).live)
    (count : live ≡ live_height (settled_whole w' h (recut_lists w' l)).live) where
  abbrev cut : Lists
  cut = recut_lists w' l

  abbrev whole_live : Live
  whole_live = (settled_whole w' h cut).live

  abbrev gone : ℕ
  gone = (cut.reach - h) - (length cut.above + length cut.kept)

  abbrev bars_left : List ℕ
  bars_left = line_bars (drop n d)

  ones_left : line_counts (drop n d) ≡ map one bars_left
  ones_left = counts_of_bars (drop n d) (single_dropped n d single)

  as_ones : AreOwned (map one bars_left) cut.live
  as_ones = subst (λ cs. AreOwned cs cut.live) ones_left o

  blanks_left : cut.live.blanks ≤ length bars_left
  blanks_left = omega (arith, owned_height (map one bars_left) cut.live as_ones, ones_height bars_left)

  scrolled : AreOwned (drop gone (map one bars_left)) whole_live
  scrolled = owned_after bars_left cut.live as_ones blanks_left gone

  counts_then : line_counts (drop (n + gone) d) ≡ drop gone (map one bars_left)
  counts_then = ap line_counts (sym (drop-drop gone n d)) ∙ sym (drop-map line_count gone (drop n d)) ∙ ap (drop gone) ones_left

  size : length (drop (n + gone) d) ≡ live
  size =
      let rows : sum_by rows_by (drop gone (map one bars_left)) ≡ live_height whole_live = owned_height (drop gone (map one bars_left)) whole_live scrolled in
      let ones : sum_by rows_by (drop gone (map one bars_left)) ≡ length (drop gone bars_left) = ap (sum_by rows_by) (drop-map one gone bars_left) ∙ ones_height (drop gone bars_left) in
      sym (length-map (drop (n + gone) d) line_count) ∙ ap length (counts_then ∙ drop-map one gone bars_left) ∙ length-map (drop gone bars_left) one ∙ sym ones ∙ rows ∙ sym count

  pub settled_owned : AreOwned (line_counts (drop (length d - live) d)) whole_live
  settled_owned = subst (λ ls. AreOwned (line_counts ls) whole_live) (sym (last_dropped (n + gone) live d size)) (subst (λ cs. AreOwned cs whole_live) (sym counts_then) scrolled)
