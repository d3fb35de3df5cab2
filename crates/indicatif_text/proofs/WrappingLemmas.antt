-- That rows counted by runs of characters that take as many columns each are the rows of the line.
use Rattle.std.proofs.Common.{◌≡◌, ℕ, zero, suc, ◌*◌, ◌+◌, ◌<◌, ◌≤◌, Bool, true, false, List, [], ◌∷◌, ◌++◌, ◌||◌, length, refl, sym, ◌∙◌, ap, subst, arith, eqb, inl, inr, if◌then◌else◌}
use Rattle.std.specs.Prelude.{All, nat_le, nat_lt, take_while, ◌==◌, chars}
use Rattle.std.specs.List.{list_any}
use Rattle.std.specs.Str.{IsUtf8}
use Rattle.std.proofs.Math.Utf8.{encode}
use Rattle.std.proofs.lemmas.Str.{chars_past_char, IsUtf8-past_char, chars-nil}
use Rattle.std.proofs.lemmas.List.{length-map, nil_from_length}
use Rattle.std.proofs.lemmas.List.Sums.{sum_by_push}
use Rattle.std.proofs.lemmas.Bool.{cases_Bool, eqb-true, cond_both, le-leb, lt-leb, ne_eqb, lt-ltb, le-ltb}
use Rattle.std.proofs.Math.Nat.{mul-suc, mul-le-mul_left}
use Rattle.std.proofs.lemmas.List.Elements.{All-head, All-tail}
use Rattle.indicatif_text.specs.Inside.Runs.{HasWidth, PassesRun, EndsAt, Here, Later}
use Rattle.indicatif_text.specs.Columns.{Glyph, width_of, glyph_width, glyphs_of, columns_in, pieces_after, pieces_of, row_of, rows_of, visible, columns_of_last, last_columns, has_wide}

-- ---- rows by columns

-- how many rows visible characters take, where a number of columns of the first is taken
abbrev pub heights : ℕ → ℕ → List ℕ → ℕ
heights w n [] = 1
heights w n (c ∷ cs) =
    if width_of c == 0 then heights w n cs
    else if nat_le (n + width_of c) w then heights w (n + width_of c) cs
    else 1 + heights w (width_of c) cs

-- the columns of the last row
abbrev pub lasts : ℕ → ℕ → List ℕ → ℕ
lasts w n [] = n
lasts w n (c ∷ cs) =
    if width_of c == 0 then lasts w n cs
    else if nat_le (n + width_of c) w then lasts w (n + width_of c) cs
    else lasts w (width_of c) cs

abbrev pub some_wider : ℕ → List ℕ → Bool
some_wider w cs = list_any (λ c. nat_lt w (width_of c)) cs

pub pieces_some : (w : ℕ) (piece : List Glyph) (gs : List Glyph) → 0 < length (pieces_after w piece gs)
pieces_some w piece [] = omega arith
pieces_some w piece (g ∷ gs) =
    cond_both (nat_le (columns_in piece + glyph_width g) w) (pieces_after w (piece ++ g ∷ []) gs) (piece ∷ pieces_after w (g ∷ []) gs) (λ ps. 0 < length ps)
    (λ e. pieces_some w (piece ++ g ∷ []) gs) (λ e. omega arith)

pub last_more : (p : List Glyph) (ps : List (List Glyph)) → 0 < length ps → columns_of_last (p ∷ ps) ≡ columns_of_last ps
last_more p [] some = absurd (omega arith)
last_more p (q ∷ ps) some = refl

-- the pieces' number and the last one's columns
pub record Pieces (w : ℕ) (piece : List Glyph) (cs : List ℕ) : Type 0 where
  pub count : length (pieces_after w piece (glyphs_of cs)) ≡ heights w (columns_in piece) cs
  last : columns_of_last (pieces_after w piece (glyphs_of cs)) ≡ lasts w (columns_in piece) cs

pub pieces : (w : ℕ) (piece : List Glyph) (cs : List ℕ) → Pieces w piece cs
pieces w piece [] = record { count = refl; last = refl }
pieces w piece (c ∷ cs) =
    let g : Glyph = record { base = c; joiners = take_while (λ d. width_of d == 0) cs } in
    elim (cases_Bool (eqb (width_of c) 0)) [
      | inl none ↦ let rest = pieces w piece cs in record { count = rw none rest.count; last = rw none rest.last }
      | inr some ↦ elim (cases_Bool (nat_le (columns_in piece + width_of c) w)) [
        | inl fits ↦
            let rest = pieces w (piece ++ g ∷ []) cs in
            let n : columns_in (piece ++ g ∷ []) ≡ columns_in piece + width_of c = sum_by_push glyph_width piece g in
            record { count = rw (some, fits) (rest.count ∙ ap (λ k. heights w k cs) n); last = rw (some, fits) (rest.last ∙ ap (λ k. lasts w k cs) n) }
        | inr over ↦
            let rest = pieces w (g ∷ []) cs in
            let n : columns_in (g ∷ []) ≡ width_of c = omega arith in
            record {
              count = rw (some, over) (omega (arith, rest.count, ap (λ k. heights w k cs) n));
              last = rw (some, over) (last_more piece (pieces_after w (g ∷ []) (glyphs_of cs)) (pieces_some w (g ∷ []) (glyphs_of cs)) ∙ rest.last ∙ ap (λ k. lasts w k cs) n);
            }
      ]
    ]

-- what a scan has still to read of a line
pub record MeasuredTo (w height column : ℕ) (line rest : List ℕ) : Type 0 where
  pub rows_are : length (rows_of w line) + 1 ≡ height + heights w column rest
  pub last_is : columns_of_last (pieces_of w (glyphs_of (visible line))) ≡ lasts w column rest
  pub wide_is : has_wide w line ≡ some_wider w rest

pub reads_whole : (w : ℕ) (line : List ℕ) → MeasuredTo w 1 0 line (visible line)
unfolding rows_of has_wide
reads_whole w line =
    let p = pieces w [] (visible line) in
    record { rows_are = omega (arith, p.count, length-map (pieces_of w (glyphs_of (visible line))) (row_of w)); last_is = p.last; wide_is = refl }

-- ---- a run, at once

-- the same rows but for a number of whole ones before
record Ahead (w n rows m : ℕ) (before after : List ℕ) : Type 0 where
  taller : heights w n before ≡ rows + heights w m after
  same_last : lasts w n before ≡ lasts w m after

-- one character more in the row
one_more : (w n k c : ℕ) (cs : List ℕ) → width_of c ≡ k → n + k ≤ w → Ahead w n 0 (n + k) (c ∷ cs) cs
one_more w n k c cs takes fits = elim (cases_Bool (eqb (width_of c) 0)) [
  | inl none ↦
      let zero_wide : width_of c ≡ 0 = eqb-true (width_of c) 0 none in
      let same : n ≡ n + k = omega (arith, zero_wide, takes) in
      record { taller = rw none (ap (λ m. heights w m cs) same ∙ omega arith); same_last = rw none (ap (λ m. lasts w m cs) same) }
  | inr some ↦
      let test : nat_le (n + width_of c) w ≡ true = le-leb (n + width_of c) w (omega (arith, takes, fits)) in
      let place : n + width_of c ≡ n + k = omega (arith, takes) in
      record {
        taller = rw (some, test) (ap (λ m. heights w m cs) place ∙ omega arith);
        same_last = rw (some, test) (ap (λ m. lasts w m cs) place);
      }
]

-- one that begins the next row
one_down : (w n k c : ℕ) (cs : List ℕ) → width_of c ≡ k → 0 < k → w < n + k → Ahead w n 1 k (c ∷ cs) cs
one_down w n k c cs takes wide over =
    let some : eqb (width_of c) 0 ≡ false = ne_eqb (width_of c) 0 (λ e. omega (arith, e, takes, wide)) in
    let test : nat_le (n + width_of c) w ≡ false = lt-leb (n + width_of c) w (omega (arith, takes, over)) in
    record { taller = rw (some, test) (ap (λ m. 1 + heights w m cs) takes); same_last = rw (some, test) (ap (λ m. lasts w m cs) takes) }

ahead_both : (w n p m q r k : ℕ) (before between after : List ℕ) → p + q ≡ r → Ahead w n p m before between → Ahead w m q k between after → Ahead w n r k before after
ahead_both w n p m q r k before between after e a b = record { taller = omega (arith, e, a.taller, b.taller); same_last = a.same_last ∙ b.same_last }

-- a run of any length, at any column, of characters of any columns that a row has
run_ahead : (w n k q r : ℕ) (run rest : List ℕ) → All (HasWidth k) run → EndsAt w n k (length run) q r → Ahead w n q r (run ++ rest) rest
run_ahead w n k q r [] rest takes (Here rows_is place_is fits) =
    let place : n ≡ r = omega (arith, place_is) in
    subst (λ m. Ahead w n q m rest rest) place (record { taller = omega (arith, rows_is); same_last = refl })
run_ahead w n k q r [] rest takes (Later first each turns last room full row row_full some fits all rows_is place_is) = absurd (omega (arith, all, some))
run_ahead w n k q r (c ∷ run) rest takes (Here rows_is place_is fits) =
    let step : k * suc (length run) ≡ k + k * length run = omega (arith, mul-suc k (length run)) in
    let here = one_more w n k c (run ++ rest) (All-head (HasWidth k) c run takes) (omega (arith, step, place_is, fits)) in
    let more = run_ahead w (n + k) k q r run rest (All-tail (HasWidth k) c run takes) (Here rows_is (omega (arith, step, place_is)) fits) in
    ahead_both w n 0 (n + k) q q r (c ∷ run ++ rest) (run ++ rest) rest (omega arith) here more
run_ahead w n k q r (c ∷ run) rest takes (Later (suc first) each turns last room full row row_full some fits all rows_is place_is) =
    let step : k * suc first ≡ k + k * first = omega (arith, mul-suc k first) in
    let here = one_more w n k c (run ++ rest) (All-head (HasWidth k) c run takes) (omega (arith, step, room)) in
    let more = run_ahead w (n + k) k q r run rest (All-tail (HasWidth k) c run takes)
    (Later first each turns last (omega (arith, step, room)) (omega (arith, step, full)) row row_full some fits (omega (arith, all)) rows_is place_is) in
    ahead_both w n 0 (n + k) q q r (c ∷ run ++ rest) (run ++ rest) rest (omega arith) here more
run_ahead w n k q r (c ∷ run) rest takes (Later zero zero turns last room full row row_full some fits all rows_is place_is) = absurd (omega (arith, some, fits))
run_ahead w n k q r (c ∷ run) rest takes (Later zero (suc each) zero last room full row row_full some fits all rows_is place_is) =
    let down = one_down w n k c (run ++ rest) (All-head (HasWidth k) c run takes) (omega (arith, room, full)) (omega (arith, full)) in
    let count : suc (length run) ≡ last = omega (arith, all) in
    let place : k + k * length run ≡ r = omega (arith, mul-suc k (length run), ap (λ m. k * m) count, place_is) in
    let within : r ≤ w = omega (arith, place_is, mul-le-mul_left k fits, row) in
    let more = run_ahead w k k 0 r run rest (All-tail (HasWidth k) c run takes) (Here refl place within) in
    ahead_both w n 1 k 0 q r (c ∷ run ++ rest) (run ++ rest) rest (omega (arith, rows_is)) down more
run_ahead w n k q r (c ∷ run) rest takes (Later zero (suc each) (suc turns) last room full row row_full some fits all rows_is place_is) =
    let down = one_down w n k c (run ++ rest) (All-head (HasWidth k) c run takes) (omega (arith, room, full)) (omega (arith, full)) in
    let step : k * suc each ≡ k + k * each = omega (arith, mul-suc k each) in
    let count : length run ≡ each + suc each * turns + last = omega (arith, all, mul-suc (suc each) turns) in
    let more = run_ahead w k k (turns + 1) r run rest (All-tail (HasWidth k) c run takes)
    (Later each (suc each) turns last (omega (arith, step, row)) (omega (arith, step, row_full)) row row_full some fits count refl place_is) in
    ahead_both w n 1 k (turns + 1) q r (c ∷ run ++ rest) (run ++ rest) rest (omega (arith, rows_is)) down more

none_wider : (w k : ℕ) (run rest : List ℕ) → k ≤ w → All (HasWidth k) run → some_wider w (run ++ rest) ≡ some_wider w rest
none_wider w k [] rest fits takes = refl
none_wider w k (c ∷ run) rest fits takes =
    let columns : width_of c ≡ k = All-head (HasWidth k) c run takes in
    let same : nat_lt w (width_of c) ≡ false = le-ltb w (width_of c) (omega (arith, columns, fits)) in
    ap (λ b. b || some_wider w (run ++ rest)) same ∙ none_wider w k run rest fits (All-tail (HasWidth k) c run takes)

one_wider : (w k : ℕ) (run rest : List ℕ) → w < k → 0 < length run → All (HasWidth k) run → some_wider w (run ++ rest) ≡ true
one_wider w k [] rest over some takes = absurd (omega (arith, some))
one_wider w k (c ∷ run) rest over some takes =
    let columns : width_of c ≡ k = All-head (HasWidth k) c run takes in
    let test : nat_lt w (width_of c) ≡ true = lt-ltb w (width_of c) (omega (arith, columns, over)) in
    ap (λ b. b || some_wider w (run ++ rest)) test

module _ (w height column k n : ℕ) (line before after : List ℕ) (reads : MeasuredTo w height column line before) (p : PassesRun k before n after) where
  pub reads_run : (q r : ℕ) → k ≤ w → EndsAt w column k n q r → MeasuredTo w (height + q) r line after
  reads_run q r fits ends =
      let at = subst (λ m. EndsAt w column k m q r) (sym p.many) ends in
      let a = subst (λ cs. Ahead w column q r cs after) (sym p.whole) (run_ahead w column k q r p.run after p.takes at) in
      record {
        rows_are = omega (arith, reads.rows_are, a.taller);
        last_is = reads.last_is ∙ a.same_last;
        wide_is = reads.wide_is ∙ ap (some_wider w) p.whole ∙ none_wider w k p.run after fits p.takes;
      }

  pub reads_wide : w < k → 0 < n → has_wide w line ≡ true
  reads_wide over some = reads.wide_is ∙ ap (some_wider w) p.whole ∙ one_wider w k p.run after over (omega (arith, p.many, some)) p.takes

-- a row has room for a character that is no wider
pub has_room : (w k each : ℕ) → k ≤ w → w < k * each + k → 0 < each
has_room w k zero fits full = absurd (omega (arith, fits, full))
has_room w k (suc each) fits full = omega arith

-- ---- the end of the line

-- the whole line was read
pub record Whole (w height column : ℕ) (line : List ℕ) : Type 0 where
  pub narrow : has_wide w line ≡ false
  pub height_is : height ≡ length (rows_of w line)
  pub last_is : column ≡ last_columns w line

pub reads_end : (w height column : ℕ) (line rest : List ℕ) → rest ≡ [] → MeasuredTo w height column line rest → Whole w height column line
unfolding last_columns
reads_end w height column line rest e r =
    let q : MeasuredTo w height column line [] = subst (MeasuredTo w height column line) e r in
    record { narrow = q.wide_is; height_is = omega (arith, q.rows_are); last_is = sym q.last_is }

-- ---- a text that is read character by character

module _ (bs rest : List ℕ) (c : ℕ) (u : IsUtf8 bs) (e : bs ≡ encode c ++ rest) where
  pub past : chars bs ≡ c ∷ chars rest
  past = chars_past_char bs rest c u e

  pub past_utf8 : IsUtf8 rest
  past_utf8 = IsUtf8-past_char bs rest c u e

pub chars_none : (bs : List ℕ) → length bs ≡ 0 → chars bs ≡ []
chars_none bs e = ap chars (nil_from_length bs e) ∙ chars-nil
