-- Neighbours of one bar as one segment: what is left behind the first ones.
use Rattle.std.proofs.Common.{◌≡◌, ℕ, zero, suc, ◌+◌, ◌<◌, ◌≤◌, true, false, List, [], ◌∷◌, ◌++◌, length, map, take, drop, get_or, refl, sym, ◌∙◌, ap, arith, append_assoc, inl, inr, if◌then◌else◌}
use Rattle.std.specs.Prelude.{◌==◌, ◌||◌, fold}
use Rattle.std.specs.List.{list_any}
use Rattle.std.proofs.lemmas.Bool.{cases_Bool, eqb-true, eq-eqb, ne_eqb, false≢true}
use Rattle.std.proofs.lemmas.List.{nil_from_length, length-drop}
use Rattle.indicatif_term.specs.Lists.{BarRows, onto_segments, grouped, is_first, has_rows}
use Rattle.indicatif_term.specs.Counts.{RowCount, row_count, line_counts}
use Rattle.indicatif_term.specs.Inside.Owned.{run_length, through}
use Rattle.indicatif_term.specs.declared.engine.remembered.StandingLine.{StandingLine}

-- ---- lines of a bar

one_more : (ls : List StandingLine) (i : ℕ) (x : StandingLine) → i < length ls → get_or ls i x ≡ x → drop i ls ≡ x ∷ drop (i + 1) ls
one_more [] i x h e = absurd (omega arith)
one_more (y ∷ ls) zero x h e = ap (λ z. z ∷ ls) e
one_more (y ∷ ls) (suc i) x h e = one_more ls i x (omega arith) e ∙ ap (λ n. x ∷ drop n (y ∷ ls)) (let n : suc (i + 1) ≡ suc i + 1 = omega arith in n)

pub run_next : (bar i : ℕ) (ls : List StandingLine) (x : StandingLine) → i < length ls → get_or ls i x ≡ x → x.bar ≡ bar →
    run_length bar (line_counts (drop i ls)) ≡ suc (run_length bar (line_counts (drop (i + 1) ls)))
run_next bar i ls x h e same = ap (λ xs. run_length bar (line_counts xs)) (one_more ls i x h e) ∙ rw (eq-eqb x.bar bar same) refl

pub run_stop : (bar i : ℕ) (ls : List StandingLine) (x : StandingLine) → i < length ls → get_or ls i x ≡ x → (x.bar ≡ bar → ⊥) → run_length bar (line_counts (drop i ls)) ≡ 0
run_stop bar i ls x h e other = ap (λ xs. run_length bar (line_counts xs)) (one_more ls i x h e) ∙ rw (ne_eqb x.bar bar other) refl

pub run_end : (bar i : ℕ) (ls : List StandingLine) → length ls ≤ i → run_length bar (line_counts (drop i ls)) ≡ 0
run_end bar i ls h = ap (λ xs. run_length bar (line_counts xs)) (nil_from_length (drop i ls) (omega (arith, length-drop i ls)))

pub through_some : (n : ℕ) (cs : List RowCount) → 0 < n → 0 < length cs → 0 < through n cs
through_some zero cs h k = absurd (omega arith)
through_some (suc n) [] h k = absurd (omega arith)
through_some (suc zero) (c ∷ cs) h k = omega arith
through_some (suc (suc n)) (c ∷ cs) h k = omega arith

pub run_within : (bar : ℕ) (cs : List RowCount) → run_length bar cs ≤ length cs
run_within bar [] = omega arith
run_within bar (c ∷ cs) = elim (cases_Bool (c.bar == bar)) [
  | inl e ↦ rw e (let r : run_length bar cs ≤ length cs = run_within bar cs in omega arith)
  | inr e ↦ rw e (omega arith)
]

pub through_within : (n : ℕ) (cs : List RowCount) → through n cs ≤ length cs
through_within zero cs = omega arith
through_within (suc n) [] = omega arith
through_within (suc zero) (c ∷ cs) = let r : run_length c.bar cs ≤ length cs = run_within c.bar cs in omega arith
through_within (suc (suc n)) (c ∷ cs) = let r : through (suc n) cs ≤ length cs = through_within (suc n) cs in omega arith

-- the first n, where the one before the others is known
pub through_at : (k : ℕ) (ls : List StandingLine) (x : StandingLine) → k < length ls → get_or ls k x ≡ x →
    (k + 1) + run_length x.bar (line_counts (drop (k + 1) ls)) ≡ through (k + 1) (line_counts ls)
through_at k [] x h e = absurd (omega arith)
through_at zero (y ∷ ls) x h e =
    let p : 0 + 1 + run_length x.bar (line_counts ls) ≡ suc (run_length x.bar (line_counts ls)) = omega arith in
    p ∙ ap (λ (z : StandingLine). suc (run_length z.bar (line_counts ls))) (sym e)
through_at (suc k) (y ∷ ls) x h e =
    let n : k + 1 ≡ suc k = omega arith in
    let m : suc k + 1 ≡ suc (suc k) = omega arith in
    let r : (k + 1) + run_length x.bar (line_counts (drop (k + 1) ls)) ≡ through (k + 1) (line_counts ls) = through_at k ls x (omega arith) e in
    let s : suc k + run_length x.bar (line_counts (drop (suc k) ls)) ≡ through (suc k) (line_counts ls) = rw n at r in
    let t : suc (suc k) + run_length x.bar (line_counts (drop (suc k) ls)) ≡ suc (through (suc k) (line_counts ls)) = omega (arith, s) in
    rw m t

-- ---- one segment in front of others

abbrev pub joined : BarRows → List BarRows → List BarRows
joined x [] = x ∷ []
joined x (s ∷ ss) = if x.bar == s.bar then record { bar = x.bar; rows = x.rows ++ s.rows } ∷ ss else x ∷ s ∷ ss

joined-onto : (x y : BarRows) (ss : List BarRows) → onto_segments (joined x ss) y ≡ joined x (onto_segments ss y)
joined-onto x y [] = refl
joined-onto x y (t ∷ []) = elim (cases_Bool (x.bar == t.bar)) [
  | inl e ↦ elim (cases_Bool (t.bar == y.bar)) [
    | inl f ↦
        let g : (x.bar == y.bar) ≡ true = ap (λ b. b == y.bar) (eqb-true x.bar t.bar e) ∙ f in
        rw (e, f, g) (rw e (ap (λ rs. let s : BarRows = record { bar = x.bar; rows = rs } in s ∷ []) (append_assoc x.rows t.rows y.rows)))
    | inr f ↦
        let g : (x.bar == y.bar) ≡ false = ap (λ b. b == y.bar) (eqb-true x.bar t.bar e) ∙ f in
        rw (e, f, g) (rw e refl)
  ]
  | inr e ↦ elim (cases_Bool (t.bar == y.bar)) [ inl f ↦ rw (e, f) (rw e refl) | inr f ↦ rw (e, f) (rw e refl) ]
]
joined-onto x y (t ∷ u ∷ ts) = elim (cases_Bool (x.bar == t.bar)) [ inl e ↦ rw e refl | inr e ↦ rw e refl ]

joined-fold : (x : BarRows) (acc xs : List BarRows) → fold onto_segments (joined x acc) xs ≡ joined x (fold onto_segments acc xs)
joined-fold x acc [] = refl
joined-fold x acc (y ∷ ys) = ap (λ a. fold onto_segments a ys) (joined-onto x y acc) ∙ joined-fold x (onto_segments acc y) ys

pub grouped-none : grouped [] ≡ []
unfolding grouped
grouped-none = refl

pub grouped-cons : (x : BarRows) (xs : List BarRows) → grouped (x ∷ xs) ≡ joined x (grouped xs)
unfolding grouped
grouped-cons x xs = joined-fold x [] xs

-- the first segment is of the first bar
joined_head : (x : BarRows) (ss : List BarRows) → (t : BarRows) × (ts : List BarRows) × (joined x ss ≡ t ∷ ts) × (t.bar ≡ x.bar)
joined_head x [] = (x, [], refl, refl)
joined_head x (s ∷ ss) = elim (cases_Bool (x.bar == s.bar)) [
  | inl e ↦ let t : BarRows = record { bar = x.bar; rows = x.rows ++ s.rows } in (t, ss, rw e refl, refl)
  | inr e ↦ (x, s ∷ ss, rw e refl, refl)
]

pub grouped_head : (x : BarRows) (xs : List BarRows) → (t : BarRows) × (ts : List BarRows) × (grouped (x ∷ xs) ≡ t ∷ ts) × (t.bar ≡ x.bar)
grouped_head x xs = let h = joined_head x (grouped xs) in (h.0, h.1, grouped-cons x xs ∙ h.2, h.3)

pub grouped_some : (xs : List BarRows) → 0 < length xs → 0 < length (grouped xs)
grouped_some [] h = absurd (omega arith)
grouped_some (x ∷ xs) h = let g = grouped_head x xs in let n : length (grouped (x ∷ xs)) ≡ suc (length g.1) = ap length g.2 in omega arith

pub grouped_nil : (xs : List BarRows) → length (grouped xs) ≡ 0 → length xs ≡ 0
grouped_nil [] h = refl
grouped_nil (x ∷ xs) h = let some : 0 < length (grouped (x ∷ xs)) = grouped_some (x ∷ xs) (omega arith) in absurd (omega arith)

-- ---- what is left behind the first segment

not_same : (a b c : ℕ) → (a == b) ≡ false → c ≡ a → (b == c) ≡ false
not_same a b c f q = ne_eqb b c (λ e. false≢true (sym f ∙ eq-eqb a b (sym q ∙ sym e)))

joined_rest : (x s : BarRows) (ss : List BarRows) → (x.bar == s.bar) ≡ true → drop 1 (joined x (s ∷ ss)) ≡ ss
joined_rest x s ss e = rw e refl

joined_other : (x s : BarRows) (ss : List BarRows) → (x.bar == s.bar) ≡ false → drop 1 (joined x (s ∷ ss)) ≡ s ∷ ss
joined_other x s ss e = rw e refl

pub run_drop : (x : BarRows) (xs : List BarRows) → drop 1 (grouped (x ∷ xs)) ≡ grouped (drop (run_length x.bar (map row_count xs)) xs)
run_drop x [] = ap (drop 1) (grouped-cons x [] ∙ ap (joined x) grouped-none) ∙ sym grouped-none
run_drop x (y ∷ ys) =
    let h = grouped_head y ys in
    let whole : grouped (x ∷ y ∷ ys) ≡ joined x (h.0 ∷ h.1) = grouped-cons x (y ∷ ys) ∙ ap (joined x) h.2 in
    elim (cases_Bool (y.bar == x.bar)) [
      | inl e ↦
          let same : y.bar ≡ x.bar = eqb-true y.bar x.bar e in
          let test : (x.bar == h.0.bar) ≡ true = eq-eqb x.bar h.0.bar (sym same ∙ sym h.3) in
          let inner : h.1 ≡ grouped (drop (run_length x.bar (map row_count ys)) ys) = ap (drop 1) (sym h.2) ∙ run_drop y ys ∙ ap (λ b. grouped (drop (run_length b (map row_count ys)) ys)) same in
          rw e (ap (drop 1) whole ∙ joined_rest x h.0 h.1 test ∙ inner)
      | inr e ↦
          let test : (x.bar == h.0.bar) ≡ false = not_same y.bar x.bar h.0.bar e h.3 in
          rw e (ap (drop 1) whole ∙ joined_other x h.0 h.1 test ∙ sym h.2)
    ]

joined_drop : (x s t : BarRows) (ss ts : List BarRows) → s.bar ≡ t.bar → drop (length (joined x (t ∷ ts))) (joined x (s ∷ ss)) ≡ drop (length (t ∷ ts)) (s ∷ ss)
joined_drop x s t ss ts e = elim (cases_Bool (x.bar == s.bar)) [
  | inl f ↦ let g : (x.bar == t.bar) ≡ true = ap (λ b. x.bar == b) (sym e) ∙ f in rw (f, g) refl
  | inr f ↦ let g : (x.bar == t.bar) ≡ false = ap (λ b. x.bar == b) (sym e) ∙ f in rw (f, g) refl
]

-- behind as many segments as the first n have stand those of the lines behind them that aren't of the same bar
pub through_drop : (n : ℕ) (xs : List BarRows) → drop (length (grouped (take n xs))) (grouped xs) ≡ grouped (drop (through n (map row_count xs)) xs)
through_drop zero xs = ap (λ ss. drop (length ss) (grouped xs)) grouped-none
through_drop (suc n) [] = ap (λ ss. drop (length ss) (grouped [])) grouped-none
through_drop (suc zero) (x ∷ xs) =
    let one : length (grouped (x ∷ [])) ≡ 1 = ap length (grouped-cons x [] ∙ ap (joined x) grouped-none) in
    ap (λ k. drop k (grouped (x ∷ xs))) one ∙ run_drop x xs
through_drop (suc (suc n)) (x ∷ []) =
    let one : length (grouped (x ∷ [])) ≡ 1 = ap length (grouped-cons x [] ∙ ap (joined x) grouped-none) in
    ap (λ k. drop k (grouped (x ∷ []))) one ∙ run_drop x []
through_drop (suc (suc n)) (x ∷ y ∷ ys) =
    let a = grouped_head y (take n ys) in
    let b = grouped_head y ys in
    ap (λ k. drop (length k) (grouped (x ∷ y ∷ ys))) (grouped-cons x (y ∷ take n ys) ∙ ap (joined x) a.2)
    ∙ ap (drop (length (joined x (a.0 ∷ a.1)))) (grouped-cons x (y ∷ ys) ∙ ap (joined x) b.2)
    ∙ joined_drop x b.0 a.0 b.1 a.1 (b.3 ∙ sym a.3)
    ∙ ap (λ k. drop (length k) (b.0 ∷ b.1)) (sym a.2) ∙ ap (drop (length (grouped (y ∷ take n ys)))) (sym b.2)
    ∙ through_drop (suc n) (y ∷ ys)

-- ---- a bar's rows

pub first_none : (bar : ℕ) (xs : List BarRows) → run_length bar (map row_count xs) ≡ 0 → is_first bar (grouped xs) ≡ false
first_none bar [] e = ap (is_first bar) grouped-none
first_none bar (x ∷ xs) e =
    let h = grouped_head x xs in
    elim (cases_Bool (x.bar == bar)) [
      | inl f ↦ let some : run_length bar (map row_count (x ∷ xs)) ≡ suc (run_length bar (map row_count xs)) = rw f refl in absurd (omega arith)
      | inr f ↦ ap (is_first bar) h.2 ∙ ap (λ b. b == bar) h.3 ∙ f
    ]

pub first_some : (bar : ℕ) (xs : List BarRows) → 0 < run_length bar (map row_count xs) →
    (is_first bar (grouped xs) ≡ true) × (drop 1 (grouped xs) ≡ grouped (drop (run_length bar (map row_count xs)) xs))
first_some bar [] e = absurd (omega arith)
first_some bar (x ∷ xs) e =
    let h = grouped_head x xs in
    elim (cases_Bool (x.bar == bar)) [
      | inl f ↦
          let same : x.bar ≡ bar = eqb-true x.bar bar f in
          let some : run_length bar (map row_count (x ∷ xs)) ≡ suc (run_length bar (map row_count xs)) = rw f refl in (
            ap (is_first bar) h.2 ∙ ap (λ b. b == bar) h.3 ∙ f,
            run_drop x xs ∙ ap (λ b. grouped (drop (run_length b (map row_count xs)) xs)) same ∙ ap (λ n. grouped (drop n (x ∷ xs))) (sym some),
          )
      | inr f ↦ let none : run_length bar (map row_count (x ∷ xs)) ≡ 0 = rw f refl in absurd (omega arith)
    ]

among_joined : (bar : ℕ) (x : BarRows) (ss : List BarRows) → has_rows bar (joined x ss) ≡ ((x.bar == bar) || has_rows bar ss)
among_joined bar x [] = refl
among_joined bar x (s ∷ ss) = elim (cases_Bool (x.bar == s.bar)) [
  | inl e ↦
      let same : x.bar ≡ s.bar = eqb-true x.bar s.bar e in
      elim (cases_Bool (x.bar == bar)) [
        | inl f ↦ rw (e, f) refl
        | inr f ↦ let g : (s.bar == bar) ≡ false = ap (λ b. b == bar) (sym same) ∙ f in rw (e, f, g) refl
      ]
  | inr e ↦ rw e refl
]

pub among : (bar : ℕ) (xs : List BarRows) → has_rows bar (grouped xs) ≡ list_any (λ (c : RowCount). c.bar == bar) (map row_count xs)
among bar [] = ap (has_rows bar) grouped-none
among bar (x ∷ xs) = ap (has_rows bar) (grouped-cons x xs) ∙ among_joined bar x (grouped xs) ∙ ap (λ b. (x.bar == bar) || b) (among bar xs)
