-- The bytes of calls one after another are those of the whole drawing, also where one of them fails.
use Rattle.std.proofs.Common.{◌≡◌, ℕ, zero, suc, ◌+◌, ◌<◌, Bool, true, false, ◌||◌, List, [], ◌∷◌, ◌++◌, length, Result, Ok, Err, refl, sym, ◌∙◌, ap, append_assoc, append-nil, arith, subst, ◌-◌, if◌then◌else◌}
use Rattle.std.specs.Prelude.{nat_lt, IsErrAnd, IsTrue}
use Rattle.std.specs.IoError.{error_kind}
use Rattle.std.specs.declared.io.Error.{Error}
use Rattle.std.specs.declared.io.ErrorKind.{ErrorKind}
use Rattle.std.proofs.Math.Bool.{or-false}
use Rattle.std.proofs.lemmas.Bool.Decides.{nat_tests}
use Rattle.indicatif_term.specs.Terminal.{after}
use Rattle.indicatif_term.proofs.FeedLemmas.{after-append}
use Rattle.indicatif_term.specs.Calls.{Told, State, Bytes, Nothing, is_told, led_on, TermView, LeadsOn, BreaksOff, Writes, clear_bytes, move_bytes}
use Rattle.indicatif_term.specs.Inside.MoveBytes.{Sends, lines_bytes, next_row, rows_down, reach_bytes, back_bytes}

pub led_on-append : (told : Told) (a b : List ℕ) → led_on (led_on told a) b ≡ led_on told (a ++ b)
led_on-append (State t) a b = ap State (sym (after-append t a b))
led_on-append (Bytes old) a b = ap Bytes (append_assoc old a b)
led_on-append Nothing a b = refl

pub led_on-nil : (told : Told) → led_on told [] ≡ told
unfolding after
led_on-nil (State t) = refl
led_on-nil (Bytes old) = ap Bytes (append-nil old)
led_on-nil Nothing = refl

-- a terminal that tells something still does
pub still_tells : (told : Told) (bytes : List ℕ) → IsTrue (is_told told) → IsTrue (is_told (led_on told bytes))
still_tells (State t) bytes h = refl
still_tells (Bytes old) bytes h = refl
still_tells Nothing bytes h = h

-- bytes after bytes
pub told_then : (a b : List ℕ) (s t u : Told) → (IsTrue (is_told s) → t ≡ led_on s a) → (IsTrue (is_told t) → u ≡ led_on t b) → IsTrue (is_told s) → u ≡ led_on s (a ++ b)
told_then a b s t u p q h =
    let e = p h in
    q (subst (λ x. IsTrue (is_told x)) (sym e) (still_tells s a h)) ∙ ap (λ x. led_on x b) e ∙ led_on-append s a b

pub reaches_none : (s : TermView) → LeadsOn [] s s
reaches_none s = record { told_is = λ h. sym (led_on-nil s.told); columns_are = refl; rows_are = refl; faults_are = refl; kind_is = refl }

pub reaches_then : {a b : List ℕ} {s t u : TermView} → LeadsOn a s t → LeadsOn b t u → LeadsOn (a ++ b) s u
reaches_then {a} {b} {s} {t} {u} p q = record {
  told_is = told_then a b s.told t.told u.told p.told_is q.told_is;
  columns_are = q.columns_are ∙ p.columns_are;
  rows_are = q.rows_are ∙ p.rows_are;
  faults_are = q.faults_are ∙ p.faults_are;
  kind_is = q.kind_is ∙ p.kind_is;
}

pub breaks_then : {a b : List ℕ} {kind : ErrorKind} {s t u : TermView} → LeadsOn a s t → BreaksOff b kind t u → BreaksOff (a ++ b) kind s u
breaks_then {a} {b} {kind} {s} {t} {u} p q = record {
  front = a ++ q.front;
  rest = q.rest;
  whole = append_assoc a q.front q.rest ∙ ap (λ x. a ++ x) q.whole;
  told_is = told_then a q.front s.told t.told u.told p.told_is q.told_is;
  columns_are = q.columns_are ∙ p.columns_are;
  rows_are = q.rows_are ∙ p.rows_are;
  faults_are = rw (← p.faults_are) q.faults_are;
  kind_is = q.kind_is;
}

pub breaks_early : {a : List ℕ} (b : List ℕ) {kind : ErrorKind} {s t : TermView} → BreaksOff a kind s t → BreaksOff (a ++ b) kind s t
breaks_early {a} b {kind} {s} {t} q = record {
  front = q.front;
  rest = q.rest ++ b;
  whole = sym (append_assoc q.front q.rest b) ∙ ap (λ x. x ++ b) q.whole;
  told_is = q.told_is;
  columns_are = q.columns_are;
  rows_are = q.rows_are;
  faults_are = q.faults_are;
  kind_is = q.kind_is;
}

-- a call after bytes that were written
pub writes_then : {a : List ℕ} (b : List ℕ) {s t : TermView} (u : TermView) (r : Result Unit Error) → LeadsOn a s t → Writes b t u r → Writes (a ++ b) s u r
writes_then b u (Ok x) p q = reaches_then p q
writes_then b u (Err e) p q = breaks_then p q

-- a failure is handed on
pub writes_fail : {a : List ℕ} (b : List ℕ) {s t : TermView} (e : Error) (r : Result Unit Error) → IsErrAnd r (λ x. x ≡ e) → BreaksOff a (error_kind e) s t → Writes (a ++ b) s t r
writes_fail b e (Ok x) h q = absurd h
writes_fail {a} b {s} {t} e (Err x) h q = breaks_early b (subst (λ y. BreaksOff a (error_kind y) s t) (sym h) q)

-- the same of a call that tells only the kind of a failure
pub sends_then : {a : List ℕ} (b : List ℕ) {s t : TermView} (u : TermView) (r : Result Unit ErrorKind) → LeadsOn a s t → Sends b t u r → Sends (a ++ b) s u r
sends_then b u (Ok x) p q = reaches_then p q
sends_then b u (Err k) p q = breaks_then p q

pub sends_fail : {a : List ℕ} (b : List ℕ) {s t : TermView} (k : ErrorKind) (r : Result Unit ErrorKind) → IsErrAnd r (λ x. x ≡ k) → BreaksOff a k s t → Sends (a ++ b) s t r
sends_fail b k (Ok x) h q = absurd h
sends_fail {a} b {s} {t} k (Err x) h q = breaks_early b (subst (λ y. BreaksOff a y s t) (sym h) q)

-- ---- lines

pub lt_after : (n : ℕ) → nat_lt 0 (suc n) ≡ true
lt_after n = grind (arith, nat_tests)

pub or_lt_after : (b : Bool) (n : ℕ) → (b || nat_lt 0 (suc n)) ≡ true
or_lt_after true n = refl
or_lt_after false n = lt_after n

pub lines-append : (at_end : Bool) (a b : List (List ℕ)) → lines_bytes at_end (a ++ b) ≡ lines_bytes at_end a ++ lines_bytes (at_end || nat_lt 0 (length a)) b
lines-append at_end [] b = ap (λ x. lines_bytes x b) (sym (or-false at_end))
lines-append at_end (x ∷ a) b = ap (λ y. ((if at_end then next_row else []) ++ x) ++ y) (lines-append true a b)
    ∙ sym (append_assoc ((if at_end then next_row else []) ++ x) (lines_bytes true a) (lines_bytes true b))
    ∙ ap (λ y. (((if at_end then next_row else []) ++ x) ++ lines_bytes true a) ++ lines_bytes y b) (sym (or_lt_after at_end (length a)))

-- ---- rows taken back

-- down to the next row, which is emptied
abbrev pub row_down : List ℕ
row_down = next_row ++ clear_bytes

rows_down-add : (m k : ℕ) → rows_down (m + k) ≡ rows_down m ++ rows_down k
rows_down-add zero k = let e : zero + k ≡ k = omega arith in ap rows_down e
rows_down-add (suc m) k =
    let e : suc m + k ≡ suc (m + k) = omega arith in
    ap rows_down e ∙ ap (λ x. row_down ++ x) (rows_down-add m k) ∙ sym (append_assoc row_down (rows_down m) (rows_down k))

pub back_some : (below : Bool) (n : ℕ) → 0 < n →
    back_bytes below n ≡ move_bytes 0x41 (if below then n else (n - 1)) ++ (clear_bytes ++ rows_down (n - 1)) ++ move_bytes 0x41 (n - 1)
back_some below zero h = absurd (omega arith)
back_some below (suc n) h = let e : suc n - 1 ≡ n = omega arith in rw e refl

-- one row more
pub down_reaches : (a : List ℕ) (i : ℕ) {s t u : TermView} → LeadsOn (a ++ rows_down i) s t → LeadsOn row_down t u → LeadsOn (a ++ rows_down (i + 1)) s u
down_reaches a i {s} {t} {u} p q =
    let r : LeadsOn ((a ++ rows_down i) ++ row_down) s u = reaches_then p q in
    subst (λ x. LeadsOn x s u) (append_assoc a (rows_down i) row_down ∙ ap (λ x. a ++ x) (sym (rows_down-add i 1))) r

-- or it fails
pub down_fails : (a : List ℕ) (i n : ℕ) {s t : TermView} (u : TermView) (x : ErrorKind) (r : Result Unit ErrorKind) → i < n → IsErrAnd r (λ y. y ≡ x) → LeadsOn (a ++ rows_down i) s t →
    BreaksOff row_down x t u →
    Sends (a ++ rows_down n) s u r
down_fails a i n {s} {t} u x r k e p q =
    let rest = rows_down (n - 1 - i) in
    let f : n ≡ i + (1 + (n - 1 - i)) = omega arith in
    let g : rows_down n ≡ rows_down i ++ (row_down ++ rest) = ap rows_down f ∙ rows_down-add i (1 + (n - 1 - i)) ∙ ap (λ x. rows_down i ++ x) (rows_down-add 1 (n - 1 - i)) in
    let w : Sends (((a ++ rows_down i) ++ row_down) ++ rest) s u r = sends_fail rest x r e (breaks_then p q) in
    rw g (subst (λ x. Sends x s u r) (append_assoc (a ++ rows_down i) row_down rest ∙ append_assoc a (rows_down i) (row_down ++ rest)) w)

-- ---- a whole drawing

pub or_lt_sum : (b : Bool) (m n : ℕ) → (b || nat_lt 0 (m + n)) ≡ ((b || nat_lt 0 m) || nat_lt 0 n)
or_lt_sum true m n = refl
or_lt_sum false m n = grind (arith, nat_tests)

-- rows that are reached for the first time, if there are any
pub reach_some : (down n : ℕ) → 0 < n → reach_bytes down n ≡ move_bytes 0x42 down ++ (rows_down n ++ move_bytes 0x41 (down + n))
reach_some down zero h = absurd (omega arith)
reach_some down (suc n) h = refl
