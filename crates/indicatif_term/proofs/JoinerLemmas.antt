-- The joiners that lead to a place don't change by what is put behind them.
use Rattle.std.proofs.Common.{◌≡◌, ℕ, suc, ◌+◌, ◌-◌, ◌<◌, ◌≤◌, Bool, true, false, List, [], ◌∷◌, ◌++◌, length, get_or, take, drop, reverse, refl, sym, ◌∙◌, ap, arith, append_assoc, length-append}
use Rattle.std.specs.Prelude.{◌==◌, nat_lt}
use Rattle.std.proofs.lemmas.List.{reverse-append, length-reverse, take-append-drop, take_more, length-take-le}
use Rattle.std.proofs.lemmas.Bool.{ne_eqb, eq-eqb}
use Rattle.indicatif_term.specs.declared.cells.joiners.Joiner.{Joiner}
use Rattle.indicatif_term.specs.Inside.Joiners.{chain}
use Rattle.indicatif_text.specs.Columns.{Cell, Written}
use Rattle.indicatif_term.specs.Pictures.{is_empty}
use Rattle.indicatif_term.specs.Inside.Rows.{IsJoined, joiners_shown, cell_shown, with_joiner_at}
use borrow.Author.Tests.{ltb-true, ltb-false}

pub chain_none : (joiners : List Joiner) → chain joiners 0 ≡ []
chain_none [] = refl
chain_none (m ∷ older) =
    let test : (0 == suc (length older)) ≡ false = ne_eqb 0 (suc (length older)) (λ e. omega arith) in
    rw test (chain_none older)

-- newer joiners are passed over
pub chain_past : (newer older : List Joiner) (k : ℕ) → k ≤ length older → chain (newer ++ older) k ≡ chain older k
chain_past [] older k h = refl
chain_past (m ∷ newer) older k h =
    let test : (k == suc (length (newer ++ older))) ≡ false = ne_eqb k (suc (length (newer ++ older))) (λ e. omega (arith, length-append newer older)) in
    rw test (chain_past newer older k h)

-- the joiner put last, after those that it leads on from
pub chain_put : (joiners : List Joiner) (m : Joiner) (k : ℕ) → k ≡ length joiners + 1 → chain (reverse (joiners ++ m ∷ [])) k ≡ chain (reverse joiners) m.before ++ m.character ∷ []
chain_put joiners m k e =
    let test : (k == suc (length (reverse joiners))) ≡ true = eq-eqb k (suc (length (reverse joiners))) (omega (arith, length-reverse joiners)) in
    ap (λ ms. chain ms k) (reverse-append joiners (m ∷ [])) ∙ rw test refl

-- none leads to a place past them
pub chain_far : (joiners : List Joiner) (k : ℕ) → length joiners < k → chain joiners k ≡ []
chain_far [] k h = refl
chain_far (m ∷ older) k h =
    let test : (k == suc (length older)) ≡ false = ne_eqb k (suc (length older)) (λ e. omega arith) in
    rw test (chain_far older k (omega arith))

pub before_past : (joiners : List Joiner) (n k : ℕ) → n ≤ length joiners → k ≤ n → chain (reverse joiners) k ≡ chain (reverse (take n joiners)) k
before_past joiners n k h within =
    ap (λ ms. chain ms k) (ap reverse (sym (take-append-drop n joiners)) ∙ reverse-append (take n joiners) (drop n joiners))
    ∙ chain_past (reverse (drop n joiners)) (reverse (take n joiners)) k (omega (arith, length-reverse (take n joiners), length-take-le n joiners h))

-- the joiner at a place, after those that it leads on from
chain_at : (joiners : List Joiner) (n : ℕ) (d : Joiner) → n < length joiners →
    chain (reverse joiners) (n + 1) ≡ chain (reverse (take n joiners)) (get_or joiners n d).before ++ (get_or joiners n d).character ∷ []
chain_at joiners n d h =
    before_past joiners (n + 1) (n + 1) (omega arith) (omega arith)
    ∙ ap (λ ms. chain (reverse ms) (n + 1)) (take_more joiners n d h)
    ∙ chain_put (take n joiners) (get_or joiners n d) (n + 1) (omega (arith, length-take-le n joiners (omega arith)))

-- one joiner more is found, of those that lead to a place
found_more : (joiners : List Joiner) (all found new : List ℕ) (left next : ℕ) (d : Joiner) → 0 < left → left ≤ length joiners →
    all ≡ chain (reverse joiners) left ++ reverse found → new ≡ found ++ (get_or joiners (left - 1) d).character ∷ [] →
    chain (reverse (take (left - 1) joiners)) (get_or joiners (left - 1) d).before ≡ chain (reverse joiners) next → all ≡ chain (reverse joiners) next ++ reverse new
found_more joiners all found new left next d some within is e leads =
    let n = left - 1 in
    let m = get_or joiners n d in
    let one : left ≡ n + 1 = omega arith in
    let turned : reverse new ≡ m.character ∷ reverse found = ap reverse e ∙ reverse-append found (m.character ∷ []) in
    let at : chain (reverse joiners) left ≡ chain (reverse joiners) next ++ m.character ∷ [] =
    ap (chain (reverse joiners)) one ∙ chain_at joiners n d (omega arith) ∙ ap (λ xs. xs ++ m.character ∷ []) leads in
    is ∙ ap (λ xs. xs ++ reverse found) at ∙ append_assoc (chain (reverse joiners) next) (m.character ∷ []) (reverse found)
    ∙ ap (λ ys. chain (reverse joiners) next ++ ys) (sym turned)

pub found_before : (joiners : List Joiner) (all found new : List ℕ) (left : ℕ) (d : Joiner) → 0 < left → left ≤ length joiners →
    all ≡ chain (reverse joiners) left ++ reverse found → new ≡ found ++ (get_or joiners (left - 1) d).character ∷ [] →
    (get_or joiners (left - 1) d).before < left → all ≡ chain (reverse joiners) (get_or joiners (left - 1) d).before ++ reverse new
found_before joiners all found new left d some within is e h =
    let k = (get_or joiners (left - 1) d).before in
    found_more joiners all found new left k d some within is e (sym (before_past joiners (left - 1) k (omega arith) (omega arith)))

pub found_first : (joiners : List Joiner) (all found new : List ℕ) (left : ℕ) (d : Joiner) → 0 < left → left ≤ length joiners →
    all ≡ chain (reverse joiners) left ++ reverse found → new ≡ found ++ (get_or joiners (left - 1) d).character ∷ [] →
    left ≤ (get_or joiners (left - 1) d).before → all ≡ chain (reverse joiners) 0 ++ reverse new
found_first joiners all found new left d some within is e h =
    let n = left - 1 in
    let k = (get_or joiners n d).before in
    let none : chain (reverse (take n joiners)) k ≡ [] = chain_far (reverse (take n joiners)) k (omega (arith, length-reverse (take n joiners), length-take-le n joiners (omega arith))) in
    found_more joiners all found new left 0 d some within is e (none ∙ sym (chain_none (reverse joiners)))

-- a joiner joined to a character, whatever is put behind it later
pub joins_one : (joiners joiners' : List Joiner) (cell : Cell) (c n before joiner : ℕ) (old : List ℕ) → cell ≡ Written (record { base = c; joiners = old }) →
    joiners_shown joiners old ≡ chain (reverse joiners) before → joiners' ≡ joiners ++ record { character = joiner; before = before } ∷ [] → n ≡ length joiners + 1 →
    IsJoined joiner joiners joiners' cell (Written (record { base = c; joiners = n ∷ [] }))
joins_one joiners joiners' cell c n before joiner old is shown e place =
    let m : Joiner = record { character = joiner; before = before } in
    record {
      more = m ∷ [];
      behind = e;
      joined = λ later.
          let reversed : reverse (joiners' ++ later) ≡ reverse later ++ reverse (joiners ++ m ∷ []) = reverse-append joiners' later ∙ ap (λ ms. reverse later ++ reverse ms) e in
          let within : n ≤ length (reverse (joiners ++ m ∷ [])) = omega (arith, length-reverse (joiners ++ m ∷ []), length-append joiners (m ∷ [])) in
          let leads : chain (reverse (joiners' ++ later)) n ≡ joiners_shown joiners old ++ joiner ∷ [] =
          ap (λ ms. chain ms n) reversed ∙ chain_past (reverse later) (reverse (joiners ++ m ∷ [])) n within ∙ chain_put joiners m n place
          ∙ ap (λ xs. xs ++ joiner ∷ []) (sym shown) in
          ap (λ xs. Written (record { base = c; joiners = xs })) leads ∙ sym (ap (λ x. with_joiner_at joiner (cell_shown joiners x)) is);
    }

-- ---- whether a place leads to a joiner

not_empty : (xs : List ℕ) (x : ℕ) → is_empty (xs ++ x ∷ []) ≡ false
not_empty [] x = refl
not_empty (y ∷ ys) x = refl

pub no_place : (joiners : List Joiner) (k : ℕ) → k ≡ 0 → is_empty (chain (reverse joiners) k) ≡ true
no_place joiners k e = ap (λ n. is_empty (chain (reverse joiners) n)) e ∙ ap is_empty (chain_none (reverse joiners))

pub past_joiners : (b : Bool) (joiners : List Joiner) (k : ℕ) → 0 < k → nat_lt (length joiners) k ≡ b → b ≡ is_empty (chain (reverse joiners) k)
past_joiners true joiners k some e =
    sym (ap is_empty (chain_far (reverse joiners) k (omega (arith, length-reverse joiners, ltb-true (length joiners) k e))))
past_joiners false joiners k some e =
    let n = k - 1 in
    let d : Joiner = record { character = 0; before = 0 } in
    let one : k ≡ n + 1 = omega arith in
    let within : n < length joiners = omega (arith, ltb-false (length joiners) k e) in
    sym (ap (λ m. is_empty (chain (reverse joiners) m)) one ∙ ap is_empty (chain_at joiners n d within) ∙ not_empty _ _)
