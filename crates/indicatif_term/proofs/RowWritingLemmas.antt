-- The bytes of the rest of a row, column by column.
use Rattle.std.proofs.Common.{inl, inr, ◌≡◌, ℕ, zero, suc, ◌+◌, ◌-◌, ◌<◌, ◌≤◌, Bool, true, false, ◌&&◌, not, List, [], ◌∷◌, ◌++◌, length, replicate, Result, Ok, Err, refl, sym, ◌∙◌, ap, subst, arith, append_assoc, append-nil}
use Rattle.std.specs.Prelude.{◌==◌, encode_utf8, IsErrAnd, MatchResult}
use Rattle.std.specs.declared.io.ErrorKind.{ErrorKind}
use Rattle.std.proofs.lemmas.Bool.Decides.{nat_tests}
use Rattle.std.specs.Str.{bytes_eq}
use Rattle.std.proofs.lemmas.Bool.{cases_Bool}
use Rattle.std.proofs.lemmas.Slice.Eq.{bytes_eq-Decides}
use Rattle.indicatif_term.specs.Calls.{RIGHT, move_bytes, TermView, LeadsOn, BreaksOff}
use Rattle.indicatif_term.specs.Inside.MoveBytes.{Sends}
use Rattle.indicatif_term.proofs.CallTurnLemmas.{breaks_then, breaks_early, sends_fail}
use Rattle.indicatif_term.specs.Inside.Inks.{RESET, Ink, NONE, colours_of, same_ink, Inked, in_ink, is_alike, padded}
use Rattle.indicatif_term.specs.Inside.RowEdits.{Edit, Write, edit_bytes, closed, opened, recoloured, plan, rest_bytes, reset_bytes, ink_bytes}
use Rattle.indicatif_term.specs.Inside.Rests.{FitsRow, ink_of, cells, left_bytes}
use Rattle.indicatif_term.specs.declared.engine.inks.InkedText.{InkedText}
use Rattle.indicatif_term.specs.declared.engine.row_edits.Rest.{Rest}
use Rattle.indicatif_term.proofs.InkLemmas.{padded_length}

-- ---- cells padded with spaces

abbrev space : Inked
space = in_ink NONE 0x20

pub padded_none : (n : ℕ) (cs : List Inked) → cs ≡ [] → padded (suc n) cs ≡ space ∷ padded n cs
padded_none n cs e =
    let none : List Inked = [] in
    let a : padded (suc n) none ≡ space ∷ replicate n space = ap (λ k. replicate k space) (let z : suc n - 0 ≡ suc n = omega arith in z) in
    let b : padded n none ≡ replicate n space = ap (λ k. replicate k space) (let z : n - 0 ≡ n = omega arith in z) in
    ap (padded (suc n)) e ∙ a ∙ ap (λ x. space ∷ x) (sym b) ∙ ap (λ x. space ∷ padded n x) (sym e)

pub padded_some : (n : ℕ) (c : Inked) (cs rest : List Inked) → cs ≡ c ∷ rest → padded (suc n) cs ≡ c ∷ padded n rest
padded_some n c cs rest e = ap (padded (suc n)) e ∙ ap (λ k. c ∷ (rest ++ replicate k space)) (let z : suc n - suc (length rest) ≡ n - length rest = omega arith in z)

-- ---- the bytes of a change of colours

pub reset_none : (base group : List ℕ) → length base ≡ 0 → length group ≡ 0 → reset_bytes (base ++ group) ≡ []
reset_none [] [] e f = refl
reset_none [] (c ∷ cs) e f = absurd (omega (arith, f))
reset_none (b ∷ bs) group e f = absurd (omega (arith, e))

pub reset_first : (base group : List ℕ) → (length base == 0) ≡ false → reset_bytes (base ++ group) ≡ RESET
reset_first [] group e = absurd (cc e)
reset_first (b ∷ bs) group e = refl

pub reset_second : (base group : List ℕ) → (length group == 0) ≡ false → reset_bytes (base ++ group) ≡ RESET
reset_second [] [] e = absurd (cc e)
reset_second [] (c ∷ cs) e = refl
reset_second (b ∷ bs) group e = refl

closed_bytes : (gap : ℕ) (ink : List ℕ) (es : List Edit) → edit_bytes gap (closed ink es) ≡ reset_bytes ink ++ edit_bytes gap es
closed_bytes gap [] es = refl
closed_bytes gap (c ∷ cs) es = refl

opened_bytes : (gap : ℕ) (to : List ℕ) (es : List Edit) → edit_bytes gap (opened to es) ≡ to ++ edit_bytes gap es
opened_bytes gap [] es = refl
opened_bytes gap (c ∷ cs) es = refl

recoloured_bytes : (gap : ℕ) (ink to : Ink) (es : List Edit) → edit_bytes gap (recoloured ink to es) ≡ ink_bytes ink to ++ edit_bytes gap es
recoloured_bytes gap ink to es = elim (cases_Bool (same_ink ink to)) [
  | inl is ↦ rw is refl
  | inr other ↦
      rw other (closed_bytes gap (colours_of ink) (opened to.base (opened to.group es))
      ∙ ap (λ x. reset_bytes (colours_of ink) ++ x) (opened_bytes gap to.base (opened to.group es) ∙ ap (λ x. to.base ++ x) (opened_bytes gap to.group es)
      ∙ sym (append_assoc to.base to.group (edit_bytes gap es)))
      ∙ sym (append_assoc (reset_bytes (colours_of ink)) (to.base ++ to.group) (edit_bytes gap es)))
]

module _ (ends : Bool) (ink : Ink) (gap n : ℕ) (c d : Inked) (olds news os ns : List Inked)
    (o : padded (suc n) olds ≡ c ∷ padded n os) (s : padded (suc n) news ≡ d ∷ padded n ns) (few : length ns ≤ n) where
  last_is : (length (padded n ns) == 0) ≡ (n == 0)
  last_is = ap (λ k. k == 0) (padded_length n ns few)

  pub rest_stays : (is_alike c d && not (ends && (n == 0))) ≡ true → rest_bytes ends ink gap (suc n) olds news ≡ rest_bytes ends ink (gap + 1) n os ns
  rest_stays e =
      let e' : (is_alike c d && not (ends && (length (padded n ns) == 0))) ≡ true = ap (λ b. is_alike c d && not (ends && b)) last_is ∙ e in
      let more : suc gap ≡ gap + 1 = omega arith in
      ap (λ x. edit_bytes gap (plan ends ink x (padded (suc n) news))) o ∙ ap (λ x. edit_bytes gap (plan ends ink (c ∷ padded n os) x)) s
      ∙ rw e' (ap (λ g. rest_bytes ends ink g n os ns) more)

  pub rest_writes : (is_alike c d && not (ends && (n == 0))) ≡ false →
      rest_bytes ends ink gap (suc n) olds news ≡ (ink_bytes ink d.ink ++ (move_bytes RIGHT gap ++ encode_utf8 d.char)) ++ rest_bytes ends d.ink 0 n os ns
  rest_writes e =
      let e' : (is_alike c d && not (ends && (length (padded n ns) == 0))) ≡ false = ap (λ b. is_alike c d && not (ends && b)) last_is ∙ e in
      let rest = rest_bytes ends d.ink 0 n os ns in
      ap (λ x. edit_bytes gap (plan ends ink x (padded (suc n) news))) o ∙ ap (λ x. edit_bytes gap (plan ends ink (c ∷ padded n os) x)) s
      ∙ rw e' (recoloured_bytes gap ink d.ink (Write d.char ∷ plan ends d.ink (padded n os) (padded n ns)))
      ∙ ap (λ x. ink_bytes ink d.ink ++ x) (sym (append_assoc (move_bytes RIGHT gap) (encode_utf8 d.char) rest))
      ∙ sym (append_assoc (ink_bytes ink d.ink) (move_bytes RIGHT gap ++ encode_utf8 d.char) rest)

-- the first column of what is left of a row
module _ (ends : Bool) (rest : Rest) (old new : InkedText) (stands c : ℕ) (some : 0 < rest.left) (room : FitsRow rest)
    (first : (n : ℕ) → padded (suc n) (cells rest.own) ≡ in_ink (ink_of old.ink) stands ∷ padded n (cells old)) (few : length (cells old) ≡ length (cells rest.own) - 1)
    (first' : (n : ℕ) → padded (suc n) (cells rest.other) ≡ in_ink (ink_of new.ink) c ∷ padded n (cells new)) (few' : length (cells new) ≡ length (cells rest.other) - 1) where
  abbrev pub left_alike : Bool
  left_alike = is_alike (in_ink (ink_of old.ink) stands) (in_ink (ink_of new.ink) c) && not (ends && (rest.left - 1 == 0))

  whole : rest.left ≡ suc (rest.left - 1)
  whole = omega (arith, some)

  news : length (cells new) ≤ rest.left - 1
  news = omega (arith, few', room.news)

  in_whole : left_bytes ends rest ≡ rest_bytes ends (ink_of rest.ink) rest.gap (suc (rest.left - 1)) (cells rest.own) (cells rest.other)
  in_whole = ap (λ k. rest_bytes ends (ink_of rest.ink) rest.gap k (cells rest.own) (cells rest.other)) whole

  pub next_stays : left_alike ≡ true → rest_bytes ends (ink_of rest.ink) (rest.gap + 1) (rest.left - 1) (cells old) (cells new) ≡ left_bytes ends rest
  next_stays e = sym (in_whole ∙ rest_stays ends (ink_of rest.ink) rest.gap (rest.left - 1) (in_ink (ink_of old.ink) stands) (in_ink (ink_of new.ink) c) (cells rest.own) (cells rest.other)
      (cells old) (cells new) (first (rest.left - 1)) (first' (rest.left - 1)) news e)

  abbrev pub next_bytes : List ℕ
  next_bytes = ink_bytes (ink_of rest.ink) (ink_of new.ink) ++ (move_bytes RIGHT rest.gap ++ encode_utf8 c)

  pub next_writes : left_alike ≡ false → next_bytes ++ rest_bytes ends (ink_of new.ink) 0 (rest.left - 1) (cells old) (cells new) ≡ left_bytes ends rest
  next_writes e = sym (in_whole ∙ rest_writes ends (ink_of rest.ink) rest.gap (rest.left - 1) (in_ink (ink_of old.ink) stands) (in_ink (ink_of new.ink) c) (cells rest.own) (cells rest.other)
      (cells old) (cells new) (first (rest.left - 1)) (first' (rest.left - 1)) news e)

  pub next_fails : {s u : TermView} {k : ErrorKind} → left_alike ≡ false → BreaksOff next_bytes k s u → BreaksOff (left_bytes ends rest) k s u
  next_fails {s} {u} {k} e b =
      let more = rest_bytes ends (ink_of new.ink) 0 (rest.left - 1) (cells old) (cells new) in subst (λ x. BreaksOff x k s u) (next_writes e) (breaks_early more b)

  abbrev behind : Rest
  behind = record { own = old; other = new; left = rest.left - 1; gap = 0; ink = new.ink }

  pub next_ends : (s u : TermView) → left_alike ≡ false → FitsRow behind → (r : Result Unit ErrorKind) → Sends next_bytes s u r → MatchResult r
      (λ x. (done : List ℕ) × LeadsOn done s u × (done ++ left_bytes ends behind ≡ left_bytes ends rest) × (behind.left < rest.left) × FitsRow behind)
      (λ k. BreaksOff (left_bytes ends rest) k s u)
  next_ends s u e h (Ok x) w = (next_bytes, w, next_writes e, omega (arith, some), h)
  next_ends s u e h (Err x) w = next_fails e w

  pub next_room : (gap : ℕ) → gap ≤ rest.gap + 1 → (gap + (rest.left - 1) ≤ 65535) × (length (cells old) ≤ rest.left - 1) × (length (cells new) ≤ rest.left - 1)
  next_room gap e = (omega (arith, room.small, some, e), omega (arith, few, room.olds), news)

-- ---- columns that stay, all at once

stays_more : (x : Inked) (ends : Bool) (m : ℕ) → 0 < m → (is_alike x x && not (ends && (m == 0))) ≡ true
stays_more x true m p =
    let a : (x.char == x.char) ≡ true = grind (arith, nat_tests) in
    let i : bytes_eq x.ink.base x.ink.base ≡ true = (bytes_eq-Decides x.ink.base x.ink.base).1 refl in
    let j : bytes_eq x.ink.group x.ink.group ≡ true = (bytes_eq-Decides x.ink.group x.ink.group).1 refl in
    let b : (m == 0) ≡ false = grind (arith, nat_tests) in
    rw (a, i, j, b) refl
stays_more x false m p =
    let a : (x.char == x.char) ≡ true = grind (arith, nat_tests) in
    let i : bytes_eq x.ink.base x.ink.base ≡ true = (bytes_eq-Decides x.ink.base x.ink.base).1 refl in
    let j : bytes_eq x.ink.group x.ink.group ≡ true = (bytes_eq-Decides x.ink.group x.ink.group).1 refl in
    rw (a, i, j) refl

at_same : (ends : Bool) (ink : Ink) (os ns : List Inked) (g h l m : ℕ) → g ≡ h → l ≡ m → rest_bytes ends ink g l os ns ≡ rest_bytes ends ink h m os ns
at_same ends ink os ns g h l m e f = ap (λ x. rest_bytes ends ink x l os ns) e ∙ ap (λ x. rest_bytes ends ink h x os ns) f

pub rest_skips : (ends : Bool) (ink : Ink) (same os ns : List Inked) (gap left : ℕ) → length same < left → length (same ++ os) ≤ left → length (same ++ ns) ≤ left →
    rest_bytes ends ink gap left (same ++ os) (same ++ ns) ≡ rest_bytes ends ink (gap + length same) (left - length same) os ns
rest_skips ends ink [] os ns gap left a b d = at_same ends ink os ns gap (gap + 0) left (left - 0) (omega arith) (omega arith)
rest_skips ends ink (c ∷ same) os ns gap zero a b d = absurd (omega arith)
rest_skips ends ink (c ∷ same) os ns gap (suc m) a b d =
    let e : (is_alike c c && not (ends && (m == 0))) ≡ true = stays_more c ends m (omega arith) in
    rest_stays ends ink gap m c c (c ∷ (same ++ os)) (c ∷ (same ++ ns)) (same ++ os) (same ++ ns) (padded_some m c (c ∷ (same ++ os)) (same ++ os) refl)
    (padded_some m c (c ∷ (same ++ ns)) (same ++ ns) refl) (omega arith) e
    ∙ rest_skips ends ink same os ns (gap + 1) m (omega arith) (omega arith) (omega arith)
    ∙ at_same ends ink os ns (gap + 1 + length same) (gap + suc (length same)) (m - length same) (suc m - suc (length same)) (omega arith) (omega arith)

rest_free : (ends : Bool) (ink : Ink) (gap m : ℕ) → rest_bytes ends ink gap (suc m) [] [] ≡ rest_bytes ends ink (gap + m) 1 [] []
rest_free ends ink gap zero = at_same ends ink [] [] gap (gap + 0) 1 1 (omega arith) refl
rest_free ends ink gap (suc m) =
    rest_stays ends ink gap (suc m) space space [] [] [] [] (padded_none (suc m) [] refl) (padded_none (suc m) [] refl) (omega arith) (stays_more space ends (suc m) (omega arith))
    ∙ rest_free ends ink (gap + 1) m ∙ at_same ends ink [] [] (gap + 1 + m) (gap + suc m) 1 1 (omega arith) refl

-- where both texts have ended, all but the last one
pub rest_last : (ends : Bool) (ink : Ink) (os ns : List Inked) (gap left m : ℕ) → os ≡ [] → ns ≡ [] → m < left →
    rest_bytes ends ink (gap + (left - 1)) (left - (left - 1)) os ns ≡ rest_bytes ends ink (gap + m) (left - m) os ns
rest_last ends ink os ns gap left m e f h =
    let k = left - m - 1 in
    let empty = λ (g l : ℕ). ap (λ xs. rest_bytes ends ink g l xs ns) e ∙ ap (λ xs. rest_bytes ends ink g l [] xs) f in
    empty (gap + (left - 1)) (left - (left - 1)) ∙ at_same ends ink [] [] (gap + (left - 1)) (gap + m + k) (left - (left - 1)) 1 (omega arith) (omega arith)
    ∙ sym (rest_free ends ink (gap + m) k) ∙ at_same ends ink [] [] (gap + m) (gap + m) (suc k) (left - m) refl (omega arith) ∙ sym (empty (gap + m) (left - m))

pub none_left : (ends : Bool) (ink : Ink) (gap : ℕ) (olds news : List Inked) → length olds ≤ 0 → length news ≤ 0 → rest_bytes ends ink gap 0 olds news ≡ reset_bytes (colours_of ink)
none_left ends ink gap [] [] a b = closed_bytes gap (colours_of ink) [] ∙ append-nil (reset_bytes (colours_of ink))
none_left ends ink gap [] (d ∷ ns) a b = absurd (omega arith)
none_left ends ink gap (c ∷ os) ns a b = absurd (omega arith)

-- ---- failures

pub broken_in : {A E : Type 0} {e : E} (r : Result A E) (P : A → Type 0) (B : E → Type 0) → IsErrAnd r (λ x. x ≡ e) → B e → MatchResult r P B
broken_in (Ok x) P B h b = absurd h
broken_in (Err x) P B h b = subst B (sym h) b

pub rest_fails : (done rest all : List ℕ) (s t u : TermView) (e : ErrorKind) (r : Result Unit ErrorKind) → IsErrAnd r (λ x. x ≡ e) → LeadsOn done s t → BreaksOff rest e t u →
    done ++ rest ≡ all → Sends all s u r
rest_fails done rest all s t u e r h p q whole =
    let b : BreaksOff all e s u = subst (λ x. BreaksOff x e s u) whole (breaks_then p q) in
    subst (λ x. Sends x s u r) (append-nil all) (sends_fail [] e r h b)
