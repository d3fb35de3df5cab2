-- Bars' records by their numbers, where a bar is told something, without an owner, taken in or taken out, and where dropped bars leave the head.
use Rattle.std.proofs.Common.{is_some, set, get_or, subst, Option, Some, None, Result, Err, inl, inr, ◌≡◌, ℕ, zero, suc, ◌+◌, ◌<◌, ◌≤◌, true, false, not, List, [], ◌∷◌, map, drop, length, refl, sym, ◌∙◌, ap, arith, if◌then◌else◌}
use Rattle.std.specs.Prelude.{◌==◌, ◌≢◌, IfErr, IsTrue}
use Rattle.std.specs.List.{prefix_len, position_or_len, insert, remove}
use Rattle.std.proofs.lemmas.Bool.{cases_Bool, eqb-true, eq-eqb, ne_eqb}
use Rattle.std.proofs.lemmas.List.{length-map}
use Rattle.indicatif_term.specs.declared.target.lines.Segment.{Segment}
use Rattle.indicatif_text.specs.declared.refusal.Refusal.{Refusal}
use Rattle.indicatif_text.specs.declared.refusal.Drawn.{Drawn}
use Rattle.indicatif_bar.specs.Commands.{BarRecord}
use Rattle.indicatif_board.specs.Boards.{Location, Entrant, New, Old, Refused}
use Rattle.indicatif_board.specs.Multi.{RecordsTake, SlotsTake}
use Rattle.indicatif_board.specs.declared.multi.Board.{Board}
use Rattle.indicatif_board.specs.declared.shown_bars.ShownBars.{ShownBars}
use Rattle.indicatif_board.specs.Slots.{occurrences}
use Rattle.indicatif_board.specs.ShownBars.{owned_record, record_in, record_on}
use Rattle.indicatif_board.specs.Inside.Standing.{is_of_draw, seat_of, StandsAt}
use Rattle.indicatif_board.specs.declared.members.Member.{Member}
use Rattle.indicatif_board.proofs.MemberLemmas.{prefix-map, set-own}
use Rattle.indicatif_board.proofs.SlotLemmas.{ones_same, occurrences-front}

-- the place of a bar in the frame is that in the order
pub seat_is : (frame : List Segment) (order : List ℕ) (number : ℕ) → map (λ (x : Segment). x.bar) frame ≡ order →
    position_or_len (λ (x : Segment). x.bar == number) frame ≡ seat_of number order
seat_is frame order number e = sym (prefix-map (λ (x : Segment). x.bar) (λ k. not (k == number)) frame) ∙ ap (seat_of number) e

-- one place further
seat_next : (number n : ℕ) (order : List ℕ) → (n == number) ≡ false → seat_of number (n ∷ order) ≡ suc (seat_of number order)
seat_next number n order there = let step : 1 + seat_of number order ≡ suc (seat_of number order) = omega arith in rw there step

-- a bar that stands in an order stands there at least once
stands_in : (number at d : ℕ) (order : List ℕ) → at < length order → get_or order at d ≡ number → 1 ≤ occurrences number order
stands_in number at d [] within here = absurd (omega (arith, within))
stands_in number zero d (n ∷ order) within here = omega (arith, occurrences-front number n order, ones_same number n here)
stands_in number (suc at) d (n ∷ order) within here = omega (arith, occurrences-front number n order, stands_in number at d order (omega (arith, within)) here)

-- where it stands once, that is its place
pub only_seat : (number at d : ℕ) (order : List ℕ) → occurrences number order ≤ 1 → at < length order → get_or order at d ≡ number → at ≡ seat_of number order
only_seat number at d [] once within here = absurd (omega (arith, within))
only_seat number zero d (n ∷ order) once within here = rw (eq-eqb n number here) refl
only_seat number (suc at) d (n ∷ order) once within here = elim (cases_Bool (n == number)) [
  | inl first ↦ absurd (omega (
    arith,
    once,
    occurrences-front number n order,
    ones_same number n (eqb-true n number first),
    stands_in number at d order (omega (arith, within)) here,
  ))
  | inr later ↦ omega (
    arith,
    seat_next number n order later,
    only_seat number at d order (omega (arith, once, occurrences-front number n order)) (omega (arith, within)) here,
  )
]

module _ {K : Type 0} where
  -- a number that isn't in the order has no record
  pub record_none : (number : ℕ) (order : List ℕ) (members : List (Member K)) → occurrences number order ≡ 0 → record_in number order members ≡ None
  record_none number [] members none = refl
  record_none number (n ∷ order) [] none = refl
  record_none number (n ∷ order) (m ∷ members) none = elim (cases_Bool (n == number)) [
    | inl here ↦ absurd (omega (arith, occurrences-front number n order, ones_same number n (eqb-true n number here), none))
    | inr there ↦ rw there (record_none number order members (omega (arith, occurrences-front number n order, none)))
  ]

  pub record_past : (number : ℕ) (order : List ℕ) (members : List (Member K)) → length order ≤ seat_of number order → record_in number order members ≡ None
  record_past number [] members past = refl
  record_past number (n ∷ order) [] past = refl
  record_past number (n ∷ order) (m ∷ members) past = elim (cases_Bool (n == number)) [
    | inl here ↦ let first : seat_of number (n ∷ order) ≡ 0 = rw here refl in absurd (omega (arith, past, first))
    | inr there ↦ rw there (record_past number order members (omega (arith, past, seat_next number n order there)))
  ]

  -- ---- a bar changed at its place

  pub record_set : (number : ℕ) (order : List ℕ) (members : List (Member K)) (m : Member K) → seat_of number order < length members → length members ≡ length order →
      record_in number order (set members (seat_of number order) m) ≡ owned_record m
  record_set number [] [] m within even = absurd (omega (arith, within))
  record_set number [] (x ∷ members) m within even = absurd (omega (arith, even))
  record_set number (n ∷ order) [] m within even = absurd (omega (arith, even))
  record_set number (n ∷ order) (x ∷ members) m within even = elim (cases_Bool (n == number)) [
    | inl here ↦
        let first : seat_of number (n ∷ order) ≡ 0 = rw here refl in
        let own : record_in number (n ∷ order) (m ∷ members) ≡ owned_record m = rw here refl in
        ap (λ k. record_in number (n ∷ order) (set (x ∷ members) k m)) first ∙ own
    | inr there ↦
        let next = seat_next number n order there in
        let rest : record_in number (n ∷ order) (x ∷ set members (seat_of number order) m) ≡ owned_record m =
        rw there (record_set number order members m (omega (arith, within, next)) (omega (arith, even))) in
        ap (λ k. record_in number (n ∷ order) (set (x ∷ members) k m)) next ∙ rest
  ]

  pub others_set : (number other : ℕ) (order : List ℕ) (members : List (Member K)) (m : Member K) → other ≢ number →
      record_in other order (set members (seat_of number order) m) ≡ record_in other order members
  others_set number other [] members m apart = refl
  others_set number other (n ∷ order) [] m apart = refl
  others_set number other (n ∷ order) (x ∷ members) m apart = elim (cases_Bool (n == number)) [
    | inl here ↦ let away : (n == other) ≡ false = ne_eqb n other (λ e. apart (sym e ∙ eqb-true n number here)) in rw (here, away) refl
    | inr there ↦
        let step : 1 + seat_of number order ≡ suc (seat_of number order) = omega arith in
        rw (there, step) (ap (λ r. if n == other then owned_record x else r) (others_set number other order members m apart))
  ]

  -- the record of a bar is that at its place
  pub record_there : (number : ℕ) (order : List ℕ) (members : List (Member K)) (m : Member K) → seat_of number order < length members → length members ≡ length order →
      m ≡ get_or members (seat_of number order) m → record_in number order members ≡ owned_record m
  record_there number order members m within even is =
      ap (record_in number order) (sym (ap (set members (seat_of number order)) is ∙ set-own members (seat_of number order) m within)) ∙ record_set number order members m within even

  -- ---- a bar taken in

  pub record_inserted : (number at : ℕ) (order : List ℕ) (members : List (Member K)) (m : Member K) → occurrences number order ≡ 0 → at ≤ length order → length members ≡ length order →
      record_in number (insert order at number) (insert members at m) ≡ owned_record m
  record_inserted number zero order members m none within even = rw (eq-eqb number number refl) refl
  record_inserted number (suc at) [] members m none within even = absurd (omega (arith, within))
  record_inserted number (suc at) (n ∷ order) [] m none within even = absurd (omega (arith, even))
  record_inserted number (suc at) (n ∷ order) (x ∷ members) m none within even = elim (cases_Bool (n == number)) [
    | inl here ↦ absurd (omega (arith, occurrences-front number n order, ones_same number n (eqb-true n number here), none))
    | inr there ↦ rw there (record_inserted number at order members m (omega (arith, occurrences-front number n order, none)) (omega (arith, within)) (omega (arith, even)))
  ]

  pub others_inserted : (number other at : ℕ) (order : List ℕ) (members : List (Member K)) (m : Member K) → other ≢ number → at ≤ length order → length members ≡ length order →
      record_in other (insert order at number) (insert members at m) ≡ record_in other order members
  others_inserted number other zero order members m apart within even = rw (ne_eqb number other (λ e. apart (sym e))) refl
  others_inserted number other (suc at) [] members m apart within even = absurd (omega (arith, within))
  others_inserted number other (suc at) (n ∷ order) [] m apart within even = absurd (omega (arith, even))
  others_inserted number other (suc at) (n ∷ order) (x ∷ members) m apart within even =
      ap (λ r. if n == other then owned_record x else r) (others_inserted number other at order members m apart (omega (arith, within)) (omega (arith, even)))

  -- ---- a bar taken out

  pub record_removed : (number : ℕ) (order : List ℕ) (members : List (Member K)) → occurrences number order ≤ 1 → seat_of number order < length members → length members ≡ length order →
      record_in number (remove order (seat_of number order)) (remove members (seat_of number order)) ≡ None
  record_removed number [] [] once within even = refl
  record_removed number [] (x ∷ members) once within even = absurd (omega (arith, even))
  record_removed number (n ∷ order) [] once within even = absurd (omega (arith, even))
  record_removed number (n ∷ order) (x ∷ members) once within even = elim (cases_Bool (n == number)) [
    | inl here ↦
        let none : occurrences number order ≡ 0 = omega (arith, once, occurrences-front number n order, ones_same number n (eqb-true n number here)) in
        rw here (record_none number order members none)
    | inr there ↦
        let next = seat_next number n order there in
        let less : occurrences number order ≤ 1 = omega (arith, once, occurrences-front number n order) in
        let rest : record_in number (n ∷ remove order (seat_of number order)) (x ∷ remove members (seat_of number order)) ≡ None =
        rw there (record_removed number order members less (omega (arith, within, next)) (omega (arith, even))) in
        ap (λ k. record_in number (remove (n ∷ order) k) (remove (x ∷ members) k)) next ∙ rest
  ]

  pub others_removed : (number other : ℕ) (order : List ℕ) (members : List (Member K)) → other ≢ number → length members ≡ length order →
      record_in other (remove order (seat_of number order)) (remove members (seat_of number order)) ≡ record_in other order members
  others_removed number other [] [] apart even = refl
  others_removed number other [] (x ∷ members) apart even = absurd (omega (arith, even))
  others_removed number other (n ∷ order) [] apart even = absurd (omega (arith, even))
  others_removed number other (n ∷ order) (x ∷ members) apart even = elim (cases_Bool (n == number)) [
    | inl here ↦ let away : (n == other) ≡ false = ne_eqb n other (λ e. apart (sym e ∙ eqb-true n number here)) in rw (here, away) refl
    | inr there ↦
        let step : 1 + seat_of number order ≡ suc (seat_of number order) = omega arith in
        rw (there, step) (ap (λ r. if n == other then owned_record x else r) (others_removed number other order members apart (omega (arith, even))))
  ]

  -- ---- dropped bars that leave the head

  prefix_one : (x : Member K) (members : List (Member K)) → x.dropped ≡ true →
      prefix_len (λ m. m.dropped) (x ∷ members) ≡ suc (prefix_len (λ m. m.dropped) members)
  prefix_one x members gone = let step : 1 + prefix_len (λ (m : Member K). m.dropped) members ≡ suc (prefix_len (λ (m : Member K). m.dropped) members) = omega arith in rw (gone, step) refl

  pub record_followers : (number : ℕ) (order : List ℕ) (members : List (Member K)) → occurrences number order ≤ 1 → length members ≡ length order →
      record_in number (drop (prefix_len (λ m. m.dropped) members) order) (drop (prefix_len (λ m. m.dropped) members) members) ≡ record_in number order members
  record_followers number [] [] once even = refl
  record_followers number [] (x ∷ members) once even = absurd (omega (arith, even))
  record_followers number (n ∷ order) [] once even = absurd (omega (arith, even))
  record_followers number (n ∷ order) (x ∷ members) once even = elim (cases_Bool x.dropped) [
    | inl gone ↦
        let count = prefix_len (λ (m : Member K). m.dropped) members in
        let step : 1 + count ≡ suc count = omega arith in
        let rest : occurrences number order ≤ 1 = omega (arith, once, occurrences-front number n order) in
        let same = record_followers number order members rest (omega (arith, even)) in
        elim (cases_Bool (n == number)) [
          | inl here ↦
              let none : occurrences number order ≡ 0 = omega (arith, once, occurrences-front number n order, ones_same number n (eqb-true n number here)) in
              rw (gone, step, here) (same ∙ record_none number order members none)
          | inr there ↦ rw (gone, step, there) same
        ]
    | inr stays ↦ rw stays refl
  ]

  -- the one that stands at the head then has its owner
  pub head_owned : (order : List ℕ) (members : List (Member K)) → length members ≡ length order → (number : ℕ) (rest : List ℕ) →
      drop (prefix_len (λ m. m.dropped) members) order ≡ number ∷ rest →
      is_some (record_in number (drop (prefix_len (λ m. m.dropped) members) order) (drop (prefix_len (λ m. m.dropped) members) members)) ≡ true
  head_owned [] [] even number rest e = absurd (cc e)
  head_owned [] (x ∷ members) even number rest e = absurd (omega (arith, even))
  head_owned (n ∷ order) [] even number rest e = absurd (omega (arith, even))
  head_owned (n ∷ order) (x ∷ members) even number rest e = elim (cases_Bool x.dropped) [
    | inl gone ↦
        let step : prefix_len (λ (m : Member K). m.dropped) (x ∷ members) ≡ suc (prefix_len (λ (m : Member K). m.dropped) members) = prefix_one x members gone in
        ap (λ k. is_some (record_in number (drop k (n ∷ order)) (drop k (x ∷ members)))) step
        ∙ head_owned order members (omega (arith, even)) number rest (sym (ap (λ k. drop k (n ∷ order)) step) ∙ e)
    | inr stays ↦
        let none : prefix_len (λ (m : Member K). m.dropped) (x ∷ members) ≡ 0 = rw stays refl in
        let list : n ∷ order ≡ number ∷ rest = sym (ap (λ k. drop k (n ∷ order)) none) ∙ e in
        let here : n ≡ number = cc list in
        let own : is_some (record_in number (n ∷ order) (x ∷ members)) ≡ true = rw (eq-eqb n number here, stays) refl in
        ap (λ k. is_some (record_in number (drop k (n ∷ order)) (drop k (x ∷ members)))) none ∙ own
  ]

-- ---- the same of the lists that a board keeps

-- as many bars as numbers
pub evenly : {K : Type 0} → (frame : List Segment) (order : List ℕ) (members : List (Member K)) → length members ≡ length frame → map (λ (x : Segment). x.bar) frame ≡ order →
    length members ≡ length order
evenly frame order members e seated = e ∙ sym (length-map frame (λ (x : Segment). x.bar)) ∙ ap length seated

-- a bar with its owner has its record
pub owned : {K : Type 0} → (m : Member K) → m.dropped ≡ false → owned_record m ≡ Some m.bar
owned m e = rw e refl

module _ {K : Type 0} (number at : ℕ) (order : List ℕ) (members : List (Member K)) (even : length members ≡ length order) where
  module _ (m : Member K) (here : at ≡ seat_of number order) where
    pub told_record : at < length members → record_in number order (set members at m) ≡ owned_record m
    told_record within =
        let inside : seat_of number order < length members = subst (λ k. k < length members) here within in
        subst (λ k. record_in number order (set members k m) ≡ owned_record m) (sym here) (record_set number order members m inside even)

    pub told_others : (other : ℕ) → other ≢ number → record_in other order (set members at m) ≡ record_in other order members
    told_others other apart = ap (λ k. record_in other order (set members k m)) here ∙ others_set number other order members m apart

    pub there_record : at < length members → m ≡ get_or members at m → record_in number order members ≡ owned_record m
    there_record within is =
        let inside : seat_of number order < length members = subst (λ k. k < length members) here within in
        record_there number order members m inside even (is ∙ ap (λ k. get_or members k m) here)

  module _ (order' : List ℕ) (members' : List (Member K)) where
    pub taken_record : (m : Member K) → order' ≡ insert order at number → members' ≡ insert members at m → occurrences number order ≡ 0 → at ≤ length order →
        record_in number order' members' ≡ owned_record m
    taken_record m order_is members_are none within =
        ap (λ o. record_in number o members') order_is ∙ ap (record_in number (insert order at number)) members_are ∙ record_inserted number at order members m none within even

    pub taken_others : (m : Member K) → order' ≡ insert order at number → members' ≡ insert members at m → at ≤ length order → (other : ℕ) → other ≢ number →
        record_in other order' members' ≡ record_in other order members
    taken_others m order_is members_are within other apart =
        ap (λ o. record_in other o members') order_is ∙ ap (record_in other (insert order at number)) members_are ∙ others_inserted number other at order members m apart within even

    module _ (here : at ≡ seat_of number order) (order_is : order' ≡ remove order at) (members_are : members' ≡ remove members at) where
      pub out_record : occurrences number order ≤ 1 → at < length members → record_in number order' members' ≡ None
      out_record once within =
          let inside : seat_of number order < length members = subst (λ k. k < length members) here within in
          ap (λ o. record_in number o members') order_is ∙ ap (record_in number (remove order at)) members_are
          ∙ ap (λ k. record_in number (remove order k) (remove members k)) here ∙ record_removed number order members once inside even

      pub out_others : (other : ℕ) → other ≢ number → record_in other order' members' ≡ record_in other order members
      out_others other apart =
          ap (λ o. record_in other o members') order_is ∙ ap (record_in other (remove order at)) members_are
          ∙ ap (λ k. record_in other (remove order k) (remove members k)) here ∙ others_removed number other order members apart even

    -- a number of dropped bars left the head
    pub left_record : at ≡ prefix_len (λ m. m.dropped) members → order' ≡ drop at order → members' ≡ drop at members → occurrences number order ≤ 1 →
        record_in number order' members' ≡ record_in number order members
    left_record count order_is members_are once =
        ap (λ o. record_in number o members') order_is ∙ ap (record_in number (drop at order)) members_are
        ∙ ap (λ k. record_in number (drop k order) (drop k members)) count ∙ record_followers number order members once even

    -- then the bar at the head has a record
    pub left_head : at ≡ prefix_len (λ m. m.dropped) members → order' ≡ drop at order → members' ≡ drop at members → (head : ℕ) (rest : List ℕ) → order' ≡ head ∷ rest →
        is_some (record_in head order' members') ≡ true
    left_head count order_is members_are head rest e =
        ap (λ o. is_some (record_in head o members')) order_is ∙ ap (λ ms. is_some (record_in head (drop at order) ms)) members_are
        ∙ ap (λ k. is_some (record_in head (drop k order) (drop k members))) count
        ∙ head_owned order members even head rest (sym (ap (λ k. drop k order) count) ∙ sym order_is ∙ e)

-- ---- a bar that a call names

-- an item at a place inside, whatever stands for those past the end
there_is : {X : Type 0} (xs : List X) (i : ℕ) (x y : X) → i < length xs → get_or xs i x ≡ get_or xs i y
there_is [] i x y within = absurd (omega (arith, within))
there_is (z ∷ xs) zero x y within = refl
there_is (z ∷ xs) (suc i) x y within = there_is xs i x y (omega (arith, within))

some_there : {X : Type 0} (xs : List X) (i : ℕ) → i < length xs → (x : X) × (x ≡ get_or xs i x)
some_there [] i within = absurd (omega (arith, within))
some_there (z ∷ xs) zero within = (z, refl)
some_there (z ∷ xs) (suc i) within = some_there xs i (omega (arith, within))

-- a bar that has a record isn't without one
pub is_there : {X : Type 0} (o : Option X) (x : X) → o ≡ Some x → o ≡ None → ⊥
is_there o x some none = absurd (cc (sym some ∙ none))

-- two errors of one answer are the same
pub same_error : {A E : Type 0} {e e' : E} (r : Result A E) → r ≡ Err e → r ≡ Err e' → e ≡ e'
same_error r one other = cc (sym one ∙ other)

-- no draw is refused so
pub not_of_draw : (r : Result Drawn Refusal) (e : Refusal) → IfErr r (λ e. IsTrue (is_of_draw e)) → is_of_draw e ≡ false → r ≡ Err e → ⊥
not_of_draw r e all other is = absurd (cc (sym other ∙ subst (λ r. IfErr r (λ e. IsTrue (is_of_draw e))) is all))

-- nothing is taken in where it is refused
pub none_taken : {K T : Type 0} (entrant : Entrant (BarRecord K)) (e : Refusal) (b : Board K T) → RecordsTake entrant (Refused e) b b
none_taken (New bar) e b = λ number. refl
none_taken (Old id) e b = λ number. refl

pub none_seated : {K T : Type 0} (at : Location) (entrant : Entrant (BarRecord K)) (e : Refusal) (b : Board K T) → SlotsTake at entrant (Refused e) b b
none_seated at (New bar) e b = refl
none_seated at (Old id) e b = refl

module _ {K : Type 0} (b : ShownBars K) where
  even_on : length b.members.items ≡ length b.table.order
  even_on = evenly b.frame.items b.table.order b.members.items (omega (arith, b.even, b.members.ok, b.frame.ok)) b.seated

  -- a bar that isn't dropped stands there
  pub stands : (number at : ℕ) (item : Member K) → at ≡ seat_of number b.table.order → at < length b.members.items → item ≡ get_or b.members.items at item → item.dropped ≡ false →
      StandsAt number at b
  stands number at item here within is kept = record {
    seat = here;
    within = within;
    owned = λ m there. ap (λ (x : Member K). x.dropped) (there ∙ there_is b.members.items at m item within ∙ sym is) ∙ kept;
  }

  -- one that is dropped has no record
  pub dropped_on : (number at : ℕ) (item : Member K) → at ≡ seat_of number b.table.order → at < length b.members.items → item ≡ get_or b.members.items at item → item.dropped ≡ true →
      record_on number b ≡ None
  dropped_on number at item here within is gone =
      let none : owned_record item ≡ None = rw gone refl in
      there_record number at b.table.order b.members.items even_on item here within is ∙ none

  -- nor has one that isn't there
  pub absent_on : (number : ℕ) → length b.members.items ≤ seat_of number b.table.order → record_on number b ≡ None
  absent_on number past = record_past number b.table.order b.members.items (omega (arith, past, even_on))

  module _ (number at : ℕ) (there : StandsAt number at b) where
    pub record_stands : (item : Member K) → item ≡ get_or b.members.items at item → record_on number b ≡ Some item.bar
    record_stands item is = there_record number at b.table.order b.members.items even_on item there.seat there.within is ∙ owned item (there.owned item is)

    pub has_record : record_on number b ≡ None → ⊥
    has_record none = let x = some_there b.members.items at there.within in is_there (record_on number b) x.0.bar (record_stands x.0 x.1) none

    -- told something
    pub told_on : (item next : Member K) → next ≡ record item { bar = next.bar } → item ≡ get_or b.members.items at item →
        record_in number b.table.order (set b.members.items at next) ≡ Some next.bar
    told_on item next stays is =
        told_record number at b.table.order b.members.items even_on next there.seat there.within ∙ owned next (ap (λ (m : Member K). m.dropped) stays ∙ there.owned item is)

    pub told_apart : (m : Member K) (other : ℕ) → other ≢ number → record_in other b.table.order (set b.members.items at m) ≡ record_on other b
    told_apart m other apart = told_others number at b.table.order b.members.items even_on m there.seat other apart
