-- Each step of a worker keeps the rule of the word: an add, a reading, a split, a join; and what the word is at the end.
use Rattle.std.proofs.Common.{◌≡◌, ℕ, ◌+◌, ◌-◌, ◌/◌, ◌%◌, ◌<◌, ◌≤◌, ◌≢◌, zero-le, List, [], ◌∷◌, ◌++◌, set, slice_index, sym, refl, ap, ◌∙◌, ⊎_elim, subst, arith, max}
use Rattle.std.proofs.Math.Nat.{mod-add-mod, div-le_self, le-max_right, max-le}
use Rattle.std.proofs.lemmas.List.Sums.{sum_by_push}
use mathlib.Core.Option.{some, some-injective}
use lib.ListN.{get_elem?}
use Rattle.atomic_table.specs.Table.{keeps, Me, Allows, Splits, Joins}
use Rattle.atomic_table.proofs.Lists.{at_set, at_snoc, set_else}
use Rattle.indicatif_board.specs.declared.done.Account.{Account}
use Rattle.indicatif_board.specs.Done.{all_added, all_parts, IsFair, AddsUp, account, after_adding, ReadsSum, own_half, given_half, account_of_both, spent_account, whole_share}
use Rattle.indicatif_board.proofs.AccountLemmas.{All-at, All-from_at, sum_by-set_at, at_most_sum_by, all_added-one_has_all, AddsUp-set}

no_part : (n : ℕ) → n - n / 2 ≡ 0 → n ≡ 0
no_part n h = omega (arith, h)

word_more : (words : List ℕ) (s n t : ℕ) → words ≡ s % 18446744073709551616 ∷ [] → t ≡ s + n → set words 0 ((slice_index words 0 + n) % 18446744073709551616) ≡ t % 18446744073709551616 ∷ []
word_more words s n t e is =
    subst (λ ws. set ws 0 ((slice_index ws 0 + n) % 18446744073709551616) ≡ t % 18446744073709551616 ∷ []) (sym e)
    (ap (λ x. x ∷ []) (mod-add-mod s 18446744073709551616 n ∙ ap (λ x. x % 18446744073709551616) (sym is)))

word_same : (words : List ℕ) (s t : ℕ) → words ≡ s % 18446744073709551616 ∷ [] → t ≡ s → set words 0 (slice_index words 0) ≡ t % 18446744073709551616 ∷ []
word_same words s t e is =
    subst (λ ws. set ws 0 (slice_index ws 0) ≡ t % 18446744073709551616 ∷ []) (sym e) (ap (λ x. x % 18446744073709551616 ∷ []) (sym is))

pub adds : (slots id n : ℕ) (me : Me (Unit {0}) Account) → 0 < me.0.parts
    → Allows (λ s. AddsUp s.words s.views) slots id me 0 (λ m. (m + n) % 18446744073709551616) (λ found after. after ≡ (after_adding n me.0, me.1))
adds slots id n me some_part s k h at r =
    let w : Account = after_adding n me.0 in
    let sum : all_added (set s.views id w) + me.0.added ≡ all_added s.views + (me.0.added + n) = sum_by-set_at (λ u. u.added) s.views id me.0 w at in
    let o = All-at (IsFair (all_added s.views)) s.views id me.0 k.2 at in (
      w,
      keeps,
      tt,
      AddsUp-set s.words _ s.views id me.0 w k at (word_more s.words (all_added s.views) n _ k.0 (omega (arith, sum))) refl (omega arith)
          (omega (arith, o.0), omega (arith, o.1, sum), λ none. absurd (omega (arith, none, some_part))),
      refl,
    )

pub totals : (slots id : ℕ) (me : Me (Unit {0}) Account)
    → Allows (λ s. AddsUp s.words s.views) slots id me 0 (λ m. m) (λ found after. ReadsSum me.0 found after.0 × (after.1 ≡ me.1))
totals slots id me s k h at r =
    let w : Account = account me.0.parts me.0.added (all_added s.views) in
    let sum : all_added (set s.views id w) + me.0.added ≡ all_added s.views + me.0.added = sum_by-set_at (λ u. u.added) s.views id me.0 w at in
    let o = All-at (IsFair (all_added s.views)) s.views id me.0 k.2 at in (
      w,
      keeps,
      tt,
      AddsUp-set s.words _ s.views id me.0 w k at (word_same s.words (all_added s.views) _ k.0 (omega (arith, sum))) refl (omega arith)
          (omega (arith, o.0, o.1), omega (arith, sum), o.2),
      ((refl, o.1, ap (λ ws. slice_index ws 0) k.0), refl),
    )

pub splits : (id : ℕ) (v : Account) → Splits {S = Unit {0}} (λ s. AddsUp s.words s.views) id v (own_half v) (given_half v)
splits id v s k at =
    let vs : List Account = set s.views id (own_half v) in
    let all : List Account = vs ++ given_half v ∷ [] in
    let half : ℕ = v.parts / 2 in
    let small : half ≤ v.parts = div-le_self v.parts 2 in
    let sum : all_added vs + v.added ≡ all_added s.views + v.added = sum_by-set_at (λ u. u.added) s.views id v (own_half v) at in
    let parts : all_parts vs + v.parts ≡ all_parts s.views + (v.parts - half) = sum_by-set_at (λ u. u.parts) s.views id v (own_half v) at in
    let sum' : all_added all ≡ all_added vs + 0 = sum_by_push (λ u. u.added) vs (given_half v) in
    let parts' : all_parts all ≡ all_parts vs + half = sum_by_push (λ u. u.parts) vs (given_half v) in
    let same : all_added all ≡ all_added s.views = omega (arith, sum, sum') in
    let o = All-at (IsFair (all_added s.views)) s.views id v k.2 at in (
      k.0 ∙ ap (λ x. x % 18446744073709551616 ∷ []) (sym same),
      omega (arith, parts, parts', k.1, small),
      All-from_at (IsFair (all_added all)) all
          (λ j u e.
          ⊎_elim
          (λ h.
          ⊎_elim
          (λ (p : (j ≡ id) × (own_half v ≡ u)). subst (IsFair (all_added all)) p.1 (o.0, omega (arith, o.1, same), λ none. o.2 (no_part v.parts none)))
          (λ (p : (j ≢ id) × (get_elem? s.views j ≡ some u)).
          let q = All-at (IsFair (all_added s.views)) s.views j u k.2 p.1 in
          (q.0, omega (arith, q.1, same), q.2))
          (at_set s.views id j (own_half v) u h))
          (λ (p : given_half v ≡ u). subst (IsFair (all_added all)) p (zero-le, omega (arith, o.1, same), λ none. refl))
          (at_snoc vs (given_half v) u j e)),
    )

pub joins : (id : ℕ) (v : Account) (other : ℕ) (w : Account) → Joins {S = Unit {0}} (λ s. AddsUp s.words s.views) id v other w (account_of_both v w) spent_account
joins id v other w s k at apart there =
    let b : Account = account_of_both v w in
    let vs : List Account = set s.views id b in
    let us : List Account = set vs other spent_account in
    let was : get_elem? s.views other ≡ some w = sym (set_else s.views id other b apart) ∙ there in
    let gone : get_elem? (set s.views id spent_account) other ≡ some w = set_else s.views id other spent_account apart ∙ was in
    let less : w.added ≤ all_added (set s.views id spent_account) = at_most_sum_by (λ u. u.added) (set s.views id spent_account) other w gone in
    let rest : all_added (set s.views id spent_account) + v.added ≡ all_added s.views + 0 = sum_by-set_at (λ u. u.added) s.views id v spent_account at in
    let a : all_added vs + v.added ≡ all_added s.views + (v.added + w.added) = sum_by-set_at (λ u. u.added) s.views id v b at in
    let c : all_added us + w.added ≡ all_added vs + 0 = sum_by-set_at (λ u. u.added) vs other w spent_account there in
    let p : all_parts vs + v.parts ≡ all_parts s.views + (v.parts + w.parts) = sum_by-set_at (λ u. u.parts) s.views id v b at in
    let q : all_parts us + w.parts ≡ all_parts vs + 0 = sum_by-set_at (λ u. u.parts) vs other w spent_account there in
    let same : all_added us ≡ all_added s.views = omega (arith, a, c) in
    let o = All-at (IsFair (all_added s.views)) s.views id v k.2 at in
    let r = All-at (IsFair (all_added s.views)) s.views other w k.2 was in (
      k.0 ∙ ap (λ x. x % 18446744073709551616 ∷ []) (sym same),
      omega (arith, p, q, k.1),
      All-from_at (IsFair (all_added us)) us
          (λ j u e.
          ⊎_elim
          (λ (m : (j ≡ other) × (spent_account ≡ u)). subst (IsFair (all_added us)) m.1 (zero-le, zero-le, λ none. refl))
          (λ (m : (j ≢ other) × (get_elem? vs j ≡ some u)).
          ⊎_elim
          (λ (n : (j ≡ id) × (b ≡ u)).
          subst (IsFair (all_added us)) n.1 (
            le-max_right (max v.seen w.seen) (v.added + w.added),
            max-le (max-le (omega (arith, o.1, same)) (omega (arith, r.1, same))) (omega (arith, less, rest, same)),
            λ none. omega (arith, o.2 (omega (arith, none)), r.2 (omega (arith, none))),
          ))
          (λ (n : (j ≢ id) × (get_elem? s.views j ≡ some u)).
          let g = All-at (IsFair (all_added s.views)) s.views j u k.2 n.1 in
          (g.0, omega (arith, g.1, same), g.2))
          (at_set s.views id j b u m.1))
          (at_set vs other j spent_account u e)),
    )

-- who has the whole share added all that was added, and has seen no more
pub closes : (words ws : List ℕ) (views : List Account) (id : ℕ) (v : Account) (r : ℕ)
    → AddsUp words views
    → get_elem? views id ≡ some v
    → words ≡ ws
    → get_elem? ws 0 ≡ some r
    → v.parts ≡ whole_share
    → (r ≡ v.added % 18446744073709551616) × (v.seen ≤ v.added)
closes words ws views id v r k at is found all =
    let e : all_added views ≡ v.added = all_added-one_has_all views id v at (omega (arith, k.1, all)) (λ i u h. (All-at (IsFair (all_added views)) views i u k.2 h).2) in
    let f : get_elem? (all_added views % 18446744073709551616 ∷ []) 0 ≡ some r = ap (λ xs. get_elem? xs 0) (sym k.0 ∙ is) ∙ found in
    let o = All-at (IsFair (all_added views)) views id v k.2 at in
    (sym (some-injective _ _ f) ∙ ap (λ x. x % 18446744073709551616) e, omega (arith, o.1, e))
