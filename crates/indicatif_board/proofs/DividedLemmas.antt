-- What came of one worker: that worker itself, or what came of its halves; and sums over workers that are joined.
use Rattle.std.proofs.Common.{◌≡◌, ◌+◌, ◌/◌, ◌≤◌, List, ◌∷◌, ◌++◌, arith}
use Rattle.std.proofs.Math.Nat.{div-le_self}
use Rattle.std.proofs.lemmas.List.Sums.{sum_by-append, sum_by-cons}
use Rattle.std.proofs.lemmas.List.Elements.{All-append}
use Rattle.indicatif_board.specs.Done.{Worker, IsDivided, split_into, own_half, given_half, shares_of, added_by}

-- the first of some workers, and the rest
pub shares_of-cons : (w : Worker) (ws : List Worker) → shares_of (w ∷ ws) ≡ w.account.parts + shares_of ws
shares_of-cons = sum_by-cons (λ v. v.account.parts)

pub added_by-cons : (w : Worker) (ws : List Worker) → added_by (w ∷ ws) ≡ w.account.added + added_by ws
added_by-cons = sum_by-cons (λ v. v.account.added)

pub IsDivided-halves : (w : Worker) (xs ys : List Worker)
    → IsDivided (split_into (own_half w.account) w) xs
    → IsDivided (split_into (given_half w.account) w) ys
    → IsDivided w (xs ++ ys)
IsDivided-halves w xs ys kept given =
    let small : w.account.parts / 2 ≤ w.account.parts = div-le_self w.account.parts 2 in
    let parts : shares_of (xs ++ ys) ≡ shares_of xs + shares_of ys = sum_by-append (λ v. v.account.parts) xs ys in
    let added : added_by (xs ++ ys) ≡ added_by xs + added_by ys = sum_by-append (λ v. v.account.added) xs ys in
    record {
      same_sum = All-append (λ v. v.adds_to ≡ w.adds_to) xs ys kept.same_sum given.same_sum;
      share = omega (arith, parts, kept.share, given.share, small);
      adds = omega (arith, added, kept.adds, given.adds);
      sights = All-append (λ v. v.account.seen ≡ w.account.seen) xs ys kept.sights given.sights;
    }
