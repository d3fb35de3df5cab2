-- What all pieces came to, by what became of each.
use Rattle.std.proofs.Common.{◌≡◌, ℕ, zero, suc, ◌+◌, ◌%◌, ◌<◌, ◌≤◌, List, [], ◌∷◌, ◌++◌, take, length, slice_index_or, Option, Some, None, IfSome, IsSomeAnd, Vec, refl, sym, ap, subst, ◌∙◌, arith}
use Rattle.std.specs.List.{AllZip}
use Rattle.std.specs.declared.alloc.Global.{Global}
use Rattle.std.proofs.lemmas.List.{take_all, take_more}
use Rattle.std.proofs.lemmas.List.Sums.{sum_by_more, sum_by-take-le}
use Rattle.std.proofs.lemmas.Slice.Zip.{AllZip-long}
use Rattle.std.proofs.Math.Nat.{mod-add-mod}
use Rattle.rayon.proofs.ListFacts.{AllZip-append}
use Rattle.indicatif.specs.Workers.{items_in}
use Rattle.indicatif.specs.Inside.Pieces.{IsEnded, CountsPieces}
use Rattle.indicatif.specs.declared.parallel.workers.pieces.EndedPiece.{EndedPiece}

module _ {X Y : Type 0} (R : X → Y → Type 0) where
  -- one item more, with its answer
  pub zip_one : (items : List X) (at : ℕ) (x : X) (y : Y) (ys all : List Y) → at < length items → x ≡ slice_index_or items at x → all ≡ ys ++ y ∷ []
      → AllZip R (take at items) ys → R x y → AllZip R (take (at + 1) items) all
  zip_one items at x y ys all lt is whole front r =
      let last : AllZip R (slice_index_or items at x ∷ []) (y ∷ []) = (subst (λ z. R z y) is r, tt) in
      rw (whole, take_more items at x lt) (AllZip-append R (take at items) (slice_index_or items at x ∷ []) ys (y ∷ []) front last)

module _ {X : Type 0} where
  -- what stands at a place
  element_at : (xs : List X) (at : ℕ) → at < length xs → (x : X) × (x ≡ slice_index_or xs at x)
  element_at [] at lt = absurd (omega arith)
  element_at (x ∷ xs) zero lt = (x, refl)
  element_at (x ∷ xs) (suc at) lt = element_at xs at (omega arith)

-- a sum as 64 bits hold it, and one number more
sum_more : (a b sum next : ℕ) → sum ≡ a % 18446744073709551616 → next ≡ (sum + b) % 18446744073709551616 → next ≡ (a + b) % 18446744073709551616
sum_more a b sum next is more = more ∙ ap (λ k. (k + b) % 18446744073709551616) is ∙ mod-add-mod a 18446744073709551616 b

module _ {T A : Type 0} (R : T → A → Type 0) (pieces : List (Vec T Global)) where
  -- how many items there are with the next piece's
  items_more : (at : ℕ) (piece : Vec T Global) → at < length pieces → piece ≡ slice_index_or pieces at piece
      → items_in (take (at + 1) pieces) ≡ items_in (take at pieces) + length piece.items
  items_more at piece lt is = sum_by_more (λ p. length p.items) pieces at piece lt ∙ ap (λ p. items_in (take at pieces) + length p.items) (sym is)

  -- the answers with the next piece's
  answers_more : (at met : ℕ) (piece : Vec T Global) (one : Vec A Global) (before after : Option (Vec (Vec A Global) Global)) → at < length pieces
      → piece ≡ slice_index_or pieces at piece → AllZip R piece.items one.items
      → IfSome before (λ made. (met ≡ items_in (take at pieces)) × AllZip (λ p o. AllZip R p.items o.items) (take at pieces) made.items)
      → IfSome after (λ made. IsSomeAnd before (λ b. made.items ≡ b.items ++ one ∷ []))
      → IfSome after (λ made. (met + length one.items ≡ items_in (take (at + 1) pieces)) × AllZip (λ p o. AllZip R p.items o.items) (take (at + 1) pieces) made.items)
  answers_more at met piece one before None lt is answered front joined = tt
  answers_more at met piece one None (Some made) lt is answered front joined = absurd joined
  answers_more at met piece one (Some b) (Some made) lt is answered front joined =
      let items = items_more at piece lt is in
      let long = AllZip-long R piece.items one.items answered in
      (omega (arith, front.0, items, long), zip_one (λ p o. AllZip R p.items o.items) pieces at piece one b.items made.items lt is joined front.1 answered)

  -- what the first pieces came to, with the answers of the next
  pub gathered_more : (ended : EndedPiece A) (at next sum count : ℕ) (one : Vec A Global) (before after : Option (Vec (Vec A Global) Global))
      → IsEnded R pieces ended → ended.piece ≡ at → ended.answers ≡ Some one
      → CountsPieces R (take at pieces) before sum → next ≡ at + 1 → count ≡ (sum + length one.items) % 18446744073709551616
      → IfSome after (λ made. IsSomeAnd before (λ b. made.items ≡ b.items ++ one ∷ []))
      → (next ≤ length pieces) × CountsPieces R (take next pieces) after count
  gathered_more ended at next sum count one before after done here answered counts is more joined =
      let lt : at < length pieces = omega (arith, done.0, here) in
      let found = element_at pieces at lt in
      let there = done.1 found.0 (subst (λ n. found.0 ≡ slice_index_or pieces n found.0) (sym here) found.1) in
      let fits = subst (λ o. IfSome o (λ made. AllZip R found.0.items made.items)) answered there in
      let items = items_more at found.0 lt found.1 in
      let long = AllZip-long R found.0.items one.items fits in
      let made : CountsPieces R (take (at + 1) pieces) after count = record {
        met = counts.met + length one.items;
        at_most = omega (arith, items, long, counts.at_most);
        is_sum = sum_more counts.met (length one.items) sum count counts.is_sum more;
        all = answers_more at counts.met found.0 one before after lt found.1 fits counts.all joined;
      } in
      (omega (arith, lt, is), subst (λ n. CountsPieces R (take n pieces) after count) (sym is) made)

  -- the same where the next has no answers
  pub gathered_without : (at sum : ℕ) (before : Option (Vec (Vec A Global) Global)) → at < length pieces → CountsPieces R (take at pieces) before sum
      → (at + 1 ≤ length pieces) × CountsPieces R (take (at + 1) pieces) None sum
  gathered_without at sum before lt counts =
      let found = element_at pieces at lt in
      let items = items_more at found.0 lt found.1 in
      (omega (arith, lt), record { met = counts.met; at_most = omega (arith, items, counts.at_most); is_sum = counts.is_sum; all = tt })

  -- before the first piece
  pub none_gathered : (room : Vec (Vec A Global) Global) → room.items ≡ [] → (0 ≤ length pieces) × CountsPieces R (take 0 pieces) (Some room) 0
  none_gathered room none = (
    omega arith,
    record {
      met = 0;
      at_most = omega arith;
      is_sum = refl;
      all = (refl, subst (AllZip (λ (piece : Vec T Global) (one : Vec A Global). AllZip R piece.items one.items) []) (sym none) tt);
    },
  )

  -- behind the last one
  pub all_gathered : (at sum : ℕ) (all : Option (Vec (Vec A Global) Global)) → length pieces ≤ at → CountsPieces R (take at pieces) all sum → CountsPieces R pieces all sum
  all_gathered at sum all end counts = subst (λ l. CountsPieces R l all sum) (take_all at pieces end) counts

  -- where pieces are missing
  pub some_missing : (at sum : ℕ) (all : Option (Vec (Vec A Global) Global)) → CountsPieces R (take at pieces) all sum → CountsPieces R pieces None sum
  some_missing at sum all counts =
      let few : items_in (take at pieces) ≤ items_in pieces = sum_by-take-le (λ p. length p.items) pieces at in
      record { met = counts.met; at_most = omega (arith, few, counts.at_most); is_sum = counts.is_sum; all = tt }
