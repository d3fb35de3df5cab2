-- The results of pieces of work.
use Rattle.std.specs.Prelude.{◌≡◌, ℕ, ◌<◌, ◌≤◌, ◌%◌, ◌^◌, List, length, take, slice_index_or, Option, IfSome, Vec}
use Rattle.std.specs.List.{AllZip}
use Rattle.std.specs.declared.alloc.Global.{Global}
use Rattle.indicatif.specs.Workers.{items_in}
use Rattle.indicatif.specs.declared.parallel.workers.pieces.EndedPiece.{EndedPiece}
use Rattle.indicatif.specs.declared.parallel.workers.pieces.Gathered.{Gathered}

-- the result of one of these pieces: its answers, if there are any, are those at all its items, in order
abbrev pub IsEnded : {T A : Type 0} → (T → A → Type 0) → List (Vec T Global) → EndedPiece A → Type 0
IsEnded {T} R pieces ended =
    (ended.piece < length pieces)
    × ((piece : Vec T Global) → piece ≡ slice_index_or pieces ended.piece piece → IfSome ended.answers (λ made. AllZip R piece.items made.items))

-- the result of all pieces: the number of items that were met, modulo 2^64; and if there are answers, all items were met
pub record CountsPieces {T A : Type 0} (R : T → A → Type 0) (pieces : List (Vec T Global)) (answers : Option (Vec (Vec A Global) Global)) (sum : ℕ) : Type 0 where
  pub met : ℕ
  pub at_most : met ≤ items_in pieces
  pub is_sum : sum ≡ met % 2 ^ 64
  pub all : IfSome answers (λ made. (met ≡ items_in pieces) × AllZip (λ piece one. AllZip R piece.items one.items) pieces made.items)

-- the result of the first pieces, up to the number gathered
abbrev pub IsGathered : {T A : Type 0} → (T → A → Type 0) → List (Vec T Global) → Gathered A → Type 0
IsGathered R pieces all = (all.pieces ≤ length pieces) × CountsPieces R (take all.pieces pieces) all.answers all.met
