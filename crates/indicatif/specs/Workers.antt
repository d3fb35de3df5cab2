-- Pieces of work that threads do, and what their bar gets.
use Rattle.std.specs.Prelude.{ℕ, ◌%◌, ◌^◌, List, sum_by, length, Option, Result, Vec}
use Rattle.std.specs.declared.alloc.Global.{Global}
use Rattle.indicatif_text.specs.declared.refusal.Drawn.{Drawn}
use Rattle.indicatif_text.specs.declared.refusal.Refusal.{Refusal}
use Rattle.indicatif.specs.Moves.{Standing, Goes, Move, Advance}

-- how many items there are in all
abbrev pub items_in : {T : Type 0} → List (Vec T Global) → ℕ
items_in pieces = sum_by (λ piece. length piece.items) pieces

-- over how a bar's position is read, and the states that a move with an answer leads to: the bar was advanced once by the number of items, modulo 2^64
abbrev pub Absorbed : {P : Type 0} → (P → Option Standing) → (P → Move → Result Drawn Refusal → P → Type 0) → P → ℕ → P → Type 0
Absorbed stands leads old items new =
    let move = Advance (items % 2 ^ 64) in
    (answer : Result Drawn Refusal) × leads old move answer new × Goes (stands old) move answer (stands new)
