-- What moves a bar, and what a bar whose position can be read shows after a move.
use Rattle.std.specs.Prelude.{◌≡◌, ℕ, ◌+◌, ◌%◌, ◌^◌, Bool, true, Option, Some, IfSome, unwrap_or, Result, Err, ◌⊎◌, List, [], ◌∷◌, ◌++◌, replicate}
use Rattle.indicatif_text.specs.declared.refusal.Drawn.{Drawn}
use Rattle.indicatif_text.specs.declared.refusal.Refusal.{Refusal}
use Rattle.indicatif_text.specs.declared.refusal.Refusal.TheVariants.{Memory}
use Rattle.indicatif.specs.Seek.{Seeks, after_move}

-- a move of a bar
pub data Move : Type 0 where
  -- its position goes up by n
  Advance : (n : ℕ) → Move
  -- its position is set
  Place : (place : ℕ) → Move
  -- it is finished by its stored finish
  Finish : Move

-- where a bar stands, as far as moves go
pub record Standing : Type 0 where
  pub position : ℕ
  pub finished : Bool
  -- the position that its stored finish sets, if it sets one
  pub ends_at : Option ℕ

-- where a bar stands after a move
abbrev pub after_bar_move : Standing → Move → Standing
after_bar_move bar (Advance n) = record bar { position = (bar.position + n) % 2 ^ 64 }
after_bar_move bar (Place place) = record bar { position = place }
after_bar_move bar Finish = record bar { position = unwrap_or bar.ends_at bar.position; finished = true }

-- a bar whose position can be read makes a move with this answer; one that is to be finished stays unfinished only if it was refused memory, as for the message of its finish
abbrev pub Goes : Option Standing → Move → Result Drawn Refusal → Option Standing → Type 0
Goes before (Advance n) answer now = IfSome before (λ bar. now ≡ Some (after_bar_move bar (Advance n)))
Goes before (Place place) answer now = IfSome before (λ bar. now ≡ Some (after_bar_move bar (Place place)))
Goes before Finish answer now = IfSome before (λ bar. (now ≡ Some (after_bar_move bar Finish)) ⊎ ((answer ≡ Err Memory) × (now ≡ Some bar)))

-- over how a bar's position is read, and the states that a move with an answer leads to
module _ {P : Type 0} (stands : P → Option Standing) (leads : P → Move → Result Drawn Refusal → P → Type 0) where
  -- the bar was placed n after its position, by its record of seeks, which is then the second
  pub record PlacedAfter (old : P) (seeks : Seeks) (n : ℕ) (answer : Result Drawn Refusal) (new : P) (kept : Seeks) : Type 0 where
    pub position : ℕ
    pub place : ℕ
    pub here : IfSome (stands old) (λ bar. position ≡ bar.position)
    pub by_seeks : (place, kept) ≡ after_move 5 10 seeks position n
    pub led : leads old (Place place) answer new
    pub goes : Goes (stands old) (Place place) answer (stands new)

-- moves one after another, each with its answer
abbrev pub MovedAlong : {P : Type 0} → (P → Move → Result Drawn Refusal → P → Type 0) → List (Move × Result Drawn Refusal) → P → P → Type 0
MovedAlong leads [] old new = new ≡ old
MovedAlong {P} leads (made ∷ others) old new = (between : P) × leads old made.0 made.1 between × MovedAlong leads others between new

-- the moves of a loop over n items: an advance by one for each, then a finish, or none if the bar was finished already
abbrev pub AreOfLoop : ℕ → List Move → Type 0
AreOfLoop items moves = (moves ≡ replicate items (Advance 1) ++ Finish ∷ []) ⊎ (moves ≡ replicate items (Advance 1))
