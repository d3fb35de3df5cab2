-- Invariants of the order of a board's bars in whole runs: each bar stands there once, and numbers are counted up.
use Rattle.std.specs.Prelude.{◌≡◌, ℕ, ◌+◌, ◌<◌, ◌≤◌, List, [], ◌∷◌, map, length, Option}
use Rattle.std.specs.List.{range_with_len}
use Rattle.indicatif_term.specs.Calls.{TermView}
use Rattle.indicatif_bar.specs.Machines.{Machine}
use Rattle.indicatif_bar.specs.Runs.{Runs}
use Rattle.indicatif_board.specs.Members.{order_of}
use Rattle.indicatif_board.specs.Slots.{occurrences}
use Rattle.indicatif_board.specs.Boards.{BoardState, BoardKind, Id, New, Call, Insert, Answer, Given, board}

-- what holds before a run holds after it; a prefix of a run is a run, so it holds after each of its calls
abbrev pub RunsPreserve : {State Call Answer : Type 0} → Machine State Call Answer → (State → Type 0) → Type 0
RunsPreserve {State} {Call} {Answer} m P =
    (calls : List (Call × ℕ)) (answers : List Answer) (old : Option TermView) (s : State) (new : Option TermView) (next : State) →
    Runs m calls answers old s new next → P s → P next

-- ---- states

module _ {B : Type 0} where
  -- no bar stands in the order twice, and each was inserted
  pub record StandsOnce (s : BoardState B) : Type 0 where
    pub apart : (number : ℕ) → occurrences number (order_of s.members) ≤ 1
    pub given : (number : ℕ) → s.made ≤ number → occurrences number (order_of s.members) ≡ 0

  -- an inserted bar has left the order
  pub record HasLeft (number : ℕ) (s : BoardState B) : Type 0 where
    pub was_given : number < s.made
    pub is_out : occurrences number (order_of s.members) ≡ 0

-- ---- the bars that a run inserts

module _ {B C : Type 0} where
  -- the new bar that a call with this answer inserted, before others
  abbrev pub with_new : Call B C → Answer → List Id → List Id
  with_new (Insert at (New bar)) (Given id) others = id ∷ others
  with_new _ _ others = others

  -- the new bars of all calls, in the order of their insertion
  abbrev pub new_bars : List (Call B C × ℕ) → List Answer → List Id
  new_bars (call ∷ calls) (answer ∷ answers) = with_new call.0 answer (new_bars calls answers)
  new_bars _ _ = []

  -- their numbers
  abbrev pub new_numbers : List (Call B C × ℕ) → List Answer → List ℕ
  new_numbers calls answers = map (λ id. id.number) (new_bars calls answers)

  -- a run counts them up from the next number, all with the board's mark
  abbrev pub NumbersCount : BoardKind B C → ℕ → Type 0
  NumbersCount kind mark =
      (calls : List (Call B C × ℕ)) (answers : List Answer) (old : Option TermView) (s : BoardState B) (new : Option TermView) (next : BoardState B) →
      Runs (board kind mark) calls answers old s new next →
      let count = length (new_bars calls answers) in
      (new_bars calls answers ≡ map (λ n. record { mark = mark; number = n }) (range_with_len s.made count)) × (next.made ≡ s.made + count)

  -- so they are all different, and none was given before
  abbrev pub NumbersAreNew : BoardKind B C → ℕ → Type 0
  NumbersAreNew kind mark =
      (calls : List (Call B C × ℕ)) (answers : List Answer) (old : Option TermView) (s : BoardState B) (new : Option TermView) (next : BoardState B) →
      Runs (board kind mark) calls answers old s new next →
      (number : ℕ) → (occurrences number (new_numbers calls answers) ≤ 1) × (number < s.made → occurrences number (new_numbers calls answers) ≡ 0)
