-- The bars of a board as they are shown: members, numbers and lines agree with a state.
use Rattle.std.specs.Prelude.{◌≡◌, ℕ, Bool, IsTrue, ◌==◌, List, ◌∷◌, map, Option, Some, None, is_some, if◌then◌else◌}
use Rattle.indicatif_term.specs.Lines.{bar_lines}
use Rattle.indicatif_term.specs.Target.{is_bottom}
use Rattle.indicatif_term.specs.declared.target.lines.Segment.{Segment}
use Rattle.indicatif_bar.specs.Commands.{BarRecord}
use Rattle.indicatif_board.specs.Members.{frame_of}
use Rattle.indicatif_board.specs.Boards.{BoardState}
use Rattle.indicatif_board.specs.declared.members.Member.{Member as MemberValue}
use Rattle.indicatif_board.specs.declared.shown_bars.ShownBars.{ShownBars}

-- these lists hold the members, numbers and lines of a state
pub record HoldsState {K : Type 0} (frame : List Segment) (members : List (MemberValue K)) (made : ℕ) (bottom : Bool) (s : BoardState (BarRecord K)) : Type 0 where
  pub members_are : members ≡ map (λ m. record { bar = m.bar; dropped = m.dropped }) s.members
  pub frame_is : map bar_lines frame ≡ frame_of s.members
  pub made_is : made ≡ s.made
  pub bottom_is : bottom ≡ s.bottom

-- they are shown as in this state
abbrev pub AreShownAs : {K : Type 0} → ShownBars K → BoardState (BarRecord K) → Type 0
AreShownAs b s = HoldsState b.frame.items b.members.items b.table.made (is_bottom b.alignment) s

-- ---- records by their numbers

module _ {K : Type 0} where
  -- a bar's record; none if its owner is gone
  abbrev pub owned_record : MemberValue K → Option (BarRecord K)
  owned_record m = if m.dropped then None else Some m.bar

  -- the record of the bar with a number, in a list of bars; none if no bar has the number, or its owner is gone
  abbrev pub record_in : ℕ → List ℕ → List (MemberValue K) → Option (BarRecord K)
  record_in number (n ∷ order) (m ∷ members) = if n == number then owned_record m else record_in number order members
  record_in number _ _ = None

  -- the record of the bar with a number, among bars as they are shown
  abbrev pub record_on : ℕ → ShownBars K → Option (BarRecord K)
  record_on number b = record_in number b.table.order b.members.items

  -- the bar at the head of the order, if there is one, has a record
  abbrev pub HeadIsOwned : ShownBars K → Type 0
  HeadIsOwned b = (number : ℕ) (order : List ℕ) → b.table.order ≡ number ∷ order → IsTrue (is_some (record_on number b))
