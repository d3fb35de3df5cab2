-- The place of a bar that a call names, and how private calls change records.
use Rattle.std.specs.Prelude.{◌≡◌, ◌≢◌, ℕ, ◌<◌, Bool, true, false, ◌==◌, List, length, get_or}
use Rattle.std.specs.List.{position_or_len}
use Rattle.indicatif_text.specs.declared.refusal.Refusal.{Refusal}
use Rattle.indicatif_text.specs.declared.refusal.Refusal.TheVariants.{NoColumns, TooWide, Memory, Terminal as Failure}
use Rattle.indicatif_board.specs.ShownBars.{record_on}
use Rattle.indicatif_board.specs.declared.members.Member.{Member}
use Rattle.indicatif_board.specs.declared.shown_bars.ShownBars.{ShownBars}

-- whether a draw may be refused with this
abbrev pub is_of_draw : Refusal → Bool
is_of_draw NoColumns = true
is_of_draw TooWide = true
is_of_draw Memory = true
is_of_draw (Failure kind) = true
is_of_draw _ = false

-- the place of a bar's number in an order; past its end if it isn't there
abbrev pub seat_of : ℕ → List ℕ → ℕ
seat_of number order = position_or_len (λ n. n == number) order

module _ {K : Type 0} where
  -- the bar with this number stands at this place, and has its owner
  pub record StandsAt (number at : ℕ) (b : ShownBars K) : Type 0 where
    pub seat : at ≡ seat_of number b.table.order
    pub within : at < length b.members.items
    pub owned : (m : Member K) → m ≡ get_or b.members.items at m → m.dropped ≡ false

  -- all records are unchanged
  abbrev pub AllStay : ShownBars K → ShownBars K → Type 0
  AllStay old new = (number : ℕ) → record_on number new ≡ record_on number old

  -- all records but that of this number are unchanged
  abbrev pub AllOthersStay : ℕ → ShownBars K → ShownBars K → Type 0
  AllOthersStay number old new = (other : ℕ) → other ≢ number → record_on other new ≡ record_on other old
