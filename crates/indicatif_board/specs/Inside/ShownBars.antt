-- A bar's place and its lines, if one is named.
use Rattle.std.specs.Prelude.{◌≡◌, ℕ, ◌<◌, Bool, false, List, length, Option, Some, None}
use Rattle.indicatif_bar.specs.Trackers.{Tracking}
use Rattle.indicatif_bar.specs.Commands.{BarRecord}
use Rattle.indicatif_bar.specs.Machines.{Target}
use Rattle.indicatif_board.specs.BoardBars.{board_bars}
use Rattle.indicatif_board.specs.Members.{Member, place_of}
use Rattle.indicatif_board.specs.Boards.{BoardState, laid_out, layout_takes}

-- a bar's place, if one is named
abbrev pub HasPlace : {B : Type 0} → Option ℕ → Option ℕ → List (Member B) → Type 0
HasPlace None None members = Unit {0}
HasPlace (Some number) (Some at) members = (at ≡ place_of number members) × (at < length members)
HasPlace _ _ members = ⊥

-- its lines laid out, if one is named
abbrev pub named_laid_out : {K : Type 0} → Tracking K → Target → ℕ → Option ℕ → BoardState (BarRecord K) → BoardState (BarRecord K)
named_laid_out m target now None s = s
named_laid_out m target now (Some number) s = laid_out (board_bars m) target now number s

-- whether that takes memory
abbrev pub named_layout_takes : {K : Type 0} → Tracking K → Option ℕ → BoardState (BarRecord K) → Bool
named_layout_takes m None s = false
named_layout_takes m (Some number) s = layout_takes (board_bars m) number s
