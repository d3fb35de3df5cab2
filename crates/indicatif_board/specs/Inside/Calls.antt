-- The bar that a call hands back, by its board's answer.
use Rattle.std.specs.Prelude.{Option, Some, None, Result, Ok, Err}
use Rattle.indicatif_text.specs.declared.refusal.Refusal.{Refusal}
use Rattle.indicatif_bar.specs.Commands.{BarRecord}
use Rattle.indicatif_board.specs.Boards.{Entrant, New, Old}
use Rattle.indicatif_board.specs.Calls.{entrant_of}
use Rattle.indicatif_board.specs.declared.bar_id.BarId.{BarId}
use Rattle.indicatif_board.specs.declared.calls.Turned.{Turned}

-- the new bar to insert
abbrev pub bar_in : {B : Type 0} → Entrant B → Option B
bar_in (New bar) = Some bar
bar_in (Old id) = None

-- the new bar that was refused
abbrev pub turned_back : {K : Type 0} → Result BarId (Turned K) → Option (BarRecord K)
turned_back (Ok id) = None
turned_back (Err turned) = bar_in (entrant_of turned.candidate)

-- the bar that was removed
abbrev pub removed_back : {K : Type 0} → Result (Option (BarRecord K)) Refusal → Option (BarRecord K)
removed_back (Ok bar) = bar
removed_back (Err e) = None
