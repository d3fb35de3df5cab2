-- Receipts that shared boards hand out.
use Rattle.std.specs.Prelude.{◌≡◌, List, ℕ, Result, string_bytes}
use Rattle.indicatif_text.specs.declared.refusal.Refusal.{Refusal}
use Rattle.indicatif_text.specs.declared.refusal.Drawn.{Drawn}
use Rattle.indicatif_bar.specs.Trackers.{Tracking}
use Rattle.indicatif_board.specs.Boards.{drawn_of}
use Rattle.indicatif_board.specs.Calls.{answer_of}
use Rattle.indicatif_board.specs.Receipts.{Holds}
use Rattle.indicatif_board.specs.Recorded.{Record, IsOneRun}
use Rattle.indicatif_board.specs.declared.receipts.Receipt.{Receipt}

-- a receipt of this text and this answer, which a history that is one run holds
abbrev pub IsReceipt : {K : Type 0} (T : Type 0) → Tracking K → List ℕ → Result Drawn Refusal → Receipt → Type 0
IsReceipt {K} T m text drawn receipt =
    (string_bytes receipt.text ≡ text) × (drawn_of (answer_of receipt.answer) ≡ drawn) × (history : Record K T) × IsOneRun m history × Holds history receipt
