use Rattle.std.proofs.Common.{ℕ, List, Option, Some, None, Result, IfSome, refl}
use Rattle.std.specs.Prelude.{string_bytes}
use Rattle.indicatif_text.specs.declared.refusal.Refusal.{Refusal}
use Rattle.indicatif_text.specs.declared.refusal.Drawn.{Drawn}
use Rattle.indicatif_bar.specs.Trackers.{Tracking}
use Rattle.indicatif_board.specs.declared.receipts.Receipt.{Receipt}
use Rattle.indicatif.specs.Receipts.{IsReceipt}
use Rattle.indicatif.proofs.bridge.LogBridge.print.Goals as goal

-- a receipt of a text is one of the text that it names
of_its_text : {K : Type 0} (T : Type 0) (m : Tracking K) (text : List ℕ) (drawn : Result Drawn Refusal) (receipt : Option Receipt) → IfSome receipt (IsReceipt T m text drawn) →
    IfSome receipt (λ r. IsReceipt T m (string_bytes r.text) drawn r)
of_its_text T m text drawn (Some r) is = (refl, is.1, is.2, is.3, is.4)
of_its_text T m text drawn None is = tt

pub returns-in-Ok-clause-receipt : goal.returns-in-Ok-clause-receipt
returns-in-Ok-clause-receipt g c =
    let made = c.println_with_receipt in
    of_its_text _ g.K.Tracks.means c.as_str.result.now made.result.0 made.result.1 made.ensures.receipt
