-- Worked cases of receipts.
use Rattle.std.specs.Prelude.{◌≡◌, ℕ, List, [], ◌∷◌, string_bytes}
use Rattle.indicatif_text.specs.declared.refusal.Drawn.TheVariants.{Yes}
use Rattle.indicatif_board.specs.Boards.{Log, Drew}
use Rattle.indicatif_board.specs.Receipts.{Holds}
use Rattle.indicatif_board.specs.Recorded.{BoardStep, Record}
use Rattle.indicatif_board.specs.declared.calls.Answer.TheVariants.{Drawn}
use Rattle.indicatif_board.specs.declared.receipts.Receipt.{Receipt}

-- a text that was logged at the moment 5, and drawn
abbrev pub logged_at_5 : {K : Type 0} → List ℕ → BoardStep K
logged_at_5 text = record { call = Log text; now = 5; answer = Drew Yes }

-- `a` and `b` were logged on the board 7: its history holds a receipt for `b` of the number 1, and none of the number 0, where `a` stands
abbrev pub SecondOfTwo : (K T : Type 0) → Type 0
SecondOfTwo K T =
    (r : Record K T) (receipt : Receipt) → r.mark ≡ 7 → r.steps ≡ logged_at_5 (0x61 ∷ []) ∷ logged_at_5 (0x62 ∷ []) ∷ [] →
    receipt.mark ≡ 7 → string_bytes receipt.text ≡ 0x62 ∷ [] → receipt.moment ≡ 5 → receipt.answer ≡ Drawn Yes →
    (receipt.number ≡ 1 → Holds r receipt) × (receipt.number ≡ 0 → Holds r receipt → ⊥)
