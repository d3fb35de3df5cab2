use Rattle.std.proofs.Common.{◌≡◌, sym, ap, ◌∙◌, ◌∷◌, [], ℕ, Some, arith}
use Rattle.std.specs.Prelude.{slice_get}
use Rattle.indicatif_board.specs.Boards.{Call, Log}
use Rattle.indicatif_board.specs.Calls.{answer_of}
use Rattle.indicatif_board.specs.ReceiptCases.{logged_at_5}
use Rattle.indicatif_board.specs.Receipts.{step_claimed}
use Rattle.indicatif_board.specs.Recorded.{BoardStep}
use Rattle.indicatif_board.proofs.cases.receipts.Goals as goal

-- the first byte of a text that is logged
abbrev first_byte : {B C : Type 0} → Call B C → ℕ
first_byte (Log (byte ∷ bytes)) = byte
first_byte _ = 0

pub returns : goal.returns
returns g c = λ r receipt mark steps own text now answer.
    let claimed : step_claimed {K = g.row.K.Denot} receipt ≡ logged_at_5 (0x62 ∷ []) =
    ap (λ t. record { call = Log t; now = receipt.moment; answer = answer_of receipt.answer }) text
    ∙ ap (λ n. record { call = Log (0x62 ∷ []); now = n; answer = answer_of receipt.answer }) now
    ∙ ap (λ a. record { call = Log (0x62 ∷ []); now = 5; answer = answer_of a }) answer in (
      (λ number. (mark ∙ sym own, ap (λ n. slice_get r.steps n) number ∙ ap (λ s. slice_get s 1) steps ∙ ap Some (sym claimed))),
      (λ number held.
          let first : Some (logged_at_5 {K = g.row.K.Denot} (0x61 ∷ [])) ≡ Some (logged_at_5 (0x62 ∷ [])) =
          sym (ap (λ n. slice_get r.steps n) number ∙ ap (λ s. slice_get s 0) steps) ∙ held.1 ∙ ap Some claimed in
          let step : logged_at_5 {K = g.row.K.Denot} (0x61 ∷ []) ≡ logged_at_5 (0x62 ∷ []) = cc first in
          let byte : 0x61 ≡ 0x62 = ap (λ (s : BoardStep g.row.K.Denot). first_byte s.call) step in
          absurd (omega (arith, byte))),
    )
