use Rattle.std.proofs.Common.{◌∙◌, sym, ap, ◌≡◌, map, arith, length, ◌≤◌, Some}
use Rattle.std.proofs.lemmas.List.{take_all, length-map}
use Rattle.indicatif_board.specs.Receipts.{step_claimed}
use Rattle.indicatif_board.specs.Recorded.{step_of}
use Rattle.uses.proofs.ReceiptLemmas.{one_more_of_all}
use Rattle.uses.proofs.receipts.are_all.Goals as goal

pub loop-number-preserved : goal.loop-number-preserved
loop-number-preserved g c =
    let x = c.index-receipts-number.result in
    one_more_of_all step_claimed c.args.receipts.now c.args.history.now.steps c.loop-number.number _ x c.loop-number-test.true c.loop-number.invariant c.if-receipt-number.false
    ((c.holds.ensures.0 c.if-not-holds.false).1 ∙ ap (λ r. Some (step_claimed r)) c.index-receipts-number.is)

pub returns : goal.returns
returns g c = λ _.
    let count : length c.entries.result.now ≡ length c.args.history.now.steps = sym (length-map c.entries.result.now step_of) ∙ ap length c.entries.ensures in
    let all : length c.args.history.now.steps ≤ c.loop-number.number = omega (arith, c.loop-number-test.false, c.if-entries-receipts.false, count) in
    ap (map step_claimed) (sym (take_all c.loop-number.number c.args.receipts.now c.loop-number-test.false)) ∙ c.loop-number.invariant ∙ take_all c.loop-number.number c.args.history.now.steps all
