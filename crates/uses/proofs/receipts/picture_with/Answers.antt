use Rattle.std.proofs.Common.{◌++◌, suc, ap}
use Rattle.std.specs.Prelude.{string_bytes}
use Rattle.indicatif_term.specs.Lists.{live_rows, all_rows}
use Rattle.indicatif_board.specs.Calls.{answer_of}
use Rattle.uses.specs.Readings.{logged_rows}
use Rattle.uses.proofs.ReceiptLemmas.{unbroken_behind, stand_among}
use Rattle.uses.proofs.receipts.picture_with.Goals as goal

pub returns-in-Ok : goal.returns-in-Ok
returns-in-Ok g c = λ said v opening starts run fine plain.
    let receipt = c.args.receipt.now in
    let r = c.args.history.now in
    let held = c.holds.ensures.0 c.if-not-holds.false in
    let lists = run.state.lists in
    let rows = logged_rows r.target.columns (string_bytes receipt.text) in
    let above = c.what_a_receipt_says.ensures.rows _ r _ run receipt held (ap answer_of said) (unbroken_behind (suc receipt.number) r.steps fine) in (
      all_rows v.columns lists,
      c.in-Ok.ensures v opening starts run fine plain,
      stand_among rows (lists.above ++ lists.kept) (live_rows v.columns lists.live) (stand_among rows lists.above lists.kept above),
    )
