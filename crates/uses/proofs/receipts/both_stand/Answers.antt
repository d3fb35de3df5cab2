use Rattle.std.proofs.Common.{suc, ap, subst}
use Rattle.std.specs.Prelude.{IfSome}
use Rattle.indicatif_board.specs.Calls.{answer_of}
use Rattle.indicatif_board.specs.Recorded.{IsOneRun}
use Rattle.uses.proofs.ReceiptLemmas.{unbroken_behind}
use Rattle.uses.proofs.receipts.both_stand.Goals as goal

pub returns : goal.returns
returns g c = λ held.
    let m = g.K.Tracks.means in
    let lent = c.with_record.ensures in
    let found = lent.2 held in
    let r = found.0 in
    let run : IsOneRun m r = subst (λ history. IfSome history (IsOneRun m)) found.1 lent.1 in
    let first = c.args.one.now in
    let second = c.args.other.now in
    let says = c.what_a_receipt_says.ensures in (
      r,
      run,
      found.2,
      found.3,
      λ one other. (
        says.rows _ r _ run.2 first found.2 (ap answer_of one) (unbroken_behind (suc first.number) r.steps found.4),
        says.rows _ r _ run.2 second found.3 (ap answer_of other) (unbroken_behind (suc second.number) r.steps found.4),
        λ less. says.in_order _ r _ run.2 first second found.2 found.3 less (ap answer_of one) (ap answer_of other) (unbroken_behind (suc first.number) r.steps found.4),
      ),
    )
