use Rattle.std.proofs.Common.{ap, subst}
use Rattle.std.specs.Prelude.{IfSome}
use Rattle.indicatif_board.specs.Calls.{answer_of}
use Rattle.indicatif_board.specs.Recorded.{IsOneRun}
use Rattle.uses.specs.Readings.{StandAmong, logged_rows}
use Rattle.uses.proofs.receipts.warned_above.Goals as goal

pub returns : goal.returns
returns g c =
    let m = g.K.Tracks.means in
    let lent = c.with_record.ensures in
    let found = lent.2 c.if-not-with_record.false in
    let r = found.0 in
    let run : IsOneRun m r = subst (λ history. IfSome history (IsOneRun m)) found.1 lent.1 in (
      r,
      run,
      found.2,
      λ yes unbroken. subst (λ text. StandAmong (logged_rows r.target.columns text) run.2.state.lists.above) c.in-Some.ensures
          (c.what_a_receipt_says.ensures.rows _ r _ run.2 c.in-Some.receipt found.2 (ap answer_of yes) unbroken),
    )
