use Rattle.std.proofs.Common.{◌-◌, replicate, List, ℕ}
use Rattle.indicatif_term.proofs.CallTurnLemmas.{sends_then, sends_fail}
use Rattle.indicatif_term.proofs.engine.changing.put_filled.Goals as goal

pub returns-in_err-put_str : goal.returns-in_err-put_str
returns-in_err-put_str g c =
    let spaces : List ℕ = replicate (c.args.width - c.args.line.now.last) 0x20 in
    sends_fail spaces _ c.from_residual.result c.from_residual.ensures.1 (rw c.deref.ensures at c.in_err-put_str.ensures)

pub returns : goal.returns
returns g c =
    let spaces : List ℕ = replicate (c.args.width - c.args.line.now.last) 0x20 in
    sends_then spaces _ c.put_fill.result (rw c.deref.ensures at c.in_ok-put_str.ensures) (rw c.saturating_sub.ensures at c.put_fill.ensures)
