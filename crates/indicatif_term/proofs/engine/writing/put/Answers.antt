use Rattle.std.proofs.Common.{append-nil, sym}
use Rattle.indicatif_term.proofs.CallTurnLemmas.{breaks_early, sends_then, or_lt_after}
use Rattle.indicatif_term.proofs.PutLineLemmas.{puts_fail, puts_of}
use Rattle.indicatif_term.proofs.engine.writing.put.Goals as goal

pub returns-in_err-new_row : goal.returns-in_err-new_row
returns-in_err-new_row g c = puts_fail _ _ _ _ c.from_residual.result c.from_residual.ensures.1 (rw append-nil (breaks_early c.args.line.now c.in_err-new_row.ensures))

pub returns : goal.returns
returns g c = puts_of _ _ _ _ _ c.put_str.result (sym (or_lt_after c.args.ended.now 0)) (rw append-nil (sends_then c.args.line.now _ c.put_str.result c.in_ok-new_row.ensures c.put_str.ensures))
