use Rattle.indicatif_term.proofs.CallTurnLemmas.{sends_then, sends_fail}
use Rattle.indicatif_term.proofs.engine.writing.write.Goals as goal
use Rattle.indicatif_term.proofs.engine.writing.write.Goals.{in-Among+in_ok-put_among-in-Among, in-Over+in_ok-put_over-in-Over}

pub returns-in_err-begin : goal.returns-in_err-begin
returns-in_err-begin g c = sends_fail _ _ c.from_residual.result c.from_residual.ensures.1 c.in_err-begin.ensures

pub returns-in_err-put_among-in-Among : goal.returns-in_err-put_among-in-Among
returns-in_err-put_among-in-Among g c =
    let r = c.from_residual-in_err-put_among-in-Among.result in
    rw c.in-Among.is (sends_then _ _ r c.in_ok-begin.ensures (sends_fail _ _ r c.from_residual-in_err-put_among-in-Among.ensures.1 c.in_err-put_among-in-Among.ensures))

pub returns-in_err-put_over-in-Over : goal.returns-in_err-put_over-in-Over
returns-in_err-put_over-in-Over g c =
    let r = c.from_residual-in_err-put_over-in-Over.result in
    rw c.in-Over.is (sends_then _ _ r c.in_ok-begin.ensures (sends_fail _ _ r c.from_residual-in_err-put_over-in-Over.ensures.1 c.in_err-put_over-in-Over.ensures))

pub returns : goal.returns
returns g c = sends_then _ _ c.put_rest.result c.in_ok-begin.ensures (elim c.match-writing.branch [
  | in-Among+in_ok-put_among-in-Among w ↦
      rw w.in-Among.is (sends_then _ _ c.put_rest.result w.in_ok-put_among-in-Among.ensures (rw (w.term-is, w.in-Among.is) at c.put_rest.ensures))
  | in-Over+in_ok-put_over-in-Over w ↦
      rw w.in-Over.is (sends_then _ _ c.put_rest.result w.in_ok-put_over-in-Over.ensures (rw (w.term-is, w.in-Over.is) at c.put_rest.ensures))
])
