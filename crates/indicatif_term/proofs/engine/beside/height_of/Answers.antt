use Rattle.std.proofs.Common.{◌≡◌, arith, sym, take, take_all}
use Rattle.indicatif_term.proofs.RememberedLemmas.{height_push}
use Rattle.indicatif_term.proofs.engine.beside.height_of.Goals as goal

pub loop-line-preserved : goal.loop-line-preserved
loop-line-preserved c = omega (arith, c.loop-line.invariant, c.saturating_add-rows.ensures, height_push c.args.lines.now c.loop-line.line-index c.line-item.result (omega arith) (sym c.line-item.is))

pub returns : goal.returns
returns c =
    let all : take c.loop-line.line-index c.args.lines.now ≡ c.args.lines.now = take_all c.loop-line.line-index c.args.lines.now (omega arith) in
    rw all at c.loop-line.invariant
