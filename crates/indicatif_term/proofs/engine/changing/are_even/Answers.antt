use Rattle.std.proofs.Common.{arith, sym, ◌≡◌, take, take_all}
use Rattle.indicatif_term.proofs.MovedByteLemmas.{even_next}
use Rattle.indicatif_term.proofs.engine.changing.are_even.Goals as goal

pub loop-line-preserved : goal.loop-line-preserved
loop-line-preserved c =
    even_next c.args.width c.args.lines.now c.loop-line.line-index c.line-item.result (omega arith) (sym c.line-item.is) c.loop-line.invariant (c.is_even.ensures c.if-not-is_even.false)

pub returns : goal.returns
returns c =
    let all : take c.loop-line.line-index c.args.lines.now ≡ c.args.lines.now = take_all c.loop-line.line-index c.args.lines.now (omega arith) in
    λ is. rw all at c.loop-line.invariant
