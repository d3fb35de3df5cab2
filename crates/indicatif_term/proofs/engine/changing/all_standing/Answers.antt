use Rattle.std.proofs.Common.{arith, sym, ◌≡◌, ◌∙◌, take, take_all}
use Rattle.indicatif_term.proofs.WalkLemmas.{stays_more, stays_less}
use Rattle.indicatif_term.proofs.engine.changing.all_standing.Goals as goal

pub returns-then-not-is_left : goal.returns-then-not-is_left
returns-then-not-is_left c = sym (stays_less c.args.lines.now c.loop-line.line-index c.line-item.result (omega arith) (sym c.line-item.is) (sym c.is_left.ensures ∙ c.if-not-is_left.true))

pub loop-line-preserved : goal.loop-line-preserved
loop-line-preserved c = stays_more c.args.lines.now c.loop-line.line-index c.line-item.result (omega arith) (sym c.line-item.is) (sym c.is_left.ensures ∙ c.if-not-is_left.false)
    ∙ c.loop-line.invariant

pub returns : goal.returns
returns c =
    let all : take c.loop-line.line-index c.args.lines.now ≡ c.args.lines.now = take_all c.loop-line.line-index c.args.lines.now (omega arith) in
    sym (rw all at c.loop-line.invariant)
