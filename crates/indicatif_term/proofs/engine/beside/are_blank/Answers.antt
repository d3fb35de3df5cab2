use Rattle.std.proofs.Common.{arith, ◌≡◌, sym, subst, refl}
use Rattle.indicatif_term.proofs.LaidLemmas.{ShowNothing, one_blank}
use Rattle.indicatif_term.proofs.engine.beside.are_blank.Goals as goal

pub loop-at-init : goal.loop-at-init
loop-at-init c = (refl, refl)

pub loop-at-preserved : goal.loop-at-preserved
loop-at-preserved c =
    let x = c.index-lines-at.result in
    let b = c.is_blank.ensures c.if-not-is_blank.false in
    one_blank c.args.lines.now c.loop-at.at x (omega arith) (sym c.index-lines-at.is) b.0 b.1 c.loop-at.invariant

pub returns : goal.returns
returns c = λ _.
    let here : c.loop-at.at ≡ c.args.blanks = omega arith in
    let b : ShowNothing c.args.blanks c.args.lines.now = subst (λ n. ShowNothing n c.args.lines.now) here c.loop-at.invariant in
    record { in_lines = omega arith; empty = b.0; counts = b.1 }
