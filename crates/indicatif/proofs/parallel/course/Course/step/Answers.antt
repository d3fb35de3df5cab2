use Rattle.std.proofs.Common.{◌≤◌, ◌<◌, arith}
use Rattle.indicatif.proofs.BlockLemmas.{blocks_more}
use Rattle.indicatif.proofs.parallel.course.Course.step.Goals as goal

pub returns-clause-goes : goal.returns-clause-goes
returns-clause-goes g c start before =
    let few : c.min-n.result ≤ 4096 = omega arith in
    let some : 0 < c.min-n.result = omega arith in
    blocks_more g.P.Moves.stands g.P.Moves.leads start _ _ _ _ some few before c.advance.result c.advance.ensures.led c.advance.ensures.goes
