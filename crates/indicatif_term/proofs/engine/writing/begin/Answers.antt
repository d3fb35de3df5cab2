use Rattle.indicatif_term.specs.Inside.MoveBytes.{reach_bytes, back_bytes}
use Rattle.std.proofs.Common.{◌++◌}
use Rattle.indicatif_term.proofs.CallTurnLemmas.{sends_then, sends_fail}
use Rattle.indicatif_term.proofs.engine.writing.begin.Goals as goal

pub returns-in_err-begin_anew : goal.returns-in_err-begin_anew
returns-in_err-begin_anew g c =
    let p = c.args.writing.now in
    sends_fail (reach_bytes p.fresh.down p.fresh.rows ++ back_bytes p.below p.taken) _ c.from_residual.result c.from_residual.ensures.1 c.in_err-begin_anew.ensures

pub returns-in_err-reach : goal.returns-in_err-reach
returns-in_err-reach g c =
    let p = c.args.writing.now in
    sends_then (reach_bytes p.fresh.down p.fresh.rows ++ back_bytes p.below p.taken) _ c.from_residual-in_err-reach.result c.in_ok-begin_anew.ensures
    (sends_fail (back_bytes p.below p.taken) _ c.from_residual-in_err-reach.result c.from_residual-in_err-reach.ensures.1 c.in_err-reach.ensures)

pub returns : goal.returns
returns g c =
    let p = c.args.writing.now in
    sends_then (reach_bytes p.fresh.down p.fresh.rows ++ back_bytes p.below p.taken) _ c.take_back.result c.in_ok-begin_anew.ensures
    (sends_then (back_bytes p.below p.taken) _ c.take_back.result c.in_ok-reach.ensures c.take_back.ensures)
