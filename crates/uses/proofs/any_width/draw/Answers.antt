use Rattle.uses.specs.AnyWidth.{two_lines, in_place}
use Rattle.uses.proofs.AnyWidthLemmas.{breaks}
use Rattle.uses.proofs.any_width.draw.Goals as goal

pub returns-in_err-write_lines : goal.returns-in_err-write_lines
returns-in_err-write_lines g c =
    let view = g.T.TermLike.view in
    breaks view (c.what_own_rows_draw.ensures.broken view) (two_lines c.args.first.now) (in_place c.args.second.now) c.args.own.now c.write_lines.new.own
    _ c.from_residual.result c.from_residual.ensures.1 c.in_err-write_lines.ensures

pub returns : goal.returns
returns g c =
    let view = g.T.TermLike.view in
    c.what_own_rows_draw.ensures.next view (two_lines c.args.first.now) (in_place c.args.second.now) c.args.own.now c.write_lines.new.own c.write_in_place.new.own c.write_in_place.result
    c.in_ok-write_lines.ensures c.write_in_place.ensures
