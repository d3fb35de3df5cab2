use Rattle.std.proofs.Common.{◌∙◌, ap, drop}
use Rattle.indicatif_board.proofs.members.move_front.Goals as goal

pub returns-clause-items : goal.returns-clause-items
returns-clause-items c =
    let same = c.make_contiguous.ensures.writes_back c.make_contiguous.result.now c.make_contiguous.ensures.len ∙ c.make_contiguous.ensures.value in
    c.take_front.ensures ∙ ap (drop c.args.count) same
