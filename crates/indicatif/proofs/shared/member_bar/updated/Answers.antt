use Rattle.std.specs.Fn.{FnOnceReturnsAt}
use Rattle.indicatif_board.specs.BarIds.{id_of}
use Rattle.indicatif.proofs.FrontLemmas.{updated_answers}
use Rattle.indicatif.proofs.shared.member_bar.updated.Goals as goal

pub returns : goal.returns
returns g c = updated_answers g.row.K.Denot _ _ (FnOnceReturnsAt g.F.FnOnce c.args.f) (id_of c.args.id) _ c.bar.result c.change_by-change.result c.tell_change.result
    c.bar.ensures.foreign c.bar.ensures.record c.change_by-change.ensures c.tell_change.ensures
