use Rattle.indicatif_term.specs.Engines.{engine_term}
use Rattle.indicatif_term.specs.Lists.{forgotten_lists}
use Rattle.uses.proofs.EngineLemmas.{name_behind, name_plain}
use Rattle.uses.proofs.engines.name_behind_a_failure.Goals as goal

pub returns : goal.returns
returns g c =
    let view = g.T.TermLike.view in
    name_behind (view (engine_term c.args.engine.now)) (view (engine_term c.log.new.self)) c.log.result c.requires.columns c.requires.rows c.log.ensures.counted
    (c.log.ensures.paints forgotten_lists c.requires.failed name_plain) c.what_is_shown_is_read.ensures
