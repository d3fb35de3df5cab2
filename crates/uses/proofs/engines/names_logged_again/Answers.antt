use Rattle.indicatif_term.specs.Engines.{engine_term}
use Rattle.indicatif_term.specs.Lists.{forgotten_lists}
use Rattle.uses.proofs.AgainLemmas.{forgotten_again, logged_at_once, logged_once_more, names_plain}
use Rattle.uses.proofs.engines.names_logged_again.Goals as goal

pub returns-in-Err-Terminal : goal.returns-in-Err-Terminal
returns-in-Err-Terminal g c =
    let view = g.T.TermLike.view in
    let begun = view (engine_term c.args.engine.now) in
    let first = c.in-Err-Terminal in
    let last = c.log-in-Err-Terminal in
    let fits = forgotten_again c.log.new.self begun first.field-0 first.field-0-0 first.field-0-is (first.ensures.lists forgotten_lists c.requires.failed) in
    logged_once_more c.what_stands_over_the_rest.ensures.shows c.what_is_known_again.ensures.over begun (view (engine_term c.log.new.self)) (view (engine_term last.new.self))
    first.field-0 first.field-0-0 last.result first.field-0-is c.requires.columns c.requires.rows first.ensures.counted last.ensures.counted
    (first.ensures.paints forgotten_lists c.requires.failed names_plain) (last.ensures.paints forgotten_lists fits names_plain)

pub returns-in_default-2 : goal.returns-in_default-2
returns-in_default-2 g c =
    let view = g.T.TermLike.view in
    logged_at_once c.what_stands_over_the_rest.ensures.shows c.what_is_known_again.ensures.over (view (engine_term c.args.engine.now)) (view (engine_term c.log.new.self))
    c.log.result c.requires.columns c.requires.rows c.log.ensures.counted (c.log.ensures.paints forgotten_lists c.requires.failed names_plain)
