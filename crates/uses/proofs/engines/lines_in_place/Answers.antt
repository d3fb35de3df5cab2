use Rattle.std.proofs.Common.{◌∙◌, ◌++◌, ◌∷◌, [], Ok, Err, ap, map, arith}
use Rattle.std.specs.Prelude.{codes, false}
use Rattle.std.proofs.lemmas.Result.{err_from_is_err_and}
use Rattle.indicatif_term.specs.Engines.{engine_term}
use Rattle.indicatif_term.specs.Lines.{all_lines, bar_lines}
use Rattle.indicatif_term.specs.Lists.{drawn, logged, opening_lists}
use Rattle.uses.proofs.EngineLemmas.{drawn_sound, name, refused_for_memory, stands_led, stands_new, stands_read, three_fit, three_plain, two_fit, two_plain, two_read, where_ok}
use Rattle.uses.proofs.engines.lines_in_place.Goals as goal

pub returns-clause-shown : goal.returns-clause-shown
returns-clause-shown c =
    let three = map bar_lines c.args.first.now in
    let two = map bar_lines c.args.second.now in
    let e = c.args.engine.now in
    let begun = stands_new 5 4 e c.requires.new.0 c.requires.new.1 (c.a_new_terminal_is_an_opening.ensures.shows 4 5 (omega arith)) in
    let above = logged 5 4 false name three opening_lists in
    let logs = stands_led 5 4 opening_lists (λ w h. logged w h false name three opening_lists) e c.log.new.self (Ok c.in_ok-log.field-0) begun c.in_ok-log.ensures.counted
    (c.in_ok-log.ensures.lists opening_lists c.requires.new.0) (c.in_ok-log.ensures.paints opening_lists c.requires.new.0 (rw c.requires.first three_plain)) in
    let draws = stands_led 5 4 above (λ w h. drawn w h false 0 two above) c.log.new.self c.draw.new.self c.draw.result logs c.draw.ensures.counted
    (c.draw.ensures.lists above logs.fits) (c.draw.ensures.paints above logs.fits (rw c.requires.second two_plain)) in
    where_ok c.draw.result (stands_read 5 4 (drawn 5 4 false 0 two above) c.draw.new.self (codes "a.txt" ∷ codes "y" ∷ codes "b.txt" ∷ []) c.what_is_shown_is_read.ensures
    (drawn_sound 5 4 0 false two above) (rw (c.requires.first, c.requires.second) two_read)) draws

pub returns-clause-refused : goal.returns-clause-refused
returns-clause-refused c =
    let m = engine_term c.log.new.self in
    let wide = c.in_ok-log.ensures.counted.columns_stay ∙ ap (λ t. t.screen.columns) c.requires.new.1 in
    refused_for_memory m.terminal.screen.columns (all_lines (map bar_lines c.args.second.now)) c.draw.result m (engine_term c.draw.new.self) wide (rw c.requires.second two_fit)
    c.draw.ensures.answer c.draw.ensures.counted

pub returns-in_err-log-clause-refused : goal.returns-in_err-log-clause-refused
returns-in_err-log-clause-refused c =
    let m = engine_term c.args.engine.now in
    let x = err_from_is_err_and c.from_residual.result c.from_residual.ensures.1 in
    rw (x.1 ∙ ap Err x.2) (refused_for_memory m.terminal.screen.columns (name ++ all_lines (map bar_lines c.args.first.now)) (Err c.in_err-log.field-0.0) m (engine_term c.log.new.self)
    (ap (λ t. t.screen.columns) c.requires.new.1) (rw c.requires.first three_fit) c.in_err-log.ensures.answer c.in_err-log.ensures.counted)
