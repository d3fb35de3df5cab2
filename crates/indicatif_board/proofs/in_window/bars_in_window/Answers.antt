use Rattle.std.proofs.Common.{◌≡◌, ◌+◌, ◌-◌, ◌≤◌, map, min, take, drop, length, sym, ap, subst, ◌∙◌, arith, length-drop}
use lib.Seq.{take-length as take_all}
use Rattle.std.proofs.lemmas.List.{length-map, take-map, take_rest}
use Rattle.indicatif_term.specs.Engines.{engine_term}
use Rattle.indicatif_term.specs.Lines.{bar_lines}
use Rattle.indicatif_bar.specs.Shown.{PutsFrame}
use Rattle.indicatif_bar.specs.Stages.{writing_as}
use Rattle.indicatif_board.proofs.WindowLemmas.{SeesEnough, puts_all, first_within, sees_enough}
use Rattle.indicatif_board.proofs.in_window.bars_in_window.Goals as goal

pub returns-then-width-lt-WIDEST-clause-sees : goal.returns-then-width-lt-WIDEST-clause-sees
returns-then-width-lt-WIDEST-clause-sees g c = λ bottom new answer puts.
    let frame = c.args.frame.now in
    let writing = writing_as c.args.writing.now in
    let most : min c.args.gone (length frame) ≡ c.args.gone = omega (arith, c.requires) in
    subst (λ k. PutsFrame g.T.TermLike.view writing bottom k (map bar_lines frame) c.args.engine.now new answer) most
    (subst (λ xs. PutsFrame g.T.TermLike.view writing bottom (min c.args.gone (length frame)) (map bar_lines xs) c.args.engine.now new answer) (take_all frame) puts)

pub returns-clause-within : goal.returns-clause-within
returns-clause-within g c =
    let frame = c.args.frame.now in
    let first = c.drawn_from-first.result in
    let behind : first ≤ c.args.gone = subst (λ k. k ≤ c.args.gone) (sym c.drawn_from-first.ensures) (first_within (writing_as c.args.writing.now) c.args.gone) in
    omega (arith, c.bars_with_lines.ensures.within, ap length (take_rest frame first), length-drop first frame, behind, c.requires)

pub returns-clause-sees : goal.returns-clause-sees
returns-clause-sees g c = λ bottom new answer puts.
    let view = g.T.TermLike.view in
    let v = view (engine_term c.args.engine.now) in
    let writing = writing_as c.args.writing.now in
    let frame = c.args.frame.now in
    let gone = c.args.gone in
    let first = c.drawn_from-first.result in
    let count = c.bars_with_lines.result in
    let rest = take (length frame - first) (drop first frame) in
    let rest_is : rest ≡ drop first frame = take_rest frame first in
    let rows_are : c.height-rows.result ≡ v.rows = c.height-rows.ensures ∙ ap (λ t. (view t).rows) c.term-2.ensures.terminal in
    let columns_are : c.width.result ≡ v.columns = c.width.ensures ∙ ap (λ t. (view t).columns) c.term.ensures.terminal in
    let wide : 3 ≤ v.columns = omega (arith, c.if-width-lt-WIDEST.false, columns_are) in
    let behind : first ≤ gone = subst (λ k. k ≤ gone) (sym c.drawn_from-first.ensures) (first_within writing gone) in
    let within : first + count ≤ length (map bar_lines frame) =
    omega (arith, c.bars_with_lines.ensures.within, ap length rest_is, length-drop first frame, behind, c.requires, length-map frame bar_lines) in
    let enough : SeesEnough v.rows writing gone (first + count) (map bar_lines frame) =
    subst (λ h. SeesEnough h writing gone (first + count) (map bar_lines frame)) rows_are
    (sees_enough c.height-rows.result writing gone first count frame rest c.drawn_from-first.ensures rest_is c.bars_with_lines.ensures.enough) in
    puts_all view writing bottom gone (first + count) (map bar_lines frame) c.args.engine.now new answer wide enough within
    (subst (λ f. PutsFrame view writing bottom (min gone (first + count)) f c.args.engine.now new answer) (sym (take-map bar_lines (first + count) frame)) puts)
