use Rattle.std.proofs.Common.{◌-◌, ◌∙◌, sym, ap, map, drop, length, length-drop, arith}
use Rattle.std.proofs.lemmas.List.{take_all, drop-map}
use Rattle.indicatif_term.specs.Lines.{bar_lines, text_lines, logged_lines}
use Rattle.indicatif_term.specs.Target.{is_bottom}
use Rattle.indicatif_bar.proofs.StageLemmas.{puts_text}
use Rattle.indicatif_board.proofs.in_window.put.Goals as goal

pub returns-in-TextAndFrame : goal.returns-in-TextAndFrame
returns-in-TextAndFrame g c =
    let rest = drop c.args.gone c.args.frame.now in
    let all = take_all (length c.args.frame.now - c.args.gone) rest (omega (arith, length-drop c.args.gone c.args.frame.now)) in
    rw c.in-TextAndFrame.is (puts_text g.T.TermLike.view (text_lines (logged_lines c.in-TextAndFrame.text.now)) (is_bottom c.args.alignment) c.args.gone
    (map bar_lines c.args.frame.now) _ c.args.engine.now c.log.new.self c.log.result
    (drop-map bar_lines c.args.gone c.args.frame.now ∙ ap (map bar_lines) (sym all)) (λ short. (c.log.ensures.memory short).1)
    c.log.ensures.answer c.log.ensures.counted c.log.ensures.unchanged c.log.ensures.moves c.log.ensures.lists c.log.ensures.paints)
