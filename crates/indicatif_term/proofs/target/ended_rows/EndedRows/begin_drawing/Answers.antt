use Rattle.std.proofs.Common.{◌∙◌, Ok, Err, ap}
use Rattle.indicatif_term.specs.EndedRows.{is_between}
use Rattle.indicatif_term.proofs.EndedRowLemmas.{fall_fails, then_falls}
use Rattle.indicatif_term.proofs.EndedCallLemmas.{alone_up}
use Rattle.indicatif_term.proofs.EndedTurnLemmas.{drawn_drawing, opens_drawing}
use Rattle.indicatif_term.proofs.target.ended_rows.EndedRows.begin_drawing.Goals as goal

pub returns-in_err-send : goal.returns-in_err-send
returns-in_err-send g c =
    let view = g.T.TermLike.view in
    let e = Err c.in_err-send.field-0.0 in
    let drawing = ap is_between c.drawn-self.ensures ∙ drawn_drawing c.args.self.now.place in
    fall_fails view c.from_residual.result c.from_residual.ensures.1
    (opens_drawing view {own = c.args.self.now} e drawing c.opening.ensures c.in_err-send.ensures.same c.in_err-send.ensures.writes)

pub returns : goal.returns
returns g c =
    let view = g.T.TermLike.view in
    let r = c.go_up.result in
    let drawing = ap is_between c.drawn-self.ensures ∙ drawn_drawing c.args.self.now.place in
    then_falls view r (opens_drawing view {own = c.args.self.now} (Ok tt) drawing c.opening.ensures c.in_ok-send.ensures.same c.in_ok-send.ensures.writes)
    (alone_up view r c.below.result c.below.ensures c.go_up.ensures)
