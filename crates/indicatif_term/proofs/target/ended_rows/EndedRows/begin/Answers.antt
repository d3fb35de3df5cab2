use Rattle.std.proofs.Common.{◌∙◌, sym}
use Rattle.indicatif_term.proofs.EndedTurnLemmas.{begins_within, begins_anew}
use Rattle.indicatif_term.proofs.target.ended_rows.EndedRows.begin.Goals as goal

pub returns-then-is_between : goal.returns-then-is_between
returns-then-is_between g c = begins_anew g.T.TermLike.view c.forget_failed.ensures c.begin_drawing.result (sym c.is_between.ensures ∙ c.if-is_between.true) c.begin_drawing.ensures

pub returns : goal.returns
returns g c = begins_within g.T.TermLike.view c.forget_failed.ensures c.breathe.result (sym c.is_between.ensures ∙ c.if-is_between.false) c.breathe.ensures
