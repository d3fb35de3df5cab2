use Rattle.std.proofs.Common.{◌∙◌, refl, sym}
use Rattle.indicatif_term.proofs.EndedRowLemmas.{from_weaker, stands}
use Rattle.indicatif_term.proofs.EndedTurnLemmas.{together_within}
use Rattle.indicatif_term.proofs.target.ended_rows.EndedRows.end.Goals as goal

pub returns-then-is_between : goal.returns-then-is_between
returns-then-is_between g c = stands g.T.TermLike.view refl (λ s m x. x)

pub returns : goal.returns
returns g c =
    let view = g.T.TermLike.view in
    from_weaker view c.end_drawing.result refl (λ s m x. together_within view (sym c.is_between.ensures ∙ c.if-is_between.false) x) c.end_drawing.ensures
