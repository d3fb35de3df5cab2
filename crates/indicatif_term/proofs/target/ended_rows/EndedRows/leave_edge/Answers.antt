use Rattle.std.proofs.Common.{refl, sym, subst, arith}
use Rattle.indicatif_term.specs.Inside.EndedRows.{Within, at_column}
use Rattle.indicatif_term.proofs.EndedRowLemmas.{from_weaker, to_weaker, stands}
use Rattle.indicatif_term.proofs.target.ended_rows.EndedRows.leave_edge.Goals as goal

pub returns-then-ne : goal.returns-then-ne
returns-then-ne g c = stands g.T.TermLike.view refl (λ s m x. x)

pub returns : goal.returns
returns g c =
    let view = g.T.TermLike.view in
    let r = c.go_to.result in
    to_weaker view r (λ s m m' x y. subst (λ k. Within view c.go_to.new.self (at_column k s) m') (sym x.0.column) y)
    (from_weaker view r refl (λ s m x. (x, omega (arith, x.0.column, x.0.within))) c.go_to.ensures)
