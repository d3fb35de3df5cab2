use Rattle.std.proofs.Common.{◌∙◌, ◌<◌, sym, refl, arith}
use Rattle.std.proofs.lemmas.Bool.{eq-eqb}
use Rattle.indicatif_term.proofs.JoinerLemmas.{no_place, past_joiners}
use Rattle.indicatif_term.proofs.cells.joiners.leads_to_none.Goals as goal

pub returns-then-last-eq0 : goal.returns-then-last-eq0
returns-then-last-eq0 c = eq-eqb c.args.last 0 c.if-last-eq0.true ∙ sym (no_place c.args.joiners.now c.args.last c.if-last-eq0.true)

pub returns-else-last-eq0 : goal.returns-else-last-eq0
returns-else-last-eq0 c =
    let some : 0 < c.args.last = omega (arith, c.if-last-eq0.false) in
    past_joiners _ c.args.joiners.now c.args.last some refl
