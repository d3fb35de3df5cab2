use Rattle.std.proofs.Common.{◌<◌, sym, subst}
use Rattle.indicatif_term.specs.Standing.{AreLines}
use Rattle.indicatif_term.proofs.RememberedLemmas.{lines_right, lines_taken, lines_dropped, stands_above, none_above}
use Rattle.indicatif_term.proofs.engine.remembered.Remembered.above.Goals as goal

pub returns-then-self-width-clause-above : goal.returns-then-self-width-clause-above
returns-then-self-width-clause-above c = λ l some a. none_above c.args.width l

pub returns-clause-right : goal.returns-clause-right
returns-clause-right c = λ some.
    let r = c.args.self.now in
    let same = c.if-self-width.false in
    let all = subst (λ n. AreLines n r.lines) same (lines_right r (subst (λ n. 0 < n) (sym same) some)) in
    lines_dropped c.args.width c.first_of_last.result _ (lines_taken c.args.width r.kept r.lines all)

pub returns-clause-above : goal.returns-clause-above
returns-clause-above c = λ l some a. stands_above c.args.width c.first_of_last.result c.args.self.now l some c.if-self-width.false a
