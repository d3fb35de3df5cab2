use Rattle.std.proofs.Common.{arith}
use Rattle.indicatif_term.proofs.CountLemmas.{drawn_counts_of}
use Rattle.indicatif_term.proofs.engine.counts.Counts.drawn.Goals as goal

pub returns-then-plan-eq0 : goal.returns-then-plan-eq0
returns-then-plan-eq0 c = λ w pass bottom frame l o q b. drawn_counts_of w c.args.height pass bottom frame l c.args.self.now _ c.args.plan o q
    (λ h. absurd (omega arith))
    (λ h. rw (← b) c.settled.ensures)

pub returns : goal.returns
returns c = λ w pass bottom frame l o q b. drawn_counts_of w c.args.height pass bottom frame l c.args.self.now _ c.args.plan o q
    (λ h. rw (← b) c.settled-2.ensures)
    (λ h. absurd (c.if-plan-eq0.false h))
