use Rattle.std.proofs.Common.{ap, inl, inr}
use Rattle.indicatif_bar.specs.Commands.{BarRecord}
use Rattle.uses.proofs.lent.say_on.Goals as goal

pub returns-clause-message : goal.returns-clause-message
returns-clause-message g c = λ bar own there.
    let r = c.command.ensures.«record» own bar there in (
      r.0,
      r.1,
      elim r.2 [
        | inl obeyed ↦ inl (ap (λ (b : BarRecord g.row.K.Denot). b.progress.message) obeyed)
        | inr refused ↦ inr refused.3
      ],
    )
