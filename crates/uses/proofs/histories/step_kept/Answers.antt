use Rattle.std.proofs.Common.{ap, ◌∙◌, inl, inr}
use Rattle.indicatif_bar.specs.Commands.{BarRecord}
use Rattle.uses.proofs.LentLemmas.{moved_position}
use Rattle.uses.proofs.histories.step_kept.Goals as goal

pub returns : goal.returns
returns g c = λ bar own there. elim c.apply.ensures.grows [
  | inl adds ↦
      let r = adds.records.0 own bar there in inr (
        r.0,
        r.1,
        elim r.2 [
          | inl obeyed ↦ ap (λ (b : BarRecord g.row.K.Denot). b.progress.position) obeyed ∙ moved_position g.K.ProgressTracker.means 1 bar c.args.now
          | inr refused ↦ elim refused.2 [ inl short ↦ absurd (cc short.1) | inr late ↦ absurd (cc late.1) ]
        ],
      )
  | inr turned ↦ inl turned
]
