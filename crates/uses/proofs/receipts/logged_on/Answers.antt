use Rattle.std.proofs.Common.{sym, subst, inl, inr}
use Rattle.indicatif_board.specs.Receipts.{Holds}
use Rattle.uses.proofs.receipts.logged_on.Goals as goal

pub returns : goal.returns
returns g c = elim c.apply.ensures.grows [
  | inl adds ↦ c.what_a_receipt_says.ensures.stays _ _ _ _ _ _ c.args.receipt.now adds c.requires.held
  | inr turned ↦ subst (λ r. Holds r c.args.receipt.now) (sym turned.0) c.requires.held
]
