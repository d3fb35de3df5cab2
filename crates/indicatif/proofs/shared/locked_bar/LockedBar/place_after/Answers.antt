use Rattle.std.proofs.Common.{inl, refl}
use Rattle.indicatif.proofs.FrontLemmas.{tried_as}
use Rattle.indicatif.proofs.shared.locked_bar.LockedBar.place_after.Goals as goal

pub returns-in-Alone : goal.returns-in-Alone
returns-in-Alone g c = rw c.in-Alone.is (
  c.pos.result,
  c.update_seq-place.result,
  c.update_seq-place.ensures,
  (c.apply_to.new.bar, refl, (c.now-now.result, record { was = c.bar.ensures.some; done = inl c.apply_to.ensures.bar; leads = c.apply_to.ensures.leads })),
)

pub returns-in-Member : goal.returns-in-Member
returns-in-Member g c = rw c.in-Member.is (tried_as c.place_after.result (λ answer made. (made.0, made.1, made.2, (refl, made.3))) (λ again same. same) c.place_after.ensures)
