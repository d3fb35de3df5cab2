use Rattle.std.proofs.Common.{inl, refl}
use Rattle.indicatif.proofs.shared.locked_bar.LockedBar.redraw.Goals as goal

pub returns-in-Alone : goal.returns-in-Alone
returns-in-Alone g c = rw c.in-Alone.is
    (c.force_draw.new.self, refl, (c.args.now, record { was = c.bar.ensures.some; done = inl c.force_draw.ensures.bar; leads = c.force_draw.ensures.leads }))
