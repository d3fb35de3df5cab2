use Rattle.std.proofs.Common.{◌≡◌, subst}
use Rattle.indicatif.specs.Seek.{after_move}
use Rattle.indicatif.proofs.shared.shared_bar.SharedBar.place_after.Goals as goal

pub returns-in-Made : goal.returns-in-Made
returns-in-Made g c =
    let made = c.in-Made.ensures in
    (made.0, made.1, subst (λ seeks. (made.1, c.place_after.new.seeks) ≡ after_move 5 10 seeks made.0 c.args.n) c.loop.invariant made.2)
