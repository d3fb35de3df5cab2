use Rattle.std.proofs.Common.{◌≡◌, ◌++◌, take, drop, map}
use Rattle.indicatif_bar.proofs.tracker.tick_all.Given as goal

abbrev pub invariant-loop-entry : goal.invariant-loop-entry
invariant-loop-entry g l =
    l.entry-items ≡ map (λ entry. (entry.0, g.K.Tracks.means.ticked entry.1 l.state l.now)) (take l.entry-index l.initial.entry-items) ++ drop l.entry-index l.initial.entry-items
