use Rattle.std.proofs.Common.{◌≡◌, ◌+◌, drop}
use Rattle.std.specs.List.{prefix_len}
use Rattle.indicatif_board.proofs.members.leading.Given as goal

abbrev pub invariant-loop-count : goal.invariant-loop-count
invariant-loop-count g l = prefix_len (λ m. m.dropped) l.members.items ≡ l.count + prefix_len (λ m. m.dropped) (drop l.count l.members.items)
