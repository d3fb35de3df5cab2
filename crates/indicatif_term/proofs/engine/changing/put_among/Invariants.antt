use Rattle.std.proofs.Common.{◌≡◌, ◌+◌, ◌-◌, ◌++◌, min, length, take}
use Rattle.indicatif_term.specs.Calls.{UP, LeadsOn, move_bytes}
use Rattle.indicatif_term.specs.Inside.Changing.{placed_height, walk_bytes, walk_down}
use Rattle.indicatif_term.specs.Standing.{placed}
use Rattle.indicatif_term.proofs.engine.changing.put_among.Given as goal

abbrev pub invariant-loop-line : goal.invariant-loop-line
invariant-loop-line g l = record {
  leads : LeadsOn (move_bytes UP (placed_height (placed l.lines) - 1 + min l.fn.taken 1) ++ walk_bytes 0 (placed (take l.line-index (take (length l.lines - 1) l.lines))))
      (g.T.TermLike.view l.fn.term) (g.T.TermLike.view l.term);
  down_is : l.down ≡ walk_down 0 (placed (take l.line-index (take (length l.lines - 1) l.lines)));
}
