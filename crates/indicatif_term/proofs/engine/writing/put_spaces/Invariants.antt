use Rattle.std.proofs.Common.{◌-◌, ◌≤◌, replicate}
use Rattle.indicatif_term.specs.Calls.{LeadsOn}
use Rattle.indicatif_term.proofs.engine.writing.put_spaces.Given as goal

abbrev pub invariant-loop-left : goal.invariant-loop-left
invariant-loop-left g l = record {
  in_count : l.left ≤ l.fn.count;
  reached : LeadsOn (replicate (l.fn.count - l.left) 0x20) (g.T.TermLike.view l.fn.term) (g.T.TermLike.view l.term);
}

abbrev pub decreases-loop-left : goal.decreases-loop-left
decreases-loop-left g l = l.left
