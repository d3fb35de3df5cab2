use Rattle.std.proofs.Common.{take}
use Rattle.indicatif_term.specs.Calls.{LeadsOn}
use Rattle.indicatif_term.specs.Standing.{placed}
use Rattle.indicatif_term.specs.Inside.Changing.{moved_bytes}
use Rattle.indicatif_term.proofs.engine.changing.put_over.Given as goal

abbrev pub invariant-loop-line : goal.invariant-loop-line
invariant-loop-line g l = LeadsOn (moved_bytes l.fn.width l.fn.taken (placed (take l.line-index l.lines))) (g.T.TermLike.view l.fn.term) (g.T.TermLike.view l.term)
