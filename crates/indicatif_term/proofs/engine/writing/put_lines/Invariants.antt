use Rattle.std.proofs.Common.{take}
use Rattle.indicatif_term.specs.Standing.{texts}
use Rattle.indicatif_term.specs.Inside.MoveBytes.{AreWritten}
use Rattle.indicatif_term.proofs.engine.writing.put_lines.Given as goal

abbrev pub invariant-loop-line : goal.invariant-loop-line
invariant-loop-line g l = AreWritten l.fn.ended (take l.line-index (texts l.lines)) l.ended (g.T.TermLike.view l.fn.term) (g.T.TermLike.view l.term)
