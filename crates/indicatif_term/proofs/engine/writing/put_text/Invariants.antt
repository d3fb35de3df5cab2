use Rattle.std.proofs.Common.{map}
use Rattle.indicatif_term.specs.Inside.MoveBytes.{AreWritten}
use Rattle.indicatif_term.proofs.engine.writing.put_text.Given as goal

abbrev pub invariant-loop-line : goal.invariant-loop-line
invariant-loop-line g l = AreWritten l.fn.ended (map (λ line. line.now) l.yielded) l.ended (g.T.TermLike.view l.fn.term) (g.T.TermLike.view l.term)
