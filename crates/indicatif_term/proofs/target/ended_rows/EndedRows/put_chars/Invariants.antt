use Rattle.std.proofs.Common.{Ok, chars}
use Rattle.indicatif_term.specs.Inside.EndedRows.{WithinIf, Falls, all_put, AreShown}
use Rattle.indicatif_term.proofs.target.ended_rows.EndedRows.put_chars.Given as goal

abbrev pub invariant-loop-c : goal.invariant-loop-c
invariant-loop-c g l =
    let view = g.T.TermLike.view in
    let X = AreShown (chars l.text) in
    Falls view (WithinIf view X) (WithinIf view X) (all_put l.yielded) l.initial.self l.self (Ok tt)
