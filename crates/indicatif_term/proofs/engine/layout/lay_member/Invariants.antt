use Rattle.indicatif_term.proofs.LaidLemmas.{MemberLaid}
use Rattle.indicatif_term.proofs.engine.layout.lay_member.Given as goal

abbrev pub invariant-loop-line : goal.invariant-loop-line
invariant-loop-line l = MemberLaid l.window.columns l.window.rows l.beside.lines.now l.member l.line-index l.fn.laid l.laid
