use Rattle.std.proofs.Common.{◌≡◌, ◌≤◌, length}
use Rattle.indicatif_term.specs.Inside.Layouts.{FrontLaid}
use Rattle.indicatif_term.proofs.engine.layout.pass_standing.Given as goal

abbrev pub invariant-loop-at : goal.invariant-loop-at
invariant-loop-at l = record {
  within : l.at ≤ length l.asked.frame.now;
  behind : l.from ≤ l.at;
  front : FrontLaid l.window.columns l.window.rows l.asked.pass l.standing l.asked.frame.now l.at l.laid;
  blanks : l.laid.blanks ≡ l.fn.laid.blanks;
}
