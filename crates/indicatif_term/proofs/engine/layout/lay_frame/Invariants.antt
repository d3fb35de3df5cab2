use Rattle.std.proofs.Common.{◌≡◌, ◌≤◌, ◌-◌, length}
use Rattle.indicatif_term.specs.Inside.Layouts.{FrontLaid}
use Rattle.indicatif_term.proofs.engine.layout.lay_frame.Given as goal

abbrev pub invariant-members : goal.invariant-members
invariant-members l = record {
  within : l.at ≤ length l.asked.frame.now;
  blanks_are : l.laid.blanks ≡ l.beside.blanks;
  front : FrontLaid l.window.columns l.window.rows l.asked.pass l.beside.lines.now l.asked.frame.now l.at l.laid;
}

abbrev pub decreases-members : goal.decreases-members
decreases-members l = length l.asked.frame.now - l.at
