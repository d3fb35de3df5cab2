use Rattle.std.proofs.Common.{◌≡◌, ◌++◌, List}
use Rattle.indicatif_term.specs.declared.engine.remembered.StandingLine.{StandingLine}
use Rattle.indicatif_term.proofs.BesideLemmas.{AreBlanks}
use Rattle.indicatif_term.proofs.engine.beside.below_blanks.Given as goal

abbrev pub invariant-loop : goal.invariant-loop
invariant-loop l = record {
  blanks : List StandingLine;
  are : AreBlanks l.counter blanks;
  more : l.laid.more.items ≡ l.fn.laid.more.items ++ blanks;
  plan : l.laid.plan ≡ l.fn.laid.plan;
  at : l.laid.at ≡ l.fn.laid.at;
  changed : l.laid.changed.items ≡ l.fn.laid.changed.items;
}
