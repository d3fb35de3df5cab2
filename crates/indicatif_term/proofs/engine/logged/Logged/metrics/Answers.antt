use Rattle.std.proofs.Common.{sym, refl}
use Rattle.indicatif_term.proofs.LineEndLemmas.{nothing_ends_at}
use Rattle.indicatif_term.proofs.PlainRowLemmas.{plain_measured}
use Rattle.indicatif_term.proofs.engine.logged.Logged.metrics.Goals as goal

pub returns-in-Nothing-clause-measured : goal.returns-in-Nothing-clause-measured
returns-in-Nothing-clause-measured c = rw c.in-Nothing.is (refl, refl, sym (nothing_ends_at c.args.window.columns))

pub returns-in-Row-clause-measured : goal.returns-in-Row-clause-measured
returns-in-Row-clause-measured c = rw c.in-Row.is (plain_measured c.args.window.columns c.in-Row.text.now (rw c.in-Row.is at c.requires))

pub returns-in-Lines-clause-measured : goal.returns-in-Lines-clause-measured
returns-in-Lines-clause-measured c = rw c.in-Lines.is c.metrics_of_lines.ensures.measured
