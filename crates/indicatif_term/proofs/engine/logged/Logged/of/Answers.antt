use Rattle.std.proofs.Common.{sym}
use Rattle.indicatif_term.proofs.LoggedLineLemmas.{logged_some}
use Rattle.indicatif_term.proofs.PlainRowLemmas.{plain_line}
use Rattle.indicatif_term.proofs.engine.logged.Logged.of.Goals as goal

pub returns-then-is_plain_row-clause-lines : goal.returns-then-is_plain_row-clause-lines
returns-then-is_plain_row-clause-lines c = sym (plain_line c.args.window.columns c.args.text.now (c.is_plain_row.ensures.row c.if-is_plain_row.true))

pub returns-clause-lines : goal.returns-clause-lines
returns-clause-lines c = sym (logged_some c.args.text.now (c.is_plain_row.ensures.some c.if-is_plain_row.false))
