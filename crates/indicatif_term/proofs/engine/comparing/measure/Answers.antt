use Rattle.std.proofs.Common.{sym}
use Rattle.indicatif_term.proofs.PlainRowLemmas.{plain_row}
use Rattle.indicatif_term.proofs.engine.comparing.measure.Goals as goal

pub returns-then-is_plain_row-clause-sized : goal.returns-then-is_plain_row-clause-sized
returns-then-is_plain_row-clause-sized c =
    let p = plain_row c.args.window.columns c.args.text.now (c.is_plain_row.ensures.row c.if-is_plain_row.true) in
    record { rows_are = sym p.0.one_row; last_is = sym p.0.last_is; narrow = p.0.narrow; single = λ _. p.1 }
