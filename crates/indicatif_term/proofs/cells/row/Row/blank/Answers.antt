use Rattle.indicatif_term.proofs.ShownCellLemmas.{blank_shown}
use Rattle.indicatif_term.proofs.cells.row.Row.blank.Goals as goal

pub returns : goal.returns
returns c = blank_shown c.args.columns c.new-2.result.items c.new.result.items c.new.ensures.items
