use Rattle.indicatif.proofs.machine.on_stream.Goals as goal

pub returns-clause-target : goal.returns-clause-target
returns-clause-target g c =
    (c.in_ok-told.told.cols, record c.in_ok-told.told { cols = c.own_columns.result }, (c.own_columns.ensures, c.in_ok-target.ensures.target))
