use denote.Param.{param}
use Rattle.indicatif.specs.contracts.wrappers.bytes.ProgressBarIterBufRead.fill_buf.{ensures-front, ensures-end}
use Rattle.indicatif.specs.contracts.wrappers.wrap.ProgressBarIter.{the_row}
use Rattle.indicatif.proofs.RestLemmas.{rests-less, third-turns}
use Rattle.indicatif.proofs.wrappers.bytes.ProgressBarIterBufRead.TheImpl.Goals as goal

-- the clause on the lender says of the bar what the trait's doesn't
pub fill_buf-meets : goal.fill_buf-meets
fill_buf-meets g c = third-turns g.world.𝓤 _ _
    (λ r e. ensures-front g.row.T g.row.P g.T.BufRead g.T.BufRead-dict g.T.Read g.T.Read-dict g.P.Moves g.P.Moves-dict
    g.world.𝓛 (c.lifetimes.0, (c.lifetimes.1.0, (c.lifetimes.1.0, tt)))
    g.world.𝓜.mem g.world.𝓡.returns c.args.self (record { entry = c.args.self; exit = e.0 }) r)
    (λ r e. ensures-end g.row.T g.row.P g.T.BufRead g.T.BufRead-dict g.T.Read g.T.Read-dict g.P.Moves g.P.Moves-dict
    g.world.𝓛 (c.lifetimes.0, (c.lifetimes.1.0, (c.lifetimes.1.0, tt)))
    g.world.𝓜.mem g.world.𝓡.returns c.args.self (record { entry = c.args.self; exit = e.0 }) r)
    _ _ (λ r e. rests-less g.world.𝓛 (the_row (param 0 g.row.T) (param 1 g.row.P)) c.args.self.ghost_name _ _ (λ d p. p.0))
