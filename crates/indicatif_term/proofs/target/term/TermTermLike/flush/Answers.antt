use Rattle.std.proofs.Common.{[], Ok, Err, refl, ap}
use Rattle.std.specs.declared.io.Error.{Error}
use Rattle.indicatif_term.specs.Term.{WriterTerm}
use Rattle.indicatif_term.proofs.WriterLemmas.{sent, kept_all}
use Rattle.indicatif_term.proofs.target.term.TermTermLike.flush.Goals as goal

pub returns-in-Ok : goal.returns-in-Ok
returns-in-Ok g c =
    let t = c.self.inside in
    let before : WriterTerm g.row.W.Denot = record { writer = t.writer; columns = t.columns; rows = t.rows; faults = t.faults; kind = t.kind } in
    sent g.W.Write.contents before c.flush.new.self [] c.args.self.now _ (Ok tt) (Ok tt) c.self.view_is refl (kept_all {E = Error} _ _ (Ok tt) c.flush.ensures.bytes) refl

pub returns-in-Err : goal.returns-in-Err
returns-in-Err g c =
    let t = c.self.inside in
    let before : WriterTerm g.row.W.Denot = record { writer = t.writer; columns = t.columns; rows = t.rows; faults = t.faults; kind = t.kind } in
    sent g.W.Write.contents before c.flush.new.self [] c.args.self.now c.counted.new.self
    (Err c.in-Err.e) (Err c.counted.result) c.self.view_is c.counted.ensures.counts (kept_all _ _ (Err c.in-Err.e) c.flush.ensures.bytes) (ap Err c.counted.ensures.same)
