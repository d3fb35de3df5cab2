use Rattle.indicatif_term.proofs.EngineResizeLemmas.{unknown_cut}
use Rattle.indicatif_term.proofs.engine.Engine.cut_lines.Goals as goal

pub returns-then-self-eq0-clause-cut : goal.returns-then-self-eq0-clause-cut
returns-then-self-eq0-clause-cut g c = unknown_cut c.args.widths.from c.args.widths.to c.args.self.now.shown c.none.result c.none.ensures.heights c.none.ensures.lines
