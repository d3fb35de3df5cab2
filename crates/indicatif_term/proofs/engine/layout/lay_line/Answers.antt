use Rattle.std.proofs.Common.{sym, ◌∙◌}
use Rattle.indicatif_term.proofs.FrontLemmas.{line_stands}
use Rattle.indicatif_term.proofs.engine.layout.lay_line.Goals as goal

pub returns-then-is_same : goal.returns-then-is_same
returns-then-is_same c = record {
  laid = line_stands c.args.window.columns c.args.window.rows c.args.own.bar c.args.beside.now.lines.now c.args.own.text.now c.in-Some.line.now c.args.laid.now c.go_on.new.laid
      c.requires.summed c.requires.standing c.in-Some.ensures (sym c.as_str.ensures.value ∙ c.is_same.ensures c.if-is_same.true) c.go_on.ensures;
}

pub lay_changed-requires-clause-beside : goal.lay_changed-requires-clause-beside
lay_changed-requires-clause-beside c = (c.in-Some.line.now, c.in-Some.ensures)
