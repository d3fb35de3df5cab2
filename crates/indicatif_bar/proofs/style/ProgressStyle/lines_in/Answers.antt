use Rattle.std.proofs.Common.{◌∙◌, sym, ap, map}
use Rattle.indicatif_term.specs.Lines.{line_text}
use Rattle.indicatif_bar.proofs.EmptyStyleLemmas.{empty_styles_have_no_lines}
use Rattle.indicatif_bar.proofs.style.ProgressStyle.lines_in.Goals as goal

pub returns-then-is_empty-clause-lines : goal.returns-then-is_empty-clause-lines
returns-then-is_empty-clause-lines g c =
    ap (map line_text) c.new.ensures.items
    ∙ sym (empty_styles_have_no_lines g.K.Tracks.means c.args.self.now c.args.state.now c.args.now c.args.width (sym c.is_empty.ensures ∙ c.if-is_empty.true))
