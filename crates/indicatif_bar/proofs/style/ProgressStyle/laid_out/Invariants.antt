use Rattle.std.proofs.Common.{◌≡◌, ◌++◌, [], None, map, drop, string_bytes}
use Rattle.std.specs.Prelude.{option_map, IsTrue}
use Rattle.std.specs.List.{list_all}
use Rattle.indicatif_bar.specs.Bars.{is_bar_line}
use Rattle.indicatif_term.specs.Lines.{line_text}
use Rattle.indicatif_bar.specs.Inside.Steps.{effect_of, wide_found}
use Rattle.indicatif_bar.proofs.LinesLemmas.{lines_from}
use Rattle.indicatif_bar.proofs.style.ProgressStyle.laid_out.Given as goal

abbrev pub invariant-loop-step : goal.invariant-loop-step
invariant-loop-step g l = record {
  texts :
      map line_text l.lines.items ++ lines_from g.K.Tracks.means l.self l.state l.now l.width (option_map wide_found l.line.wide) (string_bytes l.line.text)
      (map (effect_of l.template) (drop l.step-index l.step-items))
      ≡ lines_from g.K.Tracks.means l.self l.state l.now l.width None [] (map (effect_of l.template) l.step-items);
  kind : IsTrue (list_all is_bar_line l.lines.items);
}
