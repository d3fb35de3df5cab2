use Rattle.indicatif_bar.proofs.WideBarLemmas.{wide_bars_fill}
use Rattle.indicatif_bar.proofs.PlainLineLemmas.{plain_parts_give_plain_lines}
use Rattle.indicatif_bar.proofs.PlainTextLemmas.{plain_texts_give_plain_lines, plain_lines_are_asked}
use Rattle.indicatif_bar.proofs.EmptyStyleLemmas.{empty_styles_have_no_lines}
use Rattle.indicatif_bar.proofs.laws.lines.Goals as goal

pub returns : goal.returns
returns g c = record { fill = wide_bars_fill; plain_parts = plain_parts_give_plain_lines; plain = plain_texts_give_plain_lines; asked = plain_lines_are_asked; none = empty_styles_have_no_lines }
