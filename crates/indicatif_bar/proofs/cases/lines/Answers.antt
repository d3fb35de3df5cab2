use Rattle.std.proofs.Common.{refl}
use Rattle.std.specs.Fmt.{digits}
use Rattle.std.specs.Str.{chars}
use Rattle.unicode_width.proofs.Computing.{unicode_width}
use Rattle.unicode_segmentation.proofs.Computing.{unicode_segmentation}
use Rattle.indicatif_text.specs.Columns.{visible}
use Rattle.indicatif_text.specs.Pieces.{pieces_of_text}
use Rattle.indicatif_text.specs.Format.{round, human_count, human_float_count, fixed_point, bytes_text, formatted_duration, short_duration}
use Rattle.indicatif_text.specs.Range.{ansi_range}
use Rattle.indicatif_text.specs.StyleWords.{style_of}
use Rattle.indicatif_bar.specs.Layout.{padded, bar_text}
use Rattle.indicatif_bar.specs.Styles.{lines, is_empty_style}
use Rattle.indicatif_bar.proofs.cases.lines.Goals as goal

pub returns-clause-trackers : goal.returns-clause-trackers
unfolding unicode_width visible chars padded bar_text lines ansi_range pieces_of_text style_of human_count human_float_count fixed_point bytes_text formatted_duration short_duration digits round
returns-clause-trackers c = (refl, refl, refl)

pub returns-clause-wide_bars : goal.returns-clause-wide_bars
unfolding unicode_width visible chars padded bar_text lines ansi_range pieces_of_text style_of human_count human_float_count fixed_point bytes_text formatted_duration short_duration digits round
returns-clause-wide_bars c = (refl, refl, refl, refl, refl)

pub returns-clause-percents : goal.returns-clause-percents
unfolding unicode_width visible chars padded bar_text lines ansi_range pieces_of_text style_of human_count human_float_count fixed_point bytes_text formatted_duration short_duration digits round
returns-clause-percents c = (refl, refl, refl)

pub returns-clause-messages : goal.returns-clause-messages
unfolding unicode_width visible chars padded bar_text lines ansi_range pieces_of_text style_of human_count human_float_count fixed_point bytes_text formatted_duration short_duration digits round
returns-clause-messages c = (refl, refl, refl, refl, refl)

pub returns-clause-bars : goal.returns-clause-bars
unfolding unicode_width visible chars padded bar_text lines ansi_range pieces_of_text style_of human_count human_float_count fixed_point bytes_text formatted_duration short_duration digits round
returns-clause-bars c = (refl, refl, refl, refl, refl)

pub returns-clause-ticks : goal.returns-clause-ticks
unfolding unicode_width visible chars padded bar_text lines ansi_range pieces_of_text style_of human_count human_float_count fixed_point bytes_text formatted_duration short_duration digits round
returns-clause-ticks c = (refl, refl)

pub returns-clause-rates : goal.returns-clause-rates
unfolding unicode_width visible chars padded bar_text lines ansi_range pieces_of_text style_of human_count human_float_count fixed_point bytes_text formatted_duration short_duration digits round
returns-clause-rates c = (refl, refl)

pub returns-clause-lines : goal.returns-clause-lines
unfolding unicode_width visible chars padded bar_text lines ansi_range pieces_of_text style_of human_count human_float_count fixed_point bytes_text formatted_duration short_duration digits round
returns-clause-lines c = (refl, refl, refl, refl, refl)

pub returns-clause-empty : goal.returns-clause-empty
unfolding unicode_width visible chars padded bar_text lines is_empty_style ansi_range pieces_of_text style_of digits round
returns-clause-empty c = (refl, refl, refl, refl, refl, refl, refl, refl, refl)

pub returns-clause-faults : goal.returns-clause-faults
unfolding unicode_width unicode_segmentation visible chars
returns-clause-faults c = (refl, refl, refl, refl, refl, refl, refl)
