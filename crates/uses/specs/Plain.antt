-- A bar whose texts are plain, whatever the characters of its bar are: those are plain in every style.
use Rattle.std.specs.Prelude.{All}
use Rattle.indicatif_bar.specs.Commands.{BarRecord}
use Rattle.indicatif_bar.specs.PlainLaws.{ArePlainTrackers, HasPlainLiteral, IsPlainFinish, IsPlainWithTabs}
use Rattle.indicatif_bar.specs.StyleLaws.{IsPlainText}
use Rattle.indicatif_bar.specs.Trackers.{Tracking}

-- its literals, its spinner, its trackers, and its message, prefix and finish
pub record HasPlainRecordTexts {K : Type 0} (m : Tracking K) (bar : BarRecord K) : Type 0 where
  pub literals : All HasPlainLiteral bar.style.parts
  pub ticks : All IsPlainText bar.style.tick_strings
  pub trackers : ArePlainTrackers m bar.style.keys
  pub message : IsPlainWithTabs bar.progress.message
  pub prefix : IsPlainWithTabs bar.progress.prefix
  pub on_finish : IsPlainFinish bar.on_finish
