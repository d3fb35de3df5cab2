use Rattle.std.proofs.Common.{chars, length}
use denote.Text.{Utf8}
use denote.Shadow.{shadow}
use Rattle.indicatif_text.specs.Inside.Spans.{in_words}
use Rattle.indicatif_text.proofs.StyleLemmas.{WordsRead}
use Rattle.indicatif_text.proofs.style_words.Style.read.Given as goal

abbrev pub invariant-loop-end : goal.invariant-loop-end
invariant-loop-end l = shadow (Utf8 l.rest) × WordsRead (in_words l.words) (chars l.text) l.style (chars l.rest)

abbrev pub decreases-loop-end : goal.decreases-loop-end
decreases-loop-end l = length (chars l.rest)
