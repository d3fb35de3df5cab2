use Rattle.std.proofs.Common.{chars, length}
use denote.Text.{Utf8}
use denote.Shadow.{shadow}
use Rattle.indicatif_text.specs.Inside.Draft.{ReadsOn, sketch_of, empty_sketch}
use Rattle.indicatif_text.proofs.template.Template.parse.Given as goal

abbrev pub invariant-loop-rest : goal.invariant-loop-rest
invariant-loop-rest l = shadow (Utf8 l.rest) × ReadsOn empty_sketch (chars l.text) (sketch_of l.draft) (chars l.rest)

abbrev pub decreases-loop-rest : goal.decreases-loop-rest
decreases-loop-rest l = length (chars l.rest)
