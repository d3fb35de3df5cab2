use Rattle.std.proofs.Common.{◌≡◌, ◌++◌}
use Rattle.indicatif_text.specs.Format.{human_count}
use Rattle.indicatif_text.proofs.format.short_text.ShortText.prepend_wide_count.Given as goal

abbrev pub invariant-loop-left : goal.invariant-loop-left
invariant-loop-left l = human_count l.left ++ l.self ≡ human_count l.n ++ l.initial.self

abbrev pub decreases-loop-left : goal.decreases-loop-left
decreases-loop-left l = l.left
