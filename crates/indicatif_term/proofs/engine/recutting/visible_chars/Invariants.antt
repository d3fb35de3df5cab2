use Rattle.std.proofs.Common.{◌≡◌, ◌++◌, length, chars}
use Rattle.std.specs.Prelude.{flat_map}
use Rattle.indicatif_text.specs.Columns.{visible}
use Rattle.indicatif_text.specs.PieceLaws.{run_text}
use Rattle.indicatif_term.proofs.engine.recutting.visible_chars.Given as goal

abbrev pub invariant-pieces : goal.invariant-pieces
invariant-pieces l = l.seen.items ++ flat_map run_text l.rest ≡ visible (chars l.text)

abbrev pub decreases-pieces : goal.decreases-pieces
decreases-pieces l = length l.rest
