use Rattle.std.proofs.Common.{ap, ◌∙◌, ◌++◌, chars}
use Rattle.std.specs.Prelude.{flat_map}
use Rattle.indicatif_text.specs.PieceLaws.{run_text}
use Rattle.indicatif_text.proofs.PieceLawLemmas.{runs_are_visible}
use Rattle.indicatif_term.proofs.engine.recutting.visible_chars.Goals as goal

pub pieces-init : goal.pieces-init
pieces-init c =
    ap (λ xs. xs ++ flat_map run_text c.pieces-rest.result) c.new-seen.ensures.items ∙ ap (flat_map run_text) c.pieces-rest.ensures ∙ runs_are_visible (chars c.args.text.now)
