use Rattle.std.proofs.Common.{◌∙◌, ap}
use Rattle.std.specs.Prelude.{codes}
use Rattle.std.specs.Str.{chars}
use Rattle.indicatif_text.specs.Inside.Draft.{sketch_of, with_run}
use Rattle.indicatif_text.proofs.DefaultLemmas.{plain, spinner_sketch, spinner_parses, made_of}
use Rattle.indicatif_text.proofs.template.Template.of_spinner.Goals as goal

pub returns : goal.returns
unfolding chars
returns c =
    let first = c.in_ok-push_key.ensures ∙ ap (λ s. plain s (codes "spinner")) c.in_ok-draft.ensures in
    let second = c.in_ok-push_run.ensures ∙ ap (λ s. with_run s (codes " ")) first in
    let third = c.in_ok-push_key-2.ensures ∙ ap (λ s. plain s (codes "msg")) second in
    made_of (codes "{spinner} {msg}") (sketch_of c.push_key-2.new.self) spinner_sketch c.finish.result third spinner_parses c.finish.ensures
