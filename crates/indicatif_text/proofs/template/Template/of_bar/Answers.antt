use Rattle.std.proofs.Common.{◌∙◌, ap}
use Rattle.std.specs.Prelude.{codes}
use Rattle.std.specs.Str.{chars}
use Rattle.indicatif_text.specs.Inside.Draft.{sketch_of, with_run}
use Rattle.indicatif_text.proofs.DefaultLemmas.{plain, bar_sketch, bar_parses, made_of}
use Rattle.indicatif_text.proofs.template.Template.of_bar.Goals as goal

pub returns : goal.returns
unfolding chars
returns c =
    let first = c.in_ok-push_key.ensures ∙ ap (λ s. plain s (codes "wide_bar")) c.in_ok-draft.ensures in
    let second = c.in_ok-push_run.ensures ∙ ap (λ s. with_run s (codes " ")) first in
    let third = c.in_ok-push_key-2.ensures ∙ ap (λ s. plain s (codes "pos")) second in
    let fourth = c.in_ok-push_run-2.ensures ∙ ap (λ s. with_run s (codes "/")) third in
    let fifth = c.in_ok-push_key-3.ensures ∙ ap (λ s. plain s (codes "len")) fourth in
    made_of (codes "{wide_bar} {pos}/{len}") (sketch_of c.push_key-3.new.self) bar_sketch c.finish.result fifth bar_parses c.finish.ensures
