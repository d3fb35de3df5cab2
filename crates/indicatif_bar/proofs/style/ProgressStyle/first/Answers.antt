use Rattle.std.proofs.Common.{◌∙◌, sym, ap, subst, map}
use Rattle.indicatif_bar.specs.Inside.Steps.{effect_of, effect_of_part, names_of}
use Rattle.indicatif_bar.specs.Trackers.{entries}
use Rattle.indicatif_bar.specs.StyleLaws.{AreTaken}
use Rattle.indicatif_bar.proofs.ClusterLemmas.{first_are_taken}
use Rattle.indicatif_bar.proofs.BuilderLemmas.{many_clusters, many_ticks, first_columns, wide_cluster, clusters_are, ticks_are}
use Rattle.indicatif_bar.proofs.style.ProgressStyle.first.Goals as goal

pub invariant_of-result : goal.invariant_of-result
invariant_of-result g c = (
  ap (λ parts. map (effect_of parts) c.in_ok-steps.steps.items) c.in_ok-new.ensures.ok
      ∙ c.in_ok-steps.ensures.steps ∙ ap (λ keys. map (effect_of_part (names_of keys) 8) c.args.template) c.as_slice.ensures.value
      ∙ ap (map (effect_of_part (names_of c.new-keys.result.items) 8)) (sym c.in_ok-new.ensures.ok),
  many_clusters,
  wide_cluster,
  many_ticks,
  subst AreTaken (sym clusters_are) first_are_taken,
  first_columns,
)

pub returns-clause-style : goal.returns-clause-style
returns-clause-style g c =
    cc (c.in_ok-new.ensures.ok, clusters_are, ticks_are, ap entries c.new-keys.ensures.items)
