use Rattle.std.proofs.Common.{◌∙◌, sym, ap}
use Rattle.std.specs.Option.{option_map_or}
use Rattle.indicatif_bar.specs.declared.style.steps.Source.TheVariants.{Known, Nothing}
use Rattle.indicatif_bar.specs.Inside.Steps.{source_at}
use Rattle.indicatif_bar.proofs.StepLemmas.{place_is}
use Rattle.indicatif_bar.proofs.style.steps.source_of.Goals as goal

pub returns-in-Some : goal.returns-in-Some
returns-in-Some g c = ap (source_at c.args.name.now) (c.in-Some.ensures ∙ sym (place_is c.args.name.now c.args.keys.now))

pub returns-in-Some-key_named : goal.returns-in-Some-key_named
returns-in-Some-key_named g c =
    ap (λ key. option_map_or Known key Nothing) c.in-Some-key_named.ensures
    ∙ ap (source_at c.args.name.now) (c.in-None.ensures ∙ sym (place_is c.args.name.now c.args.keys.now))

pub returns-in-None-key_named : goal.returns-in-None-key_named
returns-in-None-key_named g c =
    ap (λ key. option_map_or Known key Nothing) c.in-None-key_named.ensures
    ∙ ap (source_at c.args.name.now) (c.in-None.ensures ∙ sym (place_is c.args.name.now c.args.keys.now))
