use Rattle.std.proofs.Common.{◌∷◌, ◌∙◌, sym, ap, subst}
use Rattle.std.proofs.lemmas.List.Elements.{All-cons}
use Rattle.indicatif_bar.specs.PlainLaws.{IsPlainStyle, IsPlainTracker}
use Rattle.indicatif_bar.specs.Trackers.{telling}
use Rattle.uses.proofs.trackers.with_own_key.Goals as goal

pub returns : goal.returns
returns g c = λ plain texts.
    let m = telling g.F.TellsText.told_text in
    let style = c.args.style in
    let teller = c.args.teller in
    let told : IsPlainTracker m teller = c.plain_tellers_are_plain_trackers.ensures g.F.TellsText.told_text teller texts in
    let is = c.in_ok-with_key.ensures.style ∙ ap (λ k. record style { keys = (c.args.name.now, k) ∷ style.keys }) c.in_ok-tracker.ensures.teller in
    subst (IsPlainStyle m) (sym is) (record {
      literals = plain.literals;
      ticks = plain.ticks;
      trackers = All-cons (λ entry. IsPlainTracker m entry.1) (c.args.name.now, teller) style.keys told plain.trackers;
      clusters = plain.clusters;
    })
