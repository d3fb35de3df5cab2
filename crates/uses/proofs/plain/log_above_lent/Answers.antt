use Rattle.std.proofs.Common.{ℕ, ◌∷◌, [], refl, sym, ◌∙◌, subst, Some}
use Rattle.std.proofs.lemmas.List.Elements.{All-from_recursion}
use Rattle.indicatif_bar.specs.Commands.{BarRecord, Command}
use Rattle.indicatif_bar.specs.Lone.{LoneCall, Log}
use Rattle.indicatif_bar.specs.LoneBars.{lone_bar, lone_known, record_of}
use Rattle.indicatif_bar.specs.PlainLaws.{IsPlainBar, IsPlainLoneCall}
use Rattle.indicatif_bar.specs.Runs.{CallMade, Runs}
use Rattle.indicatif_bar.specs.StyleLaws.{AreTaken}
use Rattle.uses.proofs.plain.log_above_lent.Goals as goal

pub returns : goal.returns
returns g c = λ texts logged v known.
    let m = g.K.ProgressTracker.means in
    let view = g.T.TermLike.view in
    let call : LoneCall (Command g.row.K.Denot) × ℕ = (Log c.args.text.now, c.args.now) in
    let s = c.bar-record.ensures.some in
    let made = c.println.ensures.leads s.0 s.1 in
    let new = lone_known view c.println.new.self in
    let step = subst (λ o. CallMade (lone_bar m) o new call s.0 c.println.result made.0) known made.2 in
    let run : Runs (lone_bar m) (call ∷ []) (c.println.result ∷ []) (Some v) s.0 new made.0 = (new, made.0, step, (refl, refl)) in
    let taken = subst (λ (b : BarRecord g.row.K.Denot). AreTaken b.style.clusters) c.bar-record.ensures.bar c.style-style.ensures.taken in
    let plain : IsPlainBar m (record_of c.args.bar.now) = record {
      style = record { literals = texts.literals; ticks = texts.ticks; trackers = texts.trackers; clusters = taken };
      message = texts.message;
      prefix = texts.prefix;
      on_finish = texts.on_finish;
    } in
    let all = c.plain_texts_give_plain_runs.ensures (call ∷ []) (c.println.result ∷ []) (Some v) s.0 new made.0 run
    (subst (IsPlainBar m) (sym c.bar-record.ensures.bar ∙ c.bar-record.ensures.state s.0 s.1) plain) (All-from_recursion (λ call. IsPlainLoneCall m call.0) (call ∷ []) (logged, tt)) in
    (s.0, made.0, s.1, made.1, step.writes.0, step.writes.1, step.writes.2.paints all.0.0)
