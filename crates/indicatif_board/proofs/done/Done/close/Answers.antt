use Rattle.std.proofs.Common.{◌≡◌, ◌%◌, ◌≤◌, subst, ◌∙◌, ap}
use Rattle.indicatif_board.specs.Done.{Worker}
use Rattle.indicatif_board.proofs.StepLemmas.{closes}
use Rattle.indicatif_board.proofs.done.Done.close.Goals as goal

pub returns : goal.returns
returns c =
    let f = c.close_with-closed.ensures.values.2 in
    let whole = ap (λ (w : Worker). w.account.parts) c.worker.view_is ∙ c.requires.whole in
    let end = closes f.0.words _ f.0.views c.worker.inside.seat.id c.worker.inside.seat.me.0 _ f.1.0 f.1.1 f.2 c.word-sum.ensures whole in
    let ends = subst (λ (w : Worker). (c.word-sum.result ≡ w.account.added % 18446744073709551616) × (w.account.seen ≤ w.account.added)) c.worker.view_is end in
    record { sum = ends.0; seen = ends.1 }
