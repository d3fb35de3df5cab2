use Rattle.std.proofs.Common.{take, subst, arith}
use Rattle.indicatif_term.specs.Inside.Rests.{AreShared}
use Rattle.indicatif_term.proofs.SharedLemmas.{shared_less, shared_front}
use Rattle.indicatif_term.proofs.engine.inks.shared.Goals as goal

pub returns-clause-same : goal.returns-clause-same
returns-clause-same c =
    let old = c.args.old.now in
    let new = c.args.new.now in
    let most = c.min-most.result in
    let n = c.shared_bytes.result in
    shared_less n c.floor_char_boundary.result old new c.floor_char_boundary.ensures.bound
    (shared_front n most old new (omega (arith, c.min-most.ensures)) (omega (arith, c.saturating_sub.ensures, c.min-most.ensures))
    (subst (λ x. AreShared n (take most x) (take most new)) c.as_bytes-olds.ensures.value
    (subst (λ x. AreShared n (take most c.as_bytes-olds.result.now) (take most x)) c.as_bytes-news.ensures.value c.shared_bytes.ensures)))
