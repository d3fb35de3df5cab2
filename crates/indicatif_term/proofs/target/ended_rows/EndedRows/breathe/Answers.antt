use Rattle.std.proofs.Common.{Ok, Err, refl}
use Rattle.indicatif_term.proofs.EndedRowLemmas.{fall_fails, then_falls, from_weaker, stands}
use Rattle.indicatif_term.proofs.EndedTurnLemmas.{on_sent, off_sent, handed, also_sent, meets_like}
use Rattle.indicatif_term.proofs.target.ended_rows.EndedRows.breathe.Goals as goal

pub returns-then-self-lt-BREATH : goal.returns-then-self-lt-BREATH
returns-then-self-lt-BREATH g c = stands g.T.TermLike.view refl (λ s m x. x)

pub returns-in_err-send : goal.returns-in_err-send
returns-in_err-send g c =
    let view = g.T.TermLike.view in
    fall_fails view c.from_residual.result c.from_residual.ensures.1 (on_sent view (Err c.in_err-send.field-0.0) c.in_err-send.ensures.same c.in_err-send.ensures.writes)

pub returns-in_err-hand_on : goal.returns-in_err-hand_on
returns-in_err-hand_on g c =
    let view = g.T.TermLike.view in
    let e = Err c.in_err-hand_on.field-0.0 in
    fall_fails view c.from_residual-in_err-hand_on.result c.from_residual-in_err-hand_on.ensures.1
    (then_falls view e (on_sent view (Ok tt) c.in_ok-send.ensures.same c.in_ok-send.ensures.writes)
    (handed view e (also_sent c.send.new.self c.hand_on.new.self c.in_err-hand_on.ensures.same) c.in_err-hand_on.ensures.writes))

pub returns : goal.returns
returns g c =
    let view = g.T.TermLike.view in
    let r = c.send-2.result in
    then_falls view r
    (then_falls view (Ok tt) (on_sent view (Ok tt) c.in_ok-send.ensures.same c.in_ok-send.ensures.writes)
    (handed view (Ok tt) (also_sent c.send.new.self c.hand_on.new.self c.in_ok-hand_on.ensures.same) c.in_ok-hand_on.ensures.writes))
    (from_weaker view {a = c.hand_on.new.self} {a' = record c.hand_on.new.self { sent = 0 }} r refl
    (λ s m x. (meets_like view refl refl refl refl x.0, x.1)) (off_sent view r c.send-2.ensures.same c.send-2.ensures.writes))
