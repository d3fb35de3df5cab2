use Rattle.std.proofs.Common.{inr, refl, sym, subst}
use Rattle.std.specs.Prelude.{string_bytes}
use Rattle.indicatif_text.specs.declared.refusal.Refusal.TheVariants.{Memory}
use Rattle.indicatif_board.specs.Boards.{Log, Refused}
use Rattle.indicatif_board.specs.Calls.{answer_of}
use Rattle.indicatif.specs.Inside.AnyBoard.{BoardDraws}
use Rattle.indicatif.specs.Inside.SharedBoards.{SharedDraws}
use Rattle.indicatif.specs.declared.shared.any_board.AnyBoard.TheVariants as kind
use Rattle.indicatif.proofs.AnswerLemmas.{no_memory}
use Rattle.indicatif.proofs.SharedLemmas.{by_receipt, handed_out, record_answers}
use Rattle.indicatif.proofs.shared.any_board.logged.Goals as goal

pub returns-in_default-clause-made : goal.returns-in_default-clause-made
returns-in_default-clause-made g c = (Refused Memory, refl, (c.args.record.now, refl, inr (refl, refl)))

pub returns-in_default-clause-can : goal.returns-in_default-clause-can
returns-in_default-clause-can g c = no_memory (Log c.args.text.now)

pub returns-clause-made : goal.returns-clause-made
returns-clause-made g c =
    let m = g.K.Tracks.means in
    let view = g.T.TermLike.view in
    let made = c.println_with_receipt-answer in
    let new = made.new.self in
    let grows = by_receipt m view c.args.record.now new (Log (string_bytes c.in-Ok.text)) c.args.now made.result.0 made.result.1 made.ensures.made made.ensures.refused in
    subst (λ t. BoardDraws m view (kind.Recorded c.args.record.now) (Log t) c.args.now c.drawn_of.result (kind.Recorded new)) c.in-Ok.ensures.ok
    (answer_of made.result.0, c.drawn_of.ensures, (new, refl, grows))

pub returns-clause-can : goal.returns-clause-can
returns-clause-can g c =
    let m = g.K.Tracks.means in
    let view = g.T.TermLike.view in
    let made = c.println_with_receipt-answer in
    let call = Log (string_bytes c.in-Ok.text) in
    let grows = by_receipt m view c.args.record.now made.new.self call c.args.now made.result.0 made.result.1 made.ensures.made made.ensures.refused in
    let can = record_answers m view c.args.record.now made.new.self call c.args.now (answer_of made.result.0) c.replays.ensures grows in
    subst (λ t. SharedDraws _ (Log t) c.drawn_of.result) c.in-Ok.ensures.ok (subst (SharedDraws _ call) (sym c.drawn_of.ensures) can)

pub returns-clause-receipt : goal.returns-clause-receipt
returns-clause-receipt g c =
    let made = c.println_with_receipt-answer in
    handed_out g.K.Tracks.means g.T.TermLike.view _ _ made.new.self _ made.result.1 made.ensures.receipt made.ensures.held c.replays-2.ensures c.in-Ok.ensures.ok c.drawn_of.ensures
