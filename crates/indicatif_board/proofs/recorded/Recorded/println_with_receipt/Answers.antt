use Rattle.std.proofs.Common.{◌≡◌, ◌≢◌, ◌∙◌, length, Some, sym, ap, subst}
use Rattle.std.specs.Prelude.{string_bytes}
use Rattle.indicatif_board.specs.Boards.{Log}
use Rattle.indicatif_board.specs.Calls.{answer_of}
use Rattle.indicatif_board.specs.Recorded.{AddsCall}
use Rattle.indicatif_board.proofs.ReceiptLemmas.{entries_count, was_made, stands_last}
use Rattle.indicatif_board.proofs.recorded.Recorded.println_with_receipt.Goals as goal

pub returns-clause-made : goal.returns-clause-made
returns-clause-made g c =
    let same : string_bytes c.in-Ok.logged ≡ string_bytes c.args.text = c.in-Ok.ensures.cases in
    let count = entries_count c.entries-number.result.now _ c.entries-number.ensures in
    let after = entries_count c.entries.result.now _ c.entries.ensures in
    let more : length c.apply-answer.new.self.steps ≢ length c.args.self.now.steps = λ e. c.if-entries-number.false (after ∙ e ∙ sym count) in
    subst (λ text. AddsCall g.K.Tracks.means g.T.TermLike.view c.args.self.now (Log text) c.args.now (answer_of c.apply-answer.result.0) c.apply-answer.new.self) same
    (was_made g.K.Tracks.means g.T.TermLike.view _ _ _ _ _ c.apply-answer.ensures.grows more)

pub returns-clause-held : goal.returns-clause-held
returns-clause-held g c =
    let made = returns-clause-made g c in
    let count = entries_count c.entries-number.result.now _ c.entries-number.ensures in (
      made.mark ∙ sym c.opening.ensures.began.0,
      stands_last g.K.Tracks.means g.T.TermLike.view _ _ _ _ _ _ count made
          ∙ ap (λ a. Some (record { call = Log (string_bytes c.args.text); now = c.args.now; answer = answer_of a })) (sym c.same.ensures),
    )
