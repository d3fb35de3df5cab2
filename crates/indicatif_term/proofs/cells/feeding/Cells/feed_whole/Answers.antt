use Rattle.std.proofs.Common.{◌∙◌, ◌≤◌, ◌*◌, ap, subst, take, replicate, arith}
use Rattle.std.proofs.lemmas.List.{length-replicate}
use Rattle.indicatif_text.proofs.StyleLemmas.{at_err}
use Rattle.indicatif_term.specs.Screen.{Put, performed}
use Rattle.indicatif_term.specs.Inside.Scanners.{performed_all, IsWholeChar}
use Rattle.indicatif_term.specs.Terminal.{Terminal, after}
use Rattle.indicatif_term.specs.Inside.Runs.{puts}
use Rattle.indicatif_term.proofs.WholeCharLemmas.{fed_whole}
use Rattle.indicatif_term.proofs.FedRunLemmas.{fed_repeated}
use Rattle.indicatif_term.proofs.FeedMemoryLemmas.{whole_takes}
use Rattle.indicatif_term.proofs.cells.feeding.Cells.feed_whole.Goals as goal

pub returns-then-whole-ne3-clause-fed : goal.returns-then-whole-ne3-clause-fed
returns-then-whole-ne3-clause-fed c =
    let t : Terminal = record { screen = c.self.inside.grid; reader = c.self.inside.scanner } in
    let w = c.args.whole in
    fed_whole t c.put.new.self c.args.bytes.now w.character w.len c.requires.whole (ap (λ u. u.reader) c.self.view_is ∙ c.requires.idle)
    (c.in_ok-put.ensures.ok ∙ ap (performed (Put w.character)) c.room_for-room.ensures.same)
    ∙ ap (λ u. after u (take w.len c.args.bytes.now)) c.self.view_is

pub returns-clause-fed : goal.returns-clause-fed
returns-clause-fed c =
    let t : Terminal = record { screen = c.self.inside.grid; reader = c.self.inside.scanner } in
    let bytes = c.args.bytes.now in
    let w = c.args.whole in
    let count = c.repeats_of_three-count.result in
    let n = c.in_ok-put-2.put in
    let is : IsWholeChar bytes w.character 3 = subst (λ k. IsWholeChar bytes w.character k) c.if-whole-ne3.false c.requires.whole in
    let few : n ≤ count = omega (arith, c.in_ok-put-2.ensures.within, length-replicate count w.character) in
    fed_repeated t c.put_run.new.self bytes w.character count n (ap (λ u. u.reader) c.self.view_is ∙ c.requires.idle) is c.repeats_of_three-count.ensures.repeats few
    (c.in_ok-put-2.ensures.ok ∙ ap (performed_all (puts (take n (replicate count w.character)))) c.room_for-room.ensures.same)
    ∙ ap (λ u. after u (take (3 * n) bytes)) c.self.view_is

pub returns-in_err-put-clause-memory : goal.returns-in_err-put-clause-memory
returns-in_err-put-clause-memory c =
    let w = c.args.whole in
    at_err c.from_residual.result (whole_takes c.args.self.now c.args.bytes.now w.character w.len c.requires.whole c.requires.idle)

pub returns-in_err-put-2-clause-memory : goal.returns-in_err-put-2-clause-memory
returns-in_err-put-2-clause-memory c =
    let w = c.args.whole in
    at_err c.from_residual-in_err-put-2.result (whole_takes c.args.self.now c.args.bytes.now w.character w.len c.requires.whole c.requires.idle)
