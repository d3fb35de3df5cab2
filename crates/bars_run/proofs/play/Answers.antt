use Rattle.std.proofs.Common.{◌≡◌, ◌∙◌, Err, ap, refl, subst, Some}
use Rattle.std.proofs.lemmas.Result.{err_from_is_err_and}
use Rattle.std.specs.Io.Iter.{split_byte, split_known_bytes}
use Rattle.bars_run.specs.Commands.{spelled}
use Rattle.bars_run.specs.Inside.Players.{LineEnds}
use Rattle.bars_run.proofs.ReadLemmas.{reads_first, reads_next, reads_last, line_ends, unread_ends}
use Rattle.bars_run.proofs.play.Goals as goal

pub loop-line-init : goal.loop-line-init
loop-line-init g c = λ asked p.
    let known = g.R.Read.remaining in
    let same = c.into_iter-line-iterator.ensures.into_iter_gives in
    reads_first asked (known c.args.input) _ _ c.args.player.now.board (ap (split_known_bytes known) same ∙ c.split-line-items.ensures.bytes) (ap split_byte same ∙ c.split-line-items.ensures.byte) p

pub loop-line-preserved : goal.loop-line-preserved
loop-line-preserved g c = λ asked p.
    let told = c.in_ok-play_line.ensures.played in
    let spells = subst (λ xs. spelled xs ≡ Some told.0) c.as_slice.ensures.value told.1 in
    reads_next _ asked _ _ _ _ _ c.next.result c.next.ensures.steps.2 c.loop-line.number
    c.saturating_add-number.result c.saturating_add-number.ensures c.loop-line.player.board c.play_line.new.player.board c.in-Ok.line told.0 (c.loop-line.invariant asked p)
    (c.in-Some.is ∙ ap Some c.in-Ok.is) c.next.ensures.steps.1 spells told.2

pub returns-clause-played : goal.returns-clause-played
returns-clause-played g c = λ asked p. reads_last _ asked _ _ _ _ 0 c.next.result c.next.ensures.steps.2 c.loop-line.number _ refl c.loop-line.player.board (c.loop-line.invariant asked p) c.in-None.is

pub returns-in-Err-clause-fault : goal.returns-in-Err-clause-fault
returns-in-Err-clause-fault g c = λ asked p. unread_ends asked _ c.unread.result _ (p.some_rows, p.some_columns) c.unread.ensures

pub returns-in_err-play_line-clause-fault : goal.returns-in_err-play_line-clause-fault
returns-in_err-play_line-clause-fault g c = λ asked p.
    let x = err_from_is_err_and c.from_residual.result c.from_residual.ensures.1 in
    let why = subst (λ xs. LineEnds c.saturating_add-number.result xs c.in_err-play_line.field-0.0) c.as_slice.ensures.value c.in_err-play_line.ensures.fault in
    rw (x.1 ∙ ap Err x.2)
    (line_ends _ asked _ _ _ _ 0 c.next.result c.next.ensures.steps.2 c.loop-line.number
    c.saturating_add-number.result c.saturating_add-number.ensures c.loop-line.player.board c.in-Ok.line c.in_err-play_line.field-0.0
    (p.some_rows, p.some_columns) (c.loop-line.invariant asked p) (c.in-Some.is ∙ ap Some c.in-Ok.is) why)
