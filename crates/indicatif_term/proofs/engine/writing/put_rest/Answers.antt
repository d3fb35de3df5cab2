use Rattle.std.proofs.Common.{append-nil, [], ◌++◌, refl}
use Rattle.indicatif_term.specs.Standing.{texts}
use Rattle.indicatif_term.specs.Inside.Plans.{logged_text}
use Rattle.indicatif_term.specs.Inside.Writings.{is_at_end, lower_lines}
use Rattle.indicatif_term.proofs.CallTurnLemmas.{sends_then, sends_fail}
use Rattle.indicatif_term.proofs.PutLineLemmas.{put_none, put_then, put_breaks}
use Rattle.indicatif_term.proofs.engine.writing.put_rest.Goals as goal

pub returns-in_err-put_text : goal.returns-in_err-put_text
returns-in_err-put_text g c =
    let p = c.args.writing.now in
    let text = logged_text c.args.drawing.now.logged in
    let lower = texts (lower_lines p.manner c.args.drawing.now.lines.now) in
    sends_fail _ _ c.from_residual.result c.from_residual.ensures.1
    (put_breaks text lower (text ++ lower) refl (put_none (is_at_end p) _) (rw c.is_at_end-ended.ensures at c.in_err-put_text.ensures))

pub returns-in_err-put_lines : goal.returns-in_err-put_lines
returns-in_err-put_lines g c =
    let p = c.args.writing.now in
    let text = logged_text c.args.drawing.now.logged in
    let lower = texts (lower_lines p.manner c.args.drawing.now.lines.now) in
    sends_fail _ _ c.from_residual-in_err-put_lines.result c.from_residual-in_err-put_lines.ensures.1
    (put_breaks lower [] (text ++ lower) (append-nil (text ++ lower)) (rw c.is_at_end-ended.ensures at c.in_ok-put_text.ensures) (rw c.lower.ensures at c.in_err-put_lines.ensures))

pub returns-in_err-new_row : goal.returns-in_err-new_row
returns-in_err-new_row g c =
    let p = c.args.writing.now in
    let r = c.from_residual-in_err-new_row.result in
    let all = put_then (rw c.is_at_end-ended.ensures at c.in_ok-put_text.ensures) (rw c.lower.ensures at c.in_ok-put_lines.ensures) in
    sends_then _ _ r all.leads (sends_fail _ _ r c.from_residual-in_err-new_row.ensures.1 (rw all.ended_is at c.in_err-new_row.ensures))

pub returns-in_err-put_spaces : goal.returns-in_err-put_spaces
returns-in_err-put_spaces g c =
    let r = c.from_residual-in_err-put_spaces.result in
    let all = put_then (rw c.is_at_end-ended.ensures at c.in_ok-put_text.ensures) (rw c.lower.ensures at c.in_ok-put_lines.ensures) in
    sends_then _ _ r all.leads (sends_then _ _ r (rw all.ended_is at c.in_ok-new_row.ensures)
    (rw append-nil at (sends_fail [] _ r c.from_residual-in_err-put_spaces.ensures.1 c.in_err-put_spaces.ensures)))

pub returns : goal.returns
returns g c =
    let r = c.told.result in
    let all = put_then (rw c.is_at_end-ended.ensures at c.in_ok-put_text.ensures) (rw c.lower.ensures at c.in_ok-put_lines.ensures) in
    sends_then _ _ r all.leads (sends_then _ _ r (rw all.ended_is at c.in_ok-new_row.ensures) (rw append-nil at (sends_then [] _ r c.in_ok-put_spaces.ensures (c.told.ensures _ _ _ c.flush.ensures))))
