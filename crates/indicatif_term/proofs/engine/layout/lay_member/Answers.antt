use Rattle.std.proofs.Common.{arith, get_or, ◌<◌, ◌∙◌, sym, ap, chars, length, [], ◌∷◌, Err}
use Rattle.std.proofs.lemmas.Result.{err_from_is_err_and}
use Rattle.indicatif_term.specs.Lines.{bar_lines, line_text}
use Rattle.indicatif_term.proofs.MeasureLemmas.{withheld_by, one_of}
use Rattle.indicatif_term.proofs.LayoutLemmas.{string_at}
use Rattle.indicatif_term.proofs.LaidLemmas.{member_none, member_more, member_whole}
use Rattle.indicatif_term.proofs.engine.layout.lay_member.Goals as goal

pub loop-line-init : goal.loop-line-init
loop-line-init c = member_none c.args.window.columns c.args.window.rows c.args.beside.now.lines.now c.args.laid.now c.requires.summed

pub lay_line-requires-clause-summed : goal.lay_line-requires-clause-summed
lay_line-requires-clause-summed c = c.loop-line.invariant.summed

pub loop-line-preserved : goal.loop-line-preserved
loop-line-preserved c =
    let s = c.args.member.now in
    let i = c.loop-line.line-index in
    let k : i < length s.lines.items = omega (arith, ap length c.deref-line-items.ensures.value) in
    member_more c.args.window.columns c.args.window.rows c.args.beside.now.lines.now s i c.line-item.result c.args.laid.now c.loop-line.laid c.lay_line.new.laid k
    (sym (c.line-item.is ∙ ap (λ xs. get_or xs i c.line-item.result) c.deref-line-items.ensures.value)) c.loop-line.invariant (rw c.as_str.ensures at c.in_ok-lay_line.ensures.laid)

pub returns-in_err-lay_line-clause-laid : goal.returns-in_err-lay_line-clause-laid
returns-in_err-lay_line-clause-laid c =
    let w = c.args.window.columns in
    let s = c.args.member.now in
    let i = c.loop-line.line-index in
    let line = chars (line_text c.line-item.result) in
    let x = err_from_is_err_and c.from_residual.result c.from_residual.ensures.1 in
    let at = string_at s c.deref-line-items.result.now i c.line-item.result c.deref-line-items.ensures.value (omega arith) (sym c.line-item.is) in
    let m = rw c.as_str.ensures at c.in_err-lay_line.ensures.laid in
    rw (x.1 ∙ ap Err x.2) (withheld_by w (line ∷ []) (bar_lines s).lines c.in_err-lay_line.field-0.0 (one_of w (bar_lines s).lines i line at.0 at.1) m)

pub returns-clause-laid : goal.returns-clause-laid
returns-clause-laid c =
    member_whole c.args.window.columns c.args.window.rows c.args.beside.now.lines.now c.args.member.now c.loop-line.line-index c.args.laid.now c.loop-line.laid
    (omega (arith, ap length c.deref-line-items.ensures.value)) c.loop-line.invariant
