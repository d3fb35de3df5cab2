use Rattle.std.proofs.Common.{arith, ◌≡◌, ◌∙◌, List, ℕ, take, take_all, ap, sym}
use Rattle.std.specs.Prelude.{string_bytes}
use Rattle.std.proofs.Math.ListN.{get_or-map, length-map}
use Rattle.indicatif_term.specs.Standing.{texts}
use Rattle.indicatif_term.specs.declared.engine.remembered.StandingLine.{StandingLine}
use Rattle.indicatif_term.proofs.PutLineLemmas.{put_none, put_next, put_stops, puts_fail}
use Rattle.indicatif_term.proofs.engine.writing.put_lines.Goals as goal

abbrev text_of : StandingLine → List ℕ
text_of l = string_bytes l.text

pub loop-line-init : goal.loop-line-init
loop-line-init g c = put_none c.args.ended.now (g.T.TermLike.view c.args.term.now)

pub returns-in_err-put : goal.returns-in_err-put
returns-in_err-put g c =
    let line = c.line-item.result in
    puts_fail _ _ _ _ c.from_residual.result c.from_residual.ensures.1 (put_stops (texts c.args.lines.now) c.loop-line.line-index (text_of line) (simp length-map (omega arith))
    (get_or-map text_of c.args.lines.now c.loop-line.line-index line ∙ ap text_of (sym c.line-item.is)) c.loop-line.invariant (rw c.deref.ensures at c.in_err-put.ensures))

pub loop-line-preserved : goal.loop-line-preserved
loop-line-preserved g c =
    let line = c.line-item.result in
    put_next (texts c.args.lines.now) c.loop-line.line-index (text_of line) (simp length-map (omega arith))
    (get_or-map text_of c.args.lines.now c.loop-line.line-index line ∙ ap text_of (sym c.line-item.is)) c.loop-line.invariant (rw c.deref.ensures at c.in_ok-put.ensures)

pub returns : goal.returns
returns g c =
    let ys = texts c.args.lines.now in
    let all : take c.loop-line.line-index ys ≡ ys = take_all c.loop-line.line-index ys (simp length-map (omega arith)) in
    rw all at c.loop-line.invariant
