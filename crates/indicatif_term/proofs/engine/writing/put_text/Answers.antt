use Rattle.std.proofs.Common.{◌≡◌, ◌∙◌, ◌++◌, ◌∷◌, [], List, ℕ, ap, sym, map, Bor}
use Rattle.std.specs.Str.Iter.{lines_steps}
use Rattle.std.specs.Str.Lines.{lines}
use Rattle.std.proofs.lemmas.List.{map-append}
use Rattle.std.proofs.lemmas.Iterator.Splits.{YieldsList-from_lines}
use Rattle.indicatif_term.proofs.PutLineLemmas.{put_none, put_then, put_breaks, puts_fail}
use Rattle.indicatif_term.proofs.IteratorLemmas.{parted, next_came, all_came}
use Rattle.indicatif_term.specs.Inside.Plans.{logged_text}
use Rattle.indicatif_term.proofs.engine.writing.put_text.Goals as goal

abbrev now : Bor (List ℕ) → List ℕ
now line = line.now

pub returns-in-Nothing : goal.returns-in-Nothing
returns-in-Nothing g c = rw c.in-Nothing.is (put_none c.args.ended.now _)

pub loop-line-init : goal.loop-line-init
loop-line-init g c = put_none c.args.ended.now (g.T.TermLike.view c.args.term.now)

pub returns-in_err-put : goal.returns-in_err-put
returns-in_err-put g c =
    let text = c.in-Lines.text.now in
    let p = parted lines_steps now (lines text) _ c.loop-line.yielded c.loop-line.line-iterator (YieldsList-from_lines text (ap (λ i. i.rest.now) c.into_iter-line-iterator.ensures.into_iter_gives
    ∙ c.lines-line-items.ensures.rest)).runs c.loop-line.yielded_by in
    let n = next_came lines_steps now (lines text) c.loop-line.yielded c.in-Some.line c.loop-line.line-iterator c.next.new.self p c.in-Some.ensures.steps in
    rw c.in-Lines.is (puts_fail _ _ _ _ c.from_residual.result c.from_residual.ensures.1 (put_breaks (c.in-Some.line.now ∷ []) n.0 (lines text)
    (sym (n.1 ∙ ap (λ ys. ys ++ n.0) (map-append now c.loop-line.yielded (c.in-Some.line ∷ [])))) c.loop-line.invariant c.in_err-put.ensures))

pub loop-line-preserved : goal.loop-line-preserved
loop-line-preserved g c = rw (map-append now c.loop-line.yielded (c.in-Some.line ∷ [])) (put_then c.loop-line.invariant c.in_ok-put.ensures)

pub returns : goal.returns
returns g c =
    let text = c.in-Lines.text.now in
    let p = parted lines_steps now (lines text) _ c.loop-line.yielded c.loop-line.line-iterator (YieldsList-from_lines text (ap (λ i. i.rest.now) c.into_iter-line-iterator.ensures.into_iter_gives
    ∙ c.lines-line-items.ensures.rest)).runs c.loop-line.yielded_by in
    let all : logged_text c.args.logged ≡ map now c.loop-line.yielded = ap logged_text c.in-Lines.is
    ∙ all_came lines_steps now (lines text) c.loop-line.yielded c.loop-line.line-iterator c.next.new.self p c.in-None.ensures.steps in
    rw all c.loop-line.invariant
