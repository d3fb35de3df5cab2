use Rattle.std.proofs.Common.{◌≡◌, ◌∙◌, ◌∷◌, [], Ok, Err, chars, refl, sym, ap, subst}
use Rattle.std.specs.Str.Iter.{chars_rest, chars_steps}
use Rattle.std.proofs.lemmas.Iterator.Consumers.{YieldsList-end}
use Rattle.std.proofs.lemmas.Iterator.{YieldsList-from_chars}
use Rattle.indicatif_term.specs.Inside.EndedRows.{Within, WithinIf, all_put, AreShown}
use Rattle.indicatif_term.proofs.IteratorLemmas.{parted, next_came}
use Rattle.indicatif_term.proofs.PartingLemmas.{same_list}
use Rattle.indicatif_term.proofs.EndedRowLemmas.{to_weaker, fall_fails, stands}
use Rattle.indicatif_term.proofs.EndedTextLemmas.{more, shown_in, all_put_more}
use Rattle.indicatif_term.proofs.target.ended_rows.EndedRows.put_chars.Goals as goal

pub loop-c-init : goal.loop-c-init
loop-c-init g c = stands g.T.TermLike.view refl (λ s m x. x)

pub returns-in_err-put_char : goal.returns-in_err-put_char
returns-in_err-put_char g c =
    let view = g.T.TermLike.view in
    let text = c.args.text.now in
    let rest = ap chars_rest c.into_iter-c-iterator.ensures.into_iter_gives ∙ c.chars-c-items.ensures.rest in
    let p = parted chars_steps (λ x. x) (chars text) c.into_iter-c-iterator.result c.loop-c.yielded c.loop-c.c-iterator
    (YieldsList-from_chars {s = c.into_iter-c-iterator.result} text c.utf8.text rest).runs c.loop-c.yielded_by in
    let n = next_came chars_steps (λ x. x) (chars text) c.loop-c.yielded c.in-Some.c c.loop-c.c-iterator c.next.new.self p c.in-Some.ensures.steps in
    fall_fails view c.from_residual.result c.from_residual.ensures.1
    (more view (Err c.in_err-put_char.field-0.0) (shown_in (chars text) c.loop-c.yielded c.in-Some.c n.0 n.1) c.loop-c.invariant c.in_err-put_char.ensures)

pub loop-c-preserved : goal.loop-c-preserved
loop-c-preserved g c =
    let view = g.T.TermLike.view in
    let text = c.args.text.now in
    let rest = ap chars_rest c.into_iter-c-iterator.ensures.into_iter_gives ∙ c.chars-c-items.ensures.rest in
    let p = parted chars_steps (λ x. x) (chars text) c.into_iter-c-iterator.result c.loop-c.yielded c.loop-c.c-iterator
    (YieldsList-from_chars {s = c.into_iter-c-iterator.result} text c.utf8.text rest).runs c.loop-c.yielded_by in
    let n = next_came chars_steps (λ x. x) (chars text) c.loop-c.yielded c.in-Some.c c.loop-c.c-iterator c.next.new.self p c.in-Some.ensures.steps in
    let X = AreShown (chars text) in
    to_weaker view (Ok tt) (λ s m m' x y. subst (λ u. WithinIf view X c.put_char.new.self u m') (sym (all_put_more c.loop-c.yielded (c.in-Some.c ∷ []) s)) y)
    (more view (Ok tt) (shown_in (chars text) c.loop-c.yielded c.in-Some.c n.0 n.1) c.loop-c.invariant c.in_ok-put_char.ensures)

pub returns : goal.returns
returns g c =
    let view = g.T.TermLike.view in
    let text = c.args.text.now in
    let rest = ap chars_rest c.into_iter-c-iterator.ensures.into_iter_gives ∙ c.chars-c-items.ensures.rest in
    let t = YieldsList-end (YieldsList-from_chars text c.utf8.text rest) c.loop-c.yielded _ c.loop-c.yielded_by _ _ c.in-None.is c.next.ensures.steps in
    let all : c.loop-c.yielded ≡ chars text = sym (same_list c.loop-c.yielded) ∙ t.0 in
    to_weaker view (Ok tt) (λ s m m' x y. subst (λ cs. Within view c.loop-c.self (all_put cs s) m') all y.0) c.loop-c.invariant
