use Rattle.std.proofs.Common.{◌+◌, ◌∙◌, sym, ap, subst, arith, chars}
use Rattle.std.specs.Str.{IsUtf8}
use Rattle.indicatif_text.specs.Columns.{visible, width_of}
use Rattle.indicatif_text.specs.Inside.Runs.{PassesRun}
use Rattle.indicatif_text.proofs.ColourSequenceLemmas.{passes_printable, passes_repeated, visible_none}
use Rattle.indicatif_text.proofs.runs.first_run.Goals as goal

pub returns-then-printable-gt0 : goal.returns-then-printable-gt0
returns-then-printable-gt0 c =
    let text = c.after_colours-text.result.now in
    let n = c.printable_len-printable.result in
    let rest = c.range_from.result.now in
    let e = c.printable_len-printable.ensures in
    let pass = passes_printable text n (subst IsUtf8 c.range_from.ensures.value c.range_from.utf8) e.fits e.printable in
    let cut = subst (λ r. PassesRun 1 (visible (chars text)) n (visible (chars r))) (sym c.range_from.ensures.value) pass in
    (omega (arith, c.if-printable-gt0.true), subst (λ v. PassesRun 1 v n (visible (chars rest))) c.after_colours-text.ensures.visible cut)

pub returns-in_default : goal.returns-in_default
returns-in_default c = sym c.after_colours-text.ensures.visible ∙ ap visible c.in_default.ensures.first ∙ visible_none

pub returns : goal.returns
returns c =
    let text = c.after_colours-text.result.now in
    let first = c.in-Some.c in
    let rest = c.in-Some.rest.now in
    let n = c.repeats-repeats.result in
    let left = c.range_from-2.result.now in
    let e = c.repeats-repeats.ensures in
    let pass = passes_repeated text rest first n c.in-Some.ensures.first c.after_colours-text.ensures.front c.in-Some.ensures.utf8 e.repeats e.no_escape in
    let cut = subst (λ r. PassesRun (width_of first) (visible (chars text)) (1 + n) (visible (chars r))) (sym c.range_from-2.ensures.value) pass in
    let at = subst (λ v. PassesRun (width_of first) v (1 + n) (visible (chars left))) c.after_colours-text.ensures.visible cut in
    (omega arith, subst (λ k. PassesRun k (visible (chars c.args.text.now)) (1 + n) (visible (chars left))) (sym c.width.ensures) at)
