use Rattle.std.proofs.Common.{◌≡◌, ◌∙◌, Err, ap, sym, subst, map, Some}
use Rattle.std.proofs.lemmas.Result.{err_from_is_err_and}
use Rattle.std.specs.Prelude.{string_bytes}
use Rattle.std.specs.Io.KnownBytes.{Appends}
use Rattle.bars_run.specs.Arguments.{asked_by}
use Rattle.bars_run.specs.Printing.{printed}
use Rattle.bars_run.proofs.StandLemmas.{ends_by, prints}
use Rattle.bars_run.proofs.print_picture.Goals as goal

pub returns-in-Ok-clause-printed : goal.returns-in-Ok-clause-printed
returns-in-Ok-clause-printed g c =
    let words = map (λ word. string_bytes word) c.args.args.now in
    let asked = c.in-Some.asked in
    let is : asked_by words ≡ Some asked = sym c.by.ensures ∙ c.in-Some.is in
    let old = g.O.Write.contents c.args.out.now in
    let new = g.O.Write.contents c.print.new.out in
    let texts = map (λ row. string_bytes row) c.in_ok-picture.picture.items in
    let appended = subst (λ rows. Appends old new (printed (map (λ row. string_bytes row) rows))) c.deref.ensures.value c.in-Ok.ensures in
    prints words (g.R.Read.remaining c.args.input) asked texts old new is c.in_ok-picture.ensures.stands appended

pub returns-in-Ok-clause-usage : goal.returns-in-Ok-clause-usage
returns-in-Ok-clause-usage g c = λ none. absurd (let e = c.by.ensures in let f = c.in-Some.is in cc (e, f, none))

pub returns-in_err-picture-clause-usage : goal.returns-in_err-picture-clause-usage
returns-in_err-picture-clause-usage g c = λ none. absurd (let e = c.by.ensures in let f = c.in-Some.is in cc (e, f, none))

pub returns-in_err-picture-clause-fault : goal.returns-in_err-picture-clause-fault
returns-in_err-picture-clause-fault g c =
    let x = err_from_is_err_and c.from_residual.result c.from_residual.ensures.1 in
    rw (x.1 ∙ ap Err x.2)
    (ends_by (map (λ word. string_bytes word) c.args.args.now) c.in-Some.asked (g.R.Read.remaining c.args.input) c.in_err-picture.field-0.0
    (sym c.by.ensures ∙ c.in-Some.is) c.in_err-picture.ensures.fault)
