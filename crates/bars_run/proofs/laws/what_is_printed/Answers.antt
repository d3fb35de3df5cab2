use Rattle.std.proofs.Common.{◌≡◌, ◌∙◌, Some, ap, sym, subst, map}
use Rattle.std.specs.Prelude.{All}
use Rattle.std.specs.Io.KnownBytes.{Appends}
use Rattle.indicatif_term.specs.Pictures.{row_text}
use Rattle.bars_run.specs.declared.arguments.Asked.{Asked}
use Rattle.bars_run.specs.Commands.{each}
use Rattle.bars_run.specs.Player.{script_step, rows_after, IsPlain}
use Rattle.bars_run.specs.Printing.{printed}
use Rattle.bars_run.proofs.laws.what_is_printed.Goals as goal

one : {X : Type 0} (x y : X) → Some x ≡ Some y → x ≡ y
one x y e = cc

pub returns : goal.returns
returns c = λ words input old new asked commands steps p asked_is commands_are steps_are all.
    let same = one p.asked asked (sym p.asked_is ∙ asked_is) in
    let spelt = one p.commands commands (sym p.commands_are ∙ commands_are) in
    let made = one p.steps steps (sym p.steps_are ∙ ap (each script_step) spelt ∙ steps_are) in
    subst (λ ss. Appends old new (printed (map row_text (rows_after asked ss)))) made
    (subst (λ (a : Asked). Appends old new (printed (map row_text (rows_after a p.steps)))) same (p.shown (subst (All IsPlain) (sym spelt) all)))
