use Rattle.std.proofs.Common.{◌∙◌, sym, ap, None, if◌then◌else◌}
use Rattle.std.proofs.lemmas.Str.{is_utf8-from_IsUtf8}
use Rattle.bars_run.specs.Commands.{spelled_text}
use Rattle.bars_run.proofs.WordLemmas.{no_text}
use Rattle.bars_run.proofs.commands.Command.spelt.Goals as goal

pub returns-in-Ok : goal.returns-in-Ok
returns-in-Ok c =
    let line = c.args.line.now in
    c.in_text.ensures ∙ ap spelled_text c.in-Ok.ensures.cases.0 ∙ sym (ap (λ b. if b then spelled_text line else None) (is_utf8-from_IsUtf8 line c.in-Ok.ensures.cases.1))

pub returns-in-Err : goal.returns-in-Err
returns-in-Err c = let line = c.args.line.now in sym (ap (λ b. if b then spelled_text line else None) (no_text line c.in-Err.ensures.cases.0))
