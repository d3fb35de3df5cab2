use Rattle.std.proofs.Common.{◌≡◌, subst}
use Rattle.std.specs.Prelude.{OnOk, chars}
use Rattle.indicatif_text.specs.Inside.Draft.{sketch_of, with_run}
use Rattle.indicatif_text.proofs.template.draft.Draft.push_name.Goals as goal

pub returns : goal.returns
returns c = subst (λ s. OnOk c.push_run.result (sketch_of c.push_run.new.self ≡ with_run s (chars c.args.key.now))) c.in_ok-close_literal.ensures c.push_run.ensures
