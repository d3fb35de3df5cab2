use Rattle.std.specs.Prelude.{chars}
use Rattle.indicatif_text.specs.Inside.Draft.{sketch_of}
use Rattle.indicatif_text.proofs.DraftLemmas.{spaced_sketch}
use Rattle.indicatif_text.proofs.template.draft.Draft.push_spaced.Goals as goal

pub returns : goal.returns
returns c =
    spaced_sketch (sketch_of c.args.self.now) (sketch_of c.push_literal.new.self) (sketch_of c.push_run.new.self) (sketch_of c.push_literal-2.new.self) (sketch_of c.fix_run.new.self)
    (chars c.args.key.now) c.args.space c.in_ok-push_literal.ensures c.in_ok-push_run.ensures c.in_ok-push_literal-2.ensures c.fix_run.ensures
