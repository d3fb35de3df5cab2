use Rattle.std.proofs.Common.{◌∙◌, ap, refl, sym}
use Rattle.std.specs.Prelude.{chars}
use Rattle.indicatif_text.specs.Template.{TemplatePiece, LastKey, unfinished}
use Rattle.indicatif_text.specs.Inside.Draft.{sketch_of, added}
use Rattle.indicatif_text.proofs.OptionLemmas.{is_no_text, some_text}
use Rattle.indicatif_text.proofs.template.draft.Draft.push_unfinished.Goals as goal

pub returns-then-is_empty : goal.returns-then-is_empty
returns-then-is_empty c = c.drop_run.ensures ∙ ap (λ key. added (sketch_of c.args.self.now) (unfinished key)) (sym (is_no_text c.args.key.now c.if-is_empty.ensures))

pub returns-else-is_empty : goal.returns-else-is_empty
returns-else-is_empty c =
    ap (added (sketch_of c.args.self.now))
    (some_text TemplatePiece (λ cs. LastKey) unfinished (λ c cs. refl) c.args.key.now (chars c.args.key.now) c.utf8.key refl c.if-is_empty.ensures)
