use Rattle.std.proofs.Common.{◌≡◌, subst}
use Rattle.std.specs.Prelude.{OnOk}
use Rattle.indicatif_text.specs.declared.template.stored_parts.PartKind.TheVariants.{Key}
use Rattle.indicatif_text.specs.Inside.Draft.{sketch_of, parted_sketch}
use Rattle.indicatif_text.proofs.template.draft.Draft.push_key.Goals as goal

pub returns : goal.returns
returns c = subst (λ s. OnOk c.close.result (sketch_of c.close.new.self ≡ parted_sketch s Key)) c.in_ok-push_name.ensures c.close.ensures
