use Rattle.std.proofs.Common.{◌∙◌, ap}
use Rattle.std.specs.Prelude.{string_bytes}
use Rattle.std.proofs.lemmas.Str.{IsUtf8-string_bytes}
use Rattle.indicatif_text.specs.Inside.Draft.{sketch_of}
use Rattle.indicatif_text.proofs.StoredPartLemmas.{whole_in, whole_parts}
use Rattle.indicatif_text.proofs.template.draft.Draft.finish.Goals as goal

pub invariant_of-result : goal.invariant_of-result
invariant_of-result c =
    let after = c.close_literal.new.self in
    whole_in (string_bytes after.texts) after.start (IsUtf8-string_bytes after.texts) after.start_whole after.parts.items after.parts_in

pub returns : goal.returns
unfolding sketch_of
returns c =
    let after = c.close_literal.new.self in
    whole_parts (string_bytes after.texts) after.start (IsUtf8-string_bytes after.texts) after.start_whole after.parts.items after.parts_in
    ∙ ap (λ s. s.done) c.in_ok-close_literal.ensures
