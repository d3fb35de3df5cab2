use Rattle.std.proofs.Common.{◌∙◌, [], ap}
use Rattle.std.specs.Prelude.{chars, map, take, drop}
use Rattle.std.proofs.lemmas.Str.{chars-nil}
use Rattle.indicatif_text.specs.Inside.Draft.{sketch_of, empty_sketch}
use Rattle.indicatif_text.specs.Inside.StoredParts.{part_at}
use Rattle.indicatif_text.proofs.DraftLemmas.{same_sketch}
use Rattle.indicatif_text.proofs.template.draft.Draft.new.Goals as goal

pub returns : goal.returns
unfolding sketch_of
returns c =
    same_sketch _ empty_sketch (ap (map (part_at (take 0 []))) c.in_ok-parts.ensures.items)
    (ap (λ bs. chars (take 0 (drop 0 bs))) c.in_ok-texts.ensures.bytes ∙ chars-nil) (ap (λ bs. chars (drop 0 (drop 0 bs))) c.in_ok-texts.ensures.bytes ∙ chars-nil)
