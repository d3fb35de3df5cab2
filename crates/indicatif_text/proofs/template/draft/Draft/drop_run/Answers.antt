use Rattle.std.proofs.Common.{◌∙◌, ap, subst, sym}
use Rattle.std.specs.Prelude.{chars, string_bytes, take, drop, map, IsCharBoundary}
use Rattle.std.proofs.lemmas.Str.{chars-nil, IsUtf8-string_bytes}
use Rattle.indicatif_text.specs.Inside.Draft.{sketch_of, added}
use Rattle.indicatif_text.specs.Inside.StoredParts.{part_at, LieIn}
use Rattle.indicatif_text.specs.Template.{LastBrace}
use Rattle.indicatif_text.proofs.DraftLemmas.{same_sketch, cut_fixed, cut_run, cut_front, cut_behind, cut_start, cut_end}
use Rattle.indicatif_text.proofs.template.draft.Draft.drop_run.Goals as goal

pub invariant_of-self : goal.invariant_of-self
invariant_of-self c =
    let old = c.args.self.now in
    let bytes = string_bytes old.texts in
    let utf8 = IsUtf8-string_bytes old.texts in
    let after = c.truncate.ensures.bytes in
    let front = ap (take old.start) after ∙ cut_front bytes old.start old.fixed utf8 old.start_whole old.fixed_whole old.parts.items old.parts_in in
    let behind = ap (drop old.start) after ∙ cut_behind bytes old.start old.fixed utf8 old.start_whole old.fixed_whole old.parts.items old.parts_in in
    record {
      parts_in = subst (λ bs. LieIn bs old.parts.items) (sym front) old.parts_in;
      start_whole = subst (λ bs. IsCharBoundary bs old.start) (sym after) (cut_start bytes old.start old.fixed utf8 old.start_whole old.fixed_whole);
      fixed_whole = subst (λ bs. IsCharBoundary bs old.fixed) (sym behind) (cut_end (drop old.start bytes) old.fixed old.fixed_whole.0);
    }

pub returns : goal.returns
unfolding sketch_of
returns c =
    let old = c.args.self.now in
    let bytes = string_bytes old.texts in
    let utf8 = IsUtf8-string_bytes old.texts in
    let behind = cut_behind bytes old.start old.fixed utf8 old.start_whole old.fixed_whole old.parts.items old.parts_in in
    same_sketch _ (added (sketch_of old) LastBrace)
    (ap (λ bs. map (part_at (take old.start bs)) old.parts.items) c.truncate.ensures.bytes
    ∙ ap (λ bs. map (part_at bs) old.parts.items) (cut_front bytes old.start old.fixed utf8 old.start_whole old.fixed_whole old.parts.items old.parts_in))
    (ap (λ bs. chars (take old.fixed (drop old.start bs))) c.truncate.ensures.bytes ∙ ap (λ bs. chars (take old.fixed bs)) behind ∙ ap chars (cut_fixed (drop old.start bytes) old.fixed))
    (ap (λ bs. chars (drop old.fixed (drop old.start bs))) c.truncate.ensures.bytes ∙ ap (λ bs. chars (drop old.fixed bs)) behind ∙ ap chars (cut_run (drop old.start bytes) old.fixed) ∙ chars-nil)
