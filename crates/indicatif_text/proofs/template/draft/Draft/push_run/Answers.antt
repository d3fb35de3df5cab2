use Rattle.std.proofs.Common.{◌∙◌, ap}
use Rattle.std.specs.Prelude.{chars, string_bytes, take, drop, map}
use Rattle.std.proofs.lemmas.Str.{IsUtf8-string_bytes}
use Rattle.indicatif_text.specs.Inside.Draft.{sketch_of, with_run}
use Rattle.indicatif_text.specs.Inside.StoredParts.{part_at}
use Rattle.indicatif_text.proofs.DraftLemmas.{same_sketch, pushed_boundary, pushed_in, pushed_whole, pushed_front, pushed_fixed, pushed_run}
use Rattle.indicatif_text.proofs.template.draft.Draft.push_run.Goals as goal

pub invariant_of-self : goal.invariant_of-self
invariant_of-self c =
    let old = c.args.self.now in
    let bytes = string_bytes old.texts in
    let utf8 = IsUtf8-string_bytes old.texts in
    record {
      parts_in = pushed_in bytes old.start old.fixed utf8 old.start_whole old.fixed_whole old.parts.items old.parts_in _ _ c.args.text.now c.push_str.ensures.bytes;
      start_whole = pushed_boundary bytes old.start utf8 old.start_whole _ _ c.args.text.now c.push_str.ensures.bytes c.utf8.text;
      fixed_whole = pushed_whole bytes old.start old.fixed utf8 old.start_whole old.fixed_whole old.parts.items old.parts_in _ _ c.args.text.now c.push_str.ensures.bytes c.utf8.text;
    }

pub returns : goal.returns
unfolding sketch_of
returns c =
    let old = c.args.self.now in
    let bytes = string_bytes old.texts in
    let utf8 = IsUtf8-string_bytes old.texts in
    let after = c.in_ok-push_str.ensures.bytes in
    same_sketch _ (with_run (sketch_of old) (chars c.args.text.now))
    (ap (λ bs. map (part_at (take old.start bs)) old.parts.items) after
    ∙ ap (λ bs. map (part_at bs) old.parts.items) (pushed_front bytes old.start old.fixed utf8 old.start_whole old.fixed_whole old.parts.items old.parts_in c.args.text.now))
    (ap (λ bs. chars (take old.fixed (drop old.start bs))) after
    ∙ pushed_fixed bytes old.start old.fixed utf8 old.start_whole old.fixed_whole old.parts.items old.parts_in c.args.text.now)
    (ap (λ bs. chars (drop old.fixed (drop old.start bs))) after
    ∙ pushed_run bytes old.start old.fixed utf8 old.start_whole old.fixed_whole old.parts.items old.parts_in c.args.text.now)
