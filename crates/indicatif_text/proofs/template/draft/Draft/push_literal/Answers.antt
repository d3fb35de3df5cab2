use Rattle.std.proofs.Common.{◌∙◌, ◌++◌, ap}
use Rattle.std.specs.Prelude.{chars, string_bytes, take, drop, map}
use Rattle.std.proofs.lemmas.Str.{IsUtf8-string_bytes, IsUtf8-encode}
use Rattle.indicatif_text.specs.Inside.Draft.{sketch_of, added}
use Rattle.indicatif_text.specs.Inside.StoredParts.{part_at}
use Rattle.indicatif_text.specs.Template.{Char}
use Rattle.indicatif_text.proofs.DraftLemmas.{same_sketch, pushed_boundary, pushed_in, pushed_whole, pushed_front, pushed_fixed, pushed_run, chars_one}
use Rattle.indicatif_text.proofs.template.draft.Draft.push_literal.Goals as goal

pub invariant_of-self : goal.invariant_of-self
invariant_of-self c =
    let old = c.args.self.now in
    let char = IsUtf8-encode c.args.c c.ranges.c.0 in
    let bytes = string_bytes old.texts in
    let utf8 = IsUtf8-string_bytes old.texts in
    record {
      parts_in = pushed_in bytes old.start old.fixed utf8 old.start_whole old.fixed_whole old.parts.items old.parts_in _ _ _ c.push.ensures.bytes;
      start_whole = pushed_boundary bytes old.start utf8 old.start_whole _ _ _ c.push.ensures.bytes char;
      fixed_whole = pushed_whole bytes old.start old.fixed utf8 old.start_whole old.fixed_whole old.parts.items old.parts_in _ _ _ c.push.ensures.bytes char;
    }

pub returns : goal.returns
unfolding sketch_of
returns c =
    let old = c.args.self.now in
    let bytes = string_bytes old.texts in
    let utf8 = IsUtf8-string_bytes old.texts in
    let after = c.in_ok-push.ensures.bytes in
    same_sketch _ (added (sketch_of old) (Char c.args.c))
    (ap (λ bs. map (part_at (take old.start bs)) old.parts.items) after
    ∙ ap (λ bs. map (part_at bs) old.parts.items) (pushed_front bytes old.start old.fixed utf8 old.start_whole old.fixed_whole old.parts.items old.parts_in _))
    (ap (λ bs. chars (take old.fixed (drop old.start bs))) after ∙ pushed_fixed bytes old.start old.fixed utf8 old.start_whole old.fixed_whole old.parts.items old.parts_in _)
    (ap (λ bs. chars (drop old.fixed (drop old.start bs))) after ∙ pushed_run bytes old.start old.fixed utf8 old.start_whole old.fixed_whole old.parts.items old.parts_in _
    ∙ ap (λ x. chars (drop old.fixed (drop old.start bytes)) ++ x) (chars_one c.args.c c.ranges.c.0))
