use Rattle.std.proofs.Common.{◌≡◌, ◌-◌, ◌∙◌, ap, refl, subst, arith, length, length-drop}
use Rattle.std.specs.Prelude.{chars, string_bytes, drop, IsCharBoundary}
use Rattle.std.proofs.lemmas.Str.{chars-nil, IsCharBoundary-end}
use Rattle.indicatif_text.specs.Inside.Draft.{sketch_of, fixed_sketch}
use Rattle.indicatif_text.proofs.DraftLemmas.{same_sketch, all_fixed, all_run, behind_parts}
use Rattle.std.proofs.lemmas.Str.{IsUtf8-string_bytes}
use Rattle.indicatif_text.proofs.template.draft.Draft.fix_run.Goals as goal

pub invariant_of-self : goal.invariant_of-self
invariant_of-self c =
    let old = c.args.self.now in
    let behind = drop old.start (string_bytes old.texts) in
    let n : length behind ≡ c.len.result - old.start = omega (arith, length-drop old.start (string_bytes old.texts), c.len.ensures, old.texts.bytes.ok.0) in
    record { parts_in = old.parts_in; start_whole = old.start_whole; fixed_whole = subst (IsCharBoundary behind) n (IsCharBoundary-end behind) }

pub returns : goal.returns
unfolding sketch_of
returns c =
    let old = c.args.self.now in
    let bytes = string_bytes old.texts in
    let behind = drop old.start bytes in
    let n : c.len.result - old.start ≡ length behind = omega (arith, length-drop old.start bytes, c.len.ensures, old.texts.bytes.ok.0) in
    same_sketch _ (fixed_sketch (sketch_of old)) refl
    (ap chars (all_fixed behind _ n) ∙ behind_parts bytes old.start old.fixed (IsUtf8-string_bytes old.texts) old.start_whole old.fixed_whole old.parts.items old.parts_in)
    (ap chars (all_run behind _ n) ∙ chars-nil)
