use Rattle.std.proofs.Common.{◌≡◌, ◌<◌, ◌∙◌, [], ap, sym, subst, arith, length, length-drop}
use Rattle.std.specs.Prelude.{OnOk, chars, string_bytes, drop}
use Rattle.std.proofs.lemmas.Bool.Decides.{nat_tests}
use Rattle.std.proofs.lemmas.Str.{chars-nil, IsUtf8-string_bytes, IsUtf8-drop}
use Rattle.indicatif_text.specs.Inside.Draft.{sketch_of, closed_sketch}
use Rattle.indicatif_text.proofs.DraftLemmas.{same_sketch, all_run, none_fixed, none_run, closed_none, parted_literal, behind_parts}
use Rattle.indicatif_text.proofs.template.draft.Draft.close_literal.Goals as goal

pub returns-then-len-self : goal.returns-then-len-self
unfolding sketch_of
returns-then-len-self c =
    let old = c.args.self.now in
    let bytes = string_bytes old.texts in
    let end : old.start ≡ length bytes = grind (arith, nat_tests) in
    let none : drop old.start bytes ≡ [] = all_run bytes _ end in
    let whole = behind_parts bytes old.start old.fixed (IsUtf8-string_bytes old.texts) old.start_whole old.fixed_whole old.parts.items old.parts_in in
    same_sketch _ (closed_sketch (sketch_of old)) (closed_none _ _ (sym whole ∙ ap chars none ∙ chars-nil)) (none_fixed _ old.fixed none) (none_run _ old.fixed none)

pub returns : goal.returns
unfolding sketch_of
returns c =
    let old = c.args.self.now in
    let bytes = string_bytes old.texts in
    let utf8 = IsUtf8-string_bytes old.texts in
    let some : 0 < length (drop old.start bytes) = grind (arith, nat_tests, length-drop old.start bytes) in
    let whole = behind_parts bytes old.start old.fixed utf8 old.start_whole old.fixed_whole old.parts.items old.parts_in in
    subst (λ s. OnOk c.close.result (sketch_of c.close.new.self ≡ s))
    (parted_literal (sketch_of old) (drop old.start bytes) (IsUtf8-drop bytes old.start utf8 old.start_whole) some whole) c.close.ensures
