use Rattle.std.proofs.Common.{◌≡◌, ◌-◌, ◌∙◌, ◌∷◌, [], ◌++◌, ap, refl, sym, subst, arith, length, length-drop}
use Rattle.std.specs.Prelude.{chars, string_bytes, take, drop, map, IsCharBoundary}
use Rattle.std.proofs.lemmas.List.{map-append}
use Rattle.std.proofs.lemmas.Str.{IsUtf8-string_bytes, IsUtf8-nil, IsCharBoundary-start, IsCharBoundary-end}
use Rattle.indicatif_text.specs.Inside.Draft.{sketch_of, parted_sketch}
use Rattle.indicatif_text.specs.declared.template.stored_parts.StoredPart.{StoredPart}
use Rattle.indicatif_text.specs.Inside.StoredParts.{part_at, LieIn}
use Rattle.indicatif_text.proofs.StoredPartLemmas.{whole_parts, closed_in}
use Rattle.indicatif_text.proofs.DraftLemmas.{same_sketch, all_fixed, all_run, none_fixed, none_run, behind_parts}
use Rattle.indicatif_text.proofs.template.draft.Draft.close.Goals as goal

pub invariant_of-self-2 : goal.invariant_of-self-2
invariant_of-self-2 c =
    let old = c.args.self.now in
    let bytes = string_bytes old.texts in
    let end : c.len-end.result ≡ length bytes = omega (arith, c.len-end.ensures, old.texts.bytes.ok.0) in
    let front : take c.len-end.result bytes ≡ bytes = all_fixed bytes _ end in
    let behind : drop c.len-end.result bytes ≡ [] = all_run bytes _ end in
    let part : StoredPart = record { kind = c.args.kind; start = old.start; end = c.len-end.result } in
    let all = closed_in bytes old.start (IsUtf8-string_bytes old.texts) old.start_whole old.parts.items old.parts_in part refl end in
    record {
      parts_in = subst (LieIn (take c.len-end.result bytes)) (sym c.in_ok-push.ensures.items) (subst (λ bs. LieIn bs (old.parts.items ++ part ∷ [])) (sym front) all);
      start_whole = subst (IsCharBoundary bytes) (sym end) (IsCharBoundary-end bytes);
      fixed_whole = subst (λ bs. IsCharBoundary bs 0) (sym behind) (IsCharBoundary-start [] IsUtf8-nil);
    }

pub returns : goal.returns
unfolding sketch_of
returns c =
    let old = c.args.self.now in
    let bytes = string_bytes old.texts in
    let utf8 = IsUtf8-string_bytes old.texts in
    let end : c.len-end.result ≡ length bytes = omega (arith, c.len-end.ensures, old.texts.bytes.ok.0) in
    let part : StoredPart = record { kind = c.args.kind; start = old.start; end = c.len-end.result } in
    let none : drop c.len-end.result bytes ≡ [] = all_run bytes _ end in
    let length_of : c.len-end.result - old.start ≡ length (drop old.start bytes) = omega (arith, end, length-drop old.start bytes) in
    let text : chars (take (c.len-end.result - old.start) (drop old.start bytes)) ≡ (sketch_of old).fixed ++ (sketch_of old).run =
    ap chars (all_fixed (drop old.start bytes) _ length_of) ∙ behind_parts bytes old.start old.fixed utf8 old.start_whole old.fixed_whole old.parts.items old.parts_in in
    same_sketch _ (parted_sketch (sketch_of old) c.args.kind)
    (ap (λ bs. map (part_at bs) c.push.new.self.items) (all_fixed bytes _ end) ∙ ap (map (part_at bytes)) c.in_ok-push.ensures.items ∙ map-append (part_at bytes) old.parts.items (part ∷ [])
    ∙ cc (whole_parts bytes old.start utf8 old.start_whole old.parts.items old.parts_in, text))
    (none_fixed _ 0 none) (none_run _ 0 none)
