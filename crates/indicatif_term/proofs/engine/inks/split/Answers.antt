use Rattle.std.proofs.Common.{◌≡◌, ◌∙◌, ◌++◌, sym, ap, subst, arith, take, drop, chars, length}
use Rattle.std.specs.Prelude.{◌==◌, IsCharBoundary}
use Rattle.std.specs.List.{list_any}
use Rattle.std.specs.Str.{IsUtf8}
use Rattle.std.proofs.lemmas.Str.{IsCharBoundary-from_take, IsUtf8-take}
use Rattle.indicatif_term.specs.Inside.Parting.{tail}
use Rattle.indicatif_term.proofs.PartingLemmas.{split_chars, unescaped}
use Rattle.indicatif_term.proofs.engine.inks.split.Goals as goal

pub split_at-requires-2 : goal.split_at-requires-2
split_at-requires-2 c =
    let s = c.shared-from.ensures.same in
    IsCharBoundary-from_take c.args.new.now c.shared-from.result c.utf8.new s.other
    (subst IsUtf8 s.same (IsUtf8-take c.args.old.now c.shared-from.result c.utf8.old c.shared-from.ensures.boundary))

pub returns : goal.returns
returns c =
    let old = c.args.old.now in
    let new = c.args.new.now in
    let from = c.shared-from.result in
    let s = c.shared-from.ensures.same in
    let own = c.shared-from.ensures.boundary in
    let utf8 : IsUtf8 (take from old) = IsUtf8-take old from c.utf8.old own in
    let other = IsCharBoundary-from_take new from c.utf8.new s.other (subst IsUtf8 s.same utf8) in
    let front = c.split_at.result.0.now in
    let front_is : front ≡ take from old = c.split_at.ensures.front in
    let size : length front ≡ from = omega (arith, c.split_at.ensures.front_len) in
    record {
      own = subst (IsCharBoundary old) (sym size) own;
      other = subst (IsCharBoundary new) (sym size) other;
      own_is = ap chars c.split_at.ensures.back ∙ ap (λ n. tail n old) (sym size);
      other_is = ap chars c.split_at-2.ensures.back ∙ ap (λ n. tail n new) (sym size);
      old_is = split_chars old from c.utf8.old own ∙ ap (λ x. chars x ++ chars (drop from old)) (sym front_is) ∙ ap (λ x. chars front ++ chars x) (sym c.split_at.ensures.back);
      new_is = split_chars new from c.utf8.new other ∙ ap (λ x. chars x ++ chars (drop from new)) (sym s.same ∙ sym front_is)
          ∙ ap (λ x. chars front ++ chars x) (sym c.split_at-2.ensures.back);
      plain = unescaped front (subst IsUtf8 (sym front_is) utf8) (ap (list_any (λ b. b == 0x1B)) front_is ∙ s.plain);
    }
