use Rattle.std.proofs.Common.{◌≡◌, [], ◌∷◌, ◌∙◌, ◌-◌, ◌^◌, min, sym, ap, subst, refl, arith, length, length-append, chars}
use Rattle.std.specs.Prelude.{All}
use Rattle.std.specs.Int.{IsInRange}
use Rattle.std.specs.List.{AllByRecursion}
use Rattle.indicatif_term.proofs.SharedLemmas.{printable_chars}
use Rattle.std.specs.Str.Iter.{chars_rest}
use Rattle.std.proofs.lemmas.Iterator.Consumers.{YieldsList-end}
use Rattle.std.proofs.lemmas.Iterator.{YieldsList-from_chars}
use Rattle.indicatif_text.specs.Columns.{width_of}
use Rattle.indicatif_term.proofs.PartingLemmas.{space_one, ones_push, same_list}
use Rattle.indicatif_term.proofs.engine.comparing.narrow_count.Goals as goal

pub returns-then-is_printable : goal.returns-then-is_printable
returns-then-is_printable c =
    let text = c.args.text.now in
    let p = printable_chars text (subst (All (IsInRange 0x20 0x7E)) c.as_bytes.ensures.value (c.is_printable.ensures c.if-is_printable.true)) in
    (omega (arith, ap length p.0), p.1)

pub loop-c-init : goal.loop-c-init
loop-c-init c = record { narrow = tt; count = refl; before = space_one }

pub is_narrow-requires : goal.is_narrow-requires
is_narrow-requires c = c.loop-c.invariant.before

pub loop-c-preserved : goal.loop-c-preserved
loop-c-preserved c =
    let one : width_of c.in-Some.c ≡ 1 = c.is_narrow.ensures c.if-not-is_narrow.false in
    record {
      narrow = ones_push c.loop-c.yielded c.in-Some.c c.loop-c.invariant.narrow one;
      count = c.saturating_add-count.ensures ∙ omega (arith, c.loop-c.invariant.count, length-append c.loop-c.yielded (c.in-Some.c ∷ []));
      before = one;
    }

pub returns : goal.returns
returns c =
    let rest = ap chars_rest c.into_iter-c-iterator.ensures.into_iter_gives ∙ c.chars-c-items.ensures.rest in
    let t = YieldsList-end (YieldsList-from_chars c.args.text.now c.utf8.text rest) c.loop-c.yielded _ c.loop-c.yielded_by _ _ c.in-None.is c.next.ensures.steps in
    let all : c.loop-c.yielded ≡ chars c.args.text.now = sym (same_list c.loop-c.yielded) ∙ t.0 in
    (c.loop-c.invariant.count ∙ ap (λ xs. min (length xs) (2 ^ 64 - 1)) all, subst (AllByRecursion (λ c. width_of c ≡ 1)) all c.loop-c.invariant.narrow)
