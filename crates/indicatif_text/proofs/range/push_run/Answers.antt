use Rattle.std.proofs.Common.{◌≡◌, [], ◌∷◌, ap, arith, chars, length, append-nil}
use Rattle.std.specs.Prelude.{sum_by, nat_lt, encode_utf8, encode_utf8_all}
use Rattle.std.specs.Str.Iter.{chars_rest}
use Rattle.std.proofs.lemmas.List.Sums.{sum_by-cons}
use Rattle.indicatif_text.specs.Columns.{width_of}
use Rattle.indicatif_text.proofs.WrappingLemmas.{past, past_utf8, chars_none}
use Rattle.indicatif_text.proofs.StyleLemmas.{at_err}
use Rattle.indicatif_text.proofs.RangeLemmas.{leaves_room, leaves_less, leaves_same, leaves_none, one, passed, pushed, no_more}
use Rattle.indicatif_text.proofs.range.push_run.Goals as goal

pub overflow_add-after : goal.overflow_add-after
overflow_add-after c =
    let next = past (chars_rest c.characters.rest) (chars_rest c.next.new.self) c.in-Some.c c.characters.invariant.utf8 c.in-Some.ensures.steps.0 in
    omega (arith, c.requires, c.width.ensures, c.characters.invariant.sum_is, ap (sum_by width_of) next, sum_by-cons width_of c.in-Some.c (chars (chars_rest c.next.new.self)))

pub characters-preserved-in_ok-push : goal.characters-preserved-in_ok-push
characters-preserved-in_ok-push c =
    let bs = chars_rest c.characters.rest in
    let rest = chars_rest c.next.new.self in
    let next = past bs rest c.in-Some.c c.characters.invariant.utf8 c.in-Some.ensures.steps.0 in
    record {
      utf8 = past_utf8 bs rest c.in-Some.c c.characters.invariant.utf8 c.in-Some.ensures.steps.0;
      sum_is = omega (arith, c.width.ensures, c.characters.invariant.sum_is, ap (sum_by width_of) next, sum_by-cons width_of c.in-Some.c (chars rest));
      room = omega (arith, c.characters.invariant.room, c.push.ensures.capacity);
      out_is = leaves_less _ _ _ (c.in-Some.c ∷ []) _ _ _ c.characters.invariant.out_is
          (pushed (nat_lt c.args.column c.args.range.1) c.args.range.0 c.args.range.1 c.characters.column c.in-Some.c c.width.result (chars bs) (chars rest) next c.width.ensures c.if-stands.true)
          (one _ _ c.in-Some.c c.in_ok-push.ensures.bytes);
    }

pub characters-preserved : goal.characters-preserved
characters-preserved c =
    let bs = chars_rest c.characters.rest in
    let rest = chars_rest c.next.new.self in
    let next = past bs rest c.in-Some.c c.characters.invariant.utf8 c.in-Some.ensures.steps.0 in
    record {
      utf8 = past_utf8 bs rest c.in-Some.c c.characters.invariant.utf8 c.in-Some.ensures.steps.0;
      sum_is = omega (arith, c.width.ensures, c.characters.invariant.sum_is, ap (sum_by width_of) next, sum_by-cons width_of c.in-Some.c (chars rest));
      room = c.characters.invariant.room;
      out_is = leaves_same _ _ _ _ _ c.characters.invariant.out_is
          (passed (nat_lt c.args.column c.args.range.1) c.args.range.0 c.args.range.1 c.characters.column c.in-Some.c c.width.result (chars bs) (chars rest) next c.width.ensures c.if-stands.false);
    }

pub returns-clause-column : goal.returns-clause-column
returns-clause-column c =
    let none = chars_none (chars_rest c.characters.rest) c.in_default.ensures.steps.0.0 in
    omega (arith, c.characters.invariant.sum_is, ap (sum_by width_of) none)

pub returns-clause-text : goal.returns-clause-text
returns-clause-text c =
    let none = chars_none (chars_rest c.characters.rest) c.in_default.ensures.steps.0.0 in
    leaves_none _ _ _ _ c.characters.invariant.out_is (no_more (nat_lt c.args.column c.args.range.1) c.args.range.0 c.args.range.1 c.characters.column _ none)

pub returns-in_err-push-clause-full : goal.returns-in_err-push-clause-full
returns-in_err-push-clause-full c =
    let bs = chars_rest c.characters.rest in
    let rest = chars_rest c.next.new.self in
    let next = past bs rest c.in-Some.c c.characters.invariant.utf8 c.in-Some.ensures.steps.0 in
    let left = pushed (nat_lt c.args.column c.args.range.1) c.args.range.0 c.args.range.1 c.characters.column c.in-Some.c c.width.result (chars bs) (chars rest) next c.width.ensures
    c.if-stands.true in
    let within = leaves_room _ _ _ (c.in-Some.c ∷ []) _ _ c.characters.invariant.out_is left in
    let bytes : length (encode_utf8_all (c.in-Some.c ∷ [])) ≡ length (encode_utf8 c.in-Some.c) = ap length (append-nil (encode_utf8 c.in-Some.c)) in
    at_err c.from_residual.result
    (omega (arith, within, bytes, c.characters.invariant.room, c.characters.out.bytes.ok.0, c.args.out.now.bytes.ok.0, c.in_err-push.ensures.full))
