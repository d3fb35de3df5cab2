use Rattle.std.proofs.Common.{◌<◌, sym, subst, chars, arith, length}
use Rattle.std.specs.Str.Iter.{chars_rest}
use Rattle.std.proofs.lemmas.Bool.Decides.{nat_tests}
use Rattle.indicatif_text.proofs.ColourSequenceLemmas.{no_sequence, some_sequence}
use Rattle.indicatif_text.proofs.PieceLemmas.{Passed, passed_none, passed_next, passed_end, empty_first, colour_first}
use Rattle.indicatif_text.proofs.pieces.run_len.Goals as goal
use Rattle.indicatif_text.proofs.pieces.run_len.Goals.{then-loop-rest-test+else-colour_len-eq0, else-loop-rest-test}

pub loop-rest-init : goal.loop-rest-init
loop-rest-init c = record { utf8 = c.utf8.text; passed = passed_none c.args.text.now c.utf8.text }

pub loop-rest-preserved : goal.loop-rest-preserved
loop-rest-preserved c =
    let some : 0 < length c.loop-rest.rest.now = grind (arith, nat_tests) in
    let more = passed_next c.args.text.now c.loop-rest.rest.now (chars_rest c.chars-chars.result) (chars_rest c.next.new.self) c.next.result _ c.loop-rest.invariant.passed
    (no_sequence (chars c.loop-rest.rest.now) c.colour_len.result c.colour_len.ensures.len c.if-colour_len-eq0.true) c.chars-chars.ensures.rest c.next.ensures.steps.0 (λ a. a.0) some in
    record { utf8 = c.as_str-rest.utf8; passed = subst (Passed c.args.text.now) (sym c.as_str-rest.ensures) more }

pub returns-clause-pieces : goal.returns-clause-pieces
returns-clause-pieces c =
    passed_end c.args.text.now c.loop-rest.rest.now c.loop-rest.invariant.passed c.utf8.text
    (elim c.loop-rest-test.branch [
      | then-loop-rest-test+else-colour_len-eq0 w ↦
          let some : 0 < w.colour_len.result = omega (arith, w.if-colour_len-eq0.false) in
          colour_first w.colour_len.result (chars c.loop-rest.rest.now) (some_sequence _ w.colour_len.result w.colour_len.ensures.len some) some
      | else-loop-rest-test w ↦ empty_first c.loop-rest.rest.now (grind (arith, nat_tests))
    ])
