use Rattle.std.proofs.Common.{Bool, false, [], ◌+◌, ◌++◌, ◌∙◌, ap, sym, chars, drop, arith, append_assoc, if◌then◌else◌}
use Rattle.std.specs.Prelude.{string_bytes}
use Rattle.std.proofs.lemmas.Str.{chars-nil}
use Rattle.indicatif_text.specs.Columns.{width_of, columns_in}
use Rattle.indicatif_term.specs.Inside.Recutting.{guarded_char}
use Rattle.indicatif_term.proofs.CutCharLemmas.{kept_text, placed, all_kept, kept_next, columns_left}
use Rattle.indicatif_term.proofs.engine.recutting.line_of.Goals as goal
use Rattle.indicatif_term.proofs.engine.recutting.line_of.Goals.{then-kept+in_ok-push_guarded, else-kept}

pub loop-c-init : goal.loop-c-init
loop-c-init c =
    let left = kept_text c.args.width false c.args.seen.now in
    record {
      text_is = ap (λ t. chars t ++ left) c.new-text.ensures.bytes ∙ ap (λ t. t ++ left) chars-nil ∙ all_kept c.args.width c.args.seen.now;
      last_is = omega arith;
    }

pub loop-c-preserved : goal.loop-c-preserved
loop-c-preserved c =
    let w = c.args.width in
    let cs = c.args.seen.now in
    let i = c.loop-c.c-index in
    let d = c.c-item.result in
    let k = c.keeps-kept.result in
    let text = chars (string_bytes c.loop-c.text) in
    let left = kept_text w k (drop (i + 1) cs) in
    let columns = columns_in (placed w (drop (i + 1) cs)) in
    let v = c.loop-c.invariant in
    let shown = kept_next w cs i d c.loop-c-test.true (sym c.c-item.is) c.loop-c.kept k c.keeps-kept.ensures in
    let taken = columns_left w cs i d c.loop-c-test.true (sym c.c-item.is) c.loop-c.kept k c.keeps-kept.ensures in
    elim c.if-kept.branch [
      | then-kept+in_ok-push_guarded b ↦
          let one = ap (λ (t : Bool). (if t then width_of d else 0) + columns) b.if-kept.true in
          record {
            text_is = ap (λ t. chars (string_bytes t) ++ left) b.text-is ∙ ap (λ x. x ++ left) b.in_ok-push_guarded.ensures.pushed ∙ append_assoc text (guarded_char d) left
                ∙ ap (λ x. text ++ x) (sym (shown ∙ ap (λ (t : Bool). (if t then guarded_char d else []) ++ left) b.if-kept.true)) ∙ v.text_is;
            last_is = omega (arith, b.last-is, b.width-last.ensures, taken, one, v.last_is);
          }
      | else-kept b ↦
          let none = ap (λ (t : Bool). (if t then width_of d else 0) + columns) b.if-kept.false in
          record {
            text_is = ap (λ t. chars (string_bytes t) ++ left) b.text-is
                ∙ ap (λ x. text ++ x) (sym (shown ∙ ap (λ (t : Bool). (if t then guarded_char d else []) ++ left) b.if-kept.false)) ∙ v.text_is;
            last_is = omega (arith, b.last-is, taken, none, v.last_is);
          }
    ]

pub overflow_add-last : goal.overflow_add-last
overflow_add-last c =
    let w = c.args.width in
    let cs = c.args.seen.now in
    let i = c.loop-c.c-index in
    let d = c.c-item.result in
    let columns = columns_in (placed w (drop (i + 1) cs)) in
    let taken = columns_left w cs i d c.loop-c-test.true (sym c.c-item.is) c.loop-c.kept c.keeps-kept.result c.keeps-kept.ensures in
    let one = ap (λ (t : Bool). (if t then width_of d else 0) + columns) c.if-kept.true in
    omega (arith, c.requires.fits, c.ranges.width, c.loop-c.invariant.last_is, c.width-last.ensures, taken, one)
