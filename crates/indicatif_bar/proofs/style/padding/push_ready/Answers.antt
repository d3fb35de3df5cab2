use Rattle.std.proofs.Common.{◌≡◌, ◌++◌, ◌+◌, ◌-◌, ◌∙◌, sym, ap, arith, string_bytes, append_assoc}
use Rattle.indicatif_bar.specs.Layout.{times}
use Rattle.indicatif_bar.proofs.LayoutLemmas.{times_sum, front_is, front_ends}
use Rattle.indicatif_bar.proofs.style.padding.push_ready.Goals as goal

pub runs-preserved : goal.runs-preserved
runs-preserved c =
    let fewer : c.args.count - c.runs.left + 64 ≡ c.args.count - (c.runs.left - 64) = omega (arith, c.runs-test.true, c.runs.invariant.within) in
    record {
      texts =
          c.in_ok-push_str.ensures.bytes
          ∙ ap (λ t. string_bytes c.runs.out ++ t) c.requires.run
          ∙ ap (λ o. o ++ times 64 c.args.text.now) c.runs.invariant.texts
          ∙ append_assoc (string_bytes c.args.out.now) (times (c.args.count - c.runs.left) c.args.text.now) (times 64 c.args.text.now)
          ∙ ap (λ t. string_bytes c.args.out.now ++ t) (sym (times_sum (c.args.count - c.runs.left) 64 c.args.text.now))
          ∙ ap (λ n. string_bytes c.args.out.now ++ times n c.args.text.now) fewer;
      within = omega (arith, c.runs.invariant.within);
    }

pub range-requires-clause-end_boundary : goal.range-requires-clause-end_boundary
range-requires-clause-end_boundary c =
    front_ends c.args.text.now c.args.run.now 64 c.runs.left (omega (arith, c.runs-test.false)) c.requires.run c.utf8.text

pub returns : goal.returns
returns c =
    let all : c.args.count - c.runs.left + c.runs.left ≡ c.args.count = omega (arith, c.runs.invariant.within) in
    let last = front_is c.args.text.now c.args.run.now 64 c.runs.left (omega (arith, c.runs-test.false)) c.requires.run in
    c.in_ok-push_str-2.ensures.bytes
    ∙ ap (λ t. string_bytes c.runs.out ++ t) (c.range.ensures.value ∙ last)
    ∙ ap (λ o. o ++ times c.runs.left c.args.text.now) c.runs.invariant.texts
    ∙ append_assoc (string_bytes c.args.out.now) (times (c.args.count - c.runs.left) c.args.text.now) (times c.runs.left c.args.text.now)
    ∙ ap (λ t. string_bytes c.args.out.now ++ t) (sym (times_sum (c.args.count - c.runs.left) c.runs.left c.args.text.now))
    ∙ ap (λ n. string_bytes c.args.out.now ++ times n c.args.text.now) all
