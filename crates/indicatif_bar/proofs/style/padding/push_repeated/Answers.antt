use Rattle.std.proofs.Common.{◌≡◌, ◌≤◌, ◌<◌, ◌^◌, ◌++◌, ◌∙◌, sym, ap, arith, rules, length, string_bytes, string_len, append-nil, append_assoc}
use Rattle.indicatif_bar.specs.Layout.{times}
use Rattle.indicatif_bar.proofs.LayoutLemmas.{times_sum, again_in, fits_in, begins_in, ends_in}
use Rattle.indicatif_bar.proofs.style.padding.push_repeated.Goals as goal

few : (c : goal.After-min-more) → c.min-more.result ≤ c.times.done
few c = omega (arith, c.min-more.ensures)

at : (c : goal.After-min-more) → c.len-start.result ≡ length (string_bytes c.args.out.now)
at c = c.len-start.ensures ∙ c.args.out.now.bytes.ok.0

pub times-init : goal.times-init
times-init c = record {
  texts = c.in_ok-push_str.ensures.bytes ∙ ap (λ t. string_bytes c.args.out.now ++ t) (sym (append-nil c.args.text.now));
  begun = omega arith;
  within = omega (arith, c.if-count-eq0.false);
}

pub overflow_mul-end : goal.overflow_mul-end
overflow_mul-end c =
    let size : string_len c.times.out < 2 ^ 64 = search rules in
    omega (
      arith,
      size,
      c.times.out.bytes.ok.0,
      fits_in (string_bytes c.args.out.now) c.args.text.now (string_bytes c.times.out) c.times.done c.min-more.result c.len-start.result
          (few c) c.times.invariant.texts (at c),
    )

pub overflow_add-end : goal.overflow_add-end
overflow_add-end c =
    let size : string_len c.times.out < 2 ^ 64 = search rules in
    omega (
      arith,
      size,
      c.times.out.bytes.ok.0,
      fits_in (string_bytes c.args.out.now) c.args.text.now (string_bytes c.times.out) c.times.done c.min-more.result c.len-start.result
          (few c) c.times.invariant.texts (at c),
    )

pub extend_from_within-requires-clause-in_bounds : goal.extend_from_within-requires-clause-in_bounds
extend_from_within-requires-clause-in_bounds c = omega (
  arith,
  c.times.out.bytes.ok.0,
  fits_in (string_bytes c.args.out.now) c.args.text.now (string_bytes c.times.out) c.times.done c.min-more.result c.len-start.result
      (omega (arith, c.min-more.ensures)) c.times.invariant.texts (c.len-start.ensures ∙ c.args.out.now.bytes.ok.0),
)

pub extend_from_within-requires-clause-start_boundary : goal.extend_from_within-requires-clause-start_boundary
extend_from_within-requires-clause-start_boundary c = begins_in (string_bytes c.args.out.now) c.args.text.now
    (string_bytes c.times.out) c.times.done c.min-more.result c.len-start.result (omega (arith, c.min-more.ensures)) c.times.invariant.texts
    (c.len-start.ensures ∙ c.args.out.now.bytes.ok.0) c.utf8.text

pub extend_from_within-requires-clause-end_boundary : goal.extend_from_within-requires-clause-end_boundary
extend_from_within-requires-clause-end_boundary c = ends_in (string_bytes c.args.out.now) c.args.text.now (string_bytes c.times.out) c.times.done c.min-more.result c.len-start.result
    (omega (arith, c.min-more.ensures)) c.times.invariant.texts (c.len-start.ensures ∙ c.args.out.now.bytes.ok.0) c.utf8.text

pub times-preserved : goal.times-preserved
times-preserved c = record {
  texts =
      c.in_ok-extend_from_within.ensures.bytes
      ∙ ap (λ t. string_bytes c.times.out ++ t) (again_in (string_bytes c.args.out.now) c.args.text.now (string_bytes c.times.out) c.times.done c.min-more.result c.len-start.result
      (omega (arith, c.min-more.ensures)) c.times.invariant.texts (c.len-start.ensures ∙ c.args.out.now.bytes.ok.0))
      ∙ ap (λ o. o ++ times c.min-more.result c.args.text.now) c.times.invariant.texts
      ∙ append_assoc (string_bytes c.args.out.now) (times c.times.done c.args.text.now) (times c.min-more.result c.args.text.now)
      ∙ ap (λ t. string_bytes c.args.out.now ++ t) (sym (times_sum c.times.done c.min-more.result c.args.text.now));
  begun = omega (arith, c.times.invariant.begun);
  within = omega (arith, c.min-more.ensures, c.times.invariant.within);
}

pub returns : goal.returns
returns c =
    let all : c.times.done ≡ c.args.count = omega (arith, c.times-test.false, c.times.invariant.within) in
    c.times.invariant.texts ∙ ap (λ n. string_bytes c.args.out.now ++ times n c.args.text.now) all
