use Rattle.std.proofs.Common.{◌≡◌, ◌∙◌, ap, sym, subst, take, drop}
use Rattle.std.specs.Prelude.{chars, IsUtf8, IsCharBoundary}
use Rattle.std.specs.List.{prefix_len}
use Rattle.indicatif_text.specs.Inside.Spans.{belongs}
use Rattle.indicatif_text.proofs.SpanLemmas.{past_ascii, run_chars, rest_chars, rest_utf8, run_boundary}
use Rattle.indicatif_text.proofs.spans.split_span.Goals as goal

pub split_at-requires : goal.split_at-requires
split_at-requires c =
    let text = c.args.text.now in
    let test = belongs c.args.run in
    let n : c.span_len-end.result ≡ prefix_len test text = c.span_len-end.ensures ∙ ap (prefix_len test) c.as_bytes.ensures.value in
    subst (IsCharBoundary text) (sym n) (run_boundary test (past_ascii c.args.run) text c.utf8.text)

pub returns : goal.returns
returns c =
    let text = c.args.text.now in
    let test = belongs c.args.run in
    let n : c.span_len-end.result ≡ prefix_len test text = c.span_len-end.ensures ∙ ap (prefix_len test) c.as_bytes.ensures.value in
    record {
      run = ap chars (c.split_at.ensures.front ∙ ap (λ k. take k text) n) ∙ run_chars test (past_ascii c.args.run) text c.utf8.text;
      rest = ap chars (c.split_at.ensures.back ∙ ap (λ k. drop k text) n) ∙ rest_chars test (past_ascii c.args.run) text c.utf8.text;
      utf8 = subst IsUtf8 (sym (c.split_at.ensures.back ∙ ap (λ k. drop k text) n)) (rest_utf8 test (past_ascii c.args.run) text c.utf8.text);
    }
