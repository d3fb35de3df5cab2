use Rattle.std.proofs.Common.{◌∙◌, ◌++◌, ap, sym, chars, append_assoc, append-nil, encode_utf8_all, string_bytes}
use Rattle.std.specs.Prelude.{flat_map}
use Rattle.std.specs.Str.{IsUtf8}
use Rattle.std.specs.Str.Iter.{chars_rest}
use Rattle.std.proofs.Common.{subst}
use Rattle.std.proofs.lemmas.Str.{chars_past_char, IsUtf8-past_char, chars-nil, encodes-append}
use Rattle.std.proofs.lemmas.List.{nil_from_length}
use Rattle.indicatif_term.specs.Cells.{quoted_char}
use Rattle.indicatif_term.proofs.cells.call_log.quote.Goals as goal

pub loop-c-init : goal.loop-c-init
loop-c-init c = record {
  utf8 = subst IsUtf8 (sym c.chars-rest.ensures.rest) c.utf8.text;
  quoted = ap (λ bs. string_bytes c.args.out.now ++ encode_utf8_all (flat_map quoted_char (chars bs))) c.chars-rest.ensures.rest;
}

pub loop-c-preserved : goal.loop-c-preserved
loop-c-preserved c =
    let bs = chars_rest c.loop-c.rest in
    let rest = chars_rest c.next.new.self in
    let u = c.loop-c.invariant.utf8 in
    let e = c.in-Some.ensures.steps.0 in
    let out = string_bytes c.loop-c.out in
    let q = quoted_char c.in-Some.c in
    let more = flat_map quoted_char (chars rest) in
    record {
      utf8 = IsUtf8-past_char bs rest c.in-Some.c u e;
      quoted = ap (λ t. t ++ encode_utf8_all more) c.in_ok-quote_character.ensures.quoted
          ∙ append_assoc out (encode_utf8_all q) (encode_utf8_all more) ∙ ap (λ t. out ++ t) (sym (encodes-append q more))
          ∙ ap (λ cs. out ++ encode_utf8_all (flat_map quoted_char cs)) (sym (chars_past_char bs rest c.in-Some.c u e)) ∙ c.loop-c.invariant.quoted;
    }

pub returns-clause-quoted : goal.returns-clause-quoted
returns-clause-quoted c =
    let bs = chars_rest c.loop-c.rest in
    let none = ap chars (nil_from_length bs c.in_default.ensures.steps.0.0) ∙ chars-nil in
    sym (append-nil (string_bytes c.loop-c.out)) ∙ ap (λ cs. string_bytes c.loop-c.out ++ encode_utf8_all (flat_map quoted_char cs)) (sym none) ∙ c.loop-c.invariant.quoted
