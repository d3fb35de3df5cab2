use Rattle.std.proofs.Common.{◌≡◌, ◌∙◌, [], ◌∷◌, true, false, length, ap, sym, map}
use Rattle.std.specs.Prelude.{◌==◌, string_bytes}
use Rattle.std.proofs.lemmas.List.{map-append}
use Rattle.bars_run.specs.Printing.{up_to_last}
use Rattle.bars_run.proofs.PrintLemmas.{push_empty, push_some, empty_is}
use Rattle.bars_run.proofs.up_to_last.Goals as goal

pub loop-last-preserved : goal.loop-last-preserved
loop-last-preserved c =
    let front = map (λ row. string_bytes row) c.in-Some.front.now in
    let last = string_bytes c.in-Some.last.now in
    let all = ap (map (λ row. string_bytes row)) c.in-Some.ensures.cases.0 ∙ map-append (λ row. string_bytes row) c.in-Some.front.now (c.in-Some.last.now ∷ []) in
    let none : (length last == 0) ≡ true = ap (λ n. n == 0) (sym c.in-Some.last.now.bytes.ok.0) ∙ sym c.is_empty.ensures ∙ c.if-not-is_empty.false in
    sym (ap up_to_last all ∙ push_empty last front (empty_is last ∙ none)) ∙ c.loop-last.invariant

pub returns-then-not-is_empty : goal.returns-then-not-is_empty
returns-then-not-is_empty c =
    let front = map (λ row. string_bytes row) c.in-Some.front.now in
    let last = string_bytes c.in-Some.last.now in
    let all = ap (map (λ row. string_bytes row)) c.in-Some.ensures.cases.0 ∙ map-append (λ row. string_bytes row) c.in-Some.front.now (c.in-Some.last.now ∷ []) in
    let some : (length last == 0) ≡ false = ap (λ n. n == 0) (sym c.in-Some.last.now.bytes.ok.0) ∙ sym c.is_empty.ensures ∙ c.if-not-is_empty.true in
    all ∙ sym (push_some last front (empty_is last ∙ some)) ∙ sym (ap up_to_last all) ∙ c.loop-last.invariant
