use Rattle.std.proofs.Common.{◌≡◌, ◌∙◌, ◌-◌, ◌++◌, ◌∷◌, [], suc, drop, reverse, encode_utf8_all, string_bytes, sym, ap, arith, append_assoc, append-nil}
use Rattle.std.proofs.lemmas.List.{reverse-append}
use Rattle.std.proofs.lemmas.Str.{encodes-append}
use Rattle.std.proofs.Math.Seq.{drop-cons}
use Rattle.std.proofs.Math.Utf8.{encode}
use Rattle.indicatif_term.proofs.cells.joiners.push_reversed.Goals as goal

pub loop-left-preserved : goal.loop-left-preserved
loop-left-preserved c =
    let xs = c.args.characters.now in
    let n = c.loop-left.left - 1 in
    let x = c.index-characters-left.result in
    let rest = drop c.loop-left.left xs in
    let next : suc n ≡ c.loop-left.left = omega arith in
    let here : drop n xs ≡ x ∷ rest =
    drop-cons xs n x (omega (arith, c.loop-left.invariant.within)) ∙ ap (λ y. y ∷ drop (suc n) xs) (sym c.index-characters-left.is)
    ∙ ap (λ k. x ∷ drop k xs) next in
    let one : encode x ≡ encode_utf8_all (x ∷ []) = sym (append-nil (encode x)) in
    let out = string_bytes c.args.out.now in
    record {
      within = omega (arith, c.loop-left.invariant.within);
      pushed = c.in_ok-push.ensures.bytes ∙ ap (λ bs. string_bytes c.loop-left.out ++ bs) one ∙ ap (λ bs. bs ++ encode_utf8_all (x ∷ [])) c.loop-left.invariant.pushed
          ∙ append_assoc out (encode_utf8_all (reverse rest)) (encode_utf8_all (x ∷ []))
          ∙ ap (λ bs. out ++ bs) (sym (encodes-append (reverse rest) (x ∷ [])) ∙ ap encode_utf8_all (sym (ap reverse here ∙ reverse-append (x ∷ []) rest)));
    }
