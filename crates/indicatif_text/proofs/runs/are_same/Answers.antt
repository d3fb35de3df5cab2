use Rattle.std.proofs.Common.{◌<◌, ◌++◌, ◌∷◌, [], ◌∙◌, arith, ap, sym, eqb, get_or, take, length}
use Rattle.std.proofs.lemmas.Bool.{and_parts, eqb-true}
use Rattle.std.proofs.lemmas.List.{take_more}
use Rattle.indicatif_text.proofs.runs.are_same.Goals as goal

pub loop-at-preserved : goal.loop-at-preserved
loop-at-preserved c =
    let a = c.args.a.now in
    let b = c.args.b.now in
    let at = c.loop-at.at in
    let within : at < length b = omega (arith, c.requires) in
    record {
      same = λ yes.
          let parts = and_parts c.loop-at.same (eqb (get_or a at 0) (get_or b at 0)) yes in
          take_more a at 0 c.loop-at-test.true ∙ ap (λ xs. xs ++ get_or a at 0 ∷ []) (c.loop-at.invariant.same parts.0)
          ∙ ap (λ x. take at b ++ x ∷ []) (eqb-true (get_or a at 0) (get_or b at 0) parts.1) ∙ sym (take_more b at 0 within);
    }
