use Rattle.std.proofs.Common.{◌≡◌, ◌∙◌, ◌++◌, [], reverse, sym, ap, arith}
use Rattle.std.proofs.lemmas.List.{length-reverse}
use Rattle.indicatif_term.specs.Inside.Joiners.{chain}
use Rattle.indicatif_term.proofs.JoinerLemmas.{found_before, found_first, chain_far, chain_none}
use Rattle.indicatif_term.proofs.cells.joiners.joiners_up_to.Goals.{then-loop-left-test+else-left-joiners, else-loop-left-test}
use Rattle.indicatif_term.proofs.cells.joiners.joiners_up_to.Goals as goal

pub loop-left-preserved-then-before-left : goal.loop-left-preserved-then-before-left
loop-left-preserved-then-before-left c =
    found_before c.args.joiners.now _ c.loop-left.found.items c.push.new.self.items c.loop-left.left _ c.loop-left-test.true c.if-left-joiners.true c.loop-left.invariant
    c.in_ok-push.ensures.items c.if-before-left.true

pub loop-left-preserved : goal.loop-left-preserved
loop-left-preserved c =
    found_first c.args.joiners.now _ c.loop-left.found.items c.push.new.self.items c.loop-left.left _ c.loop-left-test.true c.if-left-joiners.true c.loop-left.invariant
    c.in_ok-push.ensures.items c.if-before-left.false

pub returns-clause-found : goal.returns-clause-found
returns-clause-found c =
    let joiners = c.args.joiners.now in
    let none : chain (reverse joiners) c.loop-left.left ≡ [] = elim c.loop-left-test.branch [
      | then-loop-left-test+else-left-joiners w ↦ chain_far (reverse joiners) c.loop-left.left (omega (arith, length-reverse joiners, w.if-left-joiners.false))
      | else-loop-left-test w ↦ ap (chain (reverse joiners)) (let zero : c.loop-left.left ≡ 0 = omega (arith, w.loop-left-test.false) in zero) ∙ chain_none (reverse joiners)
    ] in
    sym (c.loop-left.invariant ∙ ap (λ xs. xs ++ reverse c.loop-left.found.items) none)
