use Rattle.std.proofs.Common.{◌<◌, ◌∙◌, sym, subst, inl, inr}
use Rattle.indicatif_term.specs.Standing.{AreLines}
use Rattle.indicatif_term.specs.Remembered.{live_lines}
use Rattle.indicatif_term.proofs.RememberedLemmas.{live_right}
use Rattle.indicatif_term.proofs.engine.remembered.Remembered.beside.Goals as goal

pub returns-then-self-width-clause-right : goal.returns-then-self-width-clause-right
returns-then-self-width-clause-right c = λ some. elim c.of.ensures.lines [
  | inl none ↦ subst (AreLines c.args.width) (sym none) tt
  | inr same ↦
      let r = c.args.self.now in
      let width = c.if-self-width.true in
      let right = live_right r (subst (λ n. 0 < n) (sym width) some) in
      subst (AreLines c.args.width) (sym (same ∙ c.live.ensures)) (subst (λ n. AreLines n (live_lines r)) width right)
]

pub returns-then-self-width-clause-known : goal.returns-then-self-width-clause-known
returns-then-self-width-clause-known c = λ some. elim c.of.ensures.known [
  | inl none ↦ subst (AreLines c.args.width) (sym none) tt
  | inr same ↦
      let r = c.args.self.now in
      let width = c.if-self-width.true in
      let right = live_right r (subst (λ n. 0 < n) (sym width) some) in
      subst (AreLines c.args.width) (sym (same ∙ c.live.ensures)) (subst (λ n. AreLines n (live_lines r)) width right)
]
