use Rattle.std.proofs.Common.{◌≡◌, ℕ, List, Result, [], ◌∷◌, ◌++◌, ◌∙◌, sym, subst, length}
use Rattle.std.proofs.lemmas.Bool.{eqb-true}
use Rattle.std.proofs.lemmas.List.{nil_from_length}
use Rattle.std.specs.declared.io.Error.{Error}
use Rattle.indicatif_term.specs.Calls.{TermView, Writes}
use Rattle.indicatif_term.proofs.CallTurnLemmas.{writes_then, writes_fail}
use Rattle.indicatif_term.proofs.target.term.TermTermLike.write_line.Goals as goal
use Rattle.indicatif_term.proofs.target.term.TermTermLike.write_line.Goals.{then-not-is_empty+in_ok-write_str, else-not-is_empty}

after_none : (a b : List ℕ) (s t : TermView) (r : Result Unit Error) → a ≡ [] → Writes b s t r → Writes (a ++ b) s t r
after_none a b s t r e w = subst (λ x. Writes (x ++ b) s t r) (sym e) w

pub returns-in_err-write_str : goal.returns-in_err-write_str
returns-in_err-write_str g c = writes_fail (0x0D ∷ 0x0A ∷ []) _ c.from_residual.result c.from_residual.ensures.1 c.in_err-write_str.ensures

pub returns : goal.returns
returns g c = elim c.if-not-is_empty.branch [
  | then-not-is_empty+in_ok-write_str w ↦ writes_then (0x0D ∷ 0x0A ∷ []) _ c.write_str-2.result w.in_ok-write_str.ensures (rw w.self-is at c.write_str-2.ensures)
  | else-not-is_empty w ↦
      let none : c.args.s.now ≡ [] = nil_from_length c.args.s.now (eqb-true (length c.args.s.now) 0 (sym c.is_empty.ensures ∙ w.if-not-is_empty.false)) in
      after_none c.args.s.now (0x0D ∷ 0x0A ∷ []) _ _ c.write_str-2.result none (rw w.self-is at c.write_str-2.ensures)
]
