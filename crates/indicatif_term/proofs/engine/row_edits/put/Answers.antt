use Rattle.std.proofs.Common.{◌≡◌, [], ◌∙◌, sym, subst, length}
use Rattle.std.proofs.lemmas.Bool.{eqb-true}
use Rattle.std.proofs.lemmas.List.{nil_from_length}
use Rattle.indicatif_term.specs.Calls.{LeadsOn}
use Rattle.indicatif_term.proofs.CallTurnLemmas.{reaches_none}
use Rattle.indicatif_term.proofs.engine.row_edits.put.Goals as goal

pub returns-then-is_empty : goal.returns-then-is_empty
returns-then-is_empty g c =
    let view = g.T.TermLike.view c.args.term.now in
    let none : c.args.sequences.now ≡ [] = nil_from_length c.args.sequences.now (eqb-true (length c.args.sequences.now) 0 (sym c.is_empty.ensures ∙ c.if-is_empty.true)) in
    subst (λ b. LeadsOn b view view) (sym none) (reaches_none view)
