use Rattle.std.proofs.Common.{◌≡◌, ◌++◌, [], ◌∙◌, sym, subst, length}
use Rattle.std.proofs.lemmas.Bool.{eqb-true}
use Rattle.indicatif_term.specs.Calls.{LeadsOn}
use Rattle.indicatif_term.specs.Inside.MoveBytes.{Sends}
use Rattle.indicatif_term.specs.Inside.RowEdits.{reset_bytes}
use Rattle.indicatif_term.specs.Inside.Inks.{RESET}
use Rattle.indicatif_term.proofs.CallTurnLemmas.{reaches_none}
use Rattle.indicatif_term.proofs.RowWritingLemmas.{reset_none, reset_first, reset_second}
use Rattle.indicatif_term.proofs.engine.row_edits.close.Goals as goal
use Rattle.indicatif_term.proofs.engine.row_edits.close.Goals.{else-is_empty-via-then-is_empty+else-is_empty-2, else-is_empty-via-else-is_empty}

pub returns-then-is_empty-2 : goal.returns-then-is_empty-2
returns-then-is_empty-2 g c =
    let view = g.T.TermLike.view c.args.term.now in
    let base = c.args.ink.now.base.now in
    let group = c.args.ink.now.group.now in
    let none : reset_bytes (base ++ group) ≡ [] = reset_none base group (eqb-true (length base) 0 (sym c.is_empty.ensures ∙ c.if-is_empty.true))
    (eqb-true (length group) 0 (sym c.is_empty-then-is_empty.ensures ∙ c.if-is_empty-2.true)) in
    subst (λ b. LeadsOn b view view) (sym none) (reaches_none view)

pub returns : goal.returns
returns g c =
    let base = c.args.ink.now.base.now in
    let group = c.args.ink.now.group.now in
    let some : reset_bytes (base ++ group) ≡ RESET = elim c.else-is_empty.branch [
      | else-is_empty-via-then-is_empty+else-is_empty-2 w ↦ reset_second base group (sym w.is_empty-then-is_empty.ensures ∙ w.if-is_empty-2.false)
      | else-is_empty-via-else-is_empty w ↦ reset_first base group (sym c.is_empty.ensures ∙ w.if-is_empty.false)
    ] in
    subst (λ b. Sends b (g.T.TermLike.view c.args.term.now) (g.T.TermLike.view c.put_str.new.term) c.put_str.result) (sym some) c.put_str.ensures
