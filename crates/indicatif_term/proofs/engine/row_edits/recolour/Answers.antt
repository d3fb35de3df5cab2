use Rattle.std.proofs.Common.{◌≡◌, true, false, ◌++◌, ◌∙◌, sym}
use Rattle.indicatif_term.specs.Inside.Inks.{same_ink}
use Rattle.indicatif_term.specs.Inside.Rests.{ink_of}
use Rattle.indicatif_term.proofs.CallTurnLemmas.{reaches_none, sends_then, sends_fail}
use Rattle.indicatif_term.proofs.engine.row_edits.recolour.Goals as goal

pub returns-then-are_same : goal.returns-then-are_same
returns-then-are_same g c =
    let same : same_ink (ink_of c.args.ink.now) (ink_of c.args.to.now) ≡ true = sym c.are_same.ensures ∙ c.if-are_same.true in
    rw same (reaches_none _)

pub returns-in_err-close : goal.returns-in_err-close
returns-in_err-close g c =
    let other : same_ink (ink_of c.args.ink.now) (ink_of c.args.to.now) ≡ false = sym c.are_same.ensures ∙ c.if-are_same.false in
    rw other (sends_fail (c.args.to.now.base.now ++ c.args.to.now.group.now) _ c.from_residual.result c.from_residual.ensures.1 c.in_err-close.ensures)

pub returns-in_err-put : goal.returns-in_err-put
returns-in_err-put g c =
    let other : same_ink (ink_of c.args.ink.now) (ink_of c.args.to.now) ≡ false = sym c.are_same.ensures ∙ c.if-are_same.false in
    rw other (sends_then (c.args.to.now.base.now ++ c.args.to.now.group.now) _ c.from_residual-in_err-put.result c.in_ok-close.ensures
    (sends_fail c.args.to.now.group.now _ c.from_residual-in_err-put.result c.from_residual-in_err-put.ensures.1 c.in_err-put.ensures))

pub returns : goal.returns
returns g c =
    let other : same_ink (ink_of c.args.ink.now) (ink_of c.args.to.now) ≡ false = sym c.are_same.ensures ∙ c.if-are_same.false in
    rw other (sends_then (c.args.to.now.base.now ++ c.args.to.now.group.now) _ c.put-2.result c.in_ok-close.ensures
    (sends_then c.args.to.now.group.now _ c.put-2.result c.in_ok-put.ensures c.put-2.ensures))
