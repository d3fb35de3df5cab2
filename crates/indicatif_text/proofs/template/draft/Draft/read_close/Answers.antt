use Rattle.std.proofs.Common.{◌∷◌, inr}
use Rattle.std.specs.Prelude.{chars}
use Rattle.indicatif_text.specs.Template.{Char}
use Rattle.indicatif_text.proofs.TokenLemmas.{closed_end, closed_wrong, closed_doubled}
use Rattle.indicatif_text.proofs.template.draft.Draft.read_close.Goals as goal

pub returns-in_default : goal.returns-in_default
returns-in_default c = (Char 0x7D, closed_end (chars c.args.text.now) c.in_default.ensures.first, c.in_ok-push_literal.ensures)

pub returns-then-next-ne125 : goal.returns-then-next-ne125
returns-then-next-ne125 c =
    inr (c.in-Some.next ∷ chars c.in-Some.rest.now, closed_wrong (chars c.args.text.now) c.in-Some.next (chars c.in-Some.rest.now) c.in-Some.ensures.first c.if-next-ne125.true)

pub returns : goal.returns
returns c =
    (Char 0x7D, closed_doubled (chars c.args.text.now) c.in-Some.next (chars c.in-Some.rest.now) c.in-Some.ensures.first c.if-next-ne125.false, c.in_ok-push_literal-2.ensures)
