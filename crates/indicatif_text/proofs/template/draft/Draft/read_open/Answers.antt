use Rattle.std.specs.Prelude.{chars}
use Rattle.indicatif_text.specs.Template.{Char, LastBrace, key_ends, opening_brace}
use Rattle.indicatif_text.specs.Inside.Draft.{sketch_of}
use Rattle.indicatif_text.proofs.DraftLemmas.{taken_same}
use Rattle.indicatif_text.proofs.TokenLemmas.{opened_end, opened_doubled, opened_key}
use Rattle.indicatif_text.proofs.template.draft.Draft.read_open.Goals as goal

pub returns-in_default : goal.returns-in_default
returns-in_default c = (LastBrace, opened_end (chars c.args.text.now) c.in_default.ensures.first, c.drop_run.ensures)

pub returns-then-first-eq123 : goal.returns-then-first-eq123
returns-then-first-eq123 c =
    (Char 0x7B, opened_doubled (chars c.args.text.now) c.in-Some.first (chars c.in-Some.rest.now) c.in-Some.ensures.first c.if-first-eq123.true, c.in_ok-push_literal.ensures)

pub returns : goal.returns
returns c =
    let text = chars c.args.text.now in
    let key = chars c.split_span.result.0.now in
    let after = chars c.split_span.result.1.now in
    taken_same (key_ends key after) (opening_brace text) (sketch_of c.args.self.now) (sketch_of c.read_key.new.self) c.read_key.result
    (opened_key text key after c.in-Some.first (chars c.in-Some.rest.now) c.in-Some.ensures.first c.if-first-eq123.false c.split_span.ensures.run c.split_span.ensures.rest) c.read_key.ensures
