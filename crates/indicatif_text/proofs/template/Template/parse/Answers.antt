use Rattle.std.proofs.Common.{◌∙◌, sym, subst, refl}
use Rattle.std.specs.Prelude.{chars}
use Rattle.indicatif_text.specs.Template.{Parses}
use Rattle.indicatif_text.specs.Inside.Draft.{sketch_of}
use Rattle.indicatif_text.proofs.OptionLemmas.{is_no_text}
use Rattle.indicatif_text.proofs.SketchLemmas.{leads_parse}
use Rattle.indicatif_text.proofs.ParseLemmas.{parses_none, parsed_ok, refused_ok, parsed_err, refused_err, is_error, handed_back, some_length}
use Rattle.indicatif_text.proofs.template.Template.parse.Goals as goal

pub returns-in_err-rest-clause-parses : goal.returns-in_err-rest-clause-parses
returns-in_err-rest-clause-parses c =
    let text = chars c.args.text.now in
    let x = c.in_err-rest.field-0.0 in
    parsed_err text x (handed_back text (chars c.loop-rest.rest.now) (sketch_of c.loop-rest.draft) x c.loop-rest.invariant.1 c.in_err-rest.ensures.refused)
    c.from_residual-in_err-rest.result (is_error x c.from_residual-in_err-rest.result c.from_residual-in_err-rest.ensures.1)

pub returns-in_err-rest-clause-refused : goal.returns-in_err-rest-clause-refused
returns-in_err-rest-clause-refused c =
    let text = chars c.args.text.now in
    let x = c.in_err-rest.field-0.0 in
    refused_err text x (handed_back text (chars c.loop-rest.rest.now) (sketch_of c.loop-rest.draft) x c.loop-rest.invariant.1 c.in_err-rest.ensures.refused)
    c.from_residual-in_err-rest.result (is_error x c.from_residual-in_err-rest.result c.from_residual-in_err-rest.ensures.1)

pub loop-rest-smaller : goal.loop-rest-smaller
loop-rest-smaller c = c.in_ok-rest.ensures.shorter (some_length c.loop-rest.rest.now c.loop-rest.invariant.0 (sym c.loop-rest-test.true ∙ c.is_empty-in-loop-rest.ensures))

pub returns-clause-parses : goal.returns-clause-parses
returns-clause-parses c =
    let text = chars c.args.text.now in
    let none = is_no_text c.loop-rest.rest.now (sym c.loop-rest-test.false ∙ c.is_empty-in-loop-rest.ensures) in
    let made = c.in_ok-template.template in
    let parsed = leads_parse text (chars c.loop-rest.rest.now) (sketch_of c.loop-rest.draft) none c.loop-rest.invariant.1 in
    parsed_ok text made (subst (Parses text) (sym c.in_ok-template.ensures) parsed) _ refl

pub returns-clause-refused : goal.returns-clause-refused
returns-clause-refused c =
    let text = chars c.args.text.now in
    let none = is_no_text c.loop-rest.rest.now (sym c.loop-rest-test.false ∙ c.is_empty-in-loop-rest.ensures) in
    let made = c.in_ok-template.template in
    let parsed = leads_parse text (chars c.loop-rest.rest.now) (sketch_of c.loop-rest.draft) none c.loop-rest.invariant.1 in
    refused_ok text made (subst (Parses text) (sym c.in_ok-template.ensures) parsed) _ refl

pub returns-then-is_empty-clause-parses : goal.returns-then-is_empty-clause-parses
returns-then-is_empty-clause-parses c =
    let text = chars c.args.text.now in
    let none = is_no_text c.args.text.now c.if-is_empty.ensures in
    parsed_ok text c.empty.result (parses_none text c.empty.result none c.empty.ensures) _ refl

pub returns-then-is_empty-clause-refused : goal.returns-then-is_empty-clause-refused
returns-then-is_empty-clause-refused c =
    let text = chars c.args.text.now in
    let none = is_no_text c.args.text.now c.if-is_empty.ensures in
    refused_ok text c.empty.result (parses_none text c.empty.result none c.empty.ensures) _ refl
