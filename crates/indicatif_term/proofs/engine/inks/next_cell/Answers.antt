use Rattle.std.proofs.Common.{◌≡◌, suc, [], ◌∷◌, ◌∙◌, false, ap, sym, subst, arith, length, chars}
use Rattle.std.specs.Prelude.{IsUtf8}
use Rattle.std.specs.Str.Iter.{chars_rest}
use Rattle.std.proofs.lemmas.List.{nil_from_length}
use Rattle.std.proofs.lemmas.Str.{chars-nil}
use Rattle.indicatif_text.specs.Columns.{colour_length}
use Rattle.indicatif_text.proofs.WrappingLemmas.{past}
use Rattle.indicatif_term.specs.Inside.Inks.{NONE, in_ink, padded, read}
use Rattle.indicatif_term.specs.Inside.Rests.{ink_of, cells}
use Rattle.indicatif_term.proofs.InkLemmas.{read_char, read_none}
use Rattle.indicatif_term.proofs.RowWritingLemmas.{padded_none, padded_some}
use Rattle.indicatif_term.proofs.engine.inks.next_cell.Goals as goal

pub returns-in-Some-clause-first : goal.returns-in-Some-clause-first
returns-in-Some-clause-first c = λ n.
    let here = c.pass_colours.new.reading in
    let ink = ink_of here.ink in
    let bs = chars_rest c.chars-rest.result in
    let first = c.in-Some.c in
    let rest = c.as_str-reading.result.now in
    let e : chars here.text.now ≡ first ∷ chars rest =
    ap chars (sym c.chars-rest.ensures.rest) ∙ past bs (chars_rest c.next.new.self) first (subst IsUtf8 (sym c.chars-rest.ensures.rest) search) c.in-Some.ensures.steps.0
    ∙ ap (λ xs. first ∷ chars xs) (sym c.as_str-reading.ensures) in
    let all : cells here ≡ in_ink ink first ∷ read ink (chars rest) =
    ap (read ink) e ∙ read_char false ink first (chars rest) (ap colour_length (sym e) ∙ c.pass_colours.ensures.front) in
    ap (padded (suc n)) (sym c.pass_colours.ensures.same) ∙ padded_some n (in_ink ink first) (cells here) (read ink (chars rest)) all

pub returns-in-Some-clause-rest : goal.returns-in-Some-clause-rest
returns-in-Some-clause-rest c =
    let here = c.pass_colours.new.reading in
    let ink = ink_of here.ink in
    let bs = chars_rest c.chars-rest.result in
    let first = c.in-Some.c in
    let rest = c.as_str-reading.result.now in
    let e : chars here.text.now ≡ first ∷ chars rest =
    ap chars (sym c.chars-rest.ensures.rest) ∙ past bs (chars_rest c.next.new.self) first (subst IsUtf8 (sym c.chars-rest.ensures.rest) search) c.in-Some.ensures.steps.0
    ∙ ap (λ xs. first ∷ chars xs) (sym c.as_str-reading.ensures) in
    let all : cells here ≡ in_ink ink first ∷ read ink (chars rest) =
    ap (read ink) e ∙ read_char false ink first (chars rest) (ap colour_length (sym e) ∙ c.pass_colours.ensures.front) in
    omega (arith, ap length all, ap length c.pass_colours.ensures.same)

pub returns-in-None-clause-first : goal.returns-in-None-clause-first
returns-in-None-clause-first c = λ n.
    let here = c.pass_colours.new.reading in
    let nil : here.text.now ≡ [] = nil_from_length here.text.now (ap length (sym c.chars-rest.ensures.rest) ∙ c.in-None.ensures.steps.0.0) in
    let none : cells here ≡ [] = ap (λ x. read (ink_of here.ink) (chars x)) nil ∙ ap (read (ink_of here.ink)) chars-nil ∙ read_none false (ink_of here.ink) in
    let empty : read NONE (chars here.text.now) ≡ [] = ap (λ x. read NONE (chars x)) nil ∙ ap (read NONE) chars-nil ∙ read_none false NONE in
    ap (padded (suc n)) (sym c.pass_colours.ensures.same) ∙ padded_none n (cells here) none ∙ ap (λ x. in_ink NONE 0x20 ∷ padded n x) (none ∙ sym empty)

pub returns-in-None-clause-rest : goal.returns-in-None-clause-rest
returns-in-None-clause-rest c =
    let here = c.pass_colours.new.reading in
    let nil : here.text.now ≡ [] = nil_from_length here.text.now (ap length (sym c.chars-rest.ensures.rest) ∙ c.in-None.ensures.steps.0.0) in
    let none : cells here ≡ [] = ap (λ x. read (ink_of here.ink) (chars x)) nil ∙ ap (read (ink_of here.ink)) chars-nil ∙ read_none false (ink_of here.ink) in
    let empty : read NONE (chars here.text.now) ≡ [] = ap (λ x. read NONE (chars x)) nil ∙ ap (read NONE) chars-nil ∙ read_none false NONE in
    omega (arith, ap length none, ap length empty, ap length c.pass_colours.ensures.same)
