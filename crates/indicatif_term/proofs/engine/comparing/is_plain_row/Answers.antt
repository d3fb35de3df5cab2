use Rattle.std.proofs.Common.{◌≡◌, ◌∙◌, [], length, subst, sym, arith}
use Rattle.std.specs.Prelude.{All}
use Rattle.std.specs.Int.{IsInRange}
use Rattle.std.proofs.lemmas.Bool.{eqb-true}
use Rattle.std.proofs.lemmas.List.{nil_from_length}
use Rattle.std.proofs.lemmas.List.Elements.{All-nil}
use Rattle.indicatif_term.proofs.engine.comparing.is_plain_row.Goals as goal

pub returns-then-is_empty-clause-row : goal.returns-then-is_empty-clause-row
returns-then-is_empty-clause-row c = λ _.
    let zero : length c.args.text.now ≡ 0 = eqb-true (length c.args.text.now) 0 (sym c.is_empty.ensures ∙ c.if-is_empty.true) in
    let none : c.args.text.now ≡ [] = nil_from_length c.args.text.now zero in
    record { printable = subst (All (IsInRange 0x20 0x7E)) (sym none) (All-nil (IsInRange 0x20 0x7E)); fits = omega (arith, zero) }

pub returns-clause-row : goal.returns-clause-row
returns-clause-row c = λ t. record { printable = subst (All (IsInRange 0x20 0x7E)) c.as_bytes.ensures.value (c.is_printable.ensures t); fits = omega (arith, c.if-text-window.false) }
