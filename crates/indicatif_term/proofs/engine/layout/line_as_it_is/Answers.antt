use Rattle.std.proofs.Common.{◌≡◌, sym, ◌∙◌, ap, arith, get_or, length}
use Rattle.std.proofs.lemmas.Bool.Decides.{Decides-eqb}
use Rattle.std.proofs.lemmas.Slice.Eq.{slice_eq-Decides}
use Rattle.indicatif_term.proofs.FrontLemmas.{one_item}
use Rattle.indicatif_term.proofs.engine.layout.line_as_it_is.Goals as goal

pub returns-then-eq : goal.returns-then-eq
returns-then-eq c =
    let items = c.args.member.now.lines.items in
    let x = c.index-lines-0.result in
    let size : length items ≡ 1 = omega (arith, c.if-lines-ne1.false, ap length c.deref-lines.ensures.value) in (
      c.in-Some.ensures,
      record {
        line = x;
        lines_are = one_item items x size (sym (c.index-lines-0.is ∙ ap (λ xs. get_or xs 0 x) c.deref-lines.ensures.value));
        text_is = sym c.as_str.ensures.value ∙ (slice_eq-Decides Decides-eqb _ _ _ c.eq.ensures).0 c.if-eq.true ∙ c.as_str-2.ensures;
      },
    )
