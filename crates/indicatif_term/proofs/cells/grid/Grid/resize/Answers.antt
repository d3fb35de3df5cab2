use Rattle.std.proofs.Common.{◌∙◌, ap, sym, if◌then◌else◌}
use Rattle.indicatif_term.specs.Resizes.{resized, recut_screen}
use Rattle.indicatif_term.proofs.cells.grid.Grid.resize.Goals as goal

pub returns-then-has_size-clause-resized : goal.returns-then-has_size-clause-resized
unfolding resized
returns-then-has_size-clause-resized c =
    let s = c.args.self.now in
    sym (ap (λ same. if same then s else recut_screen c.args.columns c.args.height s) (sym c.has_size.ensures ∙ c.if-has_size.true))

pub returns-clause-resized : goal.returns-clause-resized
unfolding resized
returns-clause-resized c =
    let s = c.args.self.now in
    c.in_ok-self.ensures.recut ∙ sym (ap (λ same. if same then s else recut_screen c.args.columns c.args.height s) (sym c.has_size.ensures ∙ c.if-has_size.false))
