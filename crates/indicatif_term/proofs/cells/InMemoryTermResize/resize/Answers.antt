use Rattle.std.proofs.Common.{◌∙◌, ap, refl, subst}
use Rattle.std.specs.Prelude.{OnOk, string_bytes}
use Rattle.indicatif_term.specs.Calls.{State}
use Rattle.indicatif_term.specs.Cells.{MemoryTerm, view_of}
use Rattle.indicatif_term.specs.Resizes.{Resized}
use Rattle.indicatif_term.proofs.MemoryLemmas.{under_ok}
use Rattle.indicatif_term.proofs.ResizeLemmas.{resized-columns, resized-height}
use Rattle.indicatif_term.proofs.cells.InMemoryTermResize.resize.Goals as goal

pub returns-clause-resized : goal.returns-clause-resized
returns-clause-resized c =
    let cols = c.args.cols in
    let rows = c.args.rows in
    let old = c.self.inside in
    let now : MemoryTerm = record { terminal = c.resize.new.self; faults = old.faults; moves = string_bytes old.moves } in
    subst (λ m. OnOk c.resize.result (Resized cols rows (view_of m) (view_of now))) c.self.view_is
    (under_ok c.resize.result (λ e. record {
      told_is = λ _. ap (λ t. State t) e;
      columns_are = ap (λ t. t.screen.columns) e ∙ resized-columns cols rows old.cells.screen;
      rows_are = ap (λ t. t.screen.height) e ∙ resized-height cols rows old.cells.screen;
      faults_are = refl;
      kind_is = refl;
    }) c.resize.ensures.resized)
