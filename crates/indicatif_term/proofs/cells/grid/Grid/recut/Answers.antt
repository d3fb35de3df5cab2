use Rattle.std.proofs.Common.{◌≡◌, ◌∙◌, ℕ, ◌<◌, min, max, length, sym, ap, subst}
use Rattle.indicatif_term.specs.Screen.{Screen, top}
use Rattle.indicatif_term.specs.Resizes.{recut_screen}
use Rattle.indicatif_term.proofs.RowsPutLemmas.{first_within, waits_on, stays}
use Rattle.indicatif_term.proofs.cells.grid.Grid.recut.Goals.{then-self, else-self}
use Rattle.indicatif_term.proofs.cells.grid.Grid.recut.Goals as goal

pub go_to-requires-else-self-clause-in_rows : goal.go_to-requires-else-self-clause-in_rows
go_to-requires-else-self-clause-in_rows c =
    let old = c.args.self.now in
    let within : old.row < length old.rows = subst (λ (z : Screen). z.row < length z.rows) c.self.view_is c.self.invariant.in_rows in
    first_within old c.in_ok-cut.cut c.put_lasting.new.self c.in_ok-cursor.cursor c.in_ok-cursor.ensures.put within

pub returns-clause-recut : goal.returns-clause-recut
returns-clause-recut c =
    let old = c.args.self.now in
    let new = c.in_ok-cut.cut in
    let now = c.put_lasting.new.self in
    let cursor = c.in_ok-cursor.cursor in
    let within : old.row < length old.rows = subst (λ (z : Screen). z.row < length z.rows) c.self.view_is c.self.invariant.in_rows in
    let at : (row column : ℕ) → Screen = λ row column. record now { row = max row (top now); column = column } in
    let w : new.columns ≡ c.args.columns = ap (λ z. z.columns) c.in_ok-cut.ensures.blank in
    let h : new.height ≡ c.args.height = ap (λ z. z.height) c.in_ok-cut.ensures.blank in
    let sized : recut_screen new.columns new.height old ≡ recut_screen c.args.columns c.args.height old =
    ap (λ n. recut_screen n new.height old) w ∙ ap (λ n. recut_screen c.args.columns n old) h in
    let column : c.self.inside.column ≡ old.column = ap (λ z. z.column) c.self.view_is in
    let columns : c.self.inside.columns ≡ old.columns = ap (λ z. z.columns) c.self.view_is in
    elim c.if-self.branch [
      | then-self v ↦ v.cut-is ∙ v.go_to.ensures ∙ ap (at cursor.last) (sym w)
          ∙ waits_on old new now cursor c.in_ok-cursor.ensures.put within (sym column ∙ v.if-self.true ∙ columns) ∙ sized
      | else-self v ↦ v.cut-is ∙ v.go_to-else-self.ensures
          ∙ ap (at cursor.first) (v.min.ensures ∙ ap (λ n. min n c.args.columns) column ∙ ap (λ n. min old.column n) (sym w))
          ∙ stays old new now cursor c.in_ok-cursor.ensures.put within (λ e. v.if-self.false (column ∙ e ∙ sym columns)) ∙ sized
    ]
