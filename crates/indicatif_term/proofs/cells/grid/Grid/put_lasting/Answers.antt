use Rattle.std.proofs.Common.{◌≡◌, ◌∙◌, ◌+◌, [], List, take, drop, ap, subst}
use Rattle.std.proofs.lemmas.List.{get_or_default, take_rest}
use Rattle.indicatif_text.specs.Columns.{Cell}
use Rattle.indicatif_term.specs.Screen.{cursor_row}
use Rattle.indicatif_term.specs.Resizes.{used_rows}
use Rattle.indicatif_term.specs.Inside.Grids.{screen_of}
use Rattle.indicatif_term.specs.Inside.Resizing.{LastingPut, rows_ended, row_put, rows_begun}
use Rattle.indicatif_term.proofs.RowsPutLemmas.{lasting_put}
use Rattle.indicatif_term.proofs.cells.grid.Grid.put_lasting.Goals as goal

pub returns-clause-put : goal.returns-clause-put
returns-clause-put c =
    let old = screen_of c.old.inside in
    let new = c.args.self.now in
    let a = c.put_ended.new.self in
    let b = c.put_row.new.self in
    let ended : a ≡ rows_ended new (take old.row old.rows) =
    c.in_ok-put_ended.ensures.put ∙ ap (λ (rows : List (List Cell)). rows_ended new (take old.row rows)) c.deref.ensures.value in
    let put : b ≡ row_put a (cursor_row old) =
    c.in_ok-put_row.ensures.put ∙ ap (row_put a) (c.index.ensures ∙ get_or_default old.rows old.row c.index.result.now [] c.old.invariant.in_rows) in
    let begun : c.put_used.new.self ≡ rows_begun b (used_rows (drop (old.row + 1) old.rows)) =
    c.in_ok-put_used.ensures.put ∙ ap (λ rows. rows_begun b (used_rows rows)) (take_rest c.deref-2.result.now (old.row + 1))
    ∙ ap (λ (rows : List (List Cell)). rows_begun b (used_rows (drop (old.row + 1) rows))) c.deref-2.ensures.value in
    subst (λ s. LastingPut s new c.put_used.new.self (record { first = c.self.inside.row; last = c.self-2.inside.row })) c.old.view_is
    (lasting_put old new a b c.put_used.new.self (record { first = c.self.inside.row; last = c.self-2.inside.row }) c.requires.some c.old.invariant.in_rows c.requires.blank ended put begun
    (ap (λ z. z.row) c.self.view_is) (ap (λ z. z.row) c.self-2.view_is))
