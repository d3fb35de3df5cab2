use Rattle.std.proofs.Common.{◌≡◌, ◌∙◌, ◌≤◌, List, length, map, ap, arith}
use Rattle.std.proofs.lemmas.List.{length-map}
use Rattle.indicatif_text.specs.Columns.{Cell}
use Rattle.indicatif_term.specs.Pictures.{trimmed}
use Rattle.indicatif_term.specs.Inside.Rows.{cell_shown}
use Rattle.indicatif_term.proofs.ShownCellLemmas.{trimmed_shown}
use Rattle.indicatif_term.proofs.RowsPutLemmas.{blank_if_none}
use Rattle.indicatif_term.proofs.cells.row.Row.is_blank.Goals as goal

pub returns : goal.returns
returns c =
    let r = c.self.inside in
    let f = cell_shown r.joiners.items in
    let cells : map (cell_shown c.deref-2.result.now) c.deref.result.now ≡ map f r.cells.items =
    ap (λ ms. map (cell_shown ms) c.deref.result.now) c.deref-2.ensures.value ∙ ap (λ (cells : List Cell). map f cells) c.deref.ensures.value in
    let all = map (cell_shown c.deref-2.result.now) c.deref.result.now in
    let within : c.shown_length.result ≤ length all = omega (arith, c.shown_length.ensures.within, length-map c.deref.result.now (cell_shown c.deref-2.result.now)) in
    blank_if_none c.shown_length.result all c.args.self.now within
    (c.shown_length.ensures.shown ∙ ap trimmed cells ∙ trimmed_shown r.columns r.joiners.items r.cells.items ∙ ap trimmed c.self.view_is)
