use Rattle.std.proofs.Common.{◌≡◌, ◌∙◌, ◌++◌, List, take, map, sym, ap, encode_utf8_all, string_bytes}
use Rattle.std.specs.Prelude.{flat_map}
use Rattle.std.proofs.lemmas.List.{take-map}
use Rattle.indicatif_text.specs.Columns.{Cell}
use Rattle.indicatif_term.specs.Pictures.{cell_text, trimmed}
use Rattle.indicatif_term.specs.Inside.Rows.{cell_shown}
use Rattle.indicatif_term.proofs.MemoryLemmas.{under_ok}
use Rattle.indicatif_term.proofs.ShownCellLemmas.{trimmed_shown}
use Rattle.indicatif_term.proofs.cells.row.Row.show.Goals as goal

pub returns-clause-shown : goal.returns-clause-shown
returns-clause-shown c =
    let r = c.self.inside in
    let n = c.shown_length-end.result in
    let f = cell_shown r.joiners.items in
    let first : map (cell_shown c.deref-2.result.now) c.deref.result.now ≡ map f r.cells.items =
    ap (λ ms. map (cell_shown ms) c.deref.result.now) c.deref-2.ensures.value ∙ ap (λ (cells : List Cell). map f cells) c.deref.ensures.value in
    let kept : take n (map f r.cells.items) ≡ trimmed (map f r.cells.items) =
    ap (λ (cells : List Cell). take n cells) (sym first) ∙ c.shown_length-end.ensures.shown ∙ ap trimmed first in
    let shown : map (cell_shown c.deref-4.result.now) (take n c.deref-3.result.now) ≡ trimmed c.args.self.now =
    ap (λ ms. map (cell_shown ms) (take n c.deref-3.result.now)) c.deref-4.ensures.value
    ∙ ap (λ (cells : List Cell). map f (take n cells)) c.deref-3.ensures.value ∙ sym (take-map f n r.cells.items)
    ∙ kept ∙ trimmed_shown r.columns r.joiners.items r.cells.items ∙ ap trimmed c.self.view_is in
    under_ok c.show_cells.result (λ e. e ∙ ap (λ cells. string_bytes c.args.out.now ++ encode_utf8_all (flat_map cell_text cells)) shown) c.show_cells.ensures.shown
