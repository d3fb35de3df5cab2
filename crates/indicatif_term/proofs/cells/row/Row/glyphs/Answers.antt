use Rattle.std.proofs.Common.{◌≡◌, ◌∙◌, List, take, map, flat_map, sym, ap, subst}
use Rattle.std.specs.Prelude.{IfOk}
use Rattle.std.proofs.lemmas.List.{take-map}
use Rattle.indicatif_text.specs.Columns.{Cell}
use Rattle.indicatif_term.specs.Pictures.{trimmed}
use Rattle.indicatif_term.specs.Resizes.{glyph_at}
use Rattle.indicatif_term.specs.Inside.Rows.{cell_shown}
use Rattle.indicatif_term.proofs.ShownCellLemmas.{trimmed_shown}
use Rattle.indicatif_term.proofs.cells.row.Row.glyphs.Goals as goal

pub returns-clause-glyphs : goal.returns-clause-glyphs
returns-clause-glyphs c =
    let r = c.self.inside in
    let n = c.shown_length-end.result in
    let f = cell_shown r.joiners.items in
    let first : map (cell_shown c.deref-2.result.now) c.deref.result.now ≡ map f r.cells.items =
    ap (λ ms. map (cell_shown ms) c.deref.result.now) c.deref-2.ensures.value ∙ ap (λ (cells : List Cell). map f cells) c.deref.ensures.value in
    let kept : take n (map f r.cells.items) ≡ trimmed (map f r.cells.items) =
    ap (λ (cells : List Cell). take n cells) (sym first) ∙ c.shown_length-end.ensures.shown ∙ ap trimmed first in
    let shown : map (cell_shown c.deref-4.result.now) (take n c.deref-3.result.now) ≡ trimmed c.args.self.now =
    ap (λ ms. map (cell_shown ms) (take n c.deref-3.result.now)) c.deref-4.ensures.value
    ∙ ap (λ (cells : List Cell). map f (take n cells)) c.deref-3.ensures.value ∙ sym (take-map f n r.cells.items)
    ∙ kept ∙ trimmed_shown r.columns r.joiners.items r.cells.items ∙ ap trimmed c.self.view_is in
    subst (λ cells. IfOk c.glyphs_of.result (λ v. v.items ≡ flat_map glyph_at cells)) shown c.glyphs_of.ensures.glyphs
