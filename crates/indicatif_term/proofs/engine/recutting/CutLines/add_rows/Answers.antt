use Rattle.std.proofs.Common.{◌≡◌, ◌<◌, ◌-◌, ◌∙◌, ◌++◌, ◌∷◌, [], true, take, drop, length, length-drop, refl, sym, ap, subst, arith}
use Rattle.std.specs.List.{list_all}
use Rattle.std.proofs.lemmas.List.{drop-drop}
use Rattle.indicatif_text.specs.Columns.{glyphs_of}
use Rattle.indicatif_term.specs.Resizes.{has_place}
use Rattle.indicatif_term.specs.Inside.Recutting.{IsFitting, new_pieces, fitting_count, HasMore}
use Rattle.indicatif_term.proofs.CutPieceLemmas.{rest_of, placed_dropped}
use Rattle.indicatif_term.proofs.CutLineLemmas.{first_row, rows_left, more_added, next_rows_left, no_row_left, gains_more}
use Rattle.indicatif_term.proofs.engine.recutting.CutLines.add_rows.Goals as goal

pub loop-at-init : goal.loop-at-init
loop-at-init c =
    let w = c.args.widths.from in
    let w' = c.args.widths.to in
    let cs = c.args.seen.now in
    let gs = glyphs_of cs in
    let n = c.in_ok-at.at in
    let fits : IsFitting w cs n = c.in_ok-at.ensures.fitting in
    record {
      within = fits.within;
      more = fits.more;
      placed = subst (λ xs. list_all (has_place w) xs ≡ true) (sym fits.rest) (placed_dropped w (fitting_count w 0 gs) gs c.requires.placed);
      done = new_pieces w' (glyphs_of (take n cs)) ∷ [];
      added = c.in_ok-at.ensures.added;
      owned = c.in_ok-at.ensures.owned;
      all = ap (λ xs. new_pieces w' xs ∷ rows_left w w' (glyphs_of (drop n cs))) fits.front ∙ ap (λ xs. new_pieces w' (take (fitting_count w 0 gs) gs) ∷ rows_left w w' xs) fits.rest
          ∙ sym (first_row w w' gs c.requires.placed);
    }

pub loop-at-preserved : goal.loop-at-preserved
loop-at-preserved c =
    let w = c.args.widths.from in
    let w' = c.args.widths.to in
    let cs = c.args.seen.now in
    let at = c.loop-at.at in
    let n = c.in_ok-next.next in
    let done = c.loop-at.invariant.done in
    let some : at < length cs = c.loop-at-test.true in
    let same : take (length cs - at) (drop at cs) ≡ drop at cs = rest_of at cs in
    let fits : IsFitting w (drop at cs) n = subst (λ xs. IsFitting w xs n) same c.in_ok-next.ensures.fitting in
    let gs = glyphs_of (drop at cs) in
    let more = subst (λ rest. HasMore c.loop-at.self c.add_first_row-in-loop-at.new.self (new_pieces w' (glyphs_of (take n rest)) ∷ [])) same c.in_ok-next.ensures.added in
    record {
      within = omega (arith, fits.within, length-drop at cs, some);
      more = λ h. subst (λ xs. 0 < length (glyphs_of xs)) (drop-drop n at cs) (fits.more (omega (arith, length-drop at cs, h)));
      placed = subst (λ xs. list_all (has_place w) xs ≡ true) (sym fits.rest ∙ ap glyphs_of (drop-drop n at cs)) (placed_dropped w (fitting_count w 0 gs) gs c.loop-at.invariant.placed);
      done = done ++ new_pieces w' (glyphs_of (take n (drop at cs))) ∷ [];
      added = more_added c.args.self.now c.loop-at.self c.add_first_row-in-loop-at.new.self done (new_pieces w' (glyphs_of (take n (drop at cs))) ∷ []) _ c.loop-at.invariant.added more refl;
      owned = gains_more c.args.bar c.args.self.now.lines.items c.loop-at.self.lines.items c.add_first_row-in-loop-at.new.self.lines.items c.loop-at.invariant.owned c.in_ok-next.ensures.owned;
      all = next_rows_left w w' n at cs done _ (c.loop-at.invariant.more some) c.loop-at.invariant.placed fits c.loop-at.invariant.all;
    }

pub returns-clause-added : goal.returns-clause-added
returns-clause-added c =
    subst (HasMore c.args.self.now c.loop-at.self)
    (no_row_left c.args.widths.from c.args.widths.to c.loop-at.at c.args.seen.now c.loop-at.invariant.done _ c.loop-at-test.false c.loop-at.invariant.all) c.loop-at.invariant.added

pub returns-clause-owned : goal.returns-clause-owned
returns-clause-owned c = c.loop-at.invariant.owned
