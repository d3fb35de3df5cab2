use Rattle.std.proofs.Common.{◌≡◌, ◌∙◌, ◌++◌, ◌∷◌, [], ◌<◌, filter, take, drop, map, ap, subst, arith, length, length-drop, ◌-◌}
use Rattle.std.proofs.lemmas.List.{drop-drop}
use Rattle.indicatif_text.specs.Columns.{glyphs_of, pieces_of}
use Rattle.indicatif_term.specs.Resizes.{has_place}
use Rattle.indicatif_term.specs.Inside.Recutting.{IsFitting, shown_lines, row_line}
use Rattle.indicatif_term.proofs.CutPieceLemmas.{rest_of}
use Rattle.indicatif_term.proofs.CutLineLemmas.{piece_left, next_piece_left, no_piece_left, gains_more}
use Rattle.indicatif_term.proofs.engine.recutting.cut_row.Goals as goal

pub loop-at-init : goal.loop-at-init
loop-at-init c =
    let w = c.args.width in
    let used = take c.used_count.result c.args.row.now in
    let before = shown_lines c.args.lines.now.items in
    record {
      within = c.in_ok-at.ensures.fitting.within;
      more = c.in_ok-at.ensures.fitting.more;
      left_is = piece_left w used c.in_ok-at.at before (shown_lines c.push_piece.new.lines.items) c.in_ok-at.ensures.fitting c.in_ok-at.ensures.pushed
          ∙ ap (λ gs. before ++ map row_line (pieces_of w (filter (has_place w) gs))) c.used_count.ensures.used;
      owned = c.in_ok-at.ensures.owned;
    }

pub loop-at-preserved : goal.loop-at-preserved
loop-at-preserved c =
    let w = c.args.width in
    let used = take c.used_count.result c.args.row.now in
    let at = c.loop-at.at in
    let n = c.in_ok-next.next in
    let same : take (length used - at) (drop at used) ≡ drop at used = rest_of at used in
    let some : at < length used = c.loop-at-test.true in
    let fits : IsFitting w (drop at used) n = subst (λ cs. IsFitting w cs n) same c.in_ok-next.ensures.fitting in
    record {
      within = omega (arith, fits.within, length-drop at used, some);
      more = λ h. subst (λ cs. 0 < length (glyphs_of cs)) (drop-drop n at used) (fits.more (omega (arith, length-drop at used, h)));
      left_is = next_piece_left w n at used (shown_lines c.loop-at.lines.items) (shown_lines c.push_piece-in-loop-at.new.lines.items) (c.loop-at.invariant.more some) fits
          (c.in_ok-next.ensures.pushed ∙ ap (λ cs. shown_lines c.loop-at.lines.items ++ row_line (filter (has_place w) (glyphs_of (take n cs))) ∷ []) same)
          ∙ c.loop-at.invariant.left_is;
      owned = gains_more c.args.bar c.args.lines.now.items c.loop-at.lines.items c.push_piece-in-loop-at.new.lines.items c.loop-at.invariant.owned c.in_ok-next.ensures.owned;
    }

pub returns-clause-cut : goal.returns-clause-cut
returns-clause-cut c =
    let used = take c.used_count.result c.args.row.now in
    no_piece_left c.args.width c.loop-at.at used (shown_lines c.loop-at.lines.items) _ c.loop-at-test.false c.loop-at.invariant.left_is

pub returns-clause-owned : goal.returns-clause-owned
returns-clause-owned c = c.loop-at.invariant.owned
