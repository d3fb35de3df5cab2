use Rattle.std.proofs.Common.{◌≤◌, filter, subst, sym, arith}
use Rattle.indicatif_text.specs.Columns.{columns_in, glyphs_of}
use Rattle.indicatif_term.specs.Resizes.{has_place}
use Rattle.indicatif_term.proofs.CutPieceLemmas.{fitting_columns}
use Rattle.indicatif_term.proofs.CutLineLemmas.{gains_one}
use Rattle.indicatif_term.proofs.engine.recutting.push_piece.Goals as goal

pub line_of-requires : goal.line_of-requires
line_of-requires c =
    let w = c.args.width in
    record {
      fits = subst (λ gs. columns_in (filter (has_place w) gs) ≤ w) (sym c.fitting_count-count.ensures.front) (omega (arith, fitting_columns w 0 (glyphs_of c.args.seen.now) (omega arith)));
    }

pub returns-clause-owned : goal.returns-clause-owned
returns-clause-owned c = gains_one c.args.bar c.args.lines.now.items c.push.new.self.items c.in_ok-line.line c.in_ok-push.ensures.items c.in_ok-line.ensures.bar
