use Rattle.std.proofs.Common.{ap, sym, subst, append-nil, ◌∙◌, ◌+◌, [], drop}
use Rattle.indicatif_term.specs.Counts.{CountsOf}
use Rattle.std.proofs.Math.Logic.{∥∥₁_map}
use Rattle.indicatif_term.proofs.PaintingLemmas.{paint_bytes}
use Rattle.indicatif_term.specs.Lines.{is_fault}
use Rattle.indicatif_term.specs.Lists.{cleared}
use Rattle.indicatif_term.specs.Engines.{engine_term}
use Rattle.indicatif_term.proofs.RememberedLemmas.{nothing_shown, cleared_live}
use Rattle.indicatif_term.specs.Inside.Remembered.{IsNothing}
use Rattle.indicatif_term.proofs.DrawingLemmas.{cleared-adds, cleared-known, cleared-sound}
use Rattle.indicatif_term.proofs.EngineLemmas.{paints_refused, paints_by, fits_counts, fits_failed, fits_forgets, fits_by, suits_made, clear_paints}
use Rattle.indicatif_term.specs.declared.engine.remembered.Remembered.{Remembered}
use Rattle.indicatif_term.proofs.WritingLemmas.{whole_bytes}
use Rattle.indicatif_term.proofs.engine.Engine.clear.Goals as goal

pub returns-in_err-window-clause-paints : goal.returns-in_err-window-clause-paints
returns-in_err-window-clause-paints g c = λ l fits.
    paints_refused _ c.from_residual.result c.in_err-window.field-0.0 l _ c.from_residual.ensures.1 (ap is_fault c.in_err-window.ensures.0)

pub remember-requires : goal.remember-requires
remember-requires g c = ∥∥₁_map c.args.self.now.some (λ x.
    let l = cleared x.0 in
    (l, suits_made c.cleared-next.result _ l (c.cleared-next.ensures x.0 x.1.counted) (cleared-sound x.0) (nothing_shown c.nothing-forgotten.result l c.nothing-forgotten.ensures (cleared_live x.0))))

pub returns-clause-lists : goal.returns-clause-lists
returns-clause-lists g c = λ l fits.
    let made = c.remember.ensures.remembered in
    fits_by _ _ c.write.result c.write.new.self l (cleared l) c.write.ensures.remembers
    (subst (λ k. CountsOf k (cleared l)) (sym made.0) (c.cleared-next.ensures l (fits_counts c.args.self.now l fits))) (cleared-sound l)
    (nothing_shown _ (cleared l) (subst IsNothing (sym made.2) c.nothing-forgotten.ensures) (cleared_live l))

pub returns-clause-paints : goal.returns-clause-paints
returns-clause-paints g c = λ l fits.
    let s = g.T.TermLike.view (engine_term c.args.self.now) in
    let old = c.args.self.now.counts in
    let o = fits_counts c.args.self.now l fits in
    let nothing = ap (drop 0) (ap (λ (r : Remembered). r.lines) c.remember.ensures.remembered.2 ∙ c.nothing-forgotten.ensures.no_lines) in
    let written = whole_bytes c.args.self.now.failed old.below c.cleared-next.result.below c.none.result (old.kept + old.live) c.in_ok-window.window.columns 0 [] [] in
    paints_by s (g.T.TermLike.view (engine_term c.write.new.self)) old _ _ c.write.result c.write.new.self c.args.self.now.failed l cleared
    (paint_bytes old.below (old.kept + old.live) [] c.cleared-next.result.below) c.write.ensures.remembers (fits_failed c.args.self.now l fits)
    (rw (c.remember.ensures.terminal, nothing, written, c.none.ensures, append-nil) at c.write.ensures.draws)
    (λ x is. clear_paints s.columns s.rows x old c.cleared-next.result (rw c.in_ok-window.ensures.0 at c.in_ok-window.window.some) is.counts (c.cleared-next.ensures x is.counts)) o
    (fits_forgets c.args.self.now l fits) (cleared-sound l) (cleared-adds l) (cleared-known s.rows l)
