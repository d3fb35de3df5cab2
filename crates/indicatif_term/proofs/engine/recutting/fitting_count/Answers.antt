use Rattle.std.proofs.Common.{◌≡◌, ◌+◌, ◌≤◌, ◌∙◌, sym, ap, refl, arith, length}
use Rattle.indicatif_text.specs.Columns.{width_of, glyphs_of}
use Rattle.indicatif_term.specs.Inside.Recutting.{fitting_count}
use Rattle.indicatif_term.proofs.CutCharLemmas.{counted, passes, goes_in, ends_here, all_fit}
use Rattle.indicatif_term.proofs.engine.recutting.fitting_count.Goals as goal
use Rattle.indicatif_term.proofs.engine.recutting.fitting_count.Goals.{then-fits_alone+else-columns-width, else-fits_alone}

pub loop-at-init : goal.loop-at-init
loop-at-init c =
    let all : counted c.args.width 0 c.args.seen.now 0 ≡ 0 + fitting_count c.args.width 0 (glyphs_of c.args.seen.now) = refl in
    record { fits = omega arith; first = λ e. refl; all = omega (arith, all) }

pub returns-then-columns-width : goal.returns-then-columns-width
returns-then-columns-width c =
    let n : c.width-columns.result ≡ width_of c.index-seen-at.result = c.width-columns.ensures in
    let i = c.loop-at.invariant in
    ends_here c.args.width c.loop-at.taken c.args.seen.now c.loop-at.at c.index-seen-at.result c.loop-at-test.true (sym c.index-seen-at.is) (sym c.fits_alone.ensures ∙ c.if-fits_alone.true)
    i.first (omega (arith, n, c.if-columns-width.true, i.fits)) i.all

pub loop-at-preserved : goal.loop-at-preserved
loop-at-preserved c =
    let w = c.args.width in
    let cs = c.args.seen.now in
    let i = c.loop-at.at in
    let d = c.index-seen-at.result in
    let at = sym c.index-seen-at.is in
    let taken = c.loop-at.taken in
    let v = c.loop-at.invariant in
    elim c.if-fits_alone.branch [
      | then-fits_alone+else-columns-width b ↦
          let n : b.width-columns.result ≡ width_of d = b.width-columns.ensures in
          let room : taken + width_of d ≤ w = omega (arith, n, b.if-columns-width.false, v.fits) in
          let sum : c.if-fits_alone.taken ≡ taken + width_of d = b.taken-is ∙ ap (λ k. taken + k) n in
          record {
            fits = omega (arith, sum, room);
            first = λ e. absurd (omega (arith, e));
            all = v.all ∙ goes_in w taken cs i d c.loop-at-test.true at (sym c.fits_alone.ensures ∙ b.if-fits_alone.true) room ∙ ap (λ t. counted w t cs (i + 1)) (sym sum);
          }
      | else-fits_alone b ↦
          record {
            fits = omega (arith, b.taken-is, v.fits);
            first = λ e. absurd (omega (arith, e));
            all = v.all ∙ passes w taken cs i d c.loop-at-test.true at (sym c.fits_alone.ensures ∙ b.if-fits_alone.false) ∙ ap (λ t. counted w t cs (i + 1)) (sym b.taken-is);
          }
    ]

pub returns : goal.returns
returns c =
    let end : c.loop-at.at ≡ length c.args.seen.now = omega (arith, c.loop-at-test.false, c.loop-at.auto.at-end) in
    all_fit c.args.width c.loop-at.taken c.args.seen.now (c.loop-at.invariant.all ∙ ap (counted c.args.width c.loop-at.taken c.args.seen.now) end)
