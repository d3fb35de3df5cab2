use Rattle.std.proofs.Common.{arith, ◌≡◌, ◌≤◌, ◌<◌, ◌-◌, ◌∙◌, ◌++◌, ◌^◌, refl, sym, subst, take, drop, length}
use Rattle.indicatif_term.specs.Standing.{IsLine, AreLines}
use Rattle.indicatif_term.specs.Remembered.{live_lines}
use Rattle.indicatif_term.specs.Inside.Renewed.{AreFitting}
use Rattle.indicatif_term.proofs.BesideLemmas.{all_append}
use Rattle.indicatif_term.proofs.OwnedLemmas.{kept_in}
use Rattle.indicatif_term.proofs.RenewedLemmas.{fits_taken}
use Rattle.indicatif_term.proofs.LaidLemmas.{stay_below, front_same, front_in, put_length, put_lines, put_now, above_length}
use Rattle.indicatif_term.proofs.engine.remembered.Remembered.put.Goals as goal

pub overflow_add-stays : goal.overflow_add-stays
overflow_add-stays c = let small : length c.args.self.now.lines ≤ 2 ^ 64 - 1 = c.args.self.now.small in omega (arith, c.requires.fits.within, small)

pub put-requires-clause-fit : goal.put-requires-clause-fit
put-requires-clause-fit c =
    let r = c.args.self.now in
    let l = c.args.laid.now in
    let above = c.args.above in
    let same = λ (some : 0 < l.at). (c.requires.fits.known some).1 in (
      c.args.width,
      subst (λ ys. AreFitting c.args.width ys (length ys) l.changed.items)
          (sym (stay_below above.from above.to l.at r.lines above.some c.requires.fits.within ∙ front_same l.at above.to r.kept r.lines same))
          (fits_taken c.args.width (live_lines r) l.at l.changed.items (front_in l.at above.to r.kept r.lines same c.requires.fits.within) c.requires.fits.fit),
    )

pub invariant_of-self : goal.invariant_of-self
invariant_of-self c =
    let r = c.args.self.now in
    let same = sym c.in_err-put.ensures.refused.2 in
    record {
      within = subst (λ ls. r.kept ≤ length ls) same r.within;
      small = subst (λ ls. length ls ≤ 2 ^ 64 - 1) same r.small;
      right = subst (λ ls. ∥ (0 < r.width → AreLines r.width ls) ∥₁) same r.right;
    }

pub overflow_add-self : goal.overflow_add-self
overflow_add-self c =
    let r = c.args.self.now in
    let l = c.args.laid.now in
    let above = c.args.above in
    let x = c.in_ok-put.ensures.lines in
    let size = put_length above.from above.to l.at r.lines x.0 l.more.items c.put.new.self above.some c.requires.fits.within x.1 x.3 in
    omega (arith, size, c.requires.fits.kept, kept_in l.plan l.blanks, c.kept_below.ensures, c.put.ensures.small)

pub kept_below-requires : goal.kept_below-requires
kept_below-requires c =
    let r = c.args.self.now in
    let l = c.args.laid.now in
    let above = c.args.above in
    let x = c.in_ok-put.ensures.lines in
    let size = put_length above.from above.to l.at r.lines x.0 l.more.items c.put.new.self above.some c.requires.fits.within x.1 x.3 in
    omega (arith, size, c.requires.fits.kept, c.put.ensures.small)

pub invariant_of-self-2 : goal.invariant_of-self-2
invariant_of-self-2 c =
    let r = c.args.self.now in
    let l = c.args.laid.now in
    let w = c.args.width in
    let above = c.args.above in
    let x = c.in_ok-put.ensures.lines in
    let size = put_length above.from above.to l.at r.lines x.0 l.more.items c.put.new.self above.some c.requires.fits.within x.1 x.3 in
    let put = put_now w above.from above.to r l x.0 above.some c.requires.some c.requires.fits.within c.requires.fits.known c.requires.fits.fit x.2 x.3 x.4 x.5
    c.requires.fits.more c.requires.fits.whole in
    record {
      within = omega (arith, size, c.requires.fits.kept, kept_in l.plan l.blanks, c.kept_below.ensures);
      small = c.put.ensures.small;
      right = ∣ (λ p. subst (AreLines w) (sym (put_lines above.from above.to l.at r.lines x.0 l.more.items c.put.new.self above.some c.requires.fits.within x.1))
          (all_append (IsLine w) (drop above.from (take above.to r.lines)) (x.0 ++ l.more.items) c.requires.fits.right put.right)) ∣₁;
    }

pub returns-clause-next : goal.returns-clause-next
returns-clause-next c =
    let r = c.args.self.now in
    let l = c.args.laid.now in
    let w = c.args.width in
    let above = c.args.above in
    let x = c.in_ok-put.ensures.lines in
    let size : length (drop above.from (take above.to r.lines)) ≡ above.to - above.from = above_length above.from above.to l.at r.lines c.requires.fits.within in (
      x.0 ++ l.more.items,
      put_now w above.from above.to r l x.0 above.some c.requires.some c.requires.fits.within c.requires.fits.known c.requires.fits.fit x.2 x.3 x.4 x.5 c.requires.fits.more c.requires.fits.whole,
      record {
        lines_are = put_lines above.from above.to l.at r.lines x.0 l.more.items c.put.new.self above.some c.requires.fits.within x.1;
        width_is = refl;
        kept_is = omega (arith, size, c.kept_below.ensures);
      },
    )
