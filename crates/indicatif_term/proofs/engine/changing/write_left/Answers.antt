use Rattle.std.proofs.Common.{◌≡◌, ◌∙◌, ap, sym, arith, true, false}
use Rattle.std.specs.Prelude.{string_bytes, nat_lt}
use Rattle.std.proofs.lemmas.Bool.{le-ltb}
use Rattle.indicatif_term.specs.Inside.Changing.{Leave, ends_plainly}
use Rattle.indicatif_term.specs.Inside.Parting.{change_of}
use Rattle.indicatif_term.specs.Standing.{placed_of}
use Rattle.indicatif_term.proofs.WalkLemmas.{left_bytes}
use Rattle.indicatif_term.proofs.engine.changing.write_left.Goals as goal

pub returns-then-ends_plainly : goal.returns-then-ends_plainly
returns-then-ends_plainly g c =
    let l = c.args.line.now in
    let p = placed_of l in
    let ch : p.change ≡ Leave = ap (λ s. change_of s (string_bytes l.before) (string_bytes l.text)) c.requires.stays in
    let full : nat_lt l.last c.args.width ≡ false = le-ltb l.last c.args.width (omega (arith, c.if-line-width.false)) in
    let plain : ends_plainly (string_bytes l.text) ≡ true = ap ends_plainly (sym c.deref.ensures) ∙ sym c.ends_plainly.ensures ∙ c.if-ends_plainly.true in
    rw (left_bytes c.args.width c.args.down p ch full plain)
    (rw (c.saturating_sub-then-ends_plainly.ensures, c.last_char.ensures, c.deref-then-ends_plainly.ensures) at c.write_end-then-ends_plainly.ensures)
