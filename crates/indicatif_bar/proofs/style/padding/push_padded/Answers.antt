use Rattle.std.proofs.Common.{arith}
use Rattle.std.proofs.lemmas.Bool.{le-ltb, lt-ltb}
use Rattle.indicatif_bar.specs.Layout.{padded}
use Rattle.indicatif_bar.proofs.style.padding.push_padded.Goals as goal

pub returns-then-columns-place : goal.returns-then-columns-place
unfolding padded
returns-then-columns-place c = rw (← c.columns-columns.ensures, le-ltb c.args.place.width c.columns-columns.result c.if-columns-place.true) c.in_ok-push_surrounded.ensures

pub returns-then-place : goal.returns-then-place
unfolding padded
returns-then-place c = rw (← c.columns-columns.ensures, lt-ltb c.args.place.width c.columns-columns.result (omega (arith, c.if-columns-place.false)), c.if-place.true)
    c.in-Ok.ensures.text

pub returns : goal.returns
unfolding padded
returns c = rw (← c.columns-columns.ensures, lt-ltb c.args.place.width c.columns-columns.result (omega (arith, c.if-columns-place.false)), c.if-place.false) c.in_ok-push_str.ensures.bytes
