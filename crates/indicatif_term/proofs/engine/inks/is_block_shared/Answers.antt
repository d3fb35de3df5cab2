use Rattle.std.proofs.Common.{◌≡◌, ◌+◌, ◌-◌, take, drop, ap, arith}
use Rattle.std.proofs.lemmas.List.{length-drop}
use Rattle.indicatif_term.proofs.SharedLemmas.{shared_block}
use Rattle.indicatif_term.proofs.engine.inks.is_block_shared.Goals as goal

pub returns : goal.returns
returns c = λ yes.
    let at = c.args.at in
    let a = drop at c.args.a.now in
    let b = drop at c.args.b.now in
    let size : at + 16 - at ≡ 16 = omega arith in
    shared_block 16 a b (take (at + 16 - at) a) (take (at + 16 - at) b) (ap (λ n. take n a) size) (ap (λ n. take n b) size) (omega (arith, length-drop at c.args.a.now))
    (omega (arith, length-drop at c.args.b.now)) (c.are_plain.ensures yes)
