use Rattle.std.proofs.Common.{◌≤◌, ap, length, arith}
use Rattle.std.proofs.lemmas.Fmt.{decimal_nonempty}
use Rattle.std.proofs.lemmas.Str.{IsCharBoundary-from_ascii}
use Rattle.indicatif_bar.proofs.style.keys.push_behind_first.Goals as goal

pub split_at-requires : goal.split_at-requires
split_at-requires c =
    let some : 1 ≤ length c.format.result.now = omega (arith, decimal_nonempty c.args.n c.ranges.n.fits, ap length c.format.ensures.text) in
    IsCharBoundary-from_ascii c.format.result.now 1 c.format.ensures.ascii some
