use Rattle.std.proofs.Common.{◌≡◌, ◌+◌, ◌-◌, take, drop, arith, subst}
use Rattle.std.specs.Prelude.{All}
use Rattle.indicatif_text.specs.Inside.Runs.{IsPrintable}
use Rattle.indicatif_text.proofs.runs.block_stands_at.Goals as goal

pub returns-clause-printable : goal.returns-clause-printable
returns-clause-printable c t =
    let size : c.args.at + 16 - c.args.at ≡ 16 = omega arith in
    subst (λ n. All IsPrintable (take n (drop c.args.at c.args.bytes.now))) size (c.all_printable.ensures t)
