use Rattle.std.proofs.Common.{◌≤◌, ◌<◌, ap, subst, arith, length, take, get_or}
use Rattle.std.specs.Prelude.{All}
use Rattle.std.proofs.lemmas.Str.{IsCharBoundary-start}
use Rattle.indicatif_text.specs.Inside.Runs.{IsPrintable}
use Rattle.indicatif_text.proofs.PrintableLemmas.{cut_behind, cut_first}
use Rattle.indicatif_text.proofs.runs.printable_len.Goals as goal

pub returns-then-printable_at-clause-boundary : goal.returns-then-printable_at-clause-boundary
returns-then-printable_at-clause-boundary c =
    let text = c.args.text.now in
    let n = c.long_printable_len.result in
    let same = c.as_bytes-bytes.ensures.value in
    let within : n ≤ length text = omega (arith, c.long_printable_len.ensures.fits, ap length same) in
    cut_behind text n c.utf8.text within (subst (λ bs. All IsPrintable (take n bs)) same c.long_printable_len.ensures.printable)

pub returns-then-printable_at-2-clause-boundary : goal.returns-then-printable_at-2-clause-boundary
returns-then-printable_at-2-clause-boundary c =
    let text = c.args.text.now in
    let same = c.as_bytes-bytes.ensures.value in
    let seen = c.printable_at-2.ensures in
    let yes = c.if-printable_at-2.true in
    let some : 0 < length text = omega (arith, seen.within yes, ap length same) in
    cut_first text c.utf8.text some (subst (λ bs. IsPrintable (get_or bs 0 0)) same (seen.printable yes))

pub returns-else-printable_at-2-clause-boundary : goal.returns-else-printable_at-2-clause-boundary
returns-else-printable_at-2-clause-boundary c = IsCharBoundary-start c.args.text.now c.utf8.text
