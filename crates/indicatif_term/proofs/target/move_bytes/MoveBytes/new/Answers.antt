use Rattle.std.proofs.Common.{◌∙◌, ◌≤◌, ◌++◌, length, ap, refl, arith, rules}
use Rattle.std.specs.Prelude.{decimal}
use Rattle.std.proofs.lemmas.Fmt.{length-decimal-le}
use Rattle.indicatif_term.proofs.MoveByteLemmas.{built}
use Rattle.indicatif_term.proofs.target.move_bytes.MoveBytes.new.Goals as goal

pub write_digits-start-requires : goal.write_digits-start-requires
write_digits-start-requires c =
    let short : length (decimal c.args.n) ≤ 20 = search (rules, length-decimal-le 20) in
    (omega arith, omega arith)

pub overflow_sub-bytes : goal.overflow_sub-bytes
overflow_sub-bytes c =
    let short : length (decimal c.args.n) ≤ 20 = search (rules, length-decimal-le 20) in
    omega (arith, c.write_digits-start.ensures.start)

pub overflow_sub-bytes-2 : goal.overflow_sub-bytes-2
overflow_sub-bytes-2 c =
    let short : length (decimal c.args.n) ≤ 20 = search (rules, length-decimal-le 20) in
    omega (arith, c.write_digits-start.ensures.start)

pub overflow_sub-result : goal.overflow_sub-result
overflow_sub-result c =
    let short : length (decimal c.args.n) ≤ 20 = search (rules, length-decimal-le 20) in
    omega (arith, c.write_digits-start.ensures.start)

pub returns : goal.returns
returns c =
    let short : length (decimal c.args.n) ≤ 20 = search (rules, length-decimal-le 20) in
    built c.write_digits-start.new.buf c.write_digits-start.result c.args.n c.args.letter c.requires (omega (arith, c.write_digits-start.ensures.start))
    (omega (arith, c.write_digits-start.ensures.start, c.write_digits-start.auto.buf)) (c.write_digits-start.ensures.written ∙ ap (λ xs. decimal c.args.n ++ xs) refl)
