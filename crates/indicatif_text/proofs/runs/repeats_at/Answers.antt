use Rattle.std.proofs.Common.{arith, ◌≡◌, ◌+◌, ◌-◌, ◌∙◌, ap, subst, take, drop}
use Rattle.std.proofs.lemmas.List.{drop-drop, length-drop}
use Rattle.indicatif_text.specs.Inside.Runs.{times_then}
use Rattle.indicatif_text.proofs.ColourSequenceLemmas.{seventeen}
use Rattle.indicatif_text.proofs.runs.repeats_at.Goals as goal

pub returns-clause-stands : goal.returns-clause-stands
returns-clause-stands c = λ yes.
    let bytes = c.args.bytes.now in
    let at = c.args.at in
    let rest = drop (at + 3) bytes in
    let stands = c.stands_at.ensures.stands c.if-not-stands_at.false in
    let more : at + 51 - (at + 3) ≡ 48 = omega arith in
    let size : at + 48 - at ≡ 48 = omega arith in
    let same : take 48 rest ≡ take 48 (drop at bytes) =
    subst (λ n. take n rest ≡ take 48 (drop at bytes)) more (subst (λ n. take (at + 51 - (at + 3)) rest ≡ take n (drop at bytes)) size (c.are_same.ensures yes)) in
    seventeen c.args.unit.now (drop at bytes) rest c.requires.three stands (omega (arith, length-drop (at + 3) bytes)) same
    ∙ ap (times_then 17 c.args.unit.now) (drop-drop 48 (at + 3) bytes ∙ ap (λ n. drop n bytes) (let k : at + 3 + 48 ≡ at + 51 = omega arith in k))
