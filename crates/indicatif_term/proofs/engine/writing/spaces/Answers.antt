use Rattle.std.proofs.Common.{◌≡◌, ◌-◌, arith, replicate, take, ap, ◌∙◌}
use Rattle.std.proofs.lemmas.Str.{IsCharBoundary-from_ascii}
use Rattle.std.proofs.lemmas.List.{take-replicate}
use Rattle.indicatif_term.proofs.FillLemmas.{spaces_ascii}
use Rattle.indicatif_term.proofs.engine.writing.spaces.Goals as goal

pub range-requires-clause-end_boundary : goal.range-requires-clause-end_boundary
range-requires-clause-end_boundary c = IsCharBoundary-from_ascii (replicate 80 0x20) c.args.count (spaces_ascii 80) c.requires

pub returns : goal.returns
returns c =
    let n : c.args.count - 0 ≡ c.args.count = omega arith in
    c.range.ensures.value ∙ ap (λ k. take k (replicate 80 0x20)) n ∙ take-replicate c.args.count 80 0x20 c.requires
