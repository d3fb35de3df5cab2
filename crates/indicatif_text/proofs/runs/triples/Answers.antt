use Rattle.std.proofs.Common.{◌+◌, ◌∙◌, drop, ap, arith}
use Rattle.indicatif_text.specs.Inside.Runs.{times_then}
use Rattle.indicatif_text.proofs.ColourSequenceLemmas.{times_more}
use Rattle.indicatif_text.proofs.runs.triples.Goals as goal

pub bytes-preserved : goal.bytes-preserved
bytes-preserved c =
    let bytes = c.args.bytes.now in
    let unit = c.args.unit.now in
    let i = c.bytes.invariant in
    record {
      repeats = i.repeats ∙ ap (times_then c.bytes.count unit) (c.stands_at.ensures.stands c.bytes-test.true) ∙ times_more c.bytes.count unit (drop (c.bytes.at + 3) bytes);
      place = omega (arith, i.place);
      fits = c.stands_at.ensures.fits c.bytes-test.true;
    }

pub returns-clause-repeats : goal.returns-clause-repeats
returns-clause-repeats c =
    let i = c.bytes.invariant in
    i.repeats ∙ ap (λ k. times_then c.bytes.count c.args.unit.now (drop k c.args.bytes.now)) i.place
