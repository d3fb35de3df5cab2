use Rattle.std.proofs.Common.{◌∙◌, sym, subst, chars, arith}
use Rattle.std.specs.Str.{IsUtf8}
use Rattle.indicatif_text.proofs.ColourSequenceLemmas.{Scanned, scanned_by, hidden_text, no_sequence}
use Rattle.indicatif_text.proofs.pieces.after_colours.Goals as goal

pub loop-len-preserved : goal.loop-len-preserved
loop-len-preserved c =
    let rest = c.loop-len.rest.now in
    let n = c.loop-len.len in
    let more = c.range_from-rest.result.now in
    let s : Scanned rest n more = subst (Scanned rest n) (sym c.range_from-rest.ensures.value)
    (scanned_by rest n c.loop-len.invariant.fits c.loop-len.invariant.ascii (subst IsUtf8 c.range_from-rest.ensures.value c.range_from-rest.utf8)) in
    record {
      utf8 = c.range_from-rest.utf8;
      len_is = c.colour_len-len-in-loop-len.ensures.len;
      fits = c.colour_len-len-in-loop-len.ensures.fits;
      ascii = c.colour_len-len-in-loop-len.ensures.ascii;
      boundary = c.colour_len-len-in-loop-len.ensures.boundary;
      same = hidden_text rest more n s c.loop-len.invariant.len_is c.loop-len-test.true ∙ c.loop-len.invariant.same;
    }

pub returns-clause-front : goal.returns-clause-front
returns-clause-front c = no_sequence (chars c.loop-len.rest.now) c.loop-len.len c.loop-len.invariant.len_is (omega (arith, c.loop-len-test.false))
