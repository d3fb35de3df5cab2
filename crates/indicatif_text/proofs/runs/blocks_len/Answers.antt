use Rattle.std.proofs.Common.{take, drop, subst, sym}
use Rattle.std.specs.Prelude.{All}
use Rattle.std.proofs.Math.Seq.{take-add}
use Rattle.std.proofs.lemmas.List.Elements.{All-append}
use Rattle.indicatif_text.specs.Inside.Runs.{IsPrintable}
use Rattle.indicatif_text.proofs.runs.blocks_len.Goals as goal

pub whole-preserved : goal.whole-preserved
whole-preserved c =
    let bytes = c.args.bytes.now in
    let at = c.whole.count in
    record {
      printable = subst (All IsPrintable) (sym (take-add at 16 bytes))
          (All-append IsPrintable (take at bytes) (take 16 (drop at bytes)) c.whole.invariant.printable (c.block_stands_at.ensures.printable c.whole-test.true));
      fits = c.block_stands_at.ensures.fits c.whole-test.true;
    }
