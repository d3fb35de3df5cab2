use Rattle.std.proofs.Common.{append-nil}
use Rattle.std.specs.Prelude.{flat_map}
use Rattle.indicatif_text.specs.StyleWords.{sequence_of, number_if}
use Rattle.indicatif_text.proofs.StyleLemmas.{sequences_are}
use Rattle.indicatif_text.proofs.style_words.Style.opening.Goals as goal

pub returns-clause-sequences : goal.returns-clause-sequences
returns-clause-sequences c =
    let all = sequences_are c.args.self.now in
    let last = append-nil (flat_map sequence_of (number_if c.args.self.now.hidden 8)) in
    let on = c.if-not-colours.false in
    cc (all, last, on)
