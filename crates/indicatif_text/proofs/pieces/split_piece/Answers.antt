use Rattle.std.proofs.Common.{◌∷◌, ◌∙◌, sym, ap, chars, take, drop, arith, length}
use Rattle.std.proofs.lemmas.Str.{IsUtf8-drop, IsUtf8-take}
use Rattle.indicatif_text.specs.Pieces.{Colour, Run, pieces_of_text}
use Rattle.indicatif_text.proofs.ColourSequenceLemmas.{scanned_by, scanned_chars_front, scanned_chars_rest, some_sequence, no_sequence}
use Rattle.indicatif_text.proofs.PieceLemmas.{first_colour, run_first}
use Rattle.indicatif_text.proofs.pieces.split_piece.Goals as goal

pub returns-then-sequence-gt0 : goal.returns-then-sequence-gt0
returns-then-sequence-gt0 c =
    let text = c.args.text.now in
    let n = c.colour_len-sequence.result in
    let e = c.colour_len-sequence.ensures in
    let s = scanned_by text n e.fits e.ascii (IsUtf8-drop text n c.utf8.text e.boundary) in
    first_colour n (chars text) (some_sequence _ n e.len c.if-sequence-gt0.true) c.if-sequence-gt0.true
    ∙ ap (λ x. Colour x ∷ pieces_of_text (drop n (chars text))) (scanned_chars_front text (drop n text) n s ∙ ap chars (sym c.split_at.ensures.front))
    ∙ ap (λ x. Colour (chars c.split_at.result.0.now) ∷ pieces_of_text x) (scanned_chars_rest text (drop n text) n s ∙ ap chars (sym c.split_at.ensures.back))

pub returns : goal.returns
returns c =
    let text = c.args.text.now in
    let n = c.run_len.result in
    let none = no_sequence (chars text) c.colour_len-sequence.result c.colour_len-sequence.ensures.len (omega (arith, c.if-sequence-gt0.false)) in
    let some = c.run_len.ensures.some c.requires none in
    c.run_len.ensures.pieces
    ∙ run_first (take n text) (pieces_of_text (chars (drop n text))) (IsUtf8-take text n c.utf8.text c.run_len.ensures.boundary)
    (omega (arith, some, c.split_at-2.ensures.front_len, ap length c.split_at-2.ensures.front))
    ∙ ap (λ x. Run (chars x) ∷ pieces_of_text (chars (drop n text))) (sym c.split_at-2.ensures.front)
    ∙ ap (λ x. Run (chars c.split_at-2.result.0.now) ∷ pieces_of_text (chars x)) (sym c.split_at-2.ensures.back)
