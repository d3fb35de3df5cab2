use Rattle.std.proofs.Common.{◌≡◌, ◌*◌, ◌∙◌, drop, sym, ap, arith, length}
use Rattle.std.proofs.Math.Utf8.{encode}
use Rattle.std.proofs.lemmas.Str.{IsCharBoundary-start, IsCharBoundary-from_drop}
use Rattle.indicatif_text.specs.Inside.Runs.{times_then}
use Rattle.indicatif_text.proofs.ColourSequenceLemmas.{repeats_char}
use Rattle.indicatif_text.proofs.runs.repeats.Goals as goal

-- the text begins with the repeated character
begins : (c : goal.After-buffer-2-1) → c.args.text.now ≡ times_then c.triples.result (encode c.args.c) (drop (3 * c.triples.result) c.args.text.now)
begins c =
    let n = c.triples.result in
    let unit : c.as_bytes-unit.result.now ≡ encode c.args.c = c.as_bytes-unit.ensures.value ∙ c.encode_utf8.ensures.value in
    let same = c.as_bytes.ensures.value in
    sym same ∙ c.triples.ensures.repeats ∙ ap (λ u. times_then n u (drop (3 * n) c.as_bytes.result.now)) unit ∙ ap (λ bs. times_then n (encode c.args.c) (drop (3 * n) bs)) same

pub returns-then-len_utf8-ne3-clause-boundary : goal.returns-then-len_utf8-ne3-clause-boundary
returns-then-len_utf8-ne3-clause-boundary c = IsCharBoundary-start c.args.text.now c.utf8.text

pub returns-clause-boundary : goal.returns-clause-boundary
returns-clause-boundary c =
    let n = c.triples.result in
    let text = c.args.text.now in
    let rest = repeats_char n c.args.c text (drop (3 * n) text) c.utf8.text (begins c) in
    IsCharBoundary-from_drop text (3 * n) (omega (arith, c.triples.ensures.fits, ap length c.as_bytes.ensures.value)) rest.utf8
