use Rattle.std.proofs.Common.{◌∙◌, sym, ap}
use Rattle.std.specs.Prelude.{◌++◌, codes, option_map}
use Rattle.indicatif_text.specs.StyleWords.{colour_place}
use Rattle.indicatif_text.proofs.StyleLemmas.{on_background, no_background}
use Rattle.indicatif_text.proofs.style_words.background_of.Goals as goal

pub returns-in_err-strip_prefix : goal.returns-in_err-strip_prefix
returns-in_err-strip_prefix c =
    ap (option_map colour_place) c.from_residual.ensures ∙ sym (no_background c.args.word.now c.utf8.word c.in_err-strip_prefix.ensures.cases)

pub returns : goal.returns
returns c =
    let begins = c.in_ok-strip_prefix.ensures.cases in
    c.colour_of.ensures ∙ on_background c.args.word.now c.in_ok-strip_prefix.field-0.now (begins.1.1 ∙ ap (λ x. codes "on_" ++ x) (sym begins.2))
