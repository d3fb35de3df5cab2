use Rattle.std.proofs.Common.{◌∙◌, sym, ap, chars}
use Rattle.std.specs.Prelude.{nat_lt, encode_utf8}
use Rattle.std.proofs.lemmas.List.{length-map}
use Rattle.std.proofs.lemmas.Iterator.Consumers.{nth_from_yields_List}
use Rattle.std.proofs.lemmas.Iterator.{YieldsList-from_chars}
use Rattle.indicatif_bar.proofs.SecondLemmas.{few}
use Rattle.indicatif_bar.proofs.style.clusters.has_few_characters.Goals as goal

pub returns : goal.returns
returns c =
    let at = nth_from_yields_List c.nth.result c.nth.new.self 1 c.nth.ensures.ran (YieldsList-from_chars c.args.text.now c.utf8.text c.chars.ensures.rest) in
    few _ c.nth.result (chars c.args.text.now) c.is_none.result at c.is_none.ensures
    ∙ ap (λ n. nat_lt n 2) (sym (length-map (chars c.args.text.now) encode_utf8))
