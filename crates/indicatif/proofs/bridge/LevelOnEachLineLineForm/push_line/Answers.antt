use Rattle.std.proofs.Common.{◌∷◌, [], ◌++◌, ◌∙◌, ap, lit<, string_bytes}
use Rattle.std.specs.Str.Iter.{split_text, split_has_more, split_pattern}
use Rattle.std.proofs.lemmas.Iterator.Consumers.{YieldsList-end}
use Rattle.std.proofs.lemmas.Iterator.Splits.{YieldsList-from_str_split}
use Rattle.indicatif_board.specs.Bridge.{level_column}
use Rattle.indicatif.proofs.LineLemmas.{laid, laid-split}
use Rattle.indicatif.proofs.bridge.LevelOnEachLineLineForm.push_line.Goals as goal

pub returns : goal.returns
returns c =
    let front = level_column c.args.level ++ 0x20 ∷ [] in
    let t = YieldsList-end (YieldsList-from_str_split 0x0a c.args.text.now (lit< tt)
    (ap split_text c.into_iter-line-iterator.ensures.into_iter_gives ∙ c.split-line-items.ensures.text)
    (ap split_has_more c.into_iter-line-iterator.ensures.into_iter_gives ∙ c.split-line-items.ensures.has_more)
    (ap split_pattern c.into_iter-line-iterator.ensures.into_iter_gives ∙ c.split-line-items.ensures.pattern))
    c.loop-line.yielded _ c.loop-line.yielded_by _ _ c.in-None.is c.next.ensures.steps in
    c.loop-line.invariant.out_is ∙ ap (λ x. string_bytes c.args.out.now ++ x) (ap (laid front) t.0 ∙ laid-split front c.args.text.now)
