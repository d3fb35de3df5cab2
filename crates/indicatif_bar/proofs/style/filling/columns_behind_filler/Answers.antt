use Rattle.std.proofs.Common.{◌∙◌, sym, ap}
use Rattle.indicatif_bar.specs.Layout.{text_columns}
use Rattle.indicatif_bar.proofs.OneLineLemmas.{splits_behind, columns_behind}
use Rattle.indicatif_bar.proofs.style.filling.columns_behind_filler.Goals as goal

pub split_at-requires : goal.split_at-requires
split_at-requires c = splits_behind c.args.text.now c.utf8.text (sym c.begins_with_filler.ensures ∙ c.if-begins_with_filler.true)

pub returns-then-begins_with_filler : goal.returns-then-begins_with_filler
returns-then-begins_with_filler c =
    c.columns.ensures ∙ ap text_columns c.split_at.ensures.back ∙ sym (columns_behind c.args.text.now (sym c.begins_with_filler.ensures ∙ c.if-begins_with_filler.true))
