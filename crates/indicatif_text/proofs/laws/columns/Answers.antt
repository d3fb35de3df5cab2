use Rattle.indicatif_text.proofs.SeamLemmas.{plain_texts_join, spaces_are_seen, numbers_are_unseen, styles_are_unseen, styles_are_bytes, others_are_seen, plain_texts_have_widths, plain_texts_trim, one_row}
use Rattle.indicatif_text.proofs.PrintedLemmas.{printed_is_plain}
use Rattle.indicatif_text.proofs.laws.columns.Goals as goal

pub returns : goal.returns
returns c = record {
  join = plain_texts_join;
  spaces = spaces_are_seen;
  numbers = numbers_are_unseen;
  styles = styles_are_unseen;
  bytes = styles_are_bytes;
  others = others_are_seen;
  widths = plain_texts_have_widths;
  trim = plain_texts_trim;
  printed = printed_is_plain;
  one_row = one_row;
}
