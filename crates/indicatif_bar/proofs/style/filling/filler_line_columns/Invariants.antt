use Rattle.std.proofs.Common.{◌≡◌, length}
use Rattle.std.specs.List.{slice_split}
use Rattle.std.specs.Str.{IsUtf8}
use Rattle.indicatif_bar.specs.Styles.{is_newline}
use Rattle.indicatif_bar.proofs.FillingLemmas.{first_filler}
use Rattle.indicatif_bar.proofs.style.filling.filler_line_columns.Given as goal

abbrev pub invariant-lines : goal.invariant-lines
invariant-lines l = record {
  same : first_filler (slice_split is_newline l.rest) ≡ first_filler (slice_split is_newline l.text);
  utf8 : IsUtf8 l.rest;
}

abbrev pub decreases-lines : goal.decreases-lines
decreases-lines l = length l.rest
