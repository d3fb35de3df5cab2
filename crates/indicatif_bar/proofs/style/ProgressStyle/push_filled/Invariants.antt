use Rattle.std.proofs.Common.{◌≡◌, ◌++◌, ℕ, length, string_bytes}
use Rattle.std.specs.Str.{IsUtf8}
use Rattle.indicatif_bar.specs.Styles.{wide_text, with_fillers_as, columns_left, ends_in_filler}
use Rattle.indicatif_bar.specs.Inside.Steps.{wide_found}
use Rattle.indicatif_bar.proofs.style.ProgressStyle.push_filled.Given as goal

abbrev pub invariant-fillers : goal.invariant-fillers
invariant-fillers g l = record {
  texts : (columns : ℕ) → l.gap.columns ≡ columns_left columns l.text → l.gap.is_last ≡ ends_in_filler l.text →
      string_bytes l.out ++ with_fillers_as (wide_text l.self l.state columns l.text (wide_found l.wide)) l.rest
      ≡ string_bytes l.initial.out ++ with_fillers_as (wide_text l.self l.state columns l.text (wide_found l.wide)) l.text;
  utf8 : IsUtf8 l.rest;
}

abbrev pub decreases-fillers : goal.decreases-fillers
decreases-fillers g l = length l.rest
