use Rattle.std.proofs.Common.{◌≡◌, drop}
use Rattle.indicatif_bar.specs.Inside.Bars.{bytes_of_strings}
use Rattle.std.specs.Prelude.{◌==◌}
use Rattle.std.specs.List.{list_all}
use Rattle.indicatif_bar.specs.Layout.{text_columns}
use Rattle.indicatif_bar.proofs.style.clusters.all_take.Given as goal

abbrev pub invariant-texts : goal.invariant-texts
invariant-texts l = list_all (λ text. text_columns text == l.width) (bytes_of_strings (drop l.text-index l.texts)) ≡ list_all (λ text. text_columns text == l.width) (bytes_of_strings l.texts)
