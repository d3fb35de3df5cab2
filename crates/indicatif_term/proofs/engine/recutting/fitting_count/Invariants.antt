use Rattle.std.proofs.Common.{◌≡◌, ◌≤◌}
use Rattle.indicatif_text.specs.Columns.{glyphs_of}
use Rattle.indicatif_term.specs.Inside.Recutting.{fitting_count}
use Rattle.indicatif_term.proofs.CutCharLemmas.{counted}
use Rattle.indicatif_term.proofs.engine.recutting.fitting_count.Given as goal

abbrev pub invariant-loop-at : goal.invariant-loop-at
invariant-loop-at l = record {
  fits : l.taken ≤ l.width;
  first : l.at ≡ 0 → l.taken ≡ 0;
  all : fitting_count l.width 0 (glyphs_of l.seen) ≡ counted l.width l.taken l.seen l.at;
}
