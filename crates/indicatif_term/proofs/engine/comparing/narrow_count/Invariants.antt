use Rattle.std.proofs.Common.{◌≡◌, ◌-◌, ◌^◌, min, length}
use Rattle.std.specs.List.{AllByRecursion}
use Rattle.indicatif_text.specs.Columns.{width_of}
use Rattle.indicatif_term.proofs.engine.comparing.narrow_count.Given as goal

abbrev pub invariant-loop-c : goal.invariant-loop-c
invariant-loop-c l = record {
  narrow : AllByRecursion (λ c. width_of c ≡ 1) l.yielded;
  count : l.count ≡ min (length l.yielded) (2 ^ 64 - 1);
  before : width_of l.before ≡ 1;
}
