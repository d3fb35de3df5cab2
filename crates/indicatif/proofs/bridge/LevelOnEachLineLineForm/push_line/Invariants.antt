use Rattle.std.proofs.Common.{◌≡◌, ◌∷◌, [], ◌++◌, length, map, string_bytes}
use Rattle.std.specs.Prelude.{nat_lt}
use Rattle.indicatif_board.specs.Bridge.{level_column}
use Rattle.indicatif.proofs.LineLemmas.{laid}
use Rattle.indicatif.proofs.bridge.LevelOnEachLineLineForm.push_line.Given as goal

abbrev pub invariant-loop-line : goal.invariant-loop-line
invariant-loop-line l = record {
  out_is : string_bytes l.out ≡ string_bytes l.initial.out ++ laid (level_column l.level ++ 0x20 ∷ []) (map (λ x. x.now) l.yielded);
  started_is : l.started ≡ nat_lt 0 (length l.yielded);
}
