use Rattle.std.proofs.Common.{◌≡◌, ◌-◌, ◌^◌, ◌++◌, min, false, List, map, length}
use Rattle.std.specs.Prelude.{flat_map}
use Rattle.std.specs.List.{AllByRecursion}
use Rattle.indicatif_text.specs.Columns.{width_of}
use Rattle.indicatif_text.specs.Pieces.{TextPiece, text_piece}
use Rattle.indicatif_text.specs.PieceLaws.{run_text}
use Rattle.indicatif_term.specs.Inside.Inks.{is_tidy}
use Rattle.indicatif_term.proofs.engine.comparing.inked_count.Given as goal

abbrev pub invariant-loop-piece : goal.invariant-loop-piece
invariant-loop-piece l = record {
  count : l.count ≡ min (length (flat_map run_text (map text_piece l.yielded))) (2 ^ 64 - 1);
  single : AllByRecursion (λ c. width_of c ≡ 1) (flat_map run_text (map text_piece l.yielded));
  tidy : (ps : List TextPiece) → is_tidy false 0 (map text_piece l.yielded ++ ps) ≡ is_tidy l.depth.fresh l.depth.groups ps;
}
