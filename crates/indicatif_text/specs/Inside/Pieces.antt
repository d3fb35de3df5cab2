-- A run before pieces.
use Rattle.std.specs.Prelude.{List, [], ◌∷◌, ℕ}
use Rattle.indicatif_text.specs.Pieces.{TextPiece, Run}

-- pieces after this text, which is a run unless it is empty
abbrev pub run_then : List ℕ → List TextPiece → List TextPiece
run_then [] ps = ps
run_then (c ∷ cs) ps = Run (c ∷ cs) ∷ ps
