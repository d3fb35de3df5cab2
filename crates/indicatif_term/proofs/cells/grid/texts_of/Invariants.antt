use Rattle.std.proofs.Common.{◌≡◌, take, map, string_bytes}
use Rattle.indicatif_term.specs.Pictures.{row_text}
use Rattle.indicatif_term.proofs.cells.grid.texts_of.Given as goal

abbrev pub invariant-loop-row : goal.invariant-loop-row
invariant-loop-row l = map (λ t. string_bytes t) l.texts.items ≡ map row_text (take l.row-index l.rows)
