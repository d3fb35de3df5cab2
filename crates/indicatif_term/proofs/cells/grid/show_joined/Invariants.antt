use Rattle.std.proofs.Common.{◌≡◌, take, map, string_bytes}
use Rattle.std.specs.List.{join_with_byte}
use Rattle.indicatif_term.specs.Pictures.{row_text}
use Rattle.indicatif_term.proofs.cells.grid.show_joined.Given as goal

abbrev pub invariant-loop-place : goal.invariant-loop-place
invariant-loop-place l = string_bytes l.out ≡ join_with_byte 0x0A (map row_text (take l.place l.rows))
