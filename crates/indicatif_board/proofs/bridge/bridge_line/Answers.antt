use Rattle.std.proofs.Common.{◌≡◌, ◌+◌, ◌++◌, ◌∷◌, [], ap, length, length-append, arith}
use Rattle.indicatif_text.proofs.StyleLemmas.{at_err}
use Rattle.indicatif_board.specs.Bridge.{bridge_bytes, level_column}
use Rattle.indicatif_board.proofs.bridge.bridge_line.Goals as goal

pub returns-in_err-reserve-clause-full : goal.returns-in_err-reserve-clause-full
returns-in_err-reserve-clause-full c =
    let front = level_column c.args.level ++ 0x20 ∷ [] in
    let before : length c.front_of-front.result.now ≡ length front = ap length c.front_of-front.ensures in
    let all : length (bridge_bytes c.args.level c.args.text.now) ≡ length front + length c.args.text.now = length-append front c.args.text.now in
    at_err c.from_residual.result (omega (arith, before, all, c.in_err-reserve.ensures.full, c.saturating_add.ensures))
