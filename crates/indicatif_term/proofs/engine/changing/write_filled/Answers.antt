use Rattle.std.proofs.Common.{◌-◌, replicate, List, ℕ}
use Rattle.std.specs.Prelude.{string_bytes}
use Rattle.indicatif_term.proofs.CallTurnLemmas.{sends_then, sends_fail}
use Rattle.indicatif_term.proofs.WalkLemmas.{changed_more}
use Rattle.indicatif_term.proofs.engine.changing.write_filled.Goals as goal

pub returns-in_err-write_changed : goal.returns-in_err-write_changed
returns-in_err-write_changed g c =
    let l = c.args.line.now in
    let spaces : List ℕ = replicate (c.args.width - l.last) 0x20 in
    rw (changed_more c.args.down l.rows (string_bytes l.text) spaces)
    (sends_fail spaces _ c.from_residual.result c.from_residual.ensures.1 c.in_err-write_changed.ensures)

pub returns : goal.returns
returns g c =
    let l = c.args.line.now in
    let spaces : List ℕ = replicate (c.args.width - l.last) 0x20 in
    rw (changed_more c.args.down l.rows (string_bytes l.text) spaces)
    (sends_then spaces _ c.put_spaces.result c.in_ok-write_changed.ensures (rw c.saturating_sub.ensures at c.put_spaces.ensures))
