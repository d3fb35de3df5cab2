use Rattle.std.proofs.Common.{◌≤◌, length, arith, ap, ◌∙◌}
use Rattle.std.proofs.lemmas.List.{take_all}
use Rattle.indicatif_term.proofs.SharedLemmas.{has_escape, escape_next}
use Rattle.indicatif_term.proofs.engine.inks.has_escape.Goals as goal

pub bytes-preserved : goal.bytes-preserved
bytes-preserved c = escape_next c.args.bytes.now c.bytes.byte-index c.bytes.found (omega (arith, c.bytes-test.true)) c.bytes.invariant

pub returns : goal.returns
returns c =
    let bytes = c.args.bytes.now in
    let past : length bytes ≤ c.bytes.byte-index = omega (arith, c.bytes-test.false) in
    c.bytes.invariant ∙ ap has_escape (take_all c.bytes.byte-index bytes past)
