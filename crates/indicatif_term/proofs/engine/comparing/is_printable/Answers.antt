use Rattle.std.proofs.Common.{◌≡◌, ◌+◌, ◌-◌, ◌≤◌, take, drop, length, subst, sym, arith, take-append-drop}
use Rattle.std.specs.Prelude.{All}
use Rattle.std.specs.Int.{IsInRange}
use Rattle.std.proofs.Math.Seq.{take-add}
use Rattle.std.proofs.lemmas.List.{length-drop, take_all, take-take}
use Rattle.std.proofs.lemmas.List.Elements.{All-append, All-take}
use Rattle.indicatif_term.proofs.engine.comparing.is_printable.Goals as goal

pub whole-preserved : goal.whole-preserved
whole-preserved c =
    let bytes = c.args.bytes.now in
    let at = c.whole.at in
    let size : at + 16 - at ≡ 16 = omega arith in
    let block = subst (λ n. All (IsInRange 0x20 0x7E) (take n (drop at bytes))) size (c.are_printable-in-whole.ensures c.if-are_printable.true) in
    subst (All (IsInRange 0x20 0x7E)) (sym (take-add at 16 bytes)) (All-append (IsInRange 0x20 0x7E) (take at bytes) (take 16 (drop at bytes)) c.whole.invariant block)

pub returns-then-at-last : goal.returns-then-at-last
returns-then-at-last c = λ t.
    let bytes = c.args.bytes.now in
    let last = length bytes - 16 in
    let before : last ≤ c.whole.at = omega (arith, c.if-at-last.true) in
    let front = subst (All (IsInRange 0x20 0x7E)) (take-take last c.whole.at bytes before) (All-take (IsInRange 0x20 0x7E) last (take c.whole.at bytes) c.whole.invariant) in
    let whole = take_all (length bytes - last) (drop last bytes) (omega (arith, length-drop last bytes)) in
    let back = subst (All (IsInRange 0x20 0x7E)) whole (c.are_printable-then-at-last.ensures t) in
    subst (All (IsInRange 0x20 0x7E)) (take-append-drop last bytes) (All-append (IsInRange 0x20 0x7E) (take last bytes) (drop last bytes) front back)
