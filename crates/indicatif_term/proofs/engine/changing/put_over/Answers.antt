use Rattle.std.proofs.Common.{arith, sym, ◌≡◌, take, take_all, append-nil, [], ◌∷◌, ◌++◌, List, ℕ}
use Rattle.indicatif_term.specs.Standing.{placed}
use Rattle.indicatif_term.specs.Inside.Changing.{run_bytes}
use Rattle.indicatif_term.proofs.CallTurnLemmas.{reaches_then, sends_then, sends_fail}
use Rattle.indicatif_term.proofs.MovedByteLemmas.{moved_next, moved_breaks}
use Rattle.indicatif_term.proofs.engine.changing.put_over.Goals as goal

pub returns-in_err-go_up : goal.returns-in_err-go_up
returns-in_err-go_up g c =
    let run = run_bytes c.args.width (placed c.args.lines.now) in
    sends_fail ((0x0D ∷ []) ++ run) _ c.from_residual.result c.from_residual.ensures.1 (rw c.saturating_sub.ensures at c.in_err-go_up.ensures)

pub returns-in_err-put_str : goal.returns-in_err-put_str
returns-in_err-put_str g c =
    let run = run_bytes c.args.width (placed c.args.lines.now) in
    sends_then ((0x0D ∷ []) ++ run) _ c.from_residual-in_err-put_str.result (rw c.saturating_sub.ensures at c.in_ok-go_up.ensures)
    (sends_fail {a = 0x0D ∷ []} run _ c.from_residual-in_err-put_str.result c.from_residual-in_err-put_str.ensures.1 c.in_err-put_str.ensures)

pub loop-line-init : goal.loop-line-init
loop-line-init g c = reaches_then (rw c.saturating_sub.ensures at c.in_ok-go_up.ensures) c.in_ok-put_str.ensures

pub returns-in_err-put_filled : goal.returns-in_err-put_filled
returns-in_err-put_filled g c =
    let none : List ℕ = [] in
    let r = c.from_residual-in_err-put_filled.result in
    rw append-nil at (sends_fail none _ r c.from_residual-in_err-put_filled.ensures.1
    (moved_breaks c.args.width c.args.lines.now c.loop-line.line-index c.line-item.result (omega arith) (sym c.line-item.is) c.args.taken _ _ _ c.loop-line.invariant c.in_err-put_filled.ensures))

pub loop-line-preserved : goal.loop-line-preserved
loop-line-preserved g c =
    rw (moved_next c.args.width c.args.lines.now c.loop-line.line-index c.line-item.result (omega arith) (sym c.line-item.is) c.args.taken)
    (reaches_then c.loop-line.invariant c.in_ok-put_filled.ensures)

pub returns : goal.returns
returns g c =
    let all : take c.loop-line.line-index c.args.lines.now ≡ c.args.lines.now = take_all c.loop-line.line-index c.args.lines.now (omega arith) in
    rw all at c.loop-line.invariant
