use Rattle.std.proofs.Common.{arith, ℕ, ◌≡◌, ◌+◌, ◌-◌, ◌++◌, replicate, ap, sym, ◌∙◌}
use Rattle.std.proofs.lemmas.List.{replicate-append-replicate}
use Rattle.indicatif_term.proofs.CallTurnLemmas.{reaches_none, reaches_then, breaks_then, sends_fail}
use Rattle.indicatif_term.proofs.engine.writing.put_spaces.Goals as goal

pub loop-left-init : goal.loop-left-init
loop-left-init g c = record {
  in_count = omega arith;
  reached = let e : c.args.count - c.args.count ≡ 0 = omega arith in rw e (reaches_none _);
}

pub returns-in_err-put_str : goal.returns-in_err-put_str
returns-in_err-put_str g c =
    let n = c.min-n.result in
    let done = c.args.count - c.loop-left.left in
    let rest = c.loop-left.left - n in
    let all : c.args.count ≡ (done + n) + rest = omega (arith, c.min-n.ensures, c.loop-left.invariant.in_count) in
    let space : ℕ = 0x20 in
    let whole : (replicate done space ++ replicate n space) ++ replicate rest space ≡ replicate c.args.count 0x20 =
    ap (λ xs. xs ++ replicate rest space) (replicate-append-replicate done n 0x20) ∙ replicate-append-replicate (done + n) rest 0x20 ∙ ap (λ k. replicate k 0x20) (sym all) in
    rw (← whole) (sends_fail (replicate rest space) _ c.from_residual.result c.from_residual.ensures.1 (breaks_then c.loop-left.invariant.reached (rw c.spaces.ensures at c.in_err-put_str.ensures)))

pub loop-left-preserved : goal.loop-left-preserved
loop-left-preserved g c =
    let n = c.min-n.result in
    let done = c.args.count - c.loop-left.left in
    let space : ℕ = 0x20 in
    let more : replicate done space ++ replicate n space ≡ replicate (c.args.count - (c.loop-left.left - n)) 0x20 =
    replicate-append-replicate done n 0x20 ∙ ap (λ k. replicate k 0x20) (omega (arith, c.min-n.ensures, c.loop-left.invariant.in_count)) in
    record {
      in_count = omega (arith, c.loop-left.invariant.in_count);
      reached = rw (← more) (reaches_then c.loop-left.invariant.reached (rw c.spaces.ensures at c.in_ok-put_str.ensures));
    }

pub returns : goal.returns
returns g c =
    let e : c.args.count - c.loop-left.left ≡ c.args.count = omega arith in
    rw e at c.loop-left.invariant.reached
