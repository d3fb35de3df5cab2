use Rattle.std.proofs.Common.{ℕ, List, ◌++◌, ◌∙◌, sym, ap, take, Bor}
use Rattle.indicatif_term.proofs.WriterLemmas.{appends_more, appends_kept, moves_on}
use Rattle.indicatif_term.proofs.target.term.write_whole.Goals as goal
use Rattle.indicatif_term.proofs.target.term.write_whole.Goals.{in-Ok, in-Err+else-ne}

pub loop-preserved : goal.loop-preserved
loop-preserved g c =
    let (done, split, appended) = c.loop.invariant in
    let rest = c.loop.rest.now in
    let now : Bor (List ℕ) → List ℕ = λ b. b.now in
    elim c.match-write.branch [
      | in-Ok w ↦
          let n = w.in-Ok.n in (
            done ++ take n rest,
            moves_on c.args.bytes.now done rest n split ∙ ap (λ r. (done ++ take n rest) ++ r) (sym (ap now w.rest-is)),
            appends_more _ _ _ done (take n rest) appended w.in-Ok.ensures.bytes,
          )
      | in-Err+else-ne w ↦ (done, split ∙ ap (λ r. done ++ r) (sym (ap now w.rest-is)), appends_kept _ _ _ done appended w.in-Err.ensures.bytes)
    ]
