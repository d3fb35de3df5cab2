use Rattle.std.proofs.Common.{map, sym, ap, ◌∙◌, subst}
use Rattle.std.specs.declared.io.ErrorKind.TheVariants.{Other}
use Rattle.indicatif_term.specs.Target.{limiter_of}
use Rattle.indicatif_board.specs.Boards.{opening_board}
use Rattle.indicatif_board.specs.Multi.{IsIn}
use Rattle.indicatif_board.specs.Recorded.{step_of, target_by, untold}
use Rattle.indicatif_board.proofs.RecordLemmas.{sized, run_begins}
use Rattle.indicatif_board.proofs.recorded.Recorded.new.Goals as goal

pub invariant_of-result : goal.invariant_of-result
invariant_of-result g c =
    let size = c.size_of-size.result in
    let limiter = c.with_limiter-target.result.1 in
    let same = ap limiter_of c.with_limiter-target.ensures.target ∙ sym c.with_limiter-target.ensures.limiter in
    let holds = subst (λ l. IsIn c.args.mark c.new-board.result (opening_board l)) same c.new-board.ensures.state in (
      0,
      Other,
      run_begins g.K.Tracks.means c.args.mark limiter (target_by size) c.new-board.result (map step_of c.new.result.items) (untold (target_by size) 0 Other)
          (ap (map step_of) c.new.ensures.items) (sized size 0 Other) holds,
    )
