use Rattle.std.proofs.Common.{refl, false}
use Rattle.indicatif_term.specs.Target.{is_bottom}
use Rattle.indicatif_board.specs.Boards.{Align, Accepted}
use Rattle.indicatif_board.specs.Multi.{IsIn, known}
use Rattle.indicatif_board.proofs.BoardCallLemmas.{made_at_once}
use Rattle.indicatif_board.proofs.multi.Board.set_alignment.Goals as goal

pub returns-clause-leads : goal.returns-clause-leads
unfolding IsIn
returns-clause-leads g c = λ now mark s inside.
    let tracks = g.K.Tracks.means in
    let bottom = is_bottom c.args.alignment in
    let holds = inside.1 in
    let next = record s { bottom = bottom } in
    let old = known g.T.TermLike.view c.args.self.now in (
      next,
      (
        inside.0,
        record { members_are = holds.members_are; frame_is = holds.frame_is; made_is = holds.made_is; bottom_is = refl },
        inside.2,
      ),
      made_at_once tracks mark old old (Align bottom) now s false Accepted next refl refl refl,
    )
