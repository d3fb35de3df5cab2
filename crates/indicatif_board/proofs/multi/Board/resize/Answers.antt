use Rattle.indicatif_term.specs.Target.{is_bottom}
use Rattle.indicatif_bar.proofs.StageLemmas.{size_played}
use Rattle.indicatif_board.specs.BoardBars.{board_bars}
use Rattle.indicatif_board.specs.Boards.{board}
use Rattle.indicatif_board.specs.Multi.{IsIn, board_sizing}
use Rattle.indicatif_board.proofs.MemberLemmas.{held_with}
use Rattle.indicatif_board.proofs.multi.Board.resize.Goals as goal

pub returns-clause-plays : goal.returns-clause-plays
unfolding IsIn
returns-clause-plays g c = λ mark s inside.
    let tracks = g.K.Tracks.means in
    let b = c.args.self.now.shown in
    size_played (board (board_bars tracks) mark) (board_sizing tracks mark) g.T.TermLike.view c.args.cols c.args.rows c.args.self.now.stage c.resize.new.self s.limiter
    (λ x. IsIn mark (record c.args.self.now { stage = c.resize.new.self }) x) s c.resize.result c.resize.ensures.zero_size inside.2
    (λ staged. (inside.0, held_with b.frame.items b.members.items b.table.made (is_bottom b.alignment) s s.limiter _ inside.1, staged))
    c.resize.ensures.sized c.resize.ensures.staged

pub returns-clause-takes : goal.returns-clause-takes
unfolding IsIn
returns-clause-takes g c = λ refused mark s inside. c.resize.ensures.takes refused s.limiter s.lists inside.2
