use Rattle.indicatif_bar.specs.LoneBars.{LoneIsIn, lone_bar, lone_sizing}
use Rattle.indicatif_bar.proofs.StageLemmas.{size_played}
use Rattle.indicatif_bar.proofs.lone.LoneBar.resize.Goals as goal

pub returns-clause-plays : goal.returns-clause-plays
unfolding LoneIsIn
returns-clause-plays g c = λ s inside.
    size_played (lone_bar g.K.Tracks.means) (lone_sizing g.K.Tracks.means) g.T.TermLike.view c.args.cols c.args.rows c.args.self.now.stage c.resize.new.self s.limiter
    (λ x. LoneIsIn (record c.args.self.now { stage = c.resize.new.self }) x) s c.resize.result c.resize.ensures.zero_size inside.1
    (λ staged. (inside.0, staged)) c.resize.ensures.sized c.resize.ensures.staged

pub returns-clause-takes : goal.returns-clause-takes
unfolding LoneIsIn
returns-clause-takes g c = λ refused s inside. c.resize.ensures.takes refused s.limiter s.lists inside.1
