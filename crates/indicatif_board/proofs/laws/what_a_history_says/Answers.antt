use Rattle.indicatif_board.proofs.HistoryLemmas.{follows, bounded, logged_stand, read_so}
use Rattle.indicatif_board.proofs.laws.what_a_history_says.Goals as goal

pub returns-clause-answers : goal.returns-clause-answers
returns-clause-answers g c = follows g.K.Tracks.means

pub returns-clause-bounded : goal.returns-clause-bounded
returns-clause-bounded g c = bounded g.K.Tracks.means

pub returns-clause-logged : goal.returns-clause-logged
returns-clause-logged g c = logged_stand g.K.Tracks.means

pub returns-clause-read : goal.returns-clause-read
returns-clause-read g c = read_so g.K.Tracks.means
