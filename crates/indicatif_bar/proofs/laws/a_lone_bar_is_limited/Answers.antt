use Rattle.indicatif_bar.specs.Bars.{bar_kind}
use Rattle.indicatif_bar.specs.LoneBars.{lone_bar}
use Rattle.indicatif_bar.proofs.BoundLemmas.{runs_bounded, runs_bounded_from, run_spends, lone_limited, call_allowed}
use Rattle.indicatif_bar.proofs.laws.a_lone_bar_is_limited.Goals as goal

pub returns-clause-asks : goal.returns-clause-asks
returns-clause-asks g c = lone_limited (bar_kind g.K.Tracks.means)

pub returns-clause-bounded : goal.returns-clause-bounded
returns-clause-bounded g c = runs_bounded (lone_bar g.K.Tracks.means) (λ s. s.limiter) (lone_limited (bar_kind g.K.Tracks.means))

pub returns-clause-from_any : goal.returns-clause-from_any
returns-clause-from_any g c = runs_bounded_from (lone_bar g.K.Tracks.means) (λ s. s.limiter) (lone_limited (bar_kind g.K.Tracks.means))

pub returns-clause-spends : goal.returns-clause-spends
returns-clause-spends g c = run_spends (lone_bar g.K.Tracks.means) (λ s. s.limiter) (lone_limited (bar_kind g.K.Tracks.means))

pub returns-clause-free : goal.returns-clause-free
returns-clause-free g c = λ target call now s none. call_allowed (bar_kind g.K.Tracks.means) target call now s none
