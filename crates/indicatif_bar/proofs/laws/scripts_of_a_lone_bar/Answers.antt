use Rattle.std.proofs.Common.{refl}
use Rattle.indicatif_bar.specs.Bars.{bar_kind}
use Rattle.indicatif_bar.specs.LoneBars.{lone_bar, lone_sizing}
use Rattle.indicatif_bar.proofs.BoundLemmas.{lone_limited}
use Rattle.indicatif_bar.proofs.LoneRunLemmas.{lone_goes}
use Rattle.indicatif_bar.proofs.ScriptLemmas.{unbroken_read}
use Rattle.indicatif_bar.proofs.ScriptBoundLemmas.{scripts_bounded, scripts_bounded_from, scripts_spend}
use Rattle.indicatif_bar.proofs.laws.scripts_of_a_lone_bar.Goals as goal

pub returns-clause-read : goal.returns-clause-read
returns-clause-read g c = unbroken_read (lone_bar g.K.Tracks.means) (lone_sizing g.K.Tracks.means) (lone_goes (bar_kind g.K.Tracks.means))

pub returns-clause-bounded : goal.returns-clause-bounded
returns-clause-bounded g c = scripts_bounded (lone_bar g.K.Tracks.means) (lone_sizing g.K.Tracks.means) (λ s. s.limiter) (lone_limited (bar_kind g.K.Tracks.means)) (λ l s. refl)

pub returns-clause-from_any : goal.returns-clause-from_any
returns-clause-from_any g c = scripts_bounded_from (lone_bar g.K.Tracks.means) (lone_sizing g.K.Tracks.means) (λ s. s.limiter) (lone_limited (bar_kind g.K.Tracks.means)) (λ l s. refl)

pub returns-clause-spends : goal.returns-clause-spends
returns-clause-spends g c = scripts_spend (lone_bar g.K.Tracks.means) (lone_sizing g.K.Tracks.means) (λ s. s.limiter) (lone_limited (bar_kind g.K.Tracks.means)) (λ l s. refl)
