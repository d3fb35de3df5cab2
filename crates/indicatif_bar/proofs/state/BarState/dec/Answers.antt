use Rattle.std.proofs.Common.{◌≡◌, ◌∙◌, ◌+◌, ◌-◌, ◌%◌, ap, arith}
use Rattle.indicatif_bar.specs.Commands.{SetPosition, obeyed}
use Rattle.indicatif_bar.proofs.state.BarState.dec.Goals as goal

pub returns : goal.returns
returns g c =
    let at : c.pos.result ≡ c.args.self.now.progress.position = c.pos.ensures ∙ ap (λ b. b.progress.position) c.self.view_is in
    let down : c.pos.result + (18446744073709551616 - c.args.delta) ≡ c.args.self.now.progress.position + 18446744073709551616 - c.args.delta = omega (arith, at, c.ranges.delta.fits) in
    c.set_position.ensures ∙ ap (λ x. obeyed g.K.Tracks.means (SetPosition (x % 18446744073709551616)) c.args.self.now c.args.now) down
