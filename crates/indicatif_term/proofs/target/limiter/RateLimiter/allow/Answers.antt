use Rattle.std.proofs.Common.{◌≡◌, ◌<◌, ◌≤◌, ◌+◌, ◌-◌, ◌/◌, ◌⊎◌, inl, inr, sym, ◌∙◌, ap, arith, min, ◌%◌}
use Rattle.indicatif_term.specs.Limiters.{Limiter, allow, used}
use Rattle.indicatif_term.proofs.LimiterLemmas.{allows, capped}
use Rattle.indicatif_term.proofs.target.limiter.RateLimiter.allow.Goals.{else-self-eq0-via-then-self-eq0+else-elapsed-self, else-self-eq0-via-else-self-eq0}
use Rattle.indicatif_term.proofs.target.limiter.RateLimiter.allow.Goals as goal

pub returns-clause-next : goal.returns-clause-next
returns-clause-next c =
    let l : Limiter = record { interval = c.self.inside.interval; most = 20; capacity = c.self.inside.capacity; prev = c.self.inside.prev } in
    let leave : (0 < l.capacity) ⊎ (l.interval ≤ c.args.now - l.prev) = elim c.else-self-eq0.branch as (λ o. (0 < l.capacity) ⊎ (l.interval ≤ c.args.now - l.prev))
    [ else-self-eq0-via-then-self-eq0+else-elapsed-self w ↦ inr w.if-elapsed-self.false | else-self-eq0-via-else-self-eq0 w ↦ inl (omega (arith, w.if-self-eq0.false)) ] in
    let next : (allow l c.args.now).1 ≡ used l (c.args.now - l.prev) c.args.now = ap (λ x. x.1) (allows l c.args.now c.if-now-self.false leave) in
    let count = c.min-self-inside.ensures in
    let inner = c.min.ensures in
    let fills = count ∙ ap (λ x. min (c.self.inside.capacity + x - 1) 20) inner ∙ capped c.self.inside.capacity ((c.args.now - c.self.inside.prev) / c.self.inside.interval) in
    rw (sym c.self.view_is) (ap (λ n. record l { capacity = n; prev = c.args.now - (c.args.now - c.self.inside.prev) % c.self.inside.interval }) fills ∙ sym next)
