-- What moves one after another make of a bar that tells where it stands.
use Rattle.std.proofs.Common.{◌≡◌, ℕ, ◌+◌, ◌%◌, ◌<◌, Option, Some, None, IfSome, Result, ◌∙◌, ap, subst, arith}
use Rattle.std.proofs.Math.Nat.{mod-add-mod}
use Rattle.indicatif_text.specs.declared.refusal.Refusal.{Refusal}
use Rattle.indicatif_text.specs.declared.refusal.Drawn.{Drawn}
use Rattle.indicatif.specs.Moves.{Standing, Goes, after_bar_move, Advance}

-- from the first to the second a bar that tells where it stands went on by a number of steps
abbrev pub WentOn : Option Standing → Option Standing → ℕ → Type 0
WentOn before now n = IfSome before (λ bar. bar.position < 18446744073709551616 → now ≡ Some (after_bar_move bar (Advance n)))

pub went_nowhere : (o : Option Standing) → WentOn o o 0
went_nowhere None = tt
went_nowhere (Some bar) = λ fits.
    let none : bar.position ≡ (bar.position + 0) % 18446744073709551616 = omega (arith, fits) in
    ap (λ p. let moved : Standing = record bar { position = p } in Some moved) none

pub went_on : (before between now : Option Standing) (n : ℕ) (answer : Result Drawn Refusal) → WentOn before between n → Goes between (Advance 1) answer now → WentOn before now (n + 1)
went_on None between now n answer went goes = tt
went_on (Some bar) between now n answer went goes = λ fits.
    let next = subst (λ o. Goes o (Advance 1) answer now) (went fits) goes in
    let more : bar.position + n + 1 ≡ bar.position + (n + 1) = omega arith in
    let sum = mod-add-mod (bar.position + n) 18446744073709551616 1 ∙ ap (λ p. p % 18446744073709551616) more in
    next ∙ ap (λ p. let moved : Standing = record bar { position = p } in Some moved) sum
