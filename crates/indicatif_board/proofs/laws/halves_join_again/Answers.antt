use Rattle.std.proofs.Common.{◌≡◌, ◌+◌, ◌-◌, ◌/◌, max, arith}
use Rattle.std.proofs.Math.Nat.{div-le_self}
use Rattle.indicatif_board.specs.Done.{account}
use Rattle.indicatif_board.proofs.laws.halves_join_again.Goals as goal

pub returns : goal.returns
returns c = λ a known.
    let small = div-le_self a.parts 2 in
    let parts : a.parts - a.parts / 2 + a.parts / 2 ≡ a.parts = omega (arith, small) in
    let added : a.added + 0 ≡ a.added = omega arith in
    let seen : max (max a.seen a.seen) (a.added + 0) ≡ a.seen = omega (arith, known) in
    λ k. account (parts k) (added k) (seen k)
