use Rattle.std.proofs.Common.{arith}
use Rattle.std.specs.Prelude.{not, ◌==◌}
use Rattle.std.proofs.lemmas.List.Sums.{prefix_len-le-length}
use Rattle.indicatif_board.proofs.BarRecordLemmas.{evenly}
use Rattle.indicatif_board.proofs.shown_bars.ShownBars.place.Goals as goal

pub returns-clause-most : goal.returns-clause-most
returns-clause-most g c =
    let b = c.args.self.now in
    let even = evenly b.frame.items b.table.order b.members.items (omega (arith, b.even, b.members.ok, b.frame.ok)) b.seated in
    omega (arith, c.place.ensures, prefix_len-le-length (λ n. not (n == c.args.number)) b.table.order, even, b.members.ok)
