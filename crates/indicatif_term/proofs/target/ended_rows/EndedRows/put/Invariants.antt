use Rattle.std.proofs.Common.{◌≡◌, ◌++◌, List, ℕ, Ok, chars, length}
use Rattle.std.specs.Prelude.{flat_map}
use Rattle.std.specs.List.{AllByRecursion}
use Rattle.indicatif_text.specs.Columns.{visible}
use Rattle.indicatif_text.specs.PieceLaws.{IsExact, run_text}
use Rattle.indicatif_term.specs.Inside.EndedRows.{WithinIf, Falls, all_put, AreShown}
use Rattle.indicatif_term.proofs.target.ended_rows.EndedRows.put.Given as goal

abbrev pub invariant-rest : goal.invariant-rest
invariant-rest g l =
    let view = g.T.TermLike.view in
    let X = AreShown (visible (chars l.text)) in
    (done : List ℕ) × (done ++ flat_map run_text l.rest ≡ visible (chars l.text)) × AllByRecursion IsExact l.rest
    × Falls view (WithinIf view X) (WithinIf view X) (all_put done) l.initial.self l.self (Ok tt)

abbrev pub decreases-rest : goal.decreases-rest
decreases-rest g l = length l.rest
