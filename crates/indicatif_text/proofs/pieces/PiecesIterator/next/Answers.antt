use Rattle.std.proofs.Common.{◌∙◌, sym, arith}
use Rattle.std.proofs.lemmas.Bool.Decides.{nat_tests}
use Rattle.indicatif_text.proofs.PieceLemmas.{no_pieces}
use Rattle.indicatif_text.proofs.pieces.PiecesIterator.next.Goals as goal

pub returns-then-is_empty-clause-steps : goal.returns-then-is_empty-clause-steps
returns-then-is_empty-clause-steps c =
    let none = sym c.self.view_is ∙ no_pieces c.self.inside.rest.now (grind (arith, nat_tests)) in
    (none, none)
