use Rattle.std.proofs.Common.{◌∙◌, [], ◌∷◌, reverse, sym, ap, refl}
use Rattle.indicatif_term.specs.Inside.Rows.{cell_of}
use Rattle.indicatif_term.proofs.JoinerLemmas.{joins_one, chain_none}
use Rattle.indicatif_term.proofs.cells.cell.Cell.join.Goals as goal

pub returns-in_ok-store_joiner-in-Single-clause-joined : goal.returns-in_ok-store_joiner-in-Single-clause-joined
returns-in_ok-store_joiner-in-Single-clause-joined c =
    let joiners = c.args.joiners.now.items in
    joins_one joiners c.store_joiner.new.joiners.items c.args.self.now c.in-Single.c _ 0 c.args.joiner [] (sym c.self.view_is ∙ ap cell_of c.in-Single.is) (sym (chain_none (reverse joiners)))
    c.in_ok-store_joiner-in-Single.ensures.put c.in_ok-store_joiner-in-Single.ensures.place

pub returns-in_ok-store_joiner-in-Joined-clause-joined : goal.returns-in_ok-store_joiner-in-Joined-clause-joined
returns-in_ok-store_joiner-in-Joined-clause-joined c =
    let joiners = c.args.joiners.now.items in
    joins_one joiners c.store_joiner-in-Joined.new.joiners.items c.args.self.now c.in-Joined.c _ c.in-Joined.last c.args.joiner (c.in-Joined.last ∷ [])
    (sym c.self.view_is ∙ ap cell_of c.in-Joined.is) refl
    c.in_ok-store_joiner-in-Joined.ensures.put c.in_ok-store_joiner-in-Joined.ensures.place
