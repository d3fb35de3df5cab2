use Rattle.std.proofs.Common.{◌≡◌, ◌∙◌, ◌<◌, ◌≤◌, length, map, refl, ap, arith}
use Rattle.std.specs.Vec.{with_items}
use Rattle.indicatif_term.specs.Screen.{joined_at}
use Rattle.indicatif_term.specs.Inside.Rows.{cell_shown}
use Rattle.indicatif_term.proofs.MemoryLemmas.{at_err}
use Rattle.indicatif_term.proofs.RowEditLemmas.{whole_again}
use Rattle.indicatif_term.proofs.ShownCellLemmas.{nothing_joined_shown, row_joined_shown, row_same_shown, length_shown, keeps_again}
use Rattle.indicatif_term.proofs.cells.row.Row.join.Goals as goal

pub returns-then-at-len-clause-joined : goal.returns-then-at-len-clause-joined
returns-then-at-len-clause-joined c =
    let r = c.self.inside in
    let far : length r.cells.items < c.args.at = omega (arith, c.if-at-len.true, c.len.ensures) in
    let within : c.args.at ≤ r.columns = omega (arith, c.requires, ap length c.self.view_is, length_shown r.columns r.joiners.items r.cells.items c.self.invariant.within) in
    nothing_joined_shown r.columns c.args.at c.args.joiner r.joiners.items r.cells.items c.args.self.now far within c.self.view_is

pub join_before-requires-clause-leaves : goal.join_before-requires-clause-leaves
join_before-requires-clause-leaves c = keeps_again c.self.inside.joiners.items _ c.self.inside.cells.items c.deref_mut.result.now c.self.invariant.leaves refl c.deref_mut.ensures.value

-- the cells that were lent, put back
back_err : (c : goal.After-from_residual) → (with_items c.self.inside.cells c.join_before.new.cells).items ≡ c.join_before.new.cells
back_err c =
    let lent = c.deref_mut.ensures in
    whole_again _ c.join_before.new.cells c.self.inside.cells.items (omega (arith, c.join_before.auto.cells, lent.len)) (omega (arith, ap length lent.value, lent.len))

back_ok : (c : goal.In_ok-join_before) → (with_items c.self.inside.cells c.join_before.new.cells).items ≡ c.join_before.new.cells
back_ok c =
    let lent = c.deref_mut.ensures in
    whole_again _ c.join_before.new.cells c.self.inside.cells.items (omega (arith, c.join_before.auto.cells, lent.len)) (omega (arith, ap length lent.value, lent.len))

pub invariant_of-self : goal.invariant_of-self
invariant_of-self c = record {
  within = omega (arith, ap length (back_err c), c.join_before.auto.cells, ap length c.deref_mut.ensures.value, c.self.invariant.within);
  leaves = keeps_again c.join_before.new.joiners.items _ c.join_before.new.cells _ c.join_before.ensures.leaves refl (back_err c);
}

pub returns-in_err-join_before-clause-err : goal.returns-in_err-join_before-clause-err
returns-in_err-join_before-clause-err c =
    let r = c.self.inside in
    at_err c.from_residual.result
    (row_same_shown r.columns r.joiners.items c.join_before.new.joiners.items r.cells.items _ c.args.self.now c.self.view_is
    (ap (map (cell_shown c.join_before.new.joiners.items)) (back_err c) ∙ c.in_err-join_before.ensures.err ∙ ap (map (cell_shown r.joiners.items)) c.deref_mut.ensures.value))

pub invariant_of-self-2 : goal.invariant_of-self-2
invariant_of-self-2 c = record {
  within = omega (arith, ap length (back_ok c), c.join_before.auto.cells, ap length c.deref_mut.ensures.value, c.self.invariant.within);
  leaves = keeps_again c.join_before.new.joiners.items _ c.join_before.new.cells _ c.join_before.ensures.leaves refl (back_ok c);
}

pub returns-clause-joined : goal.returns-clause-joined
returns-clause-joined c =
    let r = c.self.inside in
    let within : c.args.at ≤ length r.cells.items = omega (arith, c.if-at-len.false, c.len.ensures) in
    row_joined_shown r.columns c.args.at c.args.joiner r.joiners.items c.join_before.new.joiners.items r.cells.items _ c.args.self.now within c.self.view_is
    (ap (map (cell_shown c.join_before.new.joiners.items)) (back_ok c) ∙ c.in_ok-join_before.ensures.joined
    ∙ ap (λ cells. joined_at c.args.at c.args.joiner (map (cell_shown r.joiners.items) cells)) c.deref_mut.ensures.value)
