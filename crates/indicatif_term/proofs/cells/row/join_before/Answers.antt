use Rattle.std.proofs.Common.{◌≡◌, ◌∙◌, ◌-◌, ◌+◌, ◌<◌, length, get_or, set, map, true, false, sym, ap, arith}
use Rattle.std.proofs.Math.ListN.{get_or-map}
use Rattle.std.proofs.lemmas.List.{length-map, set-get_or}
use Rattle.indicatif_term.specs.Screen.{is_continued, joined_at}
use Rattle.indicatif_term.specs.Inside.Rows.{cell_shown, LeavesJoiners}
use Rattle.indicatif_term.proofs.RowEditLemmas.{join_continued}
use Rattle.indicatif_term.proofs.ShownCellLemmas.{keeps_again, keeps_joined, joined_shown, continued_shown}
use Rattle.indicatif_term.proofs.cells.row.join_before.Goals as goal

pub returns-in_err-join-clause-leaves : goal.returns-in_err-join-clause-leaves
returns-in_err-join-clause-leaves c =
    let row = c.loop-left.cells in
    let n = c.loop-left.left - 1 in
    keeps_again c.args.joiners.now.items c.join.new.joiners.items c.args.cells.now (set row n c.join.new.self) c.requires.leaves (c.in_err-join.ensures.joiners ∙ c.loop-left.invariant.joiners)
    (ap (set row n) c.in_err-join.ensures.err ∙ set-get_or row n c.index-cells-left-then-not-is_continued.result ∙ c.loop-left.invariant.same)

pub returns-then-not-is_continued-clause-joined : goal.returns-then-not-is_continued-clause-joined
returns-then-not-is_continued-clause-joined c =
    let row = c.loop-left.cells in
    let joiners = c.loop-left.joiners.items in
    let n = c.loop-left.left - 1 in
    let x = c.index-cells-left.result in
    let next : n + 1 ≡ c.loop-left.left = omega arith in
    let not_continued : is_continued x ≡ false = ap is_continued c.index-cells-left.is ∙ sym c.is_continued.ensures ∙ c.if-not-is_continued.true in
    let leaves : LeavesJoiners joiners row = keeps_again c.args.joiners.now.items joiners c.args.cells.now row c.requires.leaves c.loop-left.invariant.joiners c.loop-left.invariant.same in
    joined_shown row joiners c.join.new.joiners.items n c.args.joiner x c.index-cells-left-then-not-is_continued.result c.join.new.self (omega (arith, c.loop-left.invariant.within))
    c.index-cells-left.is not_continued leaves c.in_ok-join.ensures.joined
    ∙ ap (λ m. joined_at m c.args.joiner (map (cell_shown joiners) row)) next ∙ sym c.loop-left.invariant.is

pub returns-then-not-is_continued-clause-leaves : goal.returns-then-not-is_continued-clause-leaves
returns-then-not-is_continued-clause-leaves c =
    let row = c.loop-left.cells in
    let joiners = c.loop-left.joiners.items in
    let n = c.loop-left.left - 1 in
    let x = c.index-cells-left.result in
    let not_continued : is_continued x ≡ false = ap is_continued c.index-cells-left.is ∙ sym c.is_continued.ensures ∙ c.if-not-is_continued.true in
    let leaves : LeavesJoiners joiners row = keeps_again c.args.joiners.now.items joiners c.args.cells.now row c.requires.leaves c.loop-left.invariant.joiners c.loop-left.invariant.same in
    keeps_joined row joiners c.join.new.joiners.items n c.args.joiner x c.index-cells-left-then-not-is_continued.result c.join.new.self (omega (arith, c.loop-left.invariant.within))
    c.index-cells-left.is not_continued leaves c.in_ok-join.ensures.joined

pub loop-left-preserved : goal.loop-left-preserved
loop-left-preserved c =
    let f = cell_shown c.loop-left.joiners.items in
    let row = c.loop-left.cells in
    let n = c.loop-left.left - 1 in
    let x = c.index-cells-left.result in
    let next : c.loop-left.left ≡ n + 1 = omega arith in
    let continued : is_continued (f x) ≡ true =
    continued_shown c.loop-left.joiners.items x ∙ ap is_continued c.index-cells-left.is ∙ sym c.is_continued.ensures ∙ c.if-not-is_continued.false in
    let at : f x ≡ get_or (map f row) n (f x) = ap f c.index-cells-left.is ∙ sym (get_or-map f row n x) in
    let within : n < length (map f row) = omega (arith, c.loop-left.invariant.within, length-map row f) in
    record {
      within = omega (arith, c.loop-left.invariant.within);
      is = c.loop-left.invariant.is ∙ ap (λ m. joined_at m c.args.joiner (map f row)) next ∙ join_continued (map f row) n (f x) within at c.args.joiner continued;
      same = c.loop-left.invariant.same;
      joiners = c.loop-left.invariant.joiners;
    }

pub returns-clause-leaves : goal.returns-clause-leaves
returns-clause-leaves c =
    keeps_again c.args.joiners.now.items c.loop-left.joiners.items c.args.cells.now c.loop-left.cells c.requires.leaves c.loop-left.invariant.joiners c.loop-left.invariant.same
