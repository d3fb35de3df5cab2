use Rattle.std.proofs.Common.{◌+◌, ◌<◌, ◌^◌, ◌∙◌, sym, ap, subst, arith, rules, length, chars}
use Rattle.std.specs.Prelude.{sum_by, flat_map, string_bytes}
use Rattle.indicatif_text.specs.Columns.{width_of}
use Rattle.indicatif_text.specs.PieceLaws.{run_text}
use Rattle.indicatif_text.proofs.WidthLemmas.{columns_le}
use Rattle.indicatif_text.specs.Range.{ansi_range, pieces_within, run_within}
use Rattle.indicatif_text.proofs.StyleLemmas.{at_err}
use Rattle.indicatif_text.proofs.RangeLemmas.{LeavesText, leaves_room, leaves_all, leaves_less, leaves_none, columns_behind_run, all_columns, shown_colour, shown_run, leaves_grown}
use Rattle.indicatif_text.proofs.range.push_range.Goals as goal

pub pieces-init : goal.pieces-init
unfolding ansi_range
pieces-init c =
    let text = chars c.args.text.now in
    let at = c.pieces-rest.ensures in
    record {
      sum_is = omega (arith, ap (λ ps. sum_by width_of (flat_map run_text ps)) at, all_columns text);
      room = omega arith;
      out_is = subst (λ ps. LeavesText (string_bytes c.args.out.now) (string_bytes c.args.out.now) (pieces_within c.args.start c.args.end 0 ps) (ansi_range text c.args.start c.args.end)) (sym at)
          (leaves_all (string_bytes c.args.out.now) (ansi_range text c.args.start c.args.end));
    }

pub pieces-preserved-in-Continue-1 : goal.pieces-preserved-in-Continue-1
pieces-preserved-in-Continue-1 c =
    let at = shown_colour c.in-Some.piece c.pieces.rest c.next.new.self c.in-Some.ensures.steps c.if-piece.true in
    record {
      sum_is = ap (λ ps. c.pieces.column + sum_by width_of (flat_map run_text ps)) (sym at) ∙ c.pieces.invariant.sum_is;
      room = omega (arith, c.pieces.invariant.room, c.push_piece.ensures.capacity);
      out_is = leaves_less _ _ _ _ _ _ _ c.pieces.invariant.out_is (ap (pieces_within c.args.start c.args.end c.pieces.column) at) c.in_ok-push_piece.ensures.text;
    }

pub push_run-requires : goal.push_run-requires
push_run-requires c =
    let size : length c.args.text.now < 2 ^ 63 = search rules in
    let at = shown_run c.in-Some.piece c.pieces.rest c.next.new.self c.in-Some.ensures.steps c.if-piece.false in
    omega (arith, size, columns_le c.args.text.now c.utf8.text, c.pieces.invariant.sum_is, columns_behind_run c.pieces.rest c.next.new.self (chars c.in-Some.piece.text.now) at)

pub pieces-preserved : goal.pieces-preserved
pieces-preserved c =
    let run = chars c.in-Some.piece.text.now in
    let at = shown_run c.in-Some.piece c.pieces.rest c.next.new.self c.in-Some.ensures.steps c.if-piece.false in
    let column = c.in_ok-column.ensures.column in
    let left = ap (pieces_within c.args.start c.args.end c.pieces.column) at in
    let less = leaves_less _ _ _ _ _ _ _ c.pieces.invariant.out_is left c.in_ok-column.ensures.text in
    record {
      sum_is = omega (arith, column, c.pieces.invariant.sum_is, columns_behind_run c.pieces.rest c.next.new.self run at);
      room = omega (arith, c.pieces.invariant.room, c.push_run.ensures.capacity);
      out_is = subst (λ k. LeavesText (string_bytes c.args.out.now) (string_bytes c.push_run.new.out) (pieces_within c.args.start c.args.end k c.next.new.self)
          (ansi_range (chars c.args.text.now) c.args.start c.args.end)) (sym column) less;
    }

pub returns-clause-range : goal.returns-clause-range
returns-clause-range c = leaves_none _ _ _ _ c.pieces.invariant.out_is (ap (pieces_within c.args.start c.args.end c.pieces.column) c.in_default.ensures.steps.0)

pub returns-in_err-push_piece-clause-grown : goal.returns-in_err-push_piece-clause-grown
returns-in_err-push_piece-clause-grown c = leaves_grown _ _ _ _ _ c.pieces.invariant.out_is c.push_piece.ensures.grown

pub returns-in_err-column-clause-grown : goal.returns-in_err-column-clause-grown
returns-in_err-column-clause-grown c = leaves_grown _ _ _ _ _ c.pieces.invariant.out_is c.push_run.ensures.grown

pub returns-in_err-push_piece-clause-full : goal.returns-in_err-push_piece-clause-full
returns-in_err-push_piece-clause-full c =
    let at = shown_colour c.in-Some.piece c.pieces.rest c.next.new.self c.in-Some.ensures.steps c.if-piece.true in
    let rest = pieces_within c.args.start c.args.end c.pieces.column c.next.new.self in
    let within = leaves_room _ _ _ (chars c.in-Some.piece.text.now) rest _ c.pieces.invariant.out_is (ap (pieces_within c.args.start c.args.end c.pieces.column) at) in
    at_err c.from_residual.result (omega (arith, within, c.pieces.invariant.room, c.pieces.out.bytes.ok.0, c.args.out.now.bytes.ok.0, c.in_err-push_piece.ensures.full))

pub returns-in_err-column-clause-full : goal.returns-in_err-column-clause-full
returns-in_err-column-clause-full c =
    let at = shown_run c.in-Some.piece c.pieces.rest c.next.new.self c.in-Some.ensures.steps c.if-piece.false in
    let run = chars c.in-Some.piece.text.now in
    let within = leaves_room _ _ _ (run_within c.args.start c.args.end c.pieces.column run)
    (pieces_within c.args.start c.args.end (c.pieces.column + sum_by width_of run) c.next.new.self) _ c.pieces.invariant.out_is (ap (pieces_within c.args.start c.args.end c.pieces.column) at) in
    at_err c.from_residual-in_err-column.result
    (omega (arith, within, c.pieces.invariant.room, c.pieces.out.bytes.ok.0, c.args.out.now.bytes.ok.0, c.in_err-column.ensures.full))
