use Rattle.std.proofs.Common.{◌≡◌, ◌+◌, ◌-◌, ◌++◌, ◌∷◌, [], ◌∙◌, sym, ap, subst, arith, append_assoc}
use Rattle.std.specs.Prelude.{string_bytes}
use Rattle.indicatif_term.specs.Calls.{DOWN, move_bytes}
use Rattle.indicatif_term.specs.Inside.MoveBytes.{Sends}
use Rattle.indicatif_term.specs.Inside.RowEdits.{edit_bytes, row_bytes, reset_bytes, rest_bytes}
use Rattle.indicatif_term.specs.Inside.Inks.{colours_of}
use Rattle.indicatif_term.specs.Inside.Parting.{part_edits}
use Rattle.indicatif_term.specs.Inside.Rests.{FitsRow, ink_of, cells, left_bytes}
use Rattle.indicatif_term.proofs.CallTurnLemmas.{reaches_then, sends_then, sends_fail}
use Rattle.indicatif_term.proofs.RowWritingLemmas.{none_left, rest_fails}
use Rattle.indicatif_term.proofs.engine.row_edits.write_part.Goals as goal

pub returns-in_err-go_down : goal.returns-in_err-go_down
returns-in_err-go_down g c =
    let p = c.args.part in
    sends_fail (row_bytes p.gap (part_edits p (string_bytes c.args.line.now.before) (string_bytes c.args.line.now.text)))
    _ c.from_residual.result c.from_residual.ensures.1 (rw c.saturating_sub.ensures at c.in_err-go_down.ensures)

pub returns-in_err-put_str : goal.returns-in_err-put_str
returns-in_err-put_str g c =
    let p = c.args.part in
    let edits = part_edits p (string_bytes c.args.line.now.before) (string_bytes c.args.line.now.text) in
    sends_then (row_bytes p.gap edits) _ c.from_residual-in_err-put_str.result (rw c.saturating_sub.ensures at c.in_ok-go_down.ensures)
    (sends_fail {a = 0x0D ∷ []} (edit_bytes p.gap edits) _ c.from_residual-in_err-put_str.result c.from_residual-in_err-put_str.ensures.1 c.in_err-put_str.ensures)

pub columns-init : goal.columns-init
columns-init g c =
    let down = move_bytes DOWN (c.args.down + c.args.line.now.rows - 1) in
    record {
      written = (
        down ++ 0x0D ∷ [],
        reaches_then (rw c.saturating_sub.ensures at c.in_ok-go_down.ensures) c.in_ok-put_str.ensures,
        append_assoc down (0x0D ∷ []) (left_bytes c.args.part.waits c.all_of-now.result) ∙ ap (λ x. down ++ ((0x0D ∷ []) ++ x)) c.all_of-now.ensures.bytes,
      );
      room = c.all_of-now.ensures.room;
    }

pub returns-in_err-write_next : goal.returns-in_err-write_next
returns-in_err-write_next g c =
    let w = c.columns.invariant.written in
    rest_fails w.0 _ _ _ _ _ _ c.from_residual-in_err-write_next.result c.from_residual-in_err-write_next.ensures.1 w.1 c.in_err-write_next.ensures w.2

pub columns-preserved : goal.columns-preserved
columns-preserved g c =
    let w = c.columns.invariant.written in
    let m = c.in_ok-write_next.ensures in
    let k = c.skip.ensures in
    let rest = ap (λ x. m.0 ++ x) (k.same c.args.part.waits) ∙ m.2 in
    record {
      written = (w.0 ++ m.0, reaches_then w.1 m.1, append_assoc w.0 m.0 _ ∙ ap (λ x. w.0 ++ x) rest ∙ w.2);
      room = k.room;
    }

pub returns : goal.returns
returns g c =
    let w = c.columns.invariant.written in
    let now = c.columns.now in
    let ends = c.args.part.waits in
    let room : FitsRow now = c.columns.invariant.room in
    let none : now.left ≡ 0 = omega (arith, c.columns-test.false) in
    let rest : left_bytes ends now ≡ reset_bytes (colours_of (ink_of now.ink)) =
    ap (λ n. rest_bytes ends (ink_of now.ink) now.gap n (cells now.own) (cells now.other)) none
    ∙ none_left ends (ink_of now.ink) now.gap (cells now.own) (cells now.other) (omega (arith, room.olds, none)) (omega (arith, room.news, none)) in
    subst (λ b. Sends b (g.T.TermLike.view c.args.term.now) (g.T.TermLike.view c.close.new.term) c.close.result) (ap (λ x. w.0 ++ x) (sym rest) ∙ w.2)
    (sends_then _ _ c.close.result w.1 c.close.ensures)
