use Rattle.std.proofs.Common.{◌+◌, ◌++◌, [], ◌∙◌, sym, arith}
use Rattle.std.specs.Prelude.{encode_utf8}
use Rattle.indicatif_term.specs.Calls.{RIGHT, move_bytes}
use Rattle.indicatif_term.proofs.CallTurnLemmas.{reaches_none, breaks_then, breaks_early, sends_then}
use Rattle.indicatif_term.proofs.RowWritingLemmas.{next_stays, next_fails, next_room, next_ends, broken_in}
use Rattle.indicatif_term.proofs.engine.row_edits.write_next.Goals as goal

pub returns-then-stays : goal.returns-then-stays
returns-then-stays g c =
    let r = c.args.rest.now in
    let stays = next_stays c.args.ends r c.next_cell-stands.new.reading c.next_cell-c.new.reading c.next_cell-stands.result c.next_cell-c.result c.requires.some c.requires.room
    c.next_cell-stands.ensures.first c.next_cell-stands.ensures.rest c.next_cell-c.ensures.first c.next_cell-c.ensures.rest (sym c.stays.ensures ∙ c.if-stays.true) in
    let room = next_room c.args.ends r c.next_cell-stands.new.reading c.next_cell-c.new.reading c.next_cell-stands.result c.next_cell-c.result c.requires.some c.requires.room
    c.next_cell-stands.ensures.first c.next_cell-stands.ensures.rest c.next_cell-c.ensures.first c.next_cell-c.ensures.rest (r.gap + 1) (omega arith) in
    ([], reaches_none _, stays, omega (arith, c.requires.some), record { small = room.0; olds = room.1; news = room.2 })

pub returns-in_err-recolour : goal.returns-in_err-recolour
returns-in_err-recolour g c =
    let r = c.args.rest.now in
    broken_in c.from_residual.result _ _ c.from_residual.ensures.1
    (next_fails c.args.ends r c.next_cell-stands.new.reading c.next_cell-c.new.reading c.next_cell-stands.result c.next_cell-c.result c.requires.some c.requires.room
    c.next_cell-stands.ensures.first c.next_cell-stands.ensures.rest c.next_cell-c.ensures.first c.next_cell-c.ensures.rest (sym c.stays.ensures ∙ c.if-stays.false)
    (breaks_early (move_bytes RIGHT r.gap ++ encode_utf8 c.next_cell-c.result) c.in_err-recolour.ensures))

pub returns-in_err-go_right : goal.returns-in_err-go_right
returns-in_err-go_right g c =
    let r = c.args.rest.now in
    broken_in c.from_residual-in_err-go_right.result _ _ c.from_residual-in_err-go_right.ensures.1
    (next_fails c.args.ends r c.next_cell-stands.new.reading c.next_cell-c.new.reading c.next_cell-stands.result c.next_cell-c.result c.requires.some c.requires.room
    c.next_cell-stands.ensures.first c.next_cell-stands.ensures.rest c.next_cell-c.ensures.first c.next_cell-c.ensures.rest (sym c.stays.ensures ∙ c.if-stays.false)
    (breaks_then c.in_ok-recolour.ensures (breaks_early (encode_utf8 c.next_cell-c.result) c.in_err-go_right.ensures)))

pub returns : goal.returns
returns g c =
    let r = c.args.rest.now in
    let room = next_room c.args.ends r c.next_cell-stands.new.reading c.next_cell-c.new.reading c.next_cell-stands.result c.next_cell-c.result c.requires.some c.requires.room
    c.next_cell-stands.ensures.first c.next_cell-stands.ensures.rest c.next_cell-c.ensures.first c.next_cell-c.ensures.rest 0 (omega arith) in
    next_ends c.args.ends r c.next_cell-stands.new.reading c.next_cell-c.new.reading c.next_cell-stands.result c.next_cell-c.result c.requires.some c.requires.room
    c.next_cell-stands.ensures.first c.next_cell-stands.ensures.rest c.next_cell-c.ensures.first c.next_cell-c.ensures.rest _ _ (sym c.stays.ensures ∙ c.if-stays.false)
    (record { small = room.0; olds = room.1; news = room.2 }) c.put_str.result
    (sends_then _ _ c.put_str.result c.in_ok-recolour.ensures (sends_then _ _ c.put_str.result c.in_ok-go_right.ensures (rw c.encode_utf8.ensures.value at c.put_str.ensures)))
