use Rattle.std.proofs.Common.{Ok, [], ◌∷◌}
use Rattle.indicatif_term.specs.Calls.{line_bytes, clear_bytes, move_bytes, UP}
use Rattle.uses.proofs.AnyWidthLemmas.{breaks}
use Rattle.uses.proofs.any_width.write_in_place.Goals as goal

pub returns-in_err-move_cursor_up : goal.returns-in_err-move_cursor_up
returns-in_err-move_cursor_up g c =
    let view = g.T.TermLike.view in
    let line = line_bytes c.args.text.now in
    breaks view (c.what_own_rows_draw.ensures.broken view) (move_bytes UP 2 ∷ []) (clear_bytes ∷ line ∷ clear_bytes ∷ line ∷ [] ∷ [])
    c.args.own.now c.move_cursor_up.new.self _ c.from_residual.result c.from_residual.ensures.1 c.in_err-move_cursor_up.ensures.draws

pub returns-in_err-clear_line : goal.returns-in_err-clear_line
returns-in_err-clear_line g c =
    let view = g.T.TermLike.view in
    let line = line_bytes c.args.text.now in
    breaks view (c.what_own_rows_draw.ensures.broken view) (move_bytes UP 2 ∷ clear_bytes ∷ []) (line ∷ clear_bytes ∷ line ∷ [] ∷ [])
    c.args.own.now c.clear_line.new.self _ c.from_residual-in_err-clear_line.result c.from_residual-in_err-clear_line.ensures.1
    (c.what_own_rows_draw.ensures.next view (move_bytes UP 2 ∷ []) (clear_bytes ∷ []) c.args.own.now c.move_cursor_up.new.self c.clear_line.new.self _
    c.in_ok-move_cursor_up.ensures.draws c.in_err-clear_line.ensures.draws)

pub returns-in_err-write_line : goal.returns-in_err-write_line
returns-in_err-write_line g c =
    let view = g.T.TermLike.view in
    let line = line_bytes c.args.text.now in
    let next = c.what_own_rows_draw.ensures.next view in
    let two = next (move_bytes UP 2 ∷ []) (clear_bytes ∷ []) c.args.own.now c.move_cursor_up.new.self c.clear_line.new.self (Ok tt)
    c.in_ok-move_cursor_up.ensures.draws c.in_ok-clear_line.ensures.draws in
    breaks view (c.what_own_rows_draw.ensures.broken view) (move_bytes UP 2 ∷ clear_bytes ∷ line ∷ []) (clear_bytes ∷ line ∷ [] ∷ [])
    c.args.own.now c.write_line.new.self _ c.from_residual-in_err-write_line.result c.from_residual-in_err-write_line.ensures.1
    (next (move_bytes UP 2 ∷ clear_bytes ∷ []) (line ∷ []) c.args.own.now c.clear_line.new.self c.write_line.new.self _ two
    (c.in_err-write_line.ensures.draws c.requires))

pub returns-in_err-clear_line-2 : goal.returns-in_err-clear_line-2
returns-in_err-clear_line-2 g c =
    let view = g.T.TermLike.view in
    let line = line_bytes c.args.text.now in
    let next = c.what_own_rows_draw.ensures.next view in
    let two = next (move_bytes UP 2 ∷ []) (clear_bytes ∷ []) c.args.own.now c.move_cursor_up.new.self c.clear_line.new.self (Ok tt)
    c.in_ok-move_cursor_up.ensures.draws c.in_ok-clear_line.ensures.draws in
    let three = next (move_bytes UP 2 ∷ clear_bytes ∷ []) (line ∷ []) c.args.own.now c.clear_line.new.self c.write_line.new.self (Ok tt) two
    (c.in_ok-write_line.ensures.draws c.requires) in
    breaks view (c.what_own_rows_draw.ensures.broken view) (move_bytes UP 2 ∷ clear_bytes ∷ line ∷ clear_bytes ∷ []) (line ∷ [] ∷ [])
    c.args.own.now c.clear_line-2.new.self _ c.from_residual-in_err-clear_line-2.result c.from_residual-in_err-clear_line-2.ensures.1
    (next (move_bytes UP 2 ∷ clear_bytes ∷ line ∷ []) (clear_bytes ∷ []) c.args.own.now c.write_line.new.self c.clear_line-2.new.self _ three
    c.in_err-clear_line-2.ensures.draws)

pub returns-in_err-write_line-2 : goal.returns-in_err-write_line-2
returns-in_err-write_line-2 g c =
    let view = g.T.TermLike.view in
    let line = line_bytes c.args.text.now in
    let next = c.what_own_rows_draw.ensures.next view in
    let two = next (move_bytes UP 2 ∷ []) (clear_bytes ∷ []) c.args.own.now c.move_cursor_up.new.self c.clear_line.new.self (Ok tt)
    c.in_ok-move_cursor_up.ensures.draws c.in_ok-clear_line.ensures.draws in
    let three = next (move_bytes UP 2 ∷ clear_bytes ∷ []) (line ∷ []) c.args.own.now c.clear_line.new.self c.write_line.new.self (Ok tt) two
    (c.in_ok-write_line.ensures.draws c.requires) in
    let four = next (move_bytes UP 2 ∷ clear_bytes ∷ line ∷ []) (clear_bytes ∷ []) c.args.own.now c.write_line.new.self c.clear_line-2.new.self (Ok tt) three
    c.in_ok-clear_line-2.ensures.draws in
    breaks view (c.what_own_rows_draw.ensures.broken view) (move_bytes UP 2 ∷ clear_bytes ∷ line ∷ clear_bytes ∷ line ∷ []) ([] ∷ [])
    c.args.own.now c.write_line-2.new.self _ c.from_residual-in_err-write_line-2.result c.from_residual-in_err-write_line-2.ensures.1
    (next (move_bytes UP 2 ∷ clear_bytes ∷ line ∷ clear_bytes ∷ []) (line ∷ []) c.args.own.now c.clear_line-2.new.self c.write_line-2.new.self _ four
    (c.in_err-write_line-2.ensures.draws c.requires))

pub returns : goal.returns
returns g c =
    let view = g.T.TermLike.view in
    let line = line_bytes c.args.text.now in
    let next = c.what_own_rows_draw.ensures.next view in
    let two = next (move_bytes UP 2 ∷ []) (clear_bytes ∷ []) c.args.own.now c.move_cursor_up.new.self c.clear_line.new.self (Ok tt)
    c.in_ok-move_cursor_up.ensures.draws c.in_ok-clear_line.ensures.draws in
    let three = next (move_bytes UP 2 ∷ clear_bytes ∷ []) (line ∷ []) c.args.own.now c.clear_line.new.self c.write_line.new.self (Ok tt) two
    (c.in_ok-write_line.ensures.draws c.requires) in
    let four = next (move_bytes UP 2 ∷ clear_bytes ∷ line ∷ []) (clear_bytes ∷ []) c.args.own.now c.write_line.new.self c.clear_line-2.new.self (Ok tt) three
    c.in_ok-clear_line-2.ensures.draws in
    let five = next (move_bytes UP 2 ∷ clear_bytes ∷ line ∷ clear_bytes ∷ []) (line ∷ []) c.args.own.now c.clear_line-2.new.self c.write_line-2.new.self (Ok tt) four
    (c.in_ok-write_line-2.ensures.draws c.requires) in
    next (move_bytes UP 2 ∷ clear_bytes ∷ line ∷ clear_bytes ∷ line ∷ []) ([] ∷ []) c.args.own.now c.write_line-2.new.self c.flush.new.self c.flush.result five c.flush.ensures.draws
