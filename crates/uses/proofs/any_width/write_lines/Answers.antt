use Rattle.std.proofs.Common.{Ok, [], ◌∷◌}
use Rattle.indicatif_term.specs.Calls.{line_bytes}
use Rattle.uses.proofs.AnyWidthLemmas.{breaks}
use Rattle.uses.proofs.any_width.write_lines.Goals as goal

pub returns-in_err-write_line : goal.returns-in_err-write_line
returns-in_err-write_line g c =
    let view = g.T.TermLike.view in
    let line = line_bytes c.args.text.now in
    breaks view (c.what_own_rows_draw.ensures.broken view) (line ∷ []) (line ∷ [] ∷ []) c.args.own.now c.write_line.new.self _ c.from_residual.result c.from_residual.ensures.1
    (c.in_err-write_line.ensures.draws c.requires)

pub returns-in_err-write_line-2 : goal.returns-in_err-write_line-2
returns-in_err-write_line-2 g c =
    let view = g.T.TermLike.view in
    let line = line_bytes c.args.text.now in
    breaks view (c.what_own_rows_draw.ensures.broken view) (line ∷ line ∷ []) ([] ∷ []) c.args.own.now c.write_line-2.new.self _
    c.from_residual-in_err-write_line-2.result c.from_residual-in_err-write_line-2.ensures.1
    (c.what_own_rows_draw.ensures.next view (line ∷ []) (line ∷ []) c.args.own.now c.write_line.new.self c.write_line-2.new.self _
    (c.in_ok-write_line.ensures.draws c.requires) (c.in_err-write_line-2.ensures.draws c.requires))

pub returns : goal.returns
returns g c =
    let view = g.T.TermLike.view in
    let line = line_bytes c.args.text.now in
    let next = c.what_own_rows_draw.ensures.next view in
    next (line ∷ line ∷ []) ([] ∷ []) c.args.own.now c.write_line-2.new.self c.flush.new.self c.flush.result
    (next (line ∷ []) (line ∷ []) c.args.own.now c.write_line.new.self c.write_line-2.new.self (Ok tt)
    (c.in_ok-write_line.ensures.draws c.requires) (c.in_ok-write_line-2.ensures.draws c.requires)) c.flush.ensures.draws
