use Rattle.std.proofs.Common.{Err, ◌∙◌, ap, subst, inl, inr, None, Some, option_map}
use Rattle.std.proofs.lemmas.Result.{err_from_is_err_and}
use Rattle.indicatif_term.specs.Cells.{view_of}
use Rattle.indicatif_term.specs.Target.{term_of, limiter_of, is_bottom}
use Rattle.indicatif_board.specs.Boards.{opening_board}
use Rattle.indicatif_board.specs.Multi.{IsIn}
use Rattle.bars_run.proofs.PlayLemmas.{align_taken, begun, no_cells, some_if}
use Rattle.bars_run.proofs.player.Player.new.Goals as goal

pub returns-clause-played : goal.returns-clause-played
returns-clause-played c =
    let size = c.args.asked.size in
    let opened = subst (λ target. IsIn 0 c.new-board.result (opening_board (limiter_of target))) c.term_like.ensures c.new-board.ensures.state in
    let at = ap (option_map view_of) (c.new-board.ensures.terminal ∙ ap term_of c.term_like.ensures) ∙ ap (λ t. Some (view_of t)) c.in_ok-term.ensures.blank in
    begun c.args.asked c.new-board.result c.make.new.self.board (some_if size.rows (λ e. let q = c.in_ok-term.ensures.zero_size.1 (inl e) in cc q))
    (some_if size.columns (λ e. let q = c.in_ok-term.ensures.zero_size.1 (inr e) in cc q)) opened at c.in_ok-make.ensures.made

pub returns-in_err-term-clause-refused : goal.returns-in_err-term-clause-refused
returns-in_err-term-clause-refused c =
    let x = err_from_is_err_and c.from_residual.result c.from_residual.ensures.1 in
    let given = c.in_err-term.ensures in
    rw (x.1 ∙ ap Err x.2) (no_cells c.args.asked c.in_err-term.field-0.0 given.no_other (λ e. given.zero_size.0 (ap Err e)))

pub returns-in_err-make-clause-refused : goal.returns-in_err-make-clause-refused
returns-in_err-make-clause-refused c =
    let opened = subst (λ target. IsIn 0 c.new-board.result (opening_board (limiter_of target))) c.term_like.ensures c.new-board.ensures.state in
    absurd (align_taken (is_bottom c.args.asked.alignment) c.in_err-make.field-0.0 c.new-board.result c.make.new.self.board opened c.in_err-make.ensures.refused)
