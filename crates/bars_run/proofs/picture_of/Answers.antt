use Rattle.std.proofs.Common.{◌∙◌, Err, ap, map}
use Rattle.std.proofs.lemmas.Result.{err_from_is_err_and}
use Rattle.std.specs.Prelude.{string_bytes}
use Rattle.bars_run.proofs.StandLemmas.{same_ends, stands_read}
use Rattle.bars_run.proofs.picture_of.Goals as goal

pub returns-clause-stands : goal.returns-clause-stands
returns-clause-stands g c =
    let asked = c.args.asked in
    stands_read asked (g.R.Read.remaining c.args.input) _ c.play.new.player.board (map (λ row. string_bytes row) c.in_ok-rows.rows.items) c.a_new_terminal_is_an_opening.ensures.shows
    c.in_ok-input.ensures.remaining (c.in_ok-play.ensures.played asked c.in_ok-player.ensures.played) c.in_ok-rows.ensures.picture

pub returns-clause-cells : goal.returns-clause-cells
returns-clause-cells g c = let begun = c.in_ok-player.ensures.played in (begun.some_rows, begun.some_columns)

pub returns-in_err-play-clause-fault : goal.returns-in_err-play-clause-fault
returns-in_err-play-clause-fault g c =
    let asked = c.args.asked in
    let x = err_from_is_err_and c.from_residual-in_err-play.result c.from_residual-in_err-play.ensures.1 in
    rw (x.1 ∙ ap Err x.2)
    (same_ends asked _ (g.R.Read.remaining c.args.input) c.in_err-play.field-0.0 c.in_ok-input.ensures.remaining (c.in_err-play.ensures.fault asked c.in_ok-player.ensures.played))
