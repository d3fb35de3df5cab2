use Rattle.std.proofs.Common.{◌≡◌, refl, sym, ◌∙◌, ap, subst, map, take, ◌++◌, Some, None, option_map, replicate, []}
use Rattle.std.specs.Prelude.{IsFalse}
use Rattle.std.specs.List.{list_any}
use Rattle.std.specs.declared.io.ErrorKind.TheVariants.{OutOfMemory}
use Rattle.indicatif_term.specs.Calls.{State}
use Rattle.indicatif_term.specs.Lists.{opening_lists, all_rows}
use Rattle.indicatif_term.specs.Shows.{resting}
use Rattle.indicatif_term.specs.Pictures.{picture_text, row_text}
use Rattle.indicatif_term.specs.Target.{term_of, limiter_of}
use Rattle.indicatif_term.specs.Cells.{view_of}
use Rattle.indicatif_bar.specs.Runs.{Runs, Starts, broke}
use Rattle.indicatif_board.specs.Boards.{board, opening_board}
use Rattle.indicatif_board.specs.BoardBars.{board_bars}
use Rattle.indicatif_board.specs.Calls.{answer_of, timed}
use Rattle.indicatif_board.specs.Multi.{IsIn, known}
use Rattle.uses.proofs.PictureLemmas.{state_told, any_mapped}
use Rattle.uses.proofs.runs.board_picture_after.Goals as goal

pub returns : goal.returns
returns g c = λ opening starts.
    let machine = board (board_bars g.K.ProgressTracker.means) 0 in
    let old = Some (view_of c.args.term) in
    let start = opening_board None in
    let known_is : known view_of c.new-board.result ≡ old = ap (option_map view_of) (c.new-board.ensures.terminal ∙ ap term_of c.term_like.ensures) in
    let begun = subst (λ target. IsIn 0 c.new-board.result (opening_board (limiter_of target))) c.term_like.ensures c.new-board.ensures.state in
    let made = c.in_ok-answers.ensures.run 0 start begun in
    let answers = map answer_of c.in_ok-answers.answers.items in
    let after = known view_of c.run.new.self in
    let run = subst (λ o. Runs machine (map timed c.args.calls.items) answers o start after made.0) known_is made.2 in
    let unbroken = subst IsFalse (sym (any_mapped (broke machine) answer_of c.in_ok-answers.answers.items))
    (subst (λ xs. IsFalse (list_any (λ a. broke machine (answer_of a)) xs)) c.deref.ensures.value c.in_ok-none_failed.ensures) in
    let shows = c.an_opening_shows_nothing.ensures opening.columns opening.height opening starts.1 in (
      answers,
      after,
      made.0,
      run,
      λ plain.
          let read = c.what_a_board_run_reads.ensures 0 (map timed c.args.calls.items) answers (view_of c.args.term) start after made.0 refl run unbroken plain opening
          (subst (λ t. Starts (record { told = State t; columns = t.screen.columns; rows = t.screen.height; faults = c.args.term.faults; kind = OutOfMemory }) opening opening_lists) (sym starts.0)
          (resting opening, refl, shows)) in
          let left = ap (option_map (λ t. t.now)) (sym c.in_ok-left.ensures.ok_part) ∙ c.term.ensures in
          let t = state_told c.in_ok-left.left.now read.0 read.2.0 (ap (option_map view_of) left ∙ read.1) read.2.1 in
          let columns = ap (λ u. map row_text (take opening.row opening.rows ++ all_rows u.screen.columns made.0.lists) ++ replicate read.2.2 []) starts.0 in
          (read.2.2, c.in_ok-picture.ensures.picture ∙ ap (λ u. picture_text u.screen) t ∙ read.2.3 ∙ columns),
    )
