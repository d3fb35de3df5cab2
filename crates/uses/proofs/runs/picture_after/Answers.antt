use Rattle.std.proofs.Common.{◌≡◌, refl, sym, ◌∙◌, ap, subst, map, take, ◌++◌, Some, None, option_map, replicate, []}
use Rattle.std.specs.Prelude.{IsFalse}
use Rattle.std.specs.List.{list_any}
use Rattle.std.specs.declared.io.ErrorKind.TheVariants.{OutOfMemory}
use Rattle.indicatif_term.specs.Calls.{State}
use Rattle.indicatif_term.specs.Lists.{opening_lists, all_rows}
use Rattle.indicatif_term.specs.Shows.{resting}
use Rattle.indicatif_term.specs.Pictures.{picture_text, row_text}
use Rattle.indicatif_term.specs.Engines.{is_failure}
use Rattle.indicatif_term.specs.Target.{term_of, limiter_of}
use Rattle.indicatif_term.specs.Cells.{view_of}
use Rattle.indicatif_bar.specs.Runs.{Runs, Starts}
use Rattle.indicatif_bar.specs.Lone.{opening_state}
use Rattle.indicatif_bar.specs.LoneBars.{LoneIsIn, lone_bar, lone_timed, lone_known}
use Rattle.uses.proofs.PictureLemmas.{state_told}
use Rattle.uses.proofs.runs.picture_after.Goals as goal

pub returns : goal.returns
returns g c = λ opening starts.
    let old = Some (view_of c.args.term) in
    let start = opening_state c.args.bar None in
    let known_is : lone_known view_of c.new-bar.result ≡ old = ap (option_map view_of) (c.new-bar.ensures.terminal ∙ ap term_of c.term_like.ensures) in
    let begun = subst (λ target. LoneIsIn c.new-bar.result (opening_state c.args.bar (limiter_of target))) c.term_like.ensures c.new-bar.ensures.state in
    let made = c.in_ok-answers.ensures.run start begun in
    let after = lone_known view_of c.run.new.self in
    let run = subst (λ o. Runs (lone_bar g.K.ProgressTracker.means) (map lone_timed c.args.calls.items) c.in_ok-answers.answers.items o start after made.0) known_is made.2 in
    let unbroken = subst (λ xs. IsFalse (list_any is_failure xs)) c.deref.ensures.value c.in_ok-unbroken.ensures in
    let shows = c.an_opening_shows_nothing.ensures opening.columns opening.height opening starts.1 in (
      c.in_ok-answers.answers.items,
      after,
      made.0,
      run,
      λ plain.
          let read = c.what_a_lone_run_reads.ensures (map lone_timed c.args.calls.items) c.in_ok-answers.answers.items (view_of c.args.term) start after made.0 refl run unbroken plain opening
          (subst (λ t. Starts (record { told = State t; columns = t.screen.columns; rows = t.screen.height; faults = c.args.term.faults; kind = OutOfMemory }) opening opening_lists) (sym starts.0)
          (resting opening, refl, shows)) in
          let t = state_told c.in_ok-left.left read.0 read.2.0 (ap (option_map view_of) (sym c.in_ok-left.ensures.ok_part ∙ c.into_term.ensures) ∙ read.1) read.2.1 in
          let columns = ap (λ u. map row_text (take opening.row opening.rows ++ all_rows u.screen.columns made.0.lists) ++ replicate read.2.2 []) starts.0 in
          (read.2.2, c.in_ok-picture.ensures.picture ∙ ap (λ u. picture_text u.screen) t ∙ read.2.3 ∙ columns),
    )
