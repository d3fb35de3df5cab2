use Rattle.std.proofs.Common.{◌≡◌, false, refl, sym, ◌∙◌, ap, subst, map, take, flat_map, ◌++◌, ◌∷◌, [], Ok, Some, None, option_map, replicate}
use Rattle.std.specs.Prelude.{IsFalse}
use Rattle.std.specs.List.{list_any}
use Rattle.indicatif_text.specs.Columns.{rows_of}
use Rattle.std.specs.declared.io.ErrorKind.TheVariants.{OutOfMemory}
use Rattle.indicatif_term.specs.Calls.{State}
use Rattle.indicatif_term.specs.Lines.{text_lines, logged_lines}
use Rattle.indicatif_term.specs.Lists.{opening_lists, all_rows}
use Rattle.indicatif_term.specs.Shows.{resting}
use Rattle.indicatif_term.specs.Pictures.{picture_text, row_text}
use Rattle.indicatif_term.specs.Engines.{is_failure}
use Rattle.indicatif_term.specs.Target.{term_of, limiter_of}
use Rattle.indicatif_term.specs.Cells.{view_of}
use Rattle.indicatif_bar.specs.Commands.{BarRecord}
use Rattle.indicatif_bar.specs.Bars.{bar_kind}
use Rattle.indicatif_bar.specs.Machines.{target_of}
use Rattle.indicatif_bar.specs.Runs.{CallMade, Starts}
use Rattle.indicatif_bar.specs.Lone.{LoneState, Log, lone_frame, draw_of_call, opening_state}
use Rattle.indicatif_bar.specs.LoneBars.{LoneIsIn, lone_bar, lone_timed, lone_known}
use Rattle.uses.proofs.PictureLemmas.{state_told}
use Rattle.uses.proofs.LogLemmas.{Front, logged_front, log_written, texts_begin, above_grows, front_kept}
use Rattle.uses.proofs.runs.log_stands.Goals as goal

pub returns : goal.returns
returns g c = λ opening starts.
    let machine = lone_bar g.K.ProgressTracker.means in
    let v = view_of c.args.term in
    let old = Some v in
    let start = opening_state c.args.bar None in
    let text = text_lines (logged_lines c.args.line.now) in
    let drawn = c.in_ok-println.field-0 in
    let known_is : lone_known view_of c.new-bar.result ≡ old = ap (option_map view_of) (c.new-bar.ensures.terminal ∙ ap term_of c.term_like.ensures) in
    let begun = subst (λ target. LoneIsIn c.new-bar.result (opening_state c.args.bar (limiter_of target))) c.term_like.ensures c.new-bar.ensures.state in
    let log = c.in_ok-println.ensures.leads start begun in
    let between = lone_known view_of c.println.new.self in
    let made = subst (λ o. CallMade machine o between (Log c.args.line.now, 0) start (Ok drawn) log.0) known_is log.2 in
    let later = c.in_ok-answers.ensures.run log.0 log.1 in
    let after = lone_known view_of c.run.new.self in
    let calls = map lone_timed c.args.calls.items in
    let answers = c.in_ok-answers.answers.items in
    let unbroken = subst (λ xs. IsFalse (list_any is_failure xs)) c.deref.ensures.value c.in_ok-unbroken.ensures in
    let shows = c.an_opening_shows_nothing.ensures opening.columns opening.height opening starts.1 in
    let draw = draw_of_call (bar_kind g.K.ProgressTracker.means) (target_of old) (Log c.args.line.now) 0 start in
    let written : log.0 ≡ draw.written = log_written g.K.ProgressTracker.means (target_of old) c.args.line.now 0 start log.0 drawn refl refl made.leads in
    let first = subst (λ (s : LoneState (BarRecord g.row.K.Denot)). Front (flat_map (rows_of v.columns) text) s.lists.above) (sym written)
    (logged_front v.columns v.rows false text (lone_frame (bar_kind g.K.ProgressTracker.means) (target_of old) 0 c.args.bar) opening_lists) in (
      Ok drawn ∷ answers,
      after,
      later.0,
      (between, log.0, made, later.2),
      λ plain.
          let read = c.what_a_lone_run_reads.ensures ((Log c.args.line.now, 0) ∷ calls) (Ok drawn ∷ answers) v start after later.0 refl (between, log.0, made, later.2) unbroken plain opening
          (subst (λ t. Starts (record { told = State t; columns = t.screen.columns; rows = t.screen.height; faults = c.args.term.faults; kind = OutOfMemory }) opening opening_lists) (sym starts.0)
          (resting opening, refl, shows)) in
          let t = state_told c.in_ok-left.left read.0 read.2.0 (ap (option_map view_of) (sym c.in_ok-left.ensures.ok_part ∙ c.into_term.ensures) ∙ read.1) read.2.1 in
          let columns = ap (λ u. map row_text (take opening.row opening.rows ++ all_rows u.screen.columns later.0.lists) ++ replicate read.2.2 []) starts.0 in
          let grows = above_grows machine calls answers made.writes.0 between log.0 after later.0 later.2 made.writes.1 later.3 unbroken plain.1 in
          let stands = subst (λ u. Front (flat_map (rows_of u.screen.columns) text) later.0.lists.above) starts.0 (front_kept _ _ _ first grows) in
          texts_begin (take opening.row opening.rows) (flat_map (rows_of opening.columns) text) opening.columns later.0.lists read.2.2 _ stands
          (c.in_ok-picture.ensures.picture ∙ ap (λ u. picture_text u.screen) t ∙ read.2.3 ∙ columns),
    )
