use Rattle.std.proofs.Common.{◌≡◌, false, refl, sym, ◌∙◌, ap, subst, arith, map, ◌++◌, ◌∷◌, [], Ok, Some, None, option_map}
use Rattle.std.specs.Prelude.{IsFalse}
use Rattle.std.proofs.lemmas.Bool.{false≢true}
use Rattle.std.proofs.lemmas.List.Elements.{All-from_recursion}
use Rattle.indicatif_term.specs.Screen.{blank_screen}
use Rattle.indicatif_term.specs.Terminal.{blank_terminal, after}
use Rattle.indicatif_term.specs.Calls.{State, is_told, led_on}
use Rattle.indicatif_term.specs.Lines.{text_lines, logged_lines}
use Rattle.indicatif_term.specs.Lists.{Lists, opening_lists}
use Rattle.indicatif_term.specs.Pictures.{picture_text, row_text}
use Rattle.indicatif_term.specs.Target.{term_of, limiter_of}
use Rattle.indicatif_term.specs.Cells.{view_of}
use Rattle.indicatif_text.specs.Columns.{rows_of}
use Rattle.indicatif_bar.specs.Commands.{BarRecord}
use Rattle.indicatif_bar.specs.Bars.{bar_kind}
use Rattle.indicatif_bar.specs.Machines.{target_of}
use Rattle.indicatif_bar.specs.PlainLaws.{IsPlainBar, IsPlainLoneCall}
use Rattle.indicatif_bar.specs.StyleLaws.{AreTaken, IsPlainText}
use Rattle.indicatif_bar.specs.Runs.{CallMade, Runs}
use Rattle.indicatif_bar.specs.Lone.{LoneState, Log, lone_frame, draw_of_call, opening_state}
use Rattle.indicatif_bar.specs.LoneBars.{LoneIsIn, lone_bar, lone_timed, lone_known}
use Rattle.uses.proofs.PictureLemmas.{state_told}
use Rattle.uses.proofs.LogLemmas.{Front, logged_front, log_written}
use Rattle.uses.proofs.PlainLemmas.{first_name, first_plain, new_memory}
use Rattle.uses.proofs.StandingLemmas.{above_stays, first_row, first_read, headline_on, logged_sound, rows_of_first}
use Rattle.uses.proofs.plain.name_stands.Goals as goal

pub returns : goal.returns
returns g c = λ texts calls_plain.
    let m = g.K.ProgressTracker.means in
    let bar = c.args.bar in
    let v = view_of new_memory in
    let old = Some v in
    let start = opening_state bar None in
    let drawn = c.in_ok-_logged._logged in
    let fresh : c.in_ok-term.term ≡ new_memory = c.in_ok-term.ensures.blank in
    let known_is : lone_known view_of c.new-bar.result ≡ old = ap (option_map view_of) (c.new-bar.ensures.terminal ∙ ap term_of c.term_like.ensures) ∙ ap (λ t. Some (view_of t)) fresh in
    let begun = subst (λ target. LoneIsIn c.new-bar.result (opening_state bar (limiter_of target))) c.term_like.ensures c.new-bar.ensures.state in
    let log = c.in_ok-_logged.ensures.leads start begun in
    let between = lone_known view_of c.println.new.self in
    let made = subst (λ o. CallMade (lone_bar m) o between (Log first_name, 0) start (Ok drawn) log.0) known_is log.2 in
    let call = (Log first_name, 0) ∷ [] in
    let one : Runs (lone_bar m) call (Ok drawn ∷ []) old start between log.0 = (between, log.0, made, (refl, refl)) in
    let plain_bar : IsPlainBar m bar = record {
      style = record {
        literals = texts.literals;
        ticks = texts.ticks;
        trackers = texts.trackers;
        clusters = subst (λ (b : BarRecord g.row.K.Denot). AreTaken b.style.clusters) (c.bar-record.ensures.state start begun) c.style-style.ensures.taken;
      };
      message = texts.message;
      prefix = texts.prefix;
      on_finish = texts.on_finish;
    } in
    let first = c.plain_texts_give_plain_runs.ensures call (Ok drawn ∷ []) old start between log.0 one plain_bar
    (All-from_recursion (λ call. IsPlainLoneCall m call.0) call (All-from_recursion IsPlainText (first_name ∷ []) (first_plain c.columns.ensures.printed, tt), tt)) in
    let painted = made.writes.2.paints first.0.0 in
    let draw = draw_of_call (bar_kind m) (target_of old) (Log first_name) 0 start in
    let written : log.0 ≡ draw.written = log_written m (target_of old) first_name 0 start log.0 drawn refl refl made.leads in
    let frame = lone_frame (bar_kind m) (target_of old) 0 bar in
    let text = text_lines (logged_lines first_name) in
    let l = log.0.lists in
    let sound : l.failed ≡ false = ap (λ (s : LoneState (BarRecord g.row.K.Denot)). s.lists.failed) written ∙ logged_sound 10 4 false text frame opening_lists in
    let front = subst (λ (s : LoneState (BarRecord g.row.K.Denot)). Front (rows_of_first 10) s.lists.above) (sym written) (logged_front 10 4 false text frame opening_lists) in
    let opening = blank_screen 4 10 in
    let shows = c.a_new_terminal_is_an_opening.ensures.shows 4 10 (omega arith) in
    let w = made.writes.0 in
    let there = after (blank_terminal 4 10) painted.bytes in
    let shown = (painted.rests refl opening (blank_terminal 4 10) (record { shows = λ _. shows; leads = λ e. absurd (false≢true e) })).shows sound in
    let placed = c.where_a_terminal_stands.ensures.shows w.columns w.rows opening l there sound shown in
    let later = c.in_ok-_answers.ensures.run log.0 log.1 in
    let last = lone_known view_of c.run.new.self in
    let calls = map lone_timed c.args.calls.items in
    let answers = c.in_ok-_answers._answers.items in
    let others = c.plain_texts_give_plain_runs.ensures calls answers between log.0 last later.0 later.2 first.1 calls_plain in
    let run = headline_on (lone_bar m) calls answers w between log.0 last later.0 later.2 made.writes.1 later.3 others.0 in
    let bytes = run.2.bytes in
    let end = after there bytes in
    let told : w.told ≡ State there = painted.told_is refl in
    let told_then : run.0.told ≡ State end = run.2.told_is (rw told refl) ∙ ap (λ x. led_on x bytes) told in
    let t = state_told c.in_ok-left.left run.0 end (ap (option_map view_of) (sym c.in_ok-left.ensures.ok_part ∙ c.into_term.ensures) ∙ run.1) told_then in
    let stay = above_stays w run.0 _ l _ run.2 there placed in
    let read = c.what_is_shown_is_read.ensures w.columns w.rows opening l there shown in
    let begins = first_read end.screen there.screen (rows_of_first 10) w.columns l read.0 front stay read.1 in
    (begins.0, c.in_ok-picture.ensures.picture ∙ ap (λ u. picture_text u.screen) t ∙ begins.1 ∙ ap (λ xs. xs ++ begins.0) first_row)
