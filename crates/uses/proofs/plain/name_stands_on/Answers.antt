use Rattle.std.proofs.Common.{◌≡◌, refl, sym, ◌∙◌, ap, subst, arith, map, ◌++◌, ◌∷◌, [], Some, None, option_map}
use Rattle.std.proofs.lemmas.Bool.{false≢true}
use Rattle.std.proofs.lemmas.List.Elements.{All-from_recursion}
use Rattle.indicatif_term.specs.Screen.{blank_screen}
use Rattle.indicatif_term.specs.Terminal.{blank_terminal, after}
use Rattle.indicatif_term.specs.Calls.{State, led_on}
use Rattle.indicatif_term.specs.Pictures.{picture_text}
use Rattle.indicatif_term.specs.Target.{term_of, limiter_of}
use Rattle.indicatif_term.specs.Cells.{view_of}
use Rattle.indicatif_bar.specs.Runs.{CallMade, Runs}
use Rattle.indicatif_board.specs.Boards.{Log, Drew, opening_board}
use Rattle.indicatif_board.specs.Calls.{answer_of, timed}
use Rattle.indicatif_board.specs.Multi.{IsIn, known}
use Rattle.indicatif_board.specs.PlainBoardLaws.{IsPlainMember}
use Rattle.uses.proofs.CutLemmas.{first_log_plain}
use Rattle.uses.proofs.PictureLemmas.{state_told}
use Rattle.uses.proofs.PlainLemmas.{first_name, machine, new_memory}
use Rattle.uses.proofs.StandingLemmas.{above_stays, first_above, first_row, first_read, headline_on, rows_of_first}
use Rattle.uses.proofs.plain.name_stands_on.Goals as goal

pub returns : goal.returns
returns g c = λ calls_plain.
    let m = g.K.ProgressTracker.means in
    let v = view_of new_memory in
    let old = Some v in
    let start = opening_board None in
    let drawn = c.in_ok-_logged._logged in
    let fresh : c.in_ok-term.term ≡ new_memory = c.in_ok-term.ensures.blank in
    let known_is : known view_of c.new-board.result ≡ old = ap (option_map view_of) (c.new-board.ensures.terminal ∙ ap term_of c.term_like.ensures) ∙ ap (λ t. Some (view_of t)) fresh in
    let begun = subst (λ target. IsIn 0 c.new-board.result (opening_board (limiter_of target))) c.term_like.ensures c.new-board.ensures.state in
    let log = c.in_ok-_logged.ensures.leads 0 start begun in
    let between = known view_of c.println.new.self in
    let made = subst (λ o. CallMade (machine m) o between (Log first_name, 0) start (Drew drawn) log.0) known_is log.2 in
    let call = (Log first_name, 0) ∷ [] in
    let one : Runs (machine m) call (Drew drawn ∷ []) old start between log.0 = (between, log.0, made, (refl, refl)) in
    let first = c.plain_texts_give_plain_runs.ensures 0 call (Drew drawn ∷ []) old start between log.0 one (All-from_recursion (IsPlainMember m) [] tt) (first_log_plain c.columns.ensures.printed m) in
    let painted = made.writes.2.paints first.0.0 in
    let above = first_above m log.0 drawn made.leads in
    let l = log.0.lists in
    let opening = blank_screen 4 10 in
    let shows = c.a_new_terminal_is_an_opening.ensures.shows 4 10 (omega arith) in
    let w = made.writes.0 in
    let there = after (blank_terminal 4 10) painted.bytes in
    let shown = (painted.rests refl opening (blank_terminal 4 10) (record { shows = λ _. shows; leads = λ e. absurd (false≢true e) })).shows above.1 in
    let placed = c.where_a_terminal_stands.ensures.shows w.columns w.rows opening l there above.1 shown in
    let later = c.in_ok-_answers.ensures.run 0 log.0 log.1 in
    let last = known view_of c.run.new.self in
    let calls = map timed c.args.calls.items in
    let answers = map answer_of c.in_ok-_answers._answers.items in
    let others = c.plain_texts_give_plain_runs.ensures 0 calls answers between log.0 last later.0 later.2 first.1 calls_plain in
    let run = headline_on (machine m) calls answers w between log.0 last later.0 later.2 made.writes.1 later.3 others.0 in
    let bytes = run.2.bytes in
    let end = after there bytes in
    let told : w.told ≡ State there = painted.told_is refl in
    let told_then : run.0.told ≡ State end = run.2.told_is (rw told refl) ∙ ap (λ x. led_on x bytes) told in
    let left = ap (option_map (λ t. t.now)) (sym c.in_ok-left.ensures.ok_part) ∙ c.term.ensures in
    let t = state_told c.in_ok-left.left.now run.0 end (ap (option_map view_of) left ∙ run.1) told_then in
    let stay = above_stays w run.0 _ l _ run.2 there placed in
    let read = c.what_is_shown_is_read.ensures w.columns w.rows opening l there shown in
    let begins = first_read end.screen there.screen (rows_of_first 10) w.columns l read.0 above.0 stay read.1 in
    (begins.0, c.in_ok-picture.ensures.picture ∙ ap (λ u. picture_text u.screen) t ∙ begins.1 ∙ ap (λ xs. xs ++ begins.0) first_row)
