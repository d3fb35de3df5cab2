use Rattle.std.proofs.Common.{◌≡◌, refl, sym, ◌∙◌, ap, subst, arith, map, ◌++◌, ◌∷◌, Some, None, option_map, replicate, [], true}
use Rattle.std.proofs.lemmas.Bool.{false≢true}
use Rattle.std.specs.Prelude.{codes}
use Rattle.std.specs.Str.{chars}
use Rattle.indicatif_term.specs.Screen.{blank_screen}
use Rattle.indicatif_term.specs.Terminal.{blank_terminal}
use Rattle.indicatif_term.specs.Pictures.{picture_text}
use Rattle.indicatif_term.specs.Target.{term_of, limiter_of}
use Rattle.indicatif_term.specs.Lines.{are_plain}
use Rattle.indicatif_term.specs.Cells.{view_of}
use Rattle.indicatif_bar.specs.Commands.{SetMessage, new_bar}
use Rattle.indicatif_bar.specs.Machines.{Leads}
use Rattle.indicatif_bar.specs.Runs.{Runs, CallMade, lines_by}
use Rattle.indicatif_bar.specs.Trackers.{writes_nothing}
use Rattle.indicatif_board.specs.Boards.{End, New, Insert, Log, Tell, Given, Drew, opening_board}
use Rattle.indicatif_board.specs.BarIds.{id_of}
use Rattle.indicatif_board.specs.Multi.{IsIn, known}
use Rattle.uses.proofs.PictureLemmas.{state_told}
use Rattle.uses.proofs.PlainLemmas.{first_name, new_memory, machine}
use Rattle.uses.proofs.ShownLemmas.{message_parts, message_read, message_bar, style_known, small_still, saying, add_bar, say_on, taken_first, say_on_plain, log_on_plain, board_shown_read}
use Rattle.uses.proofs.plain.name_above_a_board.Goals as goal

pub returns : goal.returns
unfolding chars
returns c =
    let m = writes_nothing in
    let parts = c.template_or_refused.ensures.one_list (codes "{msg}") c.in_ok-style.style.parts message_parts c.in_ok-style.ensures.parts message_read in
    let style = style_known c.in_ok-style.style c.in_ok-style.ensures.style parts in
    let ticks = style.0 in
    let start = opening_board None in
    let old = Some (view_of new_memory) in
    let made : c.in_ok-terminal.terminal ≡ new_memory = c.in_ok-terminal.ensures.blank in
    let bar_is : c.in_ok-record.record ≡ message_bar ticks = c.in_ok-record.ensures.bar ∙ ap (λ s. new_bar s None 0) style.1 in
    let known_is : known view_of c.new-board.result ≡ old = ap (option_map view_of) (c.new-board.ensures.terminal ∙ ap term_of c.term_like.ensures) ∙ ap (λ t. Some (view_of t)) made in
    let begun = subst (λ target. IsIn 0 c.new-board.result (opening_board (limiter_of target))) c.term_like.ensures c.new-board.ensures.state in
    let id = id_of c.in_ok-id.id in
    let one = known view_of c.first_bar.new.board in
    let two = known view_of c.command.new.self in
    let three = known view_of c.println.new.self in
    let taken = c.in_ok-id.ensures 0 start begun in
    let first = subst (λ o. CallMade (machine m) o one (add_bar ticks, 0) start (Given id) taken.0) known_is
    (subst (λ b. CallMade (machine m) (known view_of c.new-board.result) one (Insert End (New b), 0) start (Given id) taken.0) bar_is taken.2) in
    let one_small = small_still (machine m) old one (add_bar ticks, 0) start taken.0 (Given id) first refl in
    let told = c.in_ok-_said.ensures.leads 0 taken.0 taken.1 in
    let named = taken_first m ticks taken.0 id first.leads in
    let second = subst (λ i. CallMade (machine m) one two (Tell i (SetMessage saying), 0) taken.0 (Drew c.in_ok-_said._said) told.0) named
    (subst (λ text. CallMade (machine m) one two (Tell id (SetMessage text), 0) taken.0 (Drew c.in_ok-_said._said) told.0) c.in_ok-said.ensures.ok told.2) in
    let two_small = small_still (machine m) one two (say_on, 0) taken.0 told.0 (Drew c.in_ok-_said._said) second one_small in
    let said = subst (λ t. Leads (machine m) t taken.0 ((machine m).deed t say_on 0 taken.0) (Drew c.in_ok-_said._said) told.0) one_small second.leads in
    let other = c.in_ok-_logged.ensures.leads 0 told.0 told.1 in
    let logged = subst (λ t. Leads (machine m) t told.0 ((machine m).deed t (Log first_name) 0 told.0) (Drew c.in_ok-_logged._logged) other.0) two_small other.2.leads in
    let calls = (add_bar ticks, 0) ∷ (say_on, 0) ∷ (Log first_name, 0) ∷ [] in
    let answers = Given id ∷ Drew c.in_ok-_said._said ∷ Drew c.in_ok-_logged._logged ∷ [] in
    let run : Runs (machine m) calls answers old start three other.0 = (one, taken.0, first, (two, told.0, second, (three, other.0, other.2, (refl, refl)))) in
    let say_is = subst (λ t. are_plain (lines_by ((machine m).deed t say_on 0 taken.0)) ≡ true) (sym one_small) (say_on_plain m ticks taken.0 id first.leads) in
    let log_is = subst (λ t. are_plain (lines_by ((machine m).deed t (Log first_name) 0 told.0)) ≡ true) (sym two_small)
    (log_on_plain m ticks taken.0 id first.leads told.0 c.in_ok-_said._said said) in
    let shows = c.a_new_terminal_is_an_opening.ensures.shows 4 10 (omega arith) in
    let read = c.what_a_board_run_reads.ensures 0 calls answers (view_of new_memory) start three other.0 refl run refl
    ((λ w. absurd (false≢true w)), ((λ w. say_is), ((λ w. log_is), tt))) (blank_screen 4 10) (blank_terminal 4 10, refl, shows) in
    let names = board_shown_read m ticks taken.0 id first.leads told.0 c.in_ok-_said._said said other.0 c.in_ok-_logged._logged logged in
    let left = ap (option_map (λ t. t.now)) (sym c.in_ok-left.ensures.ok_part) ∙ c.term.ensures in
    let t = state_told c.in_ok-left.left.now read.0 read.2.0 (ap (option_map view_of) left ∙ read.1) read.2.1 in
    (read.2.2, c.in_ok-picture.ensures.picture ∙ ap (λ u. picture_text u.screen) t ∙ read.2.3 ∙ ap (λ xs. xs ++ replicate read.2.2 []) names)
