use Rattle.std.proofs.Common.{◌≡◌, refl, sym, ◌∙◌, ap, subst, arith, map, ◌++◌, ◌∷◌, Ok, Some, None, option_map, replicate, [], true}
use Rattle.std.specs.Prelude.{codes}
use Rattle.std.specs.Str.{chars}
use Rattle.indicatif_term.specs.Screen.{blank_screen}
use Rattle.indicatif_term.specs.Terminal.{blank_terminal}
use Rattle.indicatif_term.specs.Pictures.{picture_text}
use Rattle.indicatif_term.specs.Target.{term_of, limiter_of}
use Rattle.indicatif_term.specs.Lines.{are_plain}
use Rattle.indicatif_term.specs.Cells.{view_of}
use Rattle.indicatif_bar.specs.Commands.{new_bar}
use Rattle.indicatif_bar.specs.Lone.{Log, opening_state}
use Rattle.indicatif_bar.specs.LoneBars.{LoneIsIn, lone_bar, lone_known}
use Rattle.indicatif_bar.specs.Machines.{Leads}
use Rattle.indicatif_bar.specs.Runs.{Runs, CallMade, lines_by}
use Rattle.indicatif_bar.specs.Trackers.{writes_nothing}
use Rattle.uses.proofs.PictureLemmas.{state_told}
use Rattle.uses.proofs.PlainLemmas.{first_name, new_memory}
use Rattle.uses.proofs.ShownLemmas.{message_parts, message_read, message_bar, style_known, small_still, say, LoneLed, shown_read, say_plain, log_plain}
use Rattle.uses.proofs.plain.name_above_a_bar.Goals as goal

pub returns : goal.returns
unfolding chars
returns c =
    let m = writes_nothing in
    let parts = c.template_or_refused.ensures.one_list (codes "{msg}") c.in_ok-style.style.parts message_parts c.in_ok-style.ensures.parts message_read in
    let style = style_known c.in_ok-style.style c.in_ok-style.ensures.style parts in
    let ticks = style.0 in
    let start = opening_state (message_bar ticks) None in
    let old = Some (view_of new_memory) in
    let made : c.in_ok-term.term ≡ new_memory = c.in_ok-term.ensures.blank in
    let bar_is : c.in_ok-record.record ≡ message_bar ticks = c.in_ok-record.ensures.bar ∙ ap (λ s. new_bar s None 0) style.1 in
    let known_is : lone_known view_of c.new-bar.result ≡ old = ap (option_map view_of) (c.new-bar.ensures.terminal ∙ ap term_of c.term_like.ensures) ∙ ap (λ t. Some (view_of t)) made in
    let begun : LoneIsIn c.new-bar.result start =
    subst (λ b. LoneIsIn c.new-bar.result (opening_state b None)) bar_is
    (subst (λ target. LoneIsIn c.new-bar.result (opening_state c.in_ok-record.record (limiter_of target))) c.term_like.ensures c.new-bar.ensures.state) in
    let one = c.in_ok-_said.ensures.leads start begun in
    let other = c.in_ok-_logged.ensures.leads one.0 one.1 in
    let first = subst (λ o. CallMade (lone_bar m) o (lone_known view_of c.set_message.new.self) (say, 0) start (Ok c.in_ok-_said._said) one.0) known_is one.2 in
    let calls = (say, 0) ∷ (Log first_name, 0) ∷ [] in
    let answers = Ok c.in_ok-_said._said ∷ Ok c.in_ok-_logged._logged ∷ [] in
    let run : Runs (lone_bar m) calls answers old start (lone_known view_of c.println.new.self) other.0 =
    (lone_known view_of c.set_message.new.self, one.0, first, (lone_known view_of c.println.new.self, other.0, other.2, (refl, refl))) in
    let target_is = small_still (lone_bar m) old (lone_known view_of c.set_message.new.self) (say, 0) start one.0 (Ok c.in_ok-_said._said) first refl in
    let led : LoneLed m say start c.in_ok-_said._said one.0 = first.leads in
    let log_is = subst (λ t. are_plain (lines_by ((lone_bar m).deed t (Log first_name) 0 one.0)) ≡ true) (sym target_is) (log_plain m ticks one.0 c.in_ok-_said._said led) in
    let shows = c.a_new_terminal_is_an_opening.ensures.shows 4 10 (omega arith) in
    let read = c.what_a_lone_run_reads.ensures calls answers (view_of new_memory) start (lone_known view_of c.println.new.self) other.0 refl run refl
    ((λ w. say_plain m ticks), ((λ w. log_is), tt)) (blank_screen 4 10) (blank_terminal 4 10, refl, shows) in
    let names = shown_read m ticks one.0 c.in_ok-_said._said led other.0 c.in_ok-_logged._logged
    (subst (λ t. Leads (lone_bar m) t one.0 ((lone_bar m).deed t (Log first_name) 0 one.0) (Ok c.in_ok-_logged._logged) other.0) target_is other.2.leads) in
    let left = sym c.in_ok-left.ensures.ok_part ∙ c.into_term.ensures in
    let t = state_told c.in_ok-left.left read.0 read.2.0 (ap (option_map view_of) left ∙ read.1) read.2.1 in
    (read.2.2, c.in_ok-picture.ensures.picture ∙ ap (λ u. picture_text u.screen) t ∙ read.2.3 ∙ ap (λ xs. xs ++ replicate read.2.2 []) names)
