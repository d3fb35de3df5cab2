use Rattle.std.proofs.Common.{◌≡◌, refl, sym, ◌∙◌, ap, subst, arith, map, ◌++◌, ◌∷◌, Some, None, option_map, replicate, []}
use Rattle.std.proofs.lemmas.List.Elements.{All-from_recursion}
use Rattle.indicatif_term.specs.Screen.{blank_screen}
use Rattle.indicatif_term.specs.Terminal.{blank_terminal}
use Rattle.indicatif_term.specs.Pictures.{picture_text}
use Rattle.indicatif_term.specs.Target.{term_of, limiter_of}
use Rattle.indicatif_term.specs.Cells.{view_of}
use Rattle.indicatif_bar.specs.Machines.{Leads, target_of}
use Rattle.indicatif_bar.specs.Runs.{Runs, CallMade}
use Rattle.indicatif_bar.specs.Trackers.{writes_nothing}
use Rattle.indicatif_board.specs.Boards.{Log, Drew, opening_board}
use Rattle.indicatif_board.specs.Multi.{IsIn, known}
use Rattle.indicatif_board.specs.PlainBoardLaws.{IsPlainMember}
use Rattle.uses.proofs.PictureLemmas.{state_told}
use Rattle.uses.proofs.PlainLemmas.{first_name, second_name, small, new_memory, machine, names_read, name_logs, logs_plain}
use Rattle.uses.proofs.plain.names_logged.Goals as goal

pub returns : goal.returns
returns c =
    let start = opening_board None in
    let old = Some (view_of new_memory) in
    let made : c.in_ok-term.term ≡ new_memory = c.in_ok-term.ensures.blank in
    let known_is : known view_of c.new-board.result ≡ old = ap (option_map view_of) (c.new-board.ensures.terminal ∙ ap term_of c.term_like.ensures) ∙ ap (λ t. Some (view_of t)) made in
    let begun = subst (λ target. IsIn 0 c.new-board.result (opening_board (limiter_of target))) c.term_like.ensures c.new-board.ensures.state in
    let one = c.in_ok-_one.ensures.leads 0 start begun in
    let other = c.in_ok-_other.ensures.leads 0 one.0 one.1 in
    let first = subst (λ o. CallMade (machine writes_nothing) o (known view_of c.println.new.self) (Log first_name, 0) start (Drew c.in_ok-_one._one) one.0) known_is one.2 in
    let answers = Drew c.in_ok-_one._one ∷ Drew c.in_ok-_other._other ∷ [] in
    let run : Runs (machine writes_nothing) name_logs answers old start (known view_of c.println-2.new.self) other.0 =
    (known view_of c.println.new.self, one.0, first, (known view_of c.println-2.new.self, other.0, other.2, (refl, refl))) in
    let plain = (c.plain_texts_give_plain_runs.ensures 0 name_logs answers old start (known view_of c.println-2.new.self) other.0 run
    (All-from_recursion (IsPlainMember writes_nothing) [] tt) (logs_plain c.columns.ensures.printed writes_nothing)).0 in
    let shows = c.a_new_terminal_is_an_opening.ensures.shows 4 10 (omega arith) in
    let read = c.what_a_board_run_reads.ensures 0 name_logs answers (view_of new_memory) start (known view_of c.println-2.new.self) other.0 refl run refl plain (blank_screen 4 10)
    (blank_terminal 4 10, refl, shows) in
    let counted = first.writes.2.counted in
    let target_is : target_of (known view_of c.println.new.self) ≡ small = ap target_of first.writes.1 ∙ rw (counted.columns_stay, counted.rows_stay) refl in
    let names = names_read writes_nothing one.0 other.0 c.in_ok-_one._one c.in_ok-_other._other first.leads
    (subst (λ t. Leads (machine writes_nothing) t one.0 ((machine writes_nothing).deed t (Log second_name) 0 one.0) (Drew c.in_ok-_other._other) other.0) target_is other.2.leads) in
    let left = ap (option_map (λ t. t.now)) (sym c.in_ok-left.ensures.ok_part) ∙ c.term.ensures in
    let t = state_told c.in_ok-left.left.now read.0 read.2.0 (ap (option_map view_of) left ∙ read.1) read.2.1 in
    (read.2.2, c.in_ok-picture.ensures.picture ∙ ap (λ u. picture_text u.screen) t ∙ read.2.3 ∙ ap (λ xs. xs ++ replicate read.2.2 []) names)
