use Rattle.std.proofs.Common.{◌≡◌, ◌<◌, refl, sym, ◌∙◌, ap, subst, arith, map, ◌++◌, ◌∷◌, Some, None, option_map, replicate, []}
use Rattle.std.proofs.lemmas.List.Elements.{All-from_recursion}
use Rattle.std.proofs.lemmas.Option.{same_Some}
use Rattle.indicatif_term.specs.Screen.{blank_screen}
use Rattle.indicatif_term.specs.Terminal.{blank_terminal}
use Rattle.indicatif_term.specs.Pictures.{picture_text, row_text}
use Rattle.indicatif_term.specs.Target.{term_of, limiter_of}
use Rattle.indicatif_term.specs.Lists.{all_rows}
use Rattle.indicatif_term.specs.Cells.{view_of}
use Rattle.indicatif_bar.specs.Machines.{Leads, target_of}
use Rattle.indicatif_bar.specs.Runs.{Runs, CallMade}
use Rattle.indicatif_bar.specs.Scripts.{Called, Size, SizedOn, Plays}
use Rattle.indicatif_bar.specs.Trackers.{writes_nothing}
use Rattle.indicatif_board.specs.Boards.{Log, Drew, opening_board}
use Rattle.indicatif_board.specs.Multi.{IsIn, board_sizing, known}
use Rattle.indicatif_board.specs.PlainBoardLaws.{IsPlainMember}
use Rattle.uses.proofs.PictureLemmas.{state_told}
use Rattle.uses.proofs.PlainLemmas.{first_name, small, new_memory, machine}
use Rattle.uses.proofs.CutLemmas.{short_name, narrow, cut, cut_names_read, none_above, log_of, first_log_plain, short_log_plain}
use Rattle.uses.proofs.plain.names_cut.Goals as goal

pub returns : goal.returns
returns c =
    let start = opening_board None in
    let old = Some (view_of new_memory) in
    let made : c.in_ok-term.term ≡ new_memory = c.in_ok-term.ensures.blank in
    let known_is : known view_of c.new-board.result ≡ old = ap (option_map view_of) (c.new-board.ensures.terminal ∙ ap term_of c.term_like.ensures) ∙ ap (λ t. Some (view_of t)) made in
    let begun = subst (λ target. IsIn 0 c.new-board.result (opening_board (limiter_of target))) c.term_like.ensures c.new-board.ensures.state in
    let one = c.in_ok-_one.ensures.leads 0 start begun in
    let before = known view_of c.println.new.self in
    let sized = known view_of c.resize.new.self in
    let after = known view_of c.println-2.new.self in
    let first = subst (λ o. CallMade (machine writes_nothing) o before (Log first_name, 0) start (Drew c.in_ok-_one._one) one.0) known_is one.2 in
    let target_is : target_of before ≡ small = ap target_of first.writes.1 ∙ rw (first.writes.2.counted.columns_stay, first.writes.2.counted.rows_stay) refl in
    let x = cut writes_nothing (target_of before) one.0 in
    let inside = (c.in_ok-resize.ensures.plays 0 one.0 one.1).0 in
    let sizes : SizedOn 3 4 before sized = c.in_ok-resize.ensures.sized in
    let size = subst (λ o. SizedOn 3 4 o sized) first.writes.1 sizes in
    let narrow_is : target_of sized ≡ narrow = ap target_of size.1 ∙ rw (size.2.columns_are, size.2.rows_are) refl in
    let other = c.in_ok-_other.ensures.leads 0 x inside in
    let second = subst (λ o. CallMade (machine writes_nothing) o after (Log short_name, 0) x (Drew c.in_ok-_other._other) other.0) size.1 other.2 in
    let logged : Runs (machine writes_nothing) (log_of first_name) (Drew c.in_ok-_one._one ∷ []) old start before one.0 = (before, one.0, first, (refl, refl)) in
    let logged_later : Runs (machine writes_nothing) (log_of short_name) (Drew c.in_ok-_other._other ∷ []) sized x after other.0 = (after, other.0, other.2, (refl, refl)) in
    let parts = Called (log_of first_name) (Drew c.in_ok-_one._one ∷ []) ∷ Size 3 4 ∷ Called (log_of short_name) (Drew c.in_ok-_other._other ∷ []) ∷ [] in
    let some : 0 < 3 = omega arith in
    let some_rows : 0 < 4 = omega arith in
    let plays : Plays (machine writes_nothing) (board_sizing writes_nothing 0) parts old start after other.0 =
    (before, one.0, logged, (sized, sizes, some, some_rows, (after, other.0, logged_later, (refl, refl)))) in
    let plain = c.plain_texts_give_plain_runs.ensures 0 (log_of first_name) (Drew c.in_ok-_one._one ∷ []) old start before one.0 logged
    (All-from_recursion (IsPlainMember writes_nothing) [] tt) (first_log_plain c.columns.ensures.printed writes_nothing) in
    let law = c.columns.ensures.printed in
    let plain_later = c.plain_texts_give_plain_runs.ensures 0 (log_of short_name) (Drew c.in_ok-_other._other ∷ []) sized x after other.0 logged_later plain.1 (short_log_plain law writes_nothing) in
    let shows = c.a_new_terminal_is_an_opening.ensures.shows 4 10 (omega arith) in
    let read = c.scripts_of_a_board.ensures.read 0 parts (view_of new_memory) start after other.0 plays (omega arith) refl refl (plain.0, (plain_later.0, tt)) (blank_screen 4 10)
    (blank_terminal 4 10, refl, shows) in
    let view_is : read.0 ≡ second.writes.0 = same_Some read.0 second.writes.0 (sym read.1 ∙ second.writes.1) in
    let columns : read.0.columns ≡ 3 = ap (λ v. v.columns) view_is ∙ second.writes.2.counted.columns_stay ∙ size.2.columns_are in
    let names = cut_names_read writes_nothing one.0 other.0 c.in_ok-_one._one c.in_ok-_other._other first.leads
    (subst (λ s. Leads (machine writes_nothing) narrow s ((machine writes_nothing).deed narrow (Log short_name) 0 s) (Drew c.in_ok-_other._other) other.0)
    (ap (λ t. cut writes_nothing t one.0) target_is)
    (subst (λ t. Leads (machine writes_nothing) t x ((machine writes_nothing).deed t (Log short_name) 0 x) (Drew c.in_ok-_other._other) other.0) narrow_is other.2.leads)) in
    let left = ap (option_map (λ t. t.now)) (sym c.in_ok-left.ensures.ok_part) ∙ c.term.ensures in
    let t = state_told c.in_ok-left.left.now read.0 read.2.0 (ap (option_map view_of) left ∙ read.1) read.2.1 in (
      read.2.2,
      c.in_ok-picture.ensures.picture
          ∙ ap (λ u. picture_text u.screen) t
          ∙ read.2.3
          ∙ ap (λ rows. map row_text (rows ++ all_rows read.0.columns other.0.lists) ++ replicate read.2.2 []) none_above
          ∙ ap (λ w. map row_text (all_rows w other.0.lists) ++ replicate read.2.2 []) columns
          ∙ ap (λ xs. xs ++ replicate read.2.2 []) names,
    )
