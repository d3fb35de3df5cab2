use Rattle.std.proofs.Common.{◌≡◌, ℕ, ◌+◌, ◌-◌, ◌≤◌, refl, sym, ◌∙◌, ap, subst, arith, length, map, take, ◌++◌, ◌∷◌, [], Some, None, option_map}
use Rattle.std.proofs.lemmas.Bool.{false≢true}
use Rattle.std.proofs.lemmas.List.Elements.{All-from_recursion}
use Rattle.std.specs.declared.io.ErrorKind.TheVariants.{Other}
use Rattle.indicatif_term.specs.Screen.{blank_screen}
use Rattle.indicatif_term.specs.Terminal.{blank_terminal, after}
use Rattle.indicatif_term.specs.Calls.{TermView, Bytes}
use Rattle.indicatif_term.specs.Target.{term_of, limiter_of}
use Rattle.indicatif_term.specs.Term.{view_behind}
use Rattle.indicatif_bar.specs.Runs.{CallMade, Runs}
use Rattle.indicatif_bar.specs.Trackers.{writes_nothing}
use Rattle.indicatif_board.specs.Boards.{Log, Drew, opening_board}
use Rattle.indicatif_board.specs.Multi.{IsIn, known}
use Rattle.indicatif_board.specs.PlainBoardLaws.{IsPlainCall, IsPlainMember}
use Rattle.uses.proofs.BytesLemmas.{both_told, bytes_told, read_behind}
use Rattle.uses.proofs.CutLemmas.{first_log_plain, second_log_plain}
use Rattle.uses.proofs.PlainLemmas.{first_name, second_name, machine}
use Rattle.uses.proofs.StandingLemmas.{above_stays_at, first_above, first_row, first_read, rows_of_first}
use Rattle.uses.proofs.plain.name_between_bytes.Goals as goal

pub returns : goal.returns
returns c = λ k enough.
    let m = writes_nothing in
    let view = view_behind (λ w. Some w.items) in
    let v : TermView = record { told = Bytes []; columns = 10; rows = 4; faults = 0; kind = Other } in
    let old = Some v in
    let start = opening_board None in
    let drawn = c.in_ok-_one._one in
    let drawn2 = c.in_ok-_other._other in
    let fresh = c.new-term.ensures in
    let told = ap (λ xs. Some (record v { told = Bytes xs })) c.new-writer.ensures.items in
    let known_is : known view c.new-board.result ≡ old = ap (option_map view) (c.new-board.ensures.terminal ∙ ap term_of c.term_like.ensures) ∙ ap (λ t. Some (view t)) fresh ∙ told in
    let begun = subst (λ target. IsIn 0 c.new-board.result (opening_board (limiter_of target))) c.term_like.ensures c.new-board.ensures.state in
    let one = c.in_ok-_one.ensures.leads 0 start begun in
    let between = known view c.println.new.self in
    let made = subst (λ o. CallMade (machine m) o between (Log first_name, 0) start (Drew drawn) one.0) known_is one.2 in
    let law = c.columns.ensures.printed in
    let call = (Log first_name, 0) ∷ [] in
    let first_run : Runs (machine m) call (Drew drawn ∷ []) old start between one.0 = (between, one.0, made, (refl, refl)) in
    let first = c.plain_texts_give_plain_runs.ensures 0 call (Drew drawn ∷ []) old start between one.0 first_run (All-from_recursion (IsPlainMember m) [] tt) (first_log_plain law m) in
    let painted = made.writes.2.paints first.0.0 in
    let above = first_above m one.0 drawn made.leads in
    let l = one.0.lists in
    let opening = blank_screen 4 10 in
    let shows = c.a_new_terminal_is_an_opening.ensures.shows 4 10 (omega arith) in
    let w = made.writes.0 in
    let there = after (blank_terminal 4 10) painted.bytes in
    let shown = (painted.rests refl opening (blank_terminal 4 10) (record { shows = λ _. shows; leads = λ e. absurd (false≢true e) })).shows above.1 in
    let placed = c.where_a_terminal_stands.ensures.shows w.columns w.rows opening l there above.1 shown in
    let other = c.in_ok-_other.ensures.leads 0 one.0 one.1 in
    let last = known view c.println-2.new.self in
    let made2 = subst (λ o. CallMade (machine m) o last (Log second_name, 0) one.0 (Drew drawn2) other.0) made.writes.1 other.2 in
    let call2 = (Log second_name, 0) ∷ [] in
    let second_run : Runs (machine m) call2 (Drew drawn2 ∷ []) (Some w) one.0 last other.0 = (last, other.0, made2, (refl, refl)) in
    let second = c.plain_texts_give_plain_runs.ensures 0 call2 (Drew drawn2 ∷ []) (Some w) one.0 last other.0 second_run first.1 (second_log_plain law m) in
    let painted2 = made2.writes.2.paints second.0.0 in
    let a = painted.bytes in
    let b = painted2.bytes in
    let both = both_told v w made2.writes.0 _ _ _ l _ painted painted2 refl in
    let got_a : c.in_ok-first.first.items ≡ a = bytes_told (λ w. w.items) _ w _ a made.writes.1 both.0 c.in_ok-first.ensures in
    let got_b : c.in_ok-all.all.items ≡ a ++ b = bytes_told (λ w. w.items) _ made2.writes.0 _ (a ++ b) made2.writes.1 both.1 c.in_ok-all.ensures in
    let counted = ap length c.as_slice-slice.ensures.value ∙ ap length got_a in
    let long : length a ≤ k = subst (λ n. n ≤ k) counted enough in
    let j = k - length a in
    let here = after there (take j b) in
    let stay = above_stays_at w made2.writes.0 _ l _ painted2 there placed j in
    let read = c.what_is_shown_is_read.ensures w.columns w.rows opening l there shown in
    let begins = first_read here.screen there.screen (rows_of_first 10) w.columns l read.0 above.0 stay read.1 in
    read_behind c.any_cut.ensures (blank_terminal 4 10) a b c.in_ok-all.all.items k got_b long (rows_of_first 10) first_name begins first_row
