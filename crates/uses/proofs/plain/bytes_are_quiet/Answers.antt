use Rattle.std.proofs.Common.{◌≡◌, refl, ◌∙◌, ap, subst, map, [], Some, None, option_map}
use Rattle.std.proofs.lemmas.List.Elements.{All-from_recursion}
use Rattle.std.specs.declared.io.ErrorKind.TheVariants.{Other}
use Rattle.indicatif_term.specs.Calls.{TermView, Bytes}
use Rattle.indicatif_term.specs.Target.{term_of, limiter_of}
use Rattle.indicatif_term.specs.Term.{view_behind}
use Rattle.indicatif_board.specs.Boards.{opening_board}
use Rattle.indicatif_board.specs.Calls.{answer_of, timed}
use Rattle.indicatif_board.specs.Multi.{IsIn, known, terminal_of}
use Rattle.indicatif_board.specs.PlainBoardLaws.{IsPlainMember}
use Rattle.uses.proofs.BytesLemmas.{quiet_told}
use Rattle.uses.proofs.PlainLemmas.{machine}
use Rattle.uses.proofs.StandingLemmas.{headline_on}
use Rattle.uses.proofs.plain.bytes_are_quiet.Goals as goal

pub returns : goal.returns
returns g c = λ calls_plain.
    let m = g.K.ProgressTracker.means in
    let view = view_behind (λ w. Some w.items) in
    let v : TermView = record { told = Bytes []; columns = 10; rows = 4; faults = 0; kind = Other } in
    let start = opening_board None in
    let fresh = c.new-term.ensures in
    let told = ap (λ xs. Some (record v { told = Bytes xs })) c.new-writer.ensures.items in
    let known_is : known view c.new-board.result ≡ Some v = ap (option_map view) (c.new-board.ensures.terminal ∙ ap term_of c.term_like.ensures) ∙ ap (λ t. Some (view t)) fresh ∙ told in
    let begun = subst (λ target. IsIn 0 c.new-board.result (opening_board (limiter_of target))) c.term_like.ensures c.new-board.ensures.state in
    let made = c.in_ok-_answers.ensures.run 0 start begun in
    let old = known view c.new-board.result in
    let last = known view c.run.new.self in
    let calls = map timed c.args.calls.items in
    let answers = map answer_of c.in_ok-_answers._answers.items in
    let plain = c.plain_texts_give_plain_runs.ensures 0 calls answers old start last made.0 made.2 (All-from_recursion (IsPlainMember m) [] tt) calls_plain in
    let painted = headline_on (machine m) calls answers v old start last made.0 made.2 known_is made.3 plain.0 in
    let p = painted.2 in
    quiet_told (λ w. w.items) (λ bytes. bytes.items) (terminal_of c.run.new.self) painted.0 p.bytes c.bytes_of.result painted.1 (p.told_is refl)
    (c.what_calm_bytes_hold.ensures _ p.bytes _ p.drawings) c.bytes_of.ensures
