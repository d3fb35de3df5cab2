use Rattle.std.proofs.Common.{◌≡◌, ◌++◌, ◌∷◌, [], map, refl, sym, ap, ◌∙◌, subst, inl}
use Rattle.indicatif_bar.specs.Machines.{target_of}
use Rattle.indicatif_board.specs.Calls.{call_of, answer_of}
use Rattle.indicatif_board.specs.Multi.{known}
use Rattle.indicatif_board.specs.Recorded.{Record, AddsCall, IsRun, step_of, target_by}
use Rattle.indicatif_board.specs.declared.recorded.Entry.{Entry}
use Rattle.indicatif_board.proofs.RecordLemmas.{steps_more, run_grows, run_goes_on, grown_so}
use Rattle.indicatif_board.proofs.recorded.Recorded.apply.Given.{Over}
use Rattle.indicatif_board.proofs.recorded.Recorded.apply.Goals as goal

-- the history with the call
abbrev now : (g : Over) (c : goal.After-push_reserved g) → Record g.row.K.Denot g.row.T.Denot
now g c = record {
  mark = c.self.inside.opening.mark;
  limiter = c.self.inside.opening.limiter;
  target = target_by c.self.inside.opening.size;
  board = c.apply-answer.new.self;
  steps = map step_of c.push_reserved.new.self.items;
}

more : (g : Over) (c : goal.After-push_reserved g) → map step_of c.push_reserved.new.self.items
    ≡ map step_of c.self.inside.entries.items ++ record { call = call_of c.args.call; now = c.args.now; answer = answer_of c.apply-answer.result.0 } ∷ []
more g c =
    let entry : Entry g.row.K.Denot = record { call = c.in-Ok.copy; now = c.args.now; answer = c.same.result } in
    steps_more c.self.inside.entries.items c.push_reserved.new.self.items entry _ _ _
    (c.push_reserved.ensures.items ∙ ap (λ xs. xs ++ entry ∷ []) c.reserve.ensures.items) c.in-Ok.ensures.same refl (ap answer_of c.same.ensures)

size : (g : Over) (c : goal.After-push_reserved g) → target_of (known g.T.TermLike.view c.self.inside.board) ≡ target_by c.self.inside.opening.size
size g c = sym c.size_of.ensures ∙ ap target_by (c.is_as_large.ensures c.if-not-is_as_large.false)

pub invariant_of-self-2 : goal.invariant_of-self-2
invariant_of-self-2 g c =
    run_grows g.K.Tracks.means g.T.TermLike.view c.self.inside.opening.mark c.self.inside.opening.limiter (target_by c.self.inside.opening.size) c.self.inside.board c.apply-answer.new.self
    (map step_of c.self.inside.entries.items) (map step_of c.push_reserved.new.self.items) (call_of c.args.call) c.args.now (answer_of c.apply-answer.result.0)
    (more g c) (size g c) c.apply-answer.ensures.leads c.self.invariant

pub returns-clause-grows : goal.returns-clause-grows
returns-clause-grows g c =
    inl (subst (λ old. AddsCall g.K.Tracks.means g.T.TermLike.view old (call_of c.args.call) c.args.now (answer_of c.apply-answer.result.0) (now g c)) c.self.view_is
    (grown_so g.K.Tracks.means g.T.TermLike.view c.self.inside.opening.mark c.self.inside.opening.limiter (target_by c.self.inside.opening.size) c.self.inside.board c.apply-answer.new.self
    (map step_of c.self.inside.entries.items) (map step_of c.push_reserved.new.self.items) (call_of c.args.call) c.args.now (answer_of c.apply-answer.result.0)
    (more g c) (size g c) c.apply-answer.ensures.leads c.apply-answer.ensures.slots c.apply-answer.ensures.records))

pub returns-clause-goes_on : goal.returns-clause-goes_on
returns-clause-goes_on g c = λ opened was.
    run_goes_on g.K.Tracks.means g.T.TermLike.view c.self.inside.opening.mark c.self.inside.opening.limiter (target_by c.self.inside.opening.size) c.self.inside.board c.apply-answer.new.self
    (map step_of c.self.inside.entries.items) (map step_of c.push_reserved.new.self.items) (call_of c.args.call) c.args.now (answer_of c.apply-answer.result.0)
    (more g c) c.apply-answer.ensures.leads opened
    (subst (λ (old : Record g.row.K.Denot g.row.T.Denot). IsRun g.K.Tracks.means opened old (known g.T.TermLike.view old.board)) (sym c.self.view_is) was)
