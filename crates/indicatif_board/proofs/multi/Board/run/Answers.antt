use Rattle.std.proofs.Common.{ℕ, [], ◌∷◌, map, inl, refl, sym, ◌∙◌, ap, subst, arith, length-append}
use Rattle.std.specs.Prelude.{vec_len}
use Rattle.std.specs.List.{list_any}
use Rattle.std.proofs.lemmas.Bool.{eqb-true, or_parts}
use Rattle.std.proofs.lemmas.List.{map-append, map-id}
use Rattle.std.proofs.lemmas.Iterator.Adapters.{YieldsList-from_vec}
use Rattle.std.proofs.lemmas.Iterator.Consumers.{YieldsList-turn, YieldsList-end}
use Rattle.indicatif_bar.specs.Runs.{Runs, wrote}
use Rattle.indicatif_bar.proofs.RunLemmas.{nothing, runs-push, headline}
use Rattle.indicatif_bar.proofs.LoneRunLemmas.{any-push}
use Rattle.indicatif_board.specs.BoardBars.{board_bars}
use Rattle.indicatif_board.specs.Boards.{drawn_of, board}
use Rattle.indicatif_board.specs.declared.calls.Answer.{Answer as AnswerValue}
use Rattle.indicatif_board.specs.declared.calls.Call.{Call as CallValue}
use Rattle.indicatif_board.specs.Calls.{timed, call_of, answer_of, AreTurnedAway, NamesForeign, acts_on}
use Rattle.indicatif_board.specs.Multi.{Keeps, known, mark_of, slots_of, StaysOrComes}
use Rattle.indicatif_board.proofs.KeepsLemmas.{kept_both}
use Rattle.indicatif_board.proofs.RunRecordLemmas.{turned_more, records_more, made_before, slots_more}
use Rattle.indicatif_board.proofs.multi.Board.run.Goals as goal

pub returns-then-is_empty-clause-run : goal.returns-then-is_empty-clause-run
returns-then-is_empty-clause-run g c = λ mark s inside.
    let machine = board (board_bars g.K.Tracks.means) mark in
    let old = known g.T.TermLike.view c.args.self.now in
    let none = nothing c.args.calls.items (omega (arith, eqb-true (vec_len c.args.calls) 0 (sym c.is_empty.ensures ∙ c.if-is_empty.true), c.args.calls.ok)) in
    let run = subst (λ xs. Runs machine (map timed xs) (map answer_of c.new.result.items) old s old s) (sym none)
    (subst (λ xs. Runs machine [] (map answer_of xs) old s old s) (sym c.new.ensures.items) (refl, refl)) in
    (s, inside, run, headline machine (map timed c.args.calls.items) (map answer_of c.new.result.items) old s old s run)

pub loop-call-init : goal.loop-call-init
loop-call-init g c = record {
  counted = c.in_ok-answers.ensures.len;
  room = omega (arith, c.in_ok-answers.ensures.capacity, c.len.ensures, c.args.calls.ok);
  ran = λ mark s inside.
      let old = known g.T.TermLike.view c.args.self.now in
      (s, inside, subst (λ xs. Runs (board (board_bars g.K.Tracks.means) mark) [] (map answer_of xs) old s old s) (sym c.in_ok-answers.ensures.items) (refl, refl));
  keeps = (refl, refl, λ quiet. refl, λ none. rw c.in_ok-answers.ensures.items refl);
  foreign = subst (λ xs. AreTurnedAway {K = g.row.K.Denot} (mark_of c.args.self.now) [] (map answer_of xs)) (sym c.in_ok-answers.ensures.items) tt;
  records = λ number apart. inl refl;
  slots = λ number slot stood. (inl stood, made_before (slots_of c.args.self.now) number slot c.order.ensures.seated stood);
}

pub push_reserved-requires : goal.push_reserved-requires
push_reserved-requires g c =
    let t = YieldsList-turn (YieldsList-from_vec c.args.calls.items c.into_iter-call-iterator.ensures.into_iter_gives.0
    (omega (arith, c.into_iter-call-iterator.ensures.into_iter_gives.1, c.args.calls.ok))) c.loop-call.yielded c.loop-call.call-iterator c.loop-call.yielded_by c.next.result c.next.new.self
    (c.in-Some.call, c.in-Some.now) c.in-Some.is c.next.ensures.steps in
    omega (arith, t.0, c.loop-call.invariant.counted, c.loop-call.invariant.room)

pub loop-call-preserved : goal.loop-call-preserved
loop-call-preserved g c = record {
  counted = omega (arith, c.push_reserved.ensures.len, c.loop-call.invariant.counted, length-append c.loop-call.yielded ((c.in-Some.call, c.in-Some.now) ∷ []));
  room = omega (arith, c.push_reserved.ensures.capacity, c.loop-call.invariant.room);
  ran = λ mark s inside.
      let before = c.loop-call.invariant.ran mark s inside in
      let made = c.call-answer.ensures.leads mark before.0 before.1 in (
        made.0,
        made.1,
        rw (c.push_reserved.ensures.items, map-append, map-append)
            (runs-push (board (board_bars g.K.Tracks.means) mark) _ _ (known g.T.TermLike.view c.args.self.now) s (known g.T.TermLike.view c.loop-call.self) before.0
            (known g.T.TermLike.view c.call-answer.new.self) made.0 (timed (c.in-Some.call, c.in-Some.now)) (answer_of c.call-answer.result) before.2 made.2),
      );
  keeps =
      let wrote_so = λ (answer : AnswerValue). wrote (drawn_of (answer_of answer)) in
      let view = g.T.TermLike.view in
      let written = list_any wrote_so c.loop-call.answers.items in
      subst (λ w. Keeps view w c.args.self.now c.call-answer.new.self)
      (sym (ap (list_any wrote_so) c.push_reserved.ensures.items ∙ any-push wrote_so c.loop-call.answers.items c.call-answer.result))
      (kept_both view c.args.self.now c.loop-call.self c.call-answer.new.self written (wrote_so c.call-answer.result) c.loop-call.invariant.keeps c.call-answer.ensures.keeps);
  foreign = rw (c.push_reserved.ensures.items, map-append, map-append)
      (turned_more (mark_of c.args.self.now) (map timed c.loop-call.yielded) (map answer_of c.loop-call.answers.items) (timed (c.in-Some.call, c.in-Some.now)) (answer_of c.call-answer.result)
      c.loop-call.invariant.foreign (λ foreign. (c.call-answer.ensures.foreign (subst (λ mark. NamesForeign mark (call_of c.in-Some.call)) (sym c.loop-call.invariant.keeps.0) foreign)).0));
  records = λ number apart.
      let tracks = g.K.Tracks.means in
      let acted = λ (call : CallValue g.row.K.Denot × ℕ). acts_on (mark_of c.args.self.now) number (call_of call.0) in
      let parts = or_parts (list_any acted c.loop-call.yielded) (acted (c.in-Some.call, c.in-Some.now)) (sym (any-push acted c.loop-call.yielded (c.in-Some.call, c.in-Some.now)) ∙ apart) in
      subst (λ xs. StaysOrComes number xs c.args.self.now c.call-answer.new.self) (sym c.push_reserved.ensures.items)
      (records_more tracks number c.loop-call.answers.items (call_of c.in-Some.call) c.in-Some.now c.call-answer.result c.args.self.now c.loop-call.self c.call-answer.new.self
      (c.loop-call.invariant.records number parts.0) c.call-answer.ensures.records (ap (λ mark. acts_on mark number (call_of c.in-Some.call)) c.loop-call.invariant.keeps.0 ∙ parts.1));
  slots = λ number slot stood.
      let before = c.loop-call.invariant.slots number slot stood in
      slots_more (call_of c.in-Some.call) (answer_of c.call-answer.result) c.loop-call.self c.call-answer.new.self number slot
      c.order-in-loop-call.ensures.seated c.call-answer.ensures.slots before.0 before.1;
}

pub returns-clause-run : goal.returns-clause-run
returns-clause-run g c =
    let t = YieldsList-end (YieldsList-from_vec c.args.calls.items c.into_iter-call-iterator.ensures.into_iter_gives.0
    (omega (arith, c.into_iter-call-iterator.ensures.into_iter_gives.1, c.args.calls.ok))) c.loop-call.yielded c.loop-call.call-iterator c.loop-call.yielded_by c.next.result c.next.new.self
    c.in-None.is c.next.ensures.steps in
    λ mark s inside.
    let machine = board (board_bars g.K.Tracks.means) mark in
    let old = known g.T.TermLike.view c.args.self.now in
    let new = known g.T.TermLike.view c.loop-call.self in
    let all = c.loop-call.invariant.ran mark s inside in
    let answers = map answer_of c.loop-call.answers.items in
    let run = subst (λ xs. Runs machine (map timed xs) answers old s new all.0) (sym (map-id c.loop-call.yielded) ∙ t.0) all.2 in
    (all.0, all.1, run, headline machine (map timed c.args.calls.items) answers old s new all.0 run)

pub returns-then-is_empty-clause-foreign : goal.returns-then-is_empty-clause-foreign
returns-then-is_empty-clause-foreign g c =
    let none = nothing c.args.calls.items (omega (arith, eqb-true (vec_len c.args.calls) 0 (sym c.is_empty.ensures ∙ c.if-is_empty.true), c.args.calls.ok)) in
    subst (λ xs. AreTurnedAway {K = g.row.K.Denot} (mark_of c.args.self.now) (map timed xs) (map answer_of c.new.result.items)) (sym none)
    (subst (λ xs. AreTurnedAway {K = g.row.K.Denot} (mark_of c.args.self.now) [] (map answer_of xs)) (sym c.new.ensures.items) tt)

pub returns-then-is_empty-clause-records : goal.returns-then-is_empty-clause-records
returns-then-is_empty-clause-records g c = λ number apart. inl refl

pub returns-clause-foreign : goal.returns-clause-foreign
returns-clause-foreign g c =
    let t = YieldsList-end (YieldsList-from_vec c.args.calls.items c.into_iter-call-iterator.ensures.into_iter_gives.0
    (omega (arith, c.into_iter-call-iterator.ensures.into_iter_gives.1, c.args.calls.ok))) c.loop-call.yielded c.loop-call.call-iterator c.loop-call.yielded_by c.next.result c.next.new.self
    c.in-None.is c.next.ensures.steps in
    subst (λ xs. AreTurnedAway {K = g.row.K.Denot} (mark_of c.args.self.now) (map timed xs) (map answer_of c.loop-call.answers.items))
    (sym (map-id c.loop-call.yielded) ∙ t.0) c.loop-call.invariant.foreign

pub returns-clause-records : goal.returns-clause-records
returns-clause-records g c =
    let t = YieldsList-end (YieldsList-from_vec c.args.calls.items c.into_iter-call-iterator.ensures.into_iter_gives.0
    (omega (arith, c.into_iter-call-iterator.ensures.into_iter_gives.1, c.args.calls.ok))) c.loop-call.yielded c.loop-call.call-iterator c.loop-call.yielded_by c.next.result c.next.new.self
    c.in-None.is c.next.ensures.steps in
    λ number apart.
    let acted = λ (call : CallValue g.row.K.Denot × ℕ). acts_on (mark_of c.args.self.now) number (call_of call.0) in
    c.loop-call.invariant.records number (ap (list_any acted) (sym (map-id c.loop-call.yielded) ∙ t.0) ∙ apart)

pub returns-then-is_empty-clause-slots : goal.returns-then-is_empty-clause-slots
returns-then-is_empty-clause-slots g c = λ number slot stood. inl stood

pub returns-in_err-answers-clause-slots : goal.returns-in_err-answers-clause-slots
returns-in_err-answers-clause-slots g c = λ number slot stood. inl stood

pub returns-clause-slots : goal.returns-clause-slots
returns-clause-slots g c = λ number slot stood. (c.loop-call.invariant.slots number slot stood).0
