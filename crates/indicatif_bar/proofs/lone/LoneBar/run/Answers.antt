use Rattle.std.proofs.Common.{[], ◌∷◌, map, refl, sym, ◌∙◌, ap, subst, Err, arith, length-append, option_map}
use Rattle.std.specs.List.{list_any}
use Rattle.std.specs.Prelude.{◌≢◌, vec_len}
use Rattle.std.proofs.lemmas.Bool.{or_parts, eqb-true}
use Rattle.std.proofs.lemmas.List.Elements.{recursion_from_All}
use Rattle.indicatif_text.specs.declared.refusal.Refusal.TheVariants.{Memory}
use Rattle.std.proofs.lemmas.List.{map-append}
use Rattle.std.proofs.lemmas.Iterator.Adapters.{YieldsList-from_vec}
use Rattle.std.proofs.lemmas.Iterator.Consumers.{YieldsList-turn, YieldsList-end}
use Rattle.std.proofs.lemmas.List.{map-id}
use Rattle.indicatif_bar.specs.Runs.{Runs, wrote}
use Rattle.indicatif_bar.specs.Machines.{target_of}
use Rattle.indicatif_bar.specs.LoneBars.{RecordsGo, lone_call_of, lone_bar, record_of, lone_terminal, lone_timed}
use Rattle.indicatif_bar.proofs.LoneRunLemmas.{goes_by, goes-push, go_as_told, any-push}
use Rattle.indicatif_bar.proofs.RunLemmas.{nothing, runs-push, headline}
use Rattle.indicatif_bar.proofs.lone.LoneBar.run.Goals as goal

pub returns-then-is_empty-clause-run : goal.returns-then-is_empty-clause-run
returns-then-is_empty-clause-run g c = λ s inside.
    let machine = lone_bar g.K.Tracks.means in
    let old = option_map g.T.TermLike.view (lone_terminal c.args.self.now) in
    let none = nothing c.args.calls.items (omega (arith, eqb-true (vec_len c.args.calls) 0 (sym c.is_empty.ensures ∙ c.if-is_empty.true), c.args.calls.ok)) in
    let run = subst (λ xs. Runs machine (map lone_timed xs) c.new.result.items old s old s) (sym none)
    (subst (λ xs. Runs machine [] xs old s old s) (sym c.new.ensures.items) (refl, refl)) in
    (s, inside, run, headline machine (map lone_timed c.args.calls.items) c.new.result.items old s old s run)

pub loop-call-init : goal.loop-call-init
loop-call-init g c = record {
  counted = c.in_ok-answers.ensures.len;
  room = omega (arith, c.in_ok-answers.ensures.capacity, c.len.ensures, c.args.calls.ok);
  ran = λ s inside. (
    s,
    inside,
    subst (λ xs. Runs (lone_bar g.K.Tracks.means) [] xs (option_map g.T.TermLike.view (lone_terminal c.args.self.now)) s
        (option_map g.T.TermLike.view (lone_terminal c.args.self.now)) s) (sym c.in_ok-answers.ensures.items) (refl, refl),
  );
  went = let bar = record_of c.args.self.now in subst (λ xs. RecordsGo g.K.Tracks.means [] xs bar bar) (sym c.in_ok-answers.ensures.items) refl;
  silent = λ quiet. refl;
  nowhere = λ none. rw c.in_ok-answers.ensures.items refl;
  moves = refl;
}

pub push_reserved-requires : goal.push_reserved-requires
push_reserved-requires g c =
    let t = YieldsList-turn (YieldsList-from_vec c.args.calls.items c.into_iter-call-iterator.ensures.into_iter_gives.0
    (omega (arith, c.into_iter-call-iterator.ensures.into_iter_gives.1, c.args.calls.ok))) c.loop-call.yielded c.loop-call.call-iterator c.loop-call.yielded_by c.next.result c.next.new.self
    (c.in-Some.call, c.in-Some.now) c.in-Some.is c.next.ensures.steps in
    omega (arith, t.0, c.loop-call.invariant.counted, c.loop-call.invariant.room)

pub loop-call-preserved : goal.loop-call-preserved
loop-call-preserved g c = record {
  counted = omega (arith, c.push_reserved.ensures.len, c.loop-call.invariant.counted, length-append c.loop-call.yielded ((c.in-Some.call, c.in-Some.now) ∷ []));
  room = omega (arith, c.push_reserved.ensures.capacity, c.loop-call.invariant.room);
  ran = λ s inside.
      let before = c.loop-call.invariant.ran s inside in
      let made = c.call-answer.ensures.leads before.0 before.1 in (
        made.0,
        made.1,
        rw (c.push_reserved.ensures.items, map-append)
            (runs-push (lone_bar g.K.Tracks.means) _ _
            (option_map g.T.TermLike.view (lone_terminal c.args.self.now)) s (option_map g.T.TermLike.view (lone_terminal c.loop-call.self)) before.0
            (option_map g.T.TermLike.view (lone_terminal c.call-answer.new.self)) made.0 (lone_timed (c.in-Some.call, c.in-Some.now)) c.call-answer.result before.2 made.2),
      );
  went =
      let made = goes_by g.K.Tracks.means c.loop-call.self c.call-answer.new.self (lone_call_of c.in-Some.call) c.in-Some.now c.call-answer.result c.call-answer.ensures.bar in
      rw (c.push_reserved.ensures.items, map-append)
      (goes-push g.K.Tracks.means _ _ (record_of c.args.self.now) (record_of c.loop-call.self) (record_of c.call-answer.new.self) (lone_timed (c.in-Some.call, c.in-Some.now))
      c.call-answer.result c.loop-call.invariant.went made);
  silent = λ quiet.
      let parts = or_parts (list_any wrote c.loop-call.answers.items) (wrote c.call-answer.result)
      (sym (ap (list_any wrote) c.push_reserved.ensures.items ∙ any-push wrote c.loop-call.answers.items c.call-answer.result) ∙ quiet) in
      c.call-answer.ensures.silent parts.1 ∙ c.loop-call.invariant.silent parts.0;
  nowhere = λ none.
      let before = c.loop-call.invariant.nowhere none in
      let here = c.call-answer.ensures.nowhere (ap (λ o. (target_of (option_map g.T.TermLike.view o)).columns) (c.loop-call.invariant.silent before) ∙ none) in
      ap (list_any wrote) c.push_reserved.ensures.items ∙ any-push wrote c.loop-call.answers.items c.call-answer.result ∙ rw (before, here) refl;
  moves = c.call-answer.ensures.moves ∙ c.loop-call.invariant.moves;
}

pub returns-clause-run : goal.returns-clause-run
returns-clause-run g c =
    let t = YieldsList-end (YieldsList-from_vec c.args.calls.items c.into_iter-call-iterator.ensures.into_iter_gives.0
    (omega (arith, c.into_iter-call-iterator.ensures.into_iter_gives.1, c.args.calls.ok))) c.loop-call.yielded c.loop-call.call-iterator c.loop-call.yielded_by c.next.result c.next.new.self
    c.in-None.is c.next.ensures.steps in
    λ s inside.
    let old = option_map g.T.TermLike.view (lone_terminal c.args.self.now) in
    let new = option_map g.T.TermLike.view (lone_terminal c.loop-call.self) in
    let all = c.loop-call.invariant.ran s inside in
    let run = subst (λ xs. Runs (lone_bar g.K.Tracks.means) (map lone_timed xs) c.loop-call.answers.items old s new all.0) (sym (map-id c.loop-call.yielded) ∙ t.0) all.2 in
    (all.0, all.1, run, headline (lone_bar g.K.Tracks.means) (map lone_timed c.args.calls.items) c.loop-call.answers.items old s new all.0 run)

pub returns-clause-ample : goal.returns-clause-ample
returns-clause-ample g c =
    let tracks = g.K.Tracks.means in
    let t = YieldsList-end (YieldsList-from_vec c.args.calls.items c.into_iter-call-iterator.ensures.into_iter_gives.0
    (omega (arith, c.into_iter-call-iterator.ensures.into_iter_gives.1, c.args.calls.ok))) c.loop-call.yielded c.loop-call.call-iterator c.loop-call.yielded_by c.next.result c.next.new.self
    c.in-None.is c.next.ensures.steps in
    let old = record_of c.args.self.now in
    let new = record_of c.loop-call.self in
    λ ample.
    go_as_told tracks (map lone_timed c.args.calls.items) c.loop-call.answers.items old new (recursion_from_All (λ answer. answer ≢ Err Memory) c.loop-call.answers.items ample)
    (subst (λ xs. RecordsGo tracks (map lone_timed xs) c.loop-call.answers.items old new) (sym (map-id c.loop-call.yielded) ∙ t.0) c.loop-call.invariant.went)
