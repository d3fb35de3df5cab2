use Rattle.std.proofs.Common.{◌∙◌, ◌<◌, ap, sym, arith, length, subst, Result, Ok, Err}
use Rattle.std.specs.Prelude.{IfSome, IfOk, IfErr}
use Rattle.std.specs.VecDeque.{deque_len}
use Rattle.indicatif_term.specs.Target.{is_bottom}
use Rattle.indicatif_bar.specs.Bars.{lines_of_bar, lines_take_memory}
use Rattle.indicatif_board.proofs.MemberLemmas.{laid_at, lays_at, relaid_bars}
use Rattle.indicatif_board.proofs.shown_bars.ShownBars.lay_out.Goals as goal

when_ok : {X E : Type 0} {P Q : Type 0} (r : Result X E) → IfOk r (λ _. P) → (P → Q) → IfOk r (λ _. Q)
when_ok (Ok x) p f = f p
when_ok (Err e) p f = tt

when_err : {X E : Type 0} {P Q : E → Type 0} (r : Result X E) → IfErr r P → ((e : E) → P e → Q e) → IfErr r Q
when_err (Ok x) p f = tt
when_err (Err e) p f = f e p

pub invariant_of-self-clause-seated : goal.invariant_of-self-clause-seated
invariant_of-self-clause-seated g c =
    let b = c.args.self.now in
    let placed : c.in-Some.at < deque_len b.members = subst (λ o. IfSome o (λ at. at < deque_len b.members)) c.in-Some.is c.requires.placed in
    let within : c.in-Some.at < length b.frame.items = omega (arith, placed, b.even, b.members.ok, b.frame.ok) in
    relaid_bars b.frame.items c.in-Some.at c.index_mut.result.now c.relay.new.stored within c.index_mut.ensures.value ∙ b.seated

pub returns-in-Some-clause-laid : goal.returns-in-Some-clause-laid
returns-in-Some-clause-laid g c =
    let tracks = g.K.Tracks.means in
    let b = c.args.self.now in
    when_ok c.relay.result c.relay.ensures.lines (λ lines target s number columns placed holds.
    laid_at tracks b.frame.items b.members.items b.table.made
    (is_bottom b.alignment) s target c.args.now c.args.width c.in-Some.at c.index.result.now c.index_mut.result.now c.relay.new.stored
    columns holds c.index.ensures c.index_mut.ensures.value (lines ∙ ap (λ x. lines_of_bar tracks x c.args.now c.args.width) c.bar.ensures) number c.args.bar c.in-Some.is placed)

pub returns-in-Some-clause-memory : goal.returns-in-Some-clause-memory
returns-in-Some-clause-memory g c =
    let b = c.args.self.now in
    let placed : c.in-Some.at < deque_len b.members = subst (λ o. IfSome o (λ at. at < deque_len b.members)) c.in-Some.is c.requires.placed in
    let within : c.in-Some.at < length b.members.items = omega (arith, placed, b.members.ok) in
    when_err c.relay.result c.relay.ensures.memory (λ e short. (
      short.0,
      λ s number named holds.
          lays_at g.K.Tracks.means b.members.items s number c.args.bar c.in-Some.at c.index.result.now holds.members_are c.in-Some.is named within c.index.ensures
          (ap lines_take_memory (sym c.bar.ensures) ∙ short.1),
    ))
