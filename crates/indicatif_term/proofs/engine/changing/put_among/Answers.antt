use Rattle.std.proofs.Common.{◌≡◌, min, refl, append-nil, arith, sym, ◌∙◌, [], ◌-◌, ◌+◌, List, length, take, subst}
use Rattle.std.proofs.lemmas.Bool.{eqb-true}
use Rattle.std.proofs.lemmas.List.{nil_from_length, take_all}
use Rattle.indicatif_term.specs.Calls.{LeadsOn}
use Rattle.indicatif_term.specs.Inside.Changing.{placed_height, among_bytes}
use Rattle.std.specs.Prelude.{string_bytes}
use Rattle.indicatif_term.specs.Inside.Parting.{IsReady}
use Rattle.indicatif_term.specs.declared.engine.comparing.Step.TheVariants as Step
use Rattle.indicatif_term.specs.Standing.{placed}
use Rattle.indicatif_term.specs.declared.engine.remembered.StandingLine.{StandingLine}
use Rattle.indicatif_term.proofs.BesideLemmas.{ready_at, ready_take}
use Rattle.indicatif_term.proofs.CallTurnLemmas.{sends_then, sends_fail, reaches_none}
use Rattle.indicatif_term.proofs.WalkLemmas.{three, room_next, walk_next, down_after, walk_fails, nothing_among, upper_low, last_ready, last_low, among_split}
use Rattle.indicatif_term.proofs.engine.changing.put_among.Goals as goal
use Rattle.indicatif_term.proofs.engine.changing.put_among.Goals.{in-Leave, in-Within+in_ok-write_part-in-Within, in-Whole+in_ok-write_changed-in-Whole}

pub returns-then-is_empty : goal.returns-then-is_empty
returns-then-is_empty g c =
    let none : c.args.lines.now ≡ [] = nil_from_length c.args.lines.now (eqb-true (length c.args.lines.now) 0 (sym c.is_empty.ensures ∙ c.if-is_empty.true)) in
    let v = g.T.TermLike.view c.args.term.now in
    subst (λ (ls : List StandingLine). LeadsOn (among_bytes c.args.width c.args.taken (placed ls)) v v) (sym none) (reaches_none v)

pub returns-then-is_nothing : goal.returns-then-is_nothing
returns-then-is_nothing g c =
    let v = g.T.TermLike.view c.args.term.now in
    subst (λ b. LeadsOn b v v) (sym (nothing_among c.args.width c.args.taken (placed c.args.lines.now) (sym c.is_nothing.ensures ∙ c.if-is_nothing.true))) (reaches_none v)

pub returns-in_err-go_up : goal.returns-in_err-go_up
returns-in_err-go_up g c =
    let ls = c.args.lines.now in
    let e : c.saturating_sub.result + c.min.result ≡ placed_height (placed ls) - 1 + min c.args.taken 1 =
    omega (arith, c.saturating_sub.ensures, c.height_of.ensures, c.min.ensures, c.requires.small) in
    rw (among_split ls _ (sym c.is_empty.ensures ∙ c.if-is_empty.false) (sym c.index-lines-before.is) c.args.width c.args.taken (sym c.is_nothing.ensures ∙ c.if-is_nothing.false))
    (sends_fail _ _ c.from_residual.result c.from_residual.ensures.1 (rw e at c.in_err-go_up.ensures))

pub loop-line-init : goal.loop-line-init
loop-line-init g c =
    let e : c.saturating_sub.result + c.min.result ≡ placed_height (placed c.args.lines.now) - 1 + min c.args.taken 1 =
    omega (arith, c.saturating_sub.ensures, c.height_of.ensures, c.min.ensures, c.requires.small) in
    record { leads = rw append-nil (rw e at c.in_ok-go_up.ensures); down_is = refl }

pub overflow_add-down : goal.overflow_add-down
overflow_add-down g c =
    let low = upper_low c.args.lines.now _ (sym c.is_empty.ensures ∙ c.if-is_empty.false) (sym c.index-lines-before.is) c.requires.small in
    omega (arith, room_next _ c.loop-line.line-index c.line-item.result c.loop-line-test.true (sym c.line-item.is) low, c.loop-line.invariant.down_is)

pub write_part-requires-clause-small : goal.write_part-requires-clause-small
write_part-requires-clause-small g c =
    let low = upper_low c.args.lines.now _ (sym c.is_empty.ensures ∙ c.if-is_empty.false) (sym c.index-lines-before.is) c.requires.small in
    rw c.loop-line.invariant.down_is (room_next _ c.loop-line.line-index c.line-item.result c.loop-line-test.true (sym c.line-item.is) low)

pub write_part-requires-clause-part : goal.write_part-requires-clause-part
write_part-requires-clause-part g c =
    let x = c.line-item.result in
    subst (λ s. IsReady s (string_bytes x.before) (string_bytes x.text)) c.in-Within.is
    (ready_at _ c.loop-line.line-index x c.loop-line-test.true (sym c.line-item.is) (ready_take c.args.lines.now _ c.requires.ready))

pub returns-in_err-write_part-in-Within : goal.returns-in_err-write_part-in-Within
returns-in_err-write_part-in-Within g c =
    rw (among_split c.args.lines.now _ (sym c.is_empty.ensures ∙ c.if-is_empty.false) (sym c.index-lines-before.is) c.args.width c.args.taken (sym c.is_nothing.ensures ∙ c.if-is_nothing.false))
    (walk_fails _ c.loop-line.line-index c.line-item.result c.loop-line-test.true (sym c.line-item.is) _ _ (Step.Within c.in-Within.part) c.loop-line.down _ _ _ _
    c.from_residual-in_err-write_part-in-Within.result c.in-Within.is c.loop-line.invariant.down_is c.from_residual-in_err-write_part-in-Within.ensures.1 c.loop-line.invariant.leads
    c.in_err-write_part-in-Within.ensures)

pub returns-in_err-write_changed-in-Whole : goal.returns-in_err-write_changed-in-Whole
returns-in_err-write_changed-in-Whole g c =
    rw (among_split c.args.lines.now _ (sym c.is_empty.ensures ∙ c.if-is_empty.false) (sym c.index-lines-before.is) c.args.width c.args.taken (sym c.is_nothing.ensures ∙ c.if-is_nothing.false))
    (walk_fails _ c.loop-line.line-index c.line-item.result c.loop-line-test.true (sym c.line-item.is) _ _ Step.Whole c.loop-line.down _ _ _ _
    c.from_residual-in_err-write_changed-in-Whole.result c.in-Whole.is c.loop-line.invariant.down_is c.from_residual-in_err-write_changed-in-Whole.ensures.1 c.loop-line.invariant.leads
    c.in_err-write_changed-in-Whole.ensures)

pub loop-line-preserved : goal.loop-line-preserved
loop-line-preserved g c =
    let front = take (length c.args.lines.now - 1) c.args.lines.now in
    let i = c.loop-line.line-index in
    let x = c.line-item.result in
    let view = g.T.TermLike.view in
    let v = view c.args.term.now in
    let down = c.loop-line.down in
    let d = c.loop-line.invariant.down_is in
    let p = c.loop-line.invariant.leads in
    let h = c.loop-line-test.true in
    let e = sym c.line-item.is in
    elim c.match-line.branch [
      | in-Leave w ↦ rw (w.term-is, w.down-is) (record {
        leads = walk_next front i x h e _ Step.Leave down v _ _ w.in-Leave.is d p (reaches_none (view c.loop-line.term));
        down_is = down_after front i x h e Step.Leave down w.in-Leave.is d;
      })
      | in-Within+in_ok-write_part-in-Within w ↦ rw (w.term-is, w.down-is) (record {
        leads = walk_next front i x h e _ (Step.Within w.in-Within.part) down v _ (view w.write_part.new.term) w.in-Within.is d p w.in_ok-write_part-in-Within.ensures;
        down_is = down_after front i x h e (Step.Within w.in-Within.part) down w.in-Within.is d;
      })
      | in-Whole+in_ok-write_changed-in-Whole w ↦ rw (w.term-is, w.down-is) (record {
        leads = walk_next front i x h e _ Step.Whole down v _ (view w.write_changed.new.term) w.in-Whole.is d p w.in_ok-write_changed-in-Whole.ensures;
        down_is = down_after front i x h e Step.Whole down w.in-Whole.is d;
      })
    ]

pub write_last-requires-clause-small : goal.write_last-requires-clause-small
write_last-requires-clause-small g c =
    let front = take (length c.args.lines.now - 1) c.args.lines.now in
    let all : take c.loop-line.line-index front ≡ front = take_all c.loop-line.line-index front (omega arith) in
    last_low c.args.lines.now _ (sym c.is_empty.ensures ∙ c.if-is_empty.false) (sym c.index-lines-before.is) _ (rw all at c.loop-line.invariant.down_is) c.requires.small

pub write_last-requires-clause-ready : goal.write_last-requires-clause-ready
write_last-requires-clause-ready g c = last_ready c.args.lines.now _ (sym c.is_empty.ensures ∙ c.if-is_empty.false) (sym c.index-lines-before.is) c.requires.ready

pub returns : goal.returns
returns g c =
    let front = take (length c.args.lines.now - 1) c.args.lines.now in
    let all : take c.loop-line.line-index front ≡ front = take_all c.loop-line.line-index front (omega arith) in
    rw (
      among_split c.args.lines.now _ (sym c.is_empty.ensures ∙ c.if-is_empty.false) (sym c.index-lines-before.is) c.args.width c.args.taken
          (sym c.is_nothing.ensures ∙ c.if-is_nothing.false),
      ← three _ _ _,
    )
    (sends_then _ _ c.write_last.result (rw all at c.loop-line.invariant.leads) (rw (c.loop-line.invariant.down_is, all) at c.write_last.ensures))
