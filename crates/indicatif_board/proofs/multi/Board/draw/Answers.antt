use Rattle.std.proofs.Common.{◌≡◌, ◌<◌, ◌∙◌, refl, sym, ap, subst, map, take, drop, arith, option_map, Ok, Err, Some, inl, inr}
use Rattle.std.specs.Prelude.{min}
use Rattle.std.specs.VecDeque.{deque_with_items}
use Rattle.std.proofs.lemmas.Result.{err_from_is_err_and}
use Rattle.std.proofs.lemmas.List.Sums.{prefix_len-le-length}
use Rattle.indicatif_text.specs.declared.refusal.Drawn.TheVariants.{Limited}
use Rattle.indicatif_text.specs.declared.refusal.Refusal.TheVariants.{NoColumns}
use Rattle.indicatif_term.specs.Engines.{engine_moves, engine_term}
use Rattle.indicatif_term.specs.declared.target.lines.Segment.{Segment}
use Rattle.indicatif_term.specs.Target.{is_bottom}
use Rattle.indicatif_bar.specs.Machines.{Target, target_of}
use Rattle.indicatif_bar.specs.Stages.{writing_as}
use Rattle.indicatif_bar.proofs.OutcomeLemmas.{drew_none, outcome-unasked}
use Rattle.indicatif_bar.proofs.StageLemmas.{drew_hidden}
use Rattle.indicatif_board.specs.BoardBars.{board_bars}
use Rattle.indicatif_board.specs.Boards.{draw_of, board}
use Rattle.indicatif_board.specs.Inside.ShownBars.{named_laid_out, named_layout_takes}
use Rattle.indicatif_board.specs.Multi.{IsIn, known}
use Rattle.indicatif_board.specs.ShownBars.{AreShownAs, record_on}
use Rattle.indicatif_board.specs.Slots.{SlotTable}
use Rattle.indicatif_board.proofs.BarRecordLemmas.{evenly, left_head, left_record}
use Rattle.indicatif_board.proofs.MemberLemmas.{dropped_bars}
use Rattle.indicatif_board.proofs.BoardDrawLemmas.{withheld_to, limited_to, failed_to, written_to}
use Rattle.indicatif_board.proofs.LeavingLemmas.{same_left, none_left}
use Rattle.indicatif_board.proofs.multi.Board.draw.Goals as goal

pub returns-then-is_no-clause-drew : goal.returns-then-is_no-clause-drew
unfolding IsIn
returns-then-is_no-clause-drew g c = λ mark takes s number inside placed.
    let tracks = g.K.Tracks.means in
    let old = known g.T.TermLike.view c.args.self.now in
    let target = target_of old in
    let d = draw_of target takes c.args.ask c.args.now (writing_as c.args.writing) s (named_laid_out tracks target c.args.now number s) (named_layout_takes tracks number s) in
    (s, inside, drew_none (board (board_bars tracks) mark) old d s.lists (Ok Limited) s refl refl (outcome-unasked target d (sym c.is_no.ensures ∙ c.if-is_no.true)))

pub returns-then-width-eq0-clause-drew : goal.returns-then-width-eq0-clause-drew
unfolding IsIn
returns-then-width-eq0-clause-drew g c = λ mark takes s number inside placed.
    let view = g.T.TermLike.view in
    let none : (view (engine_term c.in-Some.engine)).columns ≡ 0 = ap (λ t. (view t).columns) (sym c.term.ensures.terminal) ∙ sym c.width-width.ensures ∙ c.if-width-eq0.true in
    let d = withheld_to g.K.Tracks.means view mark takes c.args.ask c.args.now (writing_as c.args.writing) s number c.args.self.now.stage c.in-Some.engine c.in-Some.is
    (sym c.is_no.ensures ∙ c.if-is_no.false) inside.2 (AreShownAs c.note_place.new.self) (subst (λ b. AreShownAs b s) (sym c.note_place.ensures) inside.1) NoColumns
    (inl (refl, none)) (λ e. cc) in
    (d.0, (inside.0, d.1, d.2), d.3)

pub returns-in_err-lay_out-clause-drew : goal.returns-in_err-lay_out-clause-drew
unfolding IsIn
returns-in_err-lay_out-clause-drew g c = λ mark takes s number inside placed.
    let view = g.T.TermLike.view in
    let some : 0 < (view (engine_term c.in-Some.engine)).columns = omega (arith, ap (λ t. (view t).columns) c.term.ensures.terminal, c.width-width.ensures, c.if-width-eq0.false) in
    let holds : AreShownAs c.note_place.new.self s = subst (λ b. AreShownAs b s) (sym c.note_place.ensures) inside.1 in
    let x = err_from_is_err_and c.from_residual.result c.from_residual.ensures.1 in
    let memory = c.in_err-lay_out.ensures.memory in
    rw (x.1 ∙ ap Err x.2, c.in_err-lay_out.ensures.unchanged)
    (let d = withheld_to g.K.Tracks.means view mark takes c.args.ask c.args.now (writing_as c.args.writing) s number c.args.self.now.stage c.in-Some.engine c.in-Some.is
    (sym c.is_no.ensures ∙ c.if-is_no.false) inside.2 (AreShownAs c.note_place.new.self) holds c.in_err-lay_out.field-0.0 (inr (memory.0, some)) (λ e. memory.1 s number placed holds) in
    (d.0, (inside.0, d.1, d.2), d.3))

pub returns-then-not-allows-clause-drew : goal.returns-then-not-allows-clause-drew
unfolding IsIn
returns-then-not-allows-clause-drew g c = λ mark takes s number inside placed.
    let view = g.T.TermLike.view in
    let some : 0 < (view (engine_term c.in-Some.engine)).columns = omega (arith, ap (λ t. (view t).columns) c.term.ensures.terminal, c.width-width.ensures, c.if-width-eq0.false) in
    let laid = c.in_ok-lay_out.ensures.laid (target_of (Some (view (engine_term c.in-Some.engine)))) s number (ap (λ t. (view t).columns) (sym c.term.ensures.terminal) ∙ sym c.width-width.ensures)
    placed (subst (λ b. AreShownAs b s) (sym c.note_place.ensures) inside.1) in
    let b = c.lay_out.new.self in
    let d = limited_to g.K.Tracks.means view mark takes c.args.ask c.args.now (writing_as c.args.writing) s number c.args.self.now.stage c.in-Some.engine c.in-Some.is
    (sym c.is_no.ensures ∙ c.if-is_no.false) inside.2 some c.allows.result c.allows.new.limiter (sym c.allows.ensures.answer) c.allows.ensures.next
    b.frame.items b.members.items b.table.made (is_bottom b.alignment) laid c.if-not-allows.true in
    (d.0, (inside.0, d.1, d.2), d.3)

pub returns-in_err-put-clause-drew : goal.returns-in_err-put-clause-drew
unfolding IsIn
returns-in_err-put-clause-drew g c = λ mark takes s number inside placed.
    let view = g.T.TermLike.view in
    let some : 0 < (view (engine_term c.in-Some.engine)).columns = omega (arith, ap (λ t. (view t).columns) c.term.ensures.terminal, c.width-width.ensures, c.if-width-eq0.false) in
    let laid = c.in_ok-lay_out.ensures.laid (target_of (Some (view (engine_term c.in-Some.engine)))) s number (ap (λ t. (view t).columns) (sym c.term.ensures.terminal) ∙ sym c.width-width.ensures)
    placed (subst (λ b. AreShownAs b s) (sym c.note_place.ensures) inside.1) in
    let b = c.lay_out.new.self in
    let bottom = is_bottom b.alignment in
    let shown = c.make_contiguous.result.now in
    let gone = c.leading-gone.result in
    let end = c.bars_in_window-end.result in
    let engine' = c.put.new.engine in
    let e = c.in_err-put.field-0.0 in
    let kept = c.make_contiguous.ensures.writes_back shown c.make_contiguous.ensures.len ∙ c.make_contiguous.ensures.value in
    let x = err_from_is_err_and c.from_residual-in_err-put.result c.from_residual-in_err-put.ensures.1 in
    rw (x.1 ∙ ap Err x.2)
    (let d = failed_to g.K.Tracks.means view mark takes c.args.ask c.args.now (writing_as c.args.writing) s number c.args.self.now.stage c.in-Some.engine c.in-Some.is
    (sym c.is_no.ensures ∙ c.if-is_no.false) inside.2 some c.allows.result c.allows.new.limiter (sym c.allows.ensures.answer) c.allows.ensures.next
    b.frame.items b.members.items b.table.made bottom laid c.if-not-allows.false engine' gone c.min.result (min gone end) shown (take end shown) c.leading-gone.ensures c.min.ensures
    c.make_contiguous.ensures.value (deque_with_items b.frame shown).items kept e (c.bars_in_window-end.ensures.sees bottom engine' (Err e)) c.in_err-put.ensures in
    (d.0, (inside.0, d.1, d.2), d.3))

pub returns-clause-drew : goal.returns-clause-drew
unfolding IsIn
returns-clause-drew g c = λ mark takes s number inside placed.
    let view = g.T.TermLike.view in
    let some : 0 < (view (engine_term c.in-Some.engine)).columns = omega (arith, ap (λ t. (view t).columns) c.term.ensures.terminal, c.width-width.ensures, c.if-width-eq0.false) in
    let laid = c.in_ok-lay_out.ensures.laid (target_of (Some (view (engine_term c.in-Some.engine)))) s number (ap (λ t. (view t).columns) (sym c.term.ensures.terminal) ∙ sym c.width-width.ensures)
    placed (subst (λ b. AreShownAs b s) (sym c.note_place.ensures) inside.1) in
    let b = c.lay_out.new.self in
    let bottom = is_bottom b.alignment in
    let shown = c.make_contiguous.result.now in
    let gone = c.leading-gone.result in
    let end = c.bars_in_window-end.result in
    let engine' = c.put.new.engine in
    let kept = c.make_contiguous.ensures.writes_back shown c.make_contiguous.ensures.len ∙ c.make_contiguous.ensures.value in
    let d = written_to g.K.Tracks.means view mark takes c.args.ask c.args.now (writing_as c.args.writing) s number c.args.self.now.stage c.in-Some.engine c.in-Some.is
    (sym c.is_no.ensures ∙ c.if-is_no.false) inside.2 some c.allows.result c.allows.new.limiter (sym c.allows.ensures.answer) c.allows.ensures.next
    b.frame.items b.members.items b.table.made bottom laid c.if-not-allows.false engine' gone c.min.result (min gone end) shown (take end shown) c.leading-gone.ensures c.min.ensures
    c.make_contiguous.ensures.value c.take_front.new.items.items c.take_front-2.new.items.items c.remove_first.new.self.made
    (c.take_front.ensures ∙ ap (drop gone) kept) c.take_front-2.ensures (ap (λ (t : SlotTable). t.made) c.remove_first.ensures.removed)
    (c.bars_in_window-end.ensures.sees bottom engine' (Ok tt)) c.in_ok-put.ensures in
    (d.0, (inside.0, d.1, d.2), d.3)

pub returns-in_default-clause-drew : goal.returns-in_default-clause-drew
unfolding IsIn
returns-in_default-clause-drew g c = λ mark takes s number inside placed.
    let asked = sym c.is_no.ensures ∙ c.if-is_no.false in
    let holds : AreShownAs c.note_place.new.self s = subst (λ b. AreShownAs b s) (sym c.note_place.ensures) inside.1 in
    let staged = inside.2 in
    let tracks = g.K.Tracks.means in
    let drawing = λ (target : Target). draw_of target takes c.args.ask c.args.now (writing_as c.args.writing) s
    (named_laid_out tracks target c.args.now number s) (named_layout_takes tracks number s) in
    let d = drew_hidden (board (board_bars tracks) mark) (AreShownAs c.note_place.new.self) (λ x. x.limiter) g.T.TermLike.view c.args.self.now.stage drawing s
    c.in_default.not-Some asked refl holds staged in
    (d.0, (inside.0, d.1, d.2), d.3)

-- ---- what is kept

pub returns-then-width-eq0-clause-keeps : goal.returns-then-width-eq0-clause-keeps
returns-then-width-eq0-clause-keeps g c =
    (refl, ap (option_map engine_moves) (sym c.in-Some.is), λ off. ap (option_map engine_term) (sym c.in-Some.is), λ none. refl)

pub returns-in_err-lay_out-clause-keeps : goal.returns-in_err-lay_out-clause-keeps
returns-in_err-lay_out-clause-keeps g c =
    let x = err_from_is_err_and c.from_residual.result c.from_residual.ensures.1 in
    (refl, ap (option_map engine_moves) (sym c.in-Some.is), λ off. ap (option_map engine_term) (sym c.in-Some.is), λ none. rw (x.1 ∙ ap Err (x.2 ∙ c.in_err-lay_out.ensures.memory.0)) refl)

pub returns-then-not-allows-clause-keeps : goal.returns-then-not-allows-clause-keeps
returns-then-not-allows-clause-keeps g c =
    (refl, ap (option_map engine_moves) (sym c.in-Some.is), λ off. ap (option_map engine_term) (sym c.in-Some.is), λ none. refl)

pub returns-then-is_no-clause-slots : goal.returns-then-is_no-clause-slots
returns-then-is_no-clause-slots g c = none_left c.args.self.now.shown.table

pub returns-then-is_no-clause-stay : goal.returns-then-is_no-clause-stay
returns-then-is_no-clause-stay g c = λ other. refl

pub returns-in_default-clause-slots : goal.returns-in_default-clause-slots
returns-in_default-clause-slots g c = same_left c.args.self.now.shown.table c.note_place.new.self.table (ap (λ b. b.table) c.note_place.ensures)

pub returns-in_default-clause-stay : goal.returns-in_default-clause-stay
returns-in_default-clause-stay g c = λ other. ap (λ b. b.table) c.note_place.ensures

pub returns-then-width-eq0-clause-slots : goal.returns-then-width-eq0-clause-slots
returns-then-width-eq0-clause-slots g c = same_left c.args.self.now.shown.table c.note_place.new.self.table (ap (λ b. b.table) c.note_place.ensures)

pub returns-then-width-eq0-clause-stay : goal.returns-then-width-eq0-clause-stay
returns-then-width-eq0-clause-stay g c = λ other. ap (λ b. b.table) c.note_place.ensures

pub returns-in_err-lay_out-clause-slots : goal.returns-in_err-lay_out-clause-slots
returns-in_err-lay_out-clause-slots g c = same_left c.args.self.now.shown.table c.lay_out.new.self.table (c.lay_out.ensures.slots ∙ ap (λ b. b.table) c.note_place.ensures)

pub returns-in_err-lay_out-clause-head : goal.returns-in_err-lay_out-clause-head
returns-in_err-lay_out-clause-head g c = λ yes.
    let x = err_from_is_err_and c.from_residual.result c.from_residual.ensures.1 in
    absurd (cc (sym (x.1 ∙ ap Err x.2) ∙ yes))

pub returns-in_err-lay_out-clause-stay : goal.returns-in_err-lay_out-clause-stay
returns-in_err-lay_out-clause-stay g c = λ other. c.lay_out.ensures.slots ∙ ap (λ b. b.table) c.note_place.ensures

pub returns-then-not-allows-clause-slots : goal.returns-then-not-allows-clause-slots
returns-then-not-allows-clause-slots g c = same_left c.args.self.now.shown.table c.lay_out.new.self.table (c.lay_out.ensures.slots ∙ ap (λ b. b.table) c.note_place.ensures)

pub returns-then-not-allows-clause-stay : goal.returns-then-not-allows-clause-stay
returns-then-not-allows-clause-stay g c = λ other. c.lay_out.ensures.slots ∙ ap (λ b. b.table) c.note_place.ensures

-- ---- the bars that leave

pub bars_in_window-end-requires : goal.bars_in_window-end-requires
bars_in_window-end-requires g c =
    let b = c.lay_out.new.self in
    omega (arith, prefix_len-le-length (λ m. m.dropped) b.members.items, c.leading-gone.ensures, c.make_contiguous.ensures.len, b.even, b.members.ok)

pub take_front-requires : goal.take_front-requires
take_front-requires g c =
    let b = c.lay_out.new.self in
    omega (arith, prefix_len-le-length (λ m. m.dropped) b.members.items, c.leading-gone.ensures, b.even, b.members.ok)

pub take_front-requires-2 : goal.take_front-requires-2
take_front-requires-2 g c =
    let b = c.lay_out.new.self in
    omega (arith, prefix_len-le-length (λ m. m.dropped) b.members.items, c.leading-gone.ensures, b.members.ok)

pub invariant_of-shown-2-clause-seated : goal.invariant_of-shown-2-clause-seated
invariant_of-shown-2-clause-seated g c =
    let b = c.lay_out.new.self in
    let kept = c.make_contiguous.ensures.writes_back c.make_contiguous.result.now c.make_contiguous.ensures.len ∙ c.make_contiguous.ensures.value in
    ap (map (λ (x : Segment). x.bar)) (c.take_front.ensures ∙ ap (drop c.leading-gone.result) kept) ∙ dropped_bars b.frame.items b.table.order c.leading-gone.result b.seated
    ∙ sym (ap (λ (t : SlotTable). t.order) c.remove_first.ensures.removed)

pub returns-clause-records : goal.returns-clause-records
returns-clause-records g c = λ number.
    let b = c.lay_out.new.self in
    let even = evenly b.frame.items b.table.order b.members.items (omega (arith, b.even, b.members.ok, b.frame.ok)) b.seated in
    left_record number c.leading-gone.result b.table.order b.members.items even c.remove_first.new.self.order c.take_front-2.new.items.items
    c.leading-gone.ensures (ap (λ (t : SlotTable). t.order) c.remove_first.ensures.removed)
    c.take_front-2.ensures (c.remove_first.ensures.seated.apart number) ∙ c.lay_out.ensures.records number ∙ ap (record_on number) c.note_place.ensures

pub returns-clause-head : goal.returns-clause-head
returns-clause-head g c = λ yes head rest order.
    let b = c.lay_out.new.self in
    let even = evenly b.frame.items b.table.order b.members.items (omega (arith, b.even, b.members.ok, b.frame.ok)) b.seated in
    left_head head c.leading-gone.result b.table.order b.members.items even c.remove_first.new.self.order c.take_front-2.new.items.items
    c.leading-gone.ensures (ap (λ (t : SlotTable). t.order) c.remove_first.ensures.removed) c.take_front-2.ensures head rest order
