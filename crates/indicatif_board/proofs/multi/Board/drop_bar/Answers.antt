use Rattle.std.proofs.Common.{◌<◌, ◌∙◌, false, refl, sym, ap, subst, length, arith, option_map, Err, Some}
use Rattle.std.proofs.lemmas.Result.{err_from_is_err_and}
use Rattle.indicatif_term.specs.Target.{is_bottom}
use Rattle.indicatif_bar.specs.Commands.{BarRecord, after_drop}
use Rattle.indicatif_bar.specs.Kinds.{Frame}
use Rattle.indicatif_bar.specs.Machines.{target_of, Draws}
use Rattle.indicatif_bar.specs.Runs.{CallMade, wrote}
use Rattle.indicatif_bar.specs.Shown.{DrewOn}
use Rattle.indicatif_bar.specs.declared.ask.Ask.TheVariants.{No}
use Rattle.indicatif_board.specs.Inside.Leaving.{parted}
use Rattle.indicatif_board.specs.BoardBars.{board_bars}
use Rattle.indicatif_board.specs.BarIds.{id_of}
use Rattle.indicatif_board.specs.Boards.{Drop, says, draw_of, last_draw, left_on, ownerless_on, laid_out, layout_takes, bar_changed, or_refused, board}
use Rattle.indicatif_board.specs.Members.{said_of}
use Rattle.indicatif_board.specs.Multi.{IsIn, known}
use Rattle.indicatif_board.proofs.KeepsLemmas.{kept_quietly}
use Rattle.indicatif_board.proofs.MemberLemmas.{told_at, told_placed, same_at, said_of_place, members_length}
use Rattle.indicatif_board.proofs.BoardCallLemmas.{made_turned_away, turned_quietly}
use Rattle.indicatif_board.proofs.DropLemmas.{made_by_drop, drop_short}
use Rattle.indicatif_text.specs.declared.refusal.Refusal.TheVariants.{NotMember}
use Rattle.indicatif_board.proofs.BarRecordLemmas.{not_of_draw, has_record, told_apart}
use Rattle.indicatif_board.proofs.LeavingLemmas.{none_left, more_left, same_left}
use Rattle.indicatif_board.proofs.multi.Board.drop_bar.Goals as goal

pub returns-in_err-at-clause-leads : goal.returns-in_err-at-clause-leads
returns-in_err-at-clause-leads g c = λ mark s inside.
    let tracks = g.K.Tracks.means in
    let old = known g.T.TermLike.view c.args.self.now in
    let id = id_of c.args.id in
    let x = err_from_is_err_and c.from_residual.result c.from_residual.ensures.1 in
    let why = c.in_err-at.ensures.found mark s inside in
    let d = Draws (last_draw (board_bars tracks) (target_of old) id.number c.args.now s) (left_on (target_of old) id.number) (ownerless_on id.number) in
    rw (x.1 ∙ ap Err x.2) (
      s,
      inside,
      made_turned_away tracks mark old old (Drop id) c.args.now s c.in_err-at.field-0.0 (ap (λ o. or_refused o d s) why) (turned_quietly mark id s c.in_err-at.field-0.0 why),
    )

pub returns-in-Ok-clause-leads : goal.returns-in-Ok-clause-leads
unfolding IsIn
returns-in-Ok-clause-leads g c = λ mark s inside.
    let tracks = g.K.Tracks.means in
    let b = c.args.self.now.shown in
    let view = g.T.TermLike.view in
    let old = known view c.args.self.now in
    let new = known view c.draw-drawn.new.self in
    let id = id_of c.args.id in
    let now = c.args.now in
    let item = c.index_mut.result.now in
    let f = c.in_ok-at.ensures.found mark s inside in
    let change = λ (bar : BarRecord g.row.K.Denot). (after_drop bar now).0 in
    let next = bar_changed id.number change s in
    let size = members_length b.frame.items b.members.items b.table.made (is_bottom b.alignment) s inside.1 in
    let within : c.in_ok-at.at < length b.members.items = omega (arith, size, f.1.1) in
    let holds = told_at change b.frame.items b.members.items b.table.made (is_bottom b.alignment) mark s id.number c.in_ok-at.at item c.lose_owner.new.self c.lose_owner.ensures.stays
    inside.1 f.1.0 f.1.1 c.index_mut.ensures.value (ap (λ r. r.0) c.in-Ok.ensures.done) in
    let placed = told_placed change id.number c.in_ok-at.at s.members f.1 in
    let takes_is = said_of false ((board_bars tracks).left_takes now) id.number s.members in
    let drawn = c.draw-drawn.ensures.drew mark takes_is next (Some id.number) (inside.0, holds, inside.2) placed in
    let ask_is = ap (λ r. r.1) c.in-Ok.ensures.done
    ∙ said_of_place No (λ bar. (after_drop bar now).1) b.members.items s.members id.number c.in_ok-at.at item inside.1.members_are f.1.0 within c.index_mut.ensures.value in
    let left = c.part.ensures.parted mark drawn.0 drawn.1 in (
      parted (target_of new) id.number c.draw-drawn.result drawn.0,
      left.0,
      subst (λ o. CallMade (board (board_bars tracks) mark) old o (Drop id, now) s (says c.draw-drawn.result) (parted (target_of new) id.number c.draw-drawn.result drawn.0)) (sym
          (ap (option_map view) (c.part.ensures.keeps.2 refl))) (made_by_drop tracks mark old new id now s f.0 c.draw-drawn.result drawn.0
          (subst (λ ask. DrewOn (board (board_bars tracks) mark) old new (draw_of (target_of old) takes_is ask now Frame next (laid_out (board_bars tracks)
          (target_of old) now id.number next) (layout_takes (board_bars tracks) id.number next)) next.lists c.draw-drawn.result drawn.0) ask_is drawn.2) left.1),
    )

pub returns-in-Err-clause-leads : goal.returns-in-Err-clause-leads
unfolding IsIn
returns-in-Err-clause-leads g c = λ mark s inside.
    let tracks = g.K.Tracks.means in
    let b = c.args.self.now.shown in
    let old = known g.T.TermLike.view c.args.self.now in
    let id = id_of c.args.id in
    let now = c.args.now in
    let f = c.in_ok-at.ensures.found mark s inside in
    let item = c.index_mut.result.now in
    let size = members_length b.frame.items b.members.items b.table.made (is_bottom b.alignment) s inside.1 in
    let within : c.in_ok-at.at < length b.members.items = omega (arith, size, f.1.1) in
    let same = same_at b.frame.items b.members.items b.table.made
    (is_bottom b.alignment) s c.in_ok-at.at item c.lose_owner.new.self c.lose_owner.ensures.stays inside.1 f.1.1 c.index_mut.ensures.value c.in-Err.ensures.unchanged in
    let takes = said_of_place false ((board_bars tracks).left_takes now) b.members.items s.members id.number c.in_ok-at.at item inside.1.members_are f.1.0 within c.index_mut.ensures.value in
    let unfinished = c.in-Err.ensures.memory.1 in
    let short = c.in-Err.ensures.memory.2 in
    rw (c.in-Err.ensures.memory.0) (
      ownerless_on id.number s,
      (inside.0, c.set_ownerless.ensures.ownerless s same, inside.2),
      drop_short tracks mark old old id now s f.0 (sym takes ∙ rw (unfinished, short) refl),
    )

pub returns-in_err-at-clause-not_member : goal.returns-in_err-at-clause-not_member
returns-in_err-at-clause-not_member g c = λ own.
    let x = err_from_is_err_and c.from_residual.result c.from_residual.ensures.1 in
    let absent = c.in_err-at.ensures.absent own in
    (λ e. absent.1, λ none. x.1 ∙ ap Err (x.2 ∙ absent.0))

pub returns-in_err-at-clause-gone : goal.returns-in_err-at-clause-gone
returns-in_err-at-clause-gone g c = λ own. (c.in_err-at.ensures.absent own).1

pub returns-in-Ok-clause-not_member : goal.returns-in-Ok-clause-not_member
returns-in-Ok-clause-not_member g c = λ own. (
  λ e. absurd (not_of_draw c.draw-drawn.result NotMember c.draw-drawn.ensures.refusal refl e),
  λ none. absurd (has_record c.args.self.now.shown c.args.id.number c.in_ok-at.at c.in_ok-at.ensures.own none),
)

pub returns-in-Ok-clause-others : goal.returns-in-Ok-clause-others
returns-in-Ok-clause-others g c = λ other apart.
    c.part.ensures.others other apart ∙ c.draw-drawn.ensures.records other
    ∙ told_apart c.args.self.now.shown c.args.id.number c.in_ok-at.at c.in_ok-at.ensures.own c.lose_owner.new.self other apart

pub returns-in-Err-clause-not_member : goal.returns-in-Err-clause-not_member
returns-in-Err-clause-not_member g c = λ own. (
  λ e. absurd (cc (c.in-Err.ensures.memory.0, e)),
  λ none. absurd (has_record c.args.self.now.shown c.args.id.number c.in_ok-at.at c.in_ok-at.ensures.own none),
)

pub returns-in-Err-clause-others : goal.returns-in-Err-clause-others
returns-in-Err-clause-others g c = λ other apart.
    c.set_ownerless.ensures.others other apart
    ∙ told_apart c.args.self.now.shown c.args.id.number c.in_ok-at.at c.in_ok-at.ensures.own c.lose_owner.new.self other apart

pub returns-in-Ok-clause-keeps : goal.returns-in-Ok-clause-keeps
returns-in-Ok-clause-keeps g c =
    kept_quietly g.T.TermLike.view c.args.self.now c.draw-drawn.new.self c.part.new.self (wrote c.draw-drawn.result) c.draw-drawn.ensures.keeps c.part.ensures.keeps

pub returns-in_err-at-clause-slots : goal.returns-in_err-at-clause-slots
returns-in_err-at-clause-slots g c = none_left c.args.self.now.shown.table

pub returns-in-Ok-clause-slots : goal.returns-in-Ok-clause-slots
returns-in-Ok-clause-slots g c =
    more_left c.args.self.now.shown.table c.draw-drawn.new.self.shown.table c.part.new.self.shown.table c.draw-drawn.ensures.slots c.part.ensures.slots

pub returns-in-Err-clause-slots : goal.returns-in-Err-clause-slots
returns-in-Err-clause-slots g c = same_left c.args.self.now.shown.table c.set_ownerless.new.self.table c.set_ownerless.ensures.slots
