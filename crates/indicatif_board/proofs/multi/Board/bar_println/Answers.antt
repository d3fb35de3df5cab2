use Rattle.std.proofs.Common.{◌∙◌, false, refl, sym, ap, Err, Some}
use Rattle.std.proofs.lemmas.Result.{err_from_is_err_and}
use Rattle.indicatif_bar.specs.Machines.{target_of}
use Rattle.indicatif_board.specs.BoardBars.{board_bars}
use Rattle.indicatif_board.specs.BarIds.{id_of}
use Rattle.indicatif_board.specs.Boards.{BarLog, log_of, laid_out, layout_takes, or_refused, draws}
use Rattle.indicatif_board.specs.Multi.{known}
use Rattle.indicatif_board.proofs.BoardCallLemmas.{made_by_draw, made_turned_away, turned_quietly}
use Rattle.indicatif_text.specs.declared.refusal.Refusal.TheVariants.{NotMember}
use Rattle.indicatif_board.proofs.BarRecordLemmas.{not_of_draw, has_record}
use Rattle.indicatif_board.proofs.LeavingLemmas.{none_left}
use Rattle.indicatif_board.proofs.multi.Board.bar_println.Goals as goal

pub returns-in_err-at-clause-leads : goal.returns-in_err-at-clause-leads
returns-in_err-at-clause-leads g c = λ mark s inside.
    let tracks = g.K.Tracks.means in
    let old = known g.T.TermLike.view c.args.self.now in
    let id = id_of c.args.id in
    let x = err_from_is_err_and c.from_residual.result c.from_residual.ensures.1 in
    let why = c.in_err-at.ensures.found mark s inside in
    let d = log_of (board_bars tracks) (target_of old) c.args.text.now c.args.now s (laid_out (board_bars tracks) (target_of old) c.args.now id.number s)
    (layout_takes (board_bars tracks) id.number s) in
    rw (x.1 ∙ ap Err x.2) (
      s,
      inside,
      made_turned_away tracks mark old old (BarLog id c.args.text.now) c.args.now s c.in_err-at.field-0.0 (ap (λ o. or_refused o (draws d) s) why)
          (turned_quietly mark id s c.in_err-at.field-0.0 why),
    )

pub returns-clause-leads : goal.returns-clause-leads
returns-clause-leads g c = λ mark s inside.
    let tracks = g.K.Tracks.means in
    let old = known g.T.TermLike.view c.args.self.now in
    let id = id_of c.args.id in
    let f = c.in_ok-at.ensures.found mark s inside in
    let drawn = c.draw.ensures.drew mark false s (Some id.number) inside f.1 in
    let d = log_of (board_bars tracks) (target_of old) c.args.text.now c.args.now s (laid_out (board_bars tracks) (target_of old) c.args.now id.number s)
    (layout_takes (board_bars tracks) id.number s) in (
      drawn.0,
      drawn.1,
      made_by_draw tracks mark old (known g.T.TermLike.view c.draw.new.self) (BarLog id c.args.text.now) c.args.now s d s.lists c.draw.result drawn.0 (ap
          (λ o. or_refused o (draws d) s) f.0) refl drawn.2,
    )

pub returns-in_err-at-clause-not_member : goal.returns-in_err-at-clause-not_member
returns-in_err-at-clause-not_member g c = λ own.
    let x = err_from_is_err_and c.from_residual.result c.from_residual.ensures.1 in
    let absent = c.in_err-at.ensures.absent own in
    (λ e. absent.1, λ none. x.1 ∙ ap Err (x.2 ∙ absent.0))

pub returns-clause-not_member : goal.returns-clause-not_member
returns-clause-not_member g c = λ own. (
  λ e. absurd (not_of_draw c.draw.result NotMember c.draw.ensures.refusal refl e),
  λ none. absurd (has_record c.args.self.now.shown c.args.id.number c.in_ok-at.at c.in_ok-at.ensures.own none),
)

pub returns-in_err-at-clause-slots : goal.returns-in_err-at-clause-slots
returns-in_err-at-clause-slots g c = none_left c.args.self.now.shown.table

pub returns-in_err-at-clause-head : goal.returns-in_err-at-clause-head
returns-in_err-at-clause-head g c = λ yes.
    let x = err_from_is_err_and c.from_residual.result c.from_residual.ensures.1 in
    absurd (cc (sym (x.1 ∙ ap Err x.2) ∙ yes))

pub returns-in_err-at-clause-stay : goal.returns-in_err-at-clause-stay
returns-in_err-at-clause-stay g c = λ other. refl

pub returns-clause-head : goal.returns-clause-head
returns-clause-head g c = c.draw.ensures.head

pub returns-clause-stay : goal.returns-clause-stay
returns-clause-stay g c = c.draw.ensures.stay
