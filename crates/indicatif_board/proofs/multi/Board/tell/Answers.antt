use Rattle.std.proofs.Common.{◌≡◌, ◌<◌, ◌∙◌, set, is_some, true, false, refl, sym, ap, subst, length, arith, Ok, Err, Some, None, inl, inr}
use Rattle.std.proofs.lemmas.Result.{err_from_is_err_and}
use Rattle.std.specs.Prelude.{◌==◌}
use Rattle.std.proofs.lemmas.Bool.{cases_Bool, eqb-true, eq-eqb, false≢true}
use Rattle.indicatif_board.specs.ShownBars.{record_in, record_on}
use Rattle.indicatif_text.specs.declared.refusal.Refusal.TheVariants.{ElapsedBeyondClock, NotMember}
use Rattle.indicatif_term.specs.Target.{is_bottom}
use Rattle.indicatif_bar.specs.Commands.{BarRecord, obeyed, command_as, is_beyond_clock, takes_memory}
use Rattle.indicatif_bar.specs.Kinds.{Frame}
use Rattle.indicatif_bar.specs.Machines.{target_of}
use Rattle.indicatif_bar.specs.Shown.{DrewOn}
use Rattle.indicatif_bar.specs.declared.ask.Ask.TheVariants.{No}
use Rattle.indicatif_board.specs.BoardBars.{board_bars}
use Rattle.indicatif_board.specs.BarIds.{id_of}
use Rattle.indicatif_board.specs.Boards.{Tell, Refused, draw_of, draw_of_command, laid_out, layout_takes, bar_changed, or_refused, draws, board}
use Rattle.indicatif_board.specs.Members.{place_of, said_of}
use Rattle.indicatif_board.specs.Multi.{IsIn, known, record_at}
use Rattle.indicatif_board.proofs.MemberLemmas.{told_at, told_placed, same_at, said_of_place, members_length}
use Rattle.indicatif_board.proofs.BoardCallLemmas.{made_by_draw, made_at_once, made_short, made_turned_away, turned_quietly, command_deed, late_deed, in_time_of}
use Rattle.indicatif_board.proofs.BarRecordLemmas.{is_there, same_error, not_of_draw, record_stands, has_record, told_on, told_apart}
use Rattle.indicatif_board.proofs.LeavingLemmas.{none_left}
use Rattle.indicatif_board.proofs.multi.Board.tell.Goals as goal

pub returns-in_err-at-clause-leads : goal.returns-in_err-at-clause-leads
returns-in_err-at-clause-leads g c = λ mark s inside.
    let tracks = g.K.Tracks.means in
    let old = known g.T.TermLike.view c.args.self.now in
    let id = id_of c.args.id in
    let command = command_as g.S.Text.bytes c.args.command in
    let x = err_from_is_err_and c.from_residual.result c.from_residual.ensures.1 in
    let why = c.in_err-at.ensures.found mark s inside in
    let d = draws (draw_of_command (board_bars tracks) (target_of old) id.number command c.args.now s) in
    rw (x.1 ∙ ap Err x.2) (
      s,
      inside,
      made_turned_away tracks mark old old (Tell id command) c.args.now s c.in_err-at.field-0.0
          (ap (λ o. or_refused o (or_refused (said_of None (λ bar. (board_bars tracks).bars.refused command bar c.args.now) id.number s.members) d s) s) why)
          (turned_quietly mark id s c.in_err-at.field-0.0 why),
    )

pub returns-in_err-ask-clause-leads : goal.returns-in_err-ask-clause-leads
unfolding IsIn
returns-in_err-ask-clause-leads g c = λ mark s inside.
    let tracks = g.K.Tracks.means in
    let b = c.args.self.now.shown in
    let old = known g.T.TermLike.view c.args.self.now in
    let id = id_of c.args.id in
    let now = c.args.now in
    let command = command_as g.S.Text.bytes c.args.command in
    let f = c.in_ok-at.ensures.found mark s inside in
    let item = c.index_mut.result.now in
    let x = err_from_is_err_and c.from_residual-in_err-ask.result c.from_residual-in_err-ask.ensures.1 in
    let there : place_of id.number s.members < length s.members = subst (λ k. k < length s.members) f.1.0 f.1.1 in
    let size = members_length b.frame.items b.members.items b.table.made (is_bottom b.alignment) s inside.1 in
    let within : c.in_ok-at.at < length b.members.items = omega (arith, size, f.1.1) in
    let same = same_at b.frame.items b.members.items b.table.made
    (is_bottom b.alignment) s c.in_ok-at.at item c.obey.new.self c.obey.ensures.stays inside.1 f.1.1 c.index_mut.ensures.value c.in_err-ask.ensures.unchanged in
    rw (x.1 ∙ ap Err x.2) (
      s,
      (inside.0, same, inside.2),
      elim c.in_err-ask.ensures.no_other [
        | inl late ↦ rw late (made_at_once tracks mark old old (Tell id command) now s false (Refused ElapsedBeyondClock) s (late_deed tracks mark old id command now s f.0 there
            (c.in_err-ask.ensures.beyond.0 (ap Err late))) refl refl)
        | inr short ↦
            let text = sym (said_of_place false (λ bar. takes_memory command bar) b.members.items s.members id.number c.in_ok-at.at item inside.1.members_are f.1.0 within c.index_mut.ensures.value)
            ∙ c.in_err-ask.ensures.memory (ap Err short) in
            let in_time = in_time_of (is_beyond_clock command now) (Err c.in_err-ask.field-0.0) c.in_err-ask.ensures.beyond (λ e. cc) in
            rw short (made_short tracks mark old old (Tell id command) now s (draw_of_command (board_bars tracks) (target_of old) id.number command now s)
            (command_deed tracks mark old id command now s f.0 in_time) text)
      ],
    )

pub returns-clause-leads : goal.returns-clause-leads
unfolding IsIn
returns-clause-leads g c = λ mark s inside.
    let tracks = g.K.Tracks.means in
    let b = c.args.self.now.shown in
    let view = g.T.TermLike.view in
    let old = known view c.args.self.now in
    let new = known view c.draw.new.self in
    let id = id_of c.args.id in
    let command = command_as g.S.Text.bytes c.args.command in
    let now = c.args.now in
    let item = c.index_mut.result.now in
    let f = c.in_ok-at.ensures.found mark s inside in
    let change = λ (bar : BarRecord g.row.K.Denot). (obeyed tracks command bar now).0 in
    let next = bar_changed id.number change s in
    let size = members_length b.frame.items b.members.items b.table.made (is_bottom b.alignment) s inside.1 in
    let within : c.in_ok-at.at < length b.members.items = omega (arith, size, f.1.1) in
    let holds = told_at change b.frame.items b.members.items b.table.made (is_bottom b.alignment) mark s id.number c.in_ok-at.at item c.obey.new.self c.obey.ensures.stays
    inside.1 f.1.0 f.1.1 c.index_mut.ensures.value (ap (λ r. r.0) c.in_ok-ask.ensures.done) in
    let placed = told_placed change id.number c.in_ok-at.at s.members f.1 in
    let takes_is = said_of false (λ bar. takes_memory command bar) id.number s.members in
    let drawn = c.draw.ensures.drew mark takes_is next (Some id.number) (inside.0, holds, inside.2) placed in
    let ask_is = ap (λ r. r.1) c.in_ok-ask.ensures.done
    ∙ said_of_place No (λ bar. (obeyed tracks command bar now).1) b.members.items s.members id.number c.in_ok-at.at item inside.1.members_are f.1.0 within c.index_mut.ensures.value in
    let in_time = in_time_of (is_beyond_clock command now) (Ok c.in_ok-ask.ask) c.in_ok-ask.ensures.beyond (λ e. cc) in
    let d = draw_of_command (board_bars tracks) (target_of old) id.number command now s in (
      drawn.0,
      drawn.1,
      made_by_draw tracks mark old new (Tell id command) now s d next.lists c.draw.result drawn.0 (command_deed tracks mark old id command now s f.0 in_time) refl
          (subst (λ ask. DrewOn (board (board_bars tracks) mark) old new (draw_of (target_of old) takes_is ask now Frame next (laid_out (board_bars tracks)
          (target_of old) now id.number next) (layout_takes (board_bars tracks) id.number next)) next.lists c.draw.result drawn.0) ask_is drawn.2),
    )

pub returns-in_err-at-clause-not_member : goal.returns-in_err-at-clause-not_member
returns-in_err-at-clause-not_member g c = λ own.
    let x = err_from_is_err_and c.from_residual.result c.from_residual.ensures.1 in
    let absent = c.in_err-at.ensures.absent own in
    (λ e. absent.1, λ none. x.1 ∙ ap Err (x.2 ∙ absent.0))

pub returns-in_err-at-clause-beyond : goal.returns-in_err-at-clause-beyond
returns-in_err-at-clause-beyond g c = λ own some. absurd (cc (sym (ap is_some (c.in_err-at.ensures.absent own).1) ∙ some))

pub returns-in_err-at-clause-record : goal.returns-in_err-at-clause-record
returns-in_err-at-clause-record g c = λ own bar some. absurd (is_there (record_at c.args.id.number c.args.self.now) bar some (c.in_err-at.ensures.absent own).1)

pub returns-in_err-ask-clause-not_member : goal.returns-in_err-ask-clause-not_member
returns-in_err-ask-clause-not_member g c = λ own.
    let x = err_from_is_err_and c.from_residual-in_err-ask.result c.from_residual-in_err-ask.ensures.1 in (
      λ e.
          let same = same_error c.from_residual-in_err-ask.result (x.1 ∙ ap Err x.2) e in
          absurd (elim c.in_err-ask.ensures.no_other [ inl late ↦ cc (sym late ∙ same) | inr short ↦ cc (sym short ∙ same) ]),
      λ none. absurd (has_record c.args.self.now.shown c.args.id.number c.in_ok-at.at c.in_ok-at.ensures.own none),
    )

pub returns-in_err-ask-clause-beyond : goal.returns-in_err-ask-clause-beyond
returns-in_err-ask-clause-beyond g c = λ own some.
    let x = err_from_is_err_and c.from_residual-in_err-ask.result c.from_residual-in_err-ask.ensures.1 in (
      λ e. c.in_err-ask.ensures.beyond.0 (ap Err (same_error c.from_residual-in_err-ask.result (x.1 ∙ ap Err x.2) e)),
      λ late. x.1 ∙ ap Err x.2 ∙ ap Err (same_error (Err c.in_err-ask.field-0.0) refl (c.in_err-ask.ensures.beyond.1 late)),
    )

pub returns-in_err-ask-clause-record : goal.returns-in_err-ask-clause-record
returns-in_err-ask-clause-record g c = λ own bar some.
    let x = err_from_is_err_and c.from_residual-in_err-ask.result c.from_residual-in_err-ask.ensures.1 in
    let b = c.args.self.now.shown in
    let item = c.index_mut.result.now in
    let stood = record_stands b c.args.id.number c.in_ok-at.at c.in_ok-at.ensures.own item c.index_mut.ensures.value in
    let bar_is : item.bar ≡ bar = cc (sym stood ∙ some) in (
      c.obey.new.self.bar,
      told_on b c.args.id.number c.in_ok-at.at c.in_ok-at.ensures.own item c.obey.new.self c.obey.ensures.stays c.index_mut.ensures.value,
      inr (
        c.in_err-ask.field-0.0,
        x.1 ∙ ap Err x.2,
        elim c.in_err-ask.ensures.no_other [
          | inl late ↦ inr (late, c.in_err-ask.ensures.beyond.0 (ap Err late))
          | inr short ↦ inl (short, subst (λ r. takes_memory (command_as g.S.Text.bytes c.args.command) r ≡ true) bar_is (c.in_err-ask.ensures.memory (ap Err short)))
        ],
        c.in_err-ask.ensures.unchanged ∙ bar_is,
      ),
    )

pub returns-in_err-ask-clause-others : goal.returns-in_err-ask-clause-others
returns-in_err-ask-clause-others g c =
    told_apart c.args.self.now.shown c.args.id.number c.in_ok-at.at c.in_ok-at.ensures.own c.obey.new.self

pub returns-clause-not_member : goal.returns-clause-not_member
returns-clause-not_member g c = λ own. (
  λ e. absurd (not_of_draw c.draw.result NotMember c.draw.ensures.refusal refl e),
  λ none. absurd (has_record c.args.self.now.shown c.args.id.number c.in_ok-at.at c.in_ok-at.ensures.own none),
)

pub returns-clause-beyond : goal.returns-clause-beyond
returns-clause-beyond g c = λ own some. (
  λ e. absurd (not_of_draw c.draw.result ElapsedBeyondClock c.draw.ensures.refusal refl e),
  λ late. absurd (let e = c.in_ok-ask.ensures.beyond.1 late in cc e),
)

pub returns-clause-record : goal.returns-clause-record
returns-clause-record g c = λ own bar some.
    let b = c.args.self.now.shown in
    let item = c.index_mut.result.now in
    let stood = record_stands b c.args.id.number c.in_ok-at.at c.in_ok-at.ensures.own item c.index_mut.ensures.value in
    let bar_is : item.bar ≡ bar = cc (sym stood ∙ some) in (
      c.obey.new.self.bar,
      c.draw.ensures.records c.args.id.number ∙ told_on b c.args.id.number c.in_ok-at.at c.in_ok-at.ensures.own item c.obey.new.self c.obey.ensures.stays c.index_mut.ensures.value,
      inl (ap (λ r. r.0) c.in_ok-ask.ensures.done ∙ ap (λ r. (obeyed g.K.Tracks.means (command_as g.S.Text.bytes c.args.command) r c.args.now).0) bar_is),
    )

pub returns-clause-others : goal.returns-clause-others
returns-clause-others g c = λ other apart.
    c.draw.ensures.records other
    ∙ told_apart c.args.self.now.shown c.args.id.number c.in_ok-at.at c.in_ok-at.ensures.own c.obey.new.self other apart

pub returns-in_err-at-clause-slots : goal.returns-in_err-at-clause-slots
returns-in_err-at-clause-slots g c = none_left c.args.self.now.shown.table

pub returns-in_err-ask-clause-slots : goal.returns-in_err-ask-clause-slots
returns-in_err-ask-clause-slots g c = none_left c.args.self.now.shown.table

pub returns-in_err-at-clause-head : goal.returns-in_err-at-clause-head
returns-in_err-at-clause-head g c = λ yes.
    let x = err_from_is_err_and c.from_residual.result c.from_residual.ensures.1 in
    absurd (cc (sym (x.1 ∙ ap Err x.2) ∙ yes))

pub returns-in_err-at-clause-stay : goal.returns-in_err-at-clause-stay
returns-in_err-at-clause-stay g c = λ other. refl

pub returns-clause-head : goal.returns-clause-head
returns-clause-head g c = c.draw.ensures.head

pub returns-clause-stay : goal.returns-clause-stay
returns-clause-stay g c = c.draw.ensures.stay

pub returns-in_err-ask-clause-head : goal.returns-in_err-ask-clause-head
returns-in_err-ask-clause-head g c = λ yes.
    let x = err_from_is_err_and c.from_residual-in_err-ask.result c.from_residual-in_err-ask.ensures.1 in
    absurd (cc (sym (x.1 ∙ ap Err x.2) ∙ yes))

pub returns-in_err-ask-clause-stay : goal.returns-in_err-ask-clause-stay
returns-in_err-ask-clause-stay g c = λ other. refl

pub returns-in_err-at-clause-untouched : goal.returns-in_err-at-clause-untouched
returns-in_err-at-clause-untouched g c = λ late number. refl

pub returns-in_err-ask-clause-untouched : goal.returns-in_err-ask-clause-untouched
returns-in_err-ask-clause-untouched g c = λ late number.
    let b = c.args.self.now.shown in
    let id = c.args.id.number in
    let item = c.index_mut.result.now in
    let own = c.in_ok-at.ensures.own in
    elim (cases_Bool (number == id)) [
      | inl here ↦ subst (λ n. record_in n b.table.order (set b.members.items c.in_ok-at.at c.obey.new.self) ≡ record_on n b) (sym (eqb-true number id here))
          (told_on b id c.in_ok-at.at own item c.obey.new.self c.obey.ensures.stays c.index_mut.ensures.value
          ∙ ap Some c.in_err-ask.ensures.unchanged ∙ sym (record_stands b id c.in_ok-at.at own item c.index_mut.ensures.value))
      | inr apart ↦ told_apart b id c.in_ok-at.at own c.obey.new.self number (λ e. false≢true (sym apart ∙ eq-eqb number id e))
    ]

pub returns-in_err-ask-clause-unchanged : goal.returns-in_err-ask-clause-unchanged
returns-in_err-ask-clause-unchanged g c = λ e.
    let x = err_from_is_err_and c.from_residual-in_err-ask.result c.from_residual-in_err-ask.ensures.1 in
    let same = same_error c.from_residual-in_err-ask.result (x.1 ∙ ap Err x.2) e in
    absurd (elim c.in_err-ask.ensures.no_other [ inl late ↦ cc (sym late ∙ same) | inr short ↦ cc (sym short ∙ same) ])

pub returns-clause-untouched : goal.returns-clause-untouched
returns-clause-untouched g c = λ e. absurd (not_of_draw c.draw.result ElapsedBeyondClock c.draw.ensures.refusal refl e)

pub returns-clause-unchanged : goal.returns-clause-unchanged
returns-clause-unchanged g c = λ e. absurd (not_of_draw c.draw.result NotMember c.draw.ensures.refusal refl e)
