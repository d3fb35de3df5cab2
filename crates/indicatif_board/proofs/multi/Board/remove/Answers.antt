use Rattle.std.proofs.Common.{◌∙◌, true, false, refl, sym, ap, Some, Ok}
use Rattle.indicatif_board.specs.BarIds.{id_of}
use Rattle.indicatif_board.specs.Boards.{Remove, Refused, Accepted}
use Rattle.indicatif_board.specs.Members.{without}
use Rattle.indicatif_board.specs.Multi.{IsIn, known}
use Rattle.indicatif_text.specs.declared.refusal.Refusal.TheVariants.{ForeignBar}
use Rattle.indicatif_board.proofs.BoardCallLemmas.{made_at_once, there_is_member, absent_is_none, removed_deed, removed_foreign}
use Rattle.indicatif_board.proofs.multi.Board.remove.Goals as goal

pub returns-then-id-self-clause-leads : goal.returns-then-id-self-clause-leads
unfolding IsIn
returns-then-id-self-clause-leads g c = λ now mark s inside.
    let tracks = g.K.Tracks.means in
    let old = known g.T.TermLike.view c.args.self.now in
    let id = id_of c.args.id in
    (s, inside, made_at_once tracks mark old old (Remove id) now s false (Refused ForeignBar) s (removed_foreign mark id s (λ e. c.if-id-self.true (e ∙ sym inside.0))) refl refl)

pub returns-in-Ok-clause-leads : goal.returns-in-Ok-clause-leads
unfolding IsIn
returns-in-Ok-clause-leads g c = λ now mark s inside.
    let tracks = g.K.Tracks.means in
    let old = known g.T.TermLike.view c.args.self.now in
    let id = id_of c.args.id in
    let f = c.in-Ok.ensures.found mark s inside in
    let next = record s { members = without id.number s.members } in (
      next,
      (inside.0, c.take_out.ensures.out s id.number inside.1 f.1.0, inside.2),
      made_at_once tracks mark old old (Remove id) now s false Accepted next (removed_deed mark id s true (c.if-id-self.false ∙ inside.0) (there_is_member mark id s f.0)) refl refl,
    )

pub returns-in-Err-clause-leads : goal.returns-in-Err-clause-leads
unfolding IsIn
returns-in-Err-clause-leads g c = λ now mark s inside.
    let tracks = g.K.Tracks.means in
    let old = known g.T.TermLike.view c.args.self.now in
    let id = id_of c.args.id in
    let why = c.in-Err.ensures.found mark s inside in
    let own = c.if-id-self.false ∙ inside.0 in
    (s, inside, made_at_once tracks mark old old (Remove id) now s false Accepted s (removed_deed mark id s false own (absent_is_none mark id s c.in-Err.field-0 own why)) refl refl)

pub returns-in-Ok-clause-bar : goal.returns-in-Ok-clause-bar
unfolding IsIn
returns-in-Ok-clause-bar g c = λ mark s other inside.
    let id = id_of c.args.id in
    let f = c.in-Ok.ensures.found mark s inside in
    rw (there_is_member mark id s f.0) (ap (λ b. Some b) (c.take_out.ensures.bar s id.number other inside.1 f.1.0))

pub returns-in-Err-clause-bar : goal.returns-in-Err-clause-bar
unfolding IsIn
returns-in-Err-clause-bar g c = λ mark s other inside.
    let id = id_of c.args.id in
    rw (absent_is_none mark id s c.in-Err.field-0 (c.if-id-self.false ∙ inside.0) (c.in-Err.ensures.found mark s inside)) refl

pub returns-in-Ok-clause-record : goal.returns-in-Ok-clause-record
returns-in-Ok-clause-record g c = λ own. ap Ok (sym (c.take_out.ensures.record c.args.id.number c.in-Ok.ensures.own))

pub returns-in-Ok-clause-gone : goal.returns-in-Ok-clause-gone
returns-in-Ok-clause-gone g c = λ own. c.take_out.ensures.gone c.args.id.number c.in-Ok.ensures.own.seat

pub returns-in-Ok-clause-others : goal.returns-in-Ok-clause-others
returns-in-Ok-clause-others g c = c.take_out.ensures.others c.args.id.number c.in-Ok.ensures.own.seat

pub returns-in-Err-clause-record : goal.returns-in-Err-clause-record
returns-in-Err-clause-record g c = λ own. ap Ok (sym (c.in-Err.ensures.absent own).1)

pub returns-in-Err-clause-gone : goal.returns-in-Err-clause-gone
returns-in-Err-clause-gone g c = λ own. (c.in-Err.ensures.absent own).1
