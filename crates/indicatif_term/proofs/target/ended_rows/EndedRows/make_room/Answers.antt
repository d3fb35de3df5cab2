use Rattle.std.proofs.Common.{refl, arith}
use Rattle.indicatif_term.proofs.EndedRowLemmas.{to_weaker, stands}
use Rattle.indicatif_term.proofs.EndedStepLemmas.{room_made, room_there}
use Rattle.indicatif_term.proofs.target.ended_rows.EndedRows.make_room.Goals as goal

pub returns-then-wide-room : goal.returns-then-wide-room
returns-then-wide-room g c =
    let view = g.T.TermLike.view in
    to_weaker view c.go_to_next_row.result (λ s m m' x y. room_made view c.args.wide (omega (arith, c.room.ensures, c.if-wide-room.true)) x y) c.go_to_next_row.ensures

pub returns : goal.returns
returns g c = stands g.T.TermLike.view refl (λ s m x. room_there g.T.TermLike.view c.args.wide (omega (arith, c.room.ensures, c.if-wide-room.false)) x)
