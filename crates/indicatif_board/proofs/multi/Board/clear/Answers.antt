use Rattle.std.proofs.Common.{refl, false, None}
use Rattle.indicatif_bar.specs.Machines.{target_of}
use Rattle.indicatif_bar.specs.declared.ask.Ask.TheVariants.{Forced}
use Rattle.indicatif_bar.specs.Kinds.{NoFrame}
use Rattle.indicatif_board.specs.Boards.{Clear, draw_of}
use Rattle.indicatif_board.specs.Multi.{known}
use Rattle.indicatif_board.proofs.BoardCallLemmas.{made_by_draw}
use Rattle.indicatif_board.proofs.multi.Board.clear.Goals as goal

pub returns-clause-leads : goal.returns-clause-leads
returns-clause-leads g c = λ mark s inside.
    let tracks = g.K.Tracks.means in
    let old = known g.T.TermLike.view c.args.self.now in
    let d = c.draw.ensures.drew mark false s None inside tt in (
      d.0,
      d.1,
      made_by_draw tracks mark old (known g.T.TermLike.view c.draw.new.self) Clear c.args.now s (draw_of
          (target_of old) false Forced c.args.now NoFrame s s false) s.lists c.draw.result d.0 refl refl d.2,
    )

pub returns-clause-head : goal.returns-clause-head
returns-clause-head g c = c.draw.ensures.head

pub returns-clause-stay : goal.returns-clause-stay
returns-clause-stay g c = c.draw.ensures.stay
