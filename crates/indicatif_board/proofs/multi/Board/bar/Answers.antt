use Rattle.std.proofs.Common.{◌<◌, ◌∙◌, Some, length, ap, sym, arith}
use Rattle.indicatif_term.specs.Target.{is_bottom}
use Rattle.indicatif_board.specs.BarIds.{id_of}
use Rattle.indicatif_board.specs.Multi.{IsIn}
use Rattle.indicatif_board.proofs.MemberLemmas.{said_of_place, members_length}
use Rattle.indicatif_board.proofs.BarRecordLemmas.{record_stands}
use Rattle.indicatif_board.proofs.multi.Board.bar.Goals as goal

pub returns : goal.returns
unfolding IsIn
returns g c = record {
  foreign = λ other. absurd (let q = c.in_ok-at.ensures.foreign other in cc);
  turned = λ mark s inside. (c.in_ok-at.ensures.found mark s inside).0;
  bar = λ mark s other inside.
      let b = c.args.self.now.shown in
      let f = c.in_ok-at.ensures.found mark s inside in
      let size = members_length b.frame.items b.members.items b.table.made (is_bottom b.alignment) s inside.1 in
      let within : c.in_ok-at.at < length b.members.items = omega (arith, size, f.1.1) in
      c.bar.ensures ∙ said_of_place other (λ bar. bar) b.members.items s.members (id_of c.args.id).number c.in_ok-at.at c.index.result.now inside.1.members_are f.1.0 within c.index.ensures;
  «record» = λ own. record_stands c.args.self.now.shown c.args.id.number c.in_ok-at.at c.in_ok-at.ensures.own c.index.result.now c.index.ensures ∙ ap Some (sym c.bar.ensures);
}
