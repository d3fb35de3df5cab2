use Rattle.std.proofs.Common.{subst, string_bytes}
use Rattle.indicatif_board.specs.Boards.{Tell}
use Rattle.indicatif_board.specs.BarIds.{id_of}
use Rattle.indicatif.specs.Inside.SharedBoards.{SharedDraws}
use Rattle.indicatif.proofs.shared.member_bar.MemberBar.move_by.Goals as goal

pub returns-in-Some : goal.returns-in-Some
returns-in-Some g c = subst (λ command. SharedDraws g.row.K.Denot (Tell (id_of c.args.self.now.id) command) c.tell.result) (c.command.ensures string_bytes) c.tell.ensures.can
