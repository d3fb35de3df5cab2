use Rattle.std.proofs.Common.{refl, subst}
use Rattle.indicatif_bar.specs.Commands.{command_as}
use Rattle.indicatif_bar.specs.Lone.{Log}
use Rattle.indicatif_bar.specs.LoneBars.{LoneLeadsBy}
use Rattle.indicatif_bar.proofs.CommandAnswerLemmas.{told_as_value}
use Rattle.indicatif_bar.proofs.lone.LoneBar.tell.Goals as goal

pub returns-in-Bar : goal.returns-in-Bar
returns-in-Bar g c =
    let x = c.tell-asked in
    let o = c.obey_unless.ensures.obeys c.args.self.now (command_as g.S.Text.bytes c.in-Bar.command)
    (record {
      as_told = told_as_value g.K.Tracks.means c.args.self.now.shown.bar x.new.self c.args.now
          (command_as g.S.Text.bytes c.in-Bar.command) x.result x.ensures.done x.ensures.unchanged x.ensures.beyond x.ensures.memory x.ensures.no_other;
      rest = refl;
    }) in
    record { bar = rw c.in-Bar.is o.bar; silent = o.silent; nowhere = o.nowhere; moves = o.moves; leads = rw c.in-Bar.is o.leads }

pub returns-in-Log-clause-leads : goal.returns-in-Log-clause-leads
returns-in-Log-clause-leads g c = rw c.in-Log.is (subst (λ t. LoneLeadsBy g.K.Tracks.means g.T.TermLike.view c.args.self.now c.println.new.self (Log t) c.args.now c.println.result)
    c.as_text.ensures c.println.ensures.leads)

pub returns-in-Clear-clause-leads : goal.returns-in-Clear-clause-leads
returns-in-Clear-clause-leads g c = rw c.in-Clear.is c.clear.ensures.leads
