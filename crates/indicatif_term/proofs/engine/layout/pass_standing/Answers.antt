use Rattle.std.proofs.Common.{sym, ap, ◌∙◌, arith}
use Rattle.indicatif_term.specs.declared.engine.layout.Laid.{Laid}
use Rattle.indicatif_term.proofs.FrontLemmas.{front_more, member_stands}
use Rattle.indicatif_term.proofs.engine.layout.pass_standing.Goals as goal

pub loop-at-preserved : goal.loop-at-preserved
loop-at-preserved c =
    let w = c.args.window.columns in
    let h = c.args.window.rows in
    let on = c.args.standing.now in
    let s = c.index-frame-at.result in
    let l = c.loop-at.laid in
    let l' = c.go_on.new.laid in
    let old = c.loop-at.invariant in
    let b = c.in-Some.ensures in
    let pass = c.args.asked.now.pass in
    let i = c.loop-at.at in
    let frame = c.args.asked.now.frame.now in
    record {
      within = omega arith;
      behind = omega (arith, old.behind);
      front = front_more w h pass i on frame s l l' (omega arith) (sym c.index-frame-at.is) (omega (arith, c.if-from-asked.false, old.behind)) old.front
          (member_stands w h on s c.in-Some.line.now l l' old.front.summed c.requires.standing b.0 b.1 c.go_on.ensures);
      blanks = ap (λ (l : Laid). l.blanks) c.go_on.ensures ∙ old.blanks;
    }
