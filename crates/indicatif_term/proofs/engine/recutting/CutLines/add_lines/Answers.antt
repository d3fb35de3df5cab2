use Rattle.std.proofs.Common.{◌++◌, ◌∷◌, [], take, take_all, append-nil, append_assoc, sym, ap, subst, ◌∙◌, arith}
use Rattle.indicatif_term.specs.Standing.{texts}
use Rattle.indicatif_term.specs.Inside.Recutting.{HasMore, cut_lines, cut_bars, line_bars}
use Rattle.indicatif_term.proofs.CutLineLemmas.{more_added, lines_more, bars_more, bars_gained}
use Rattle.indicatif_term.proofs.engine.recutting.CutLines.add_lines.Goals as goal

pub loop-line-init : goal.loop-line-init
loop-line-init c = record {
  added = record { lines_are = sym (append-nil _); heights_are = sym (append-nil _) };
  owned = sym (append-nil _);
}

pub loop-line-preserved : goal.loop-line-preserved
loop-line-preserved c =
    let w = c.args.widths.from in
    let w' = c.args.widths.to in
    let i = c.loop-line.line-index in
    let ls = c.args.lines.now in
    let x = c.line-item.result in
    let a = c.args.self.now in
    let b = c.loop-line.self in
    let d = c.add_line.new.self in
    let bars = bars_gained w w' b d x c.in_ok-add_line.ensures.added c.in_ok-add_line.ensures.owned in
    record {
      added = more_added a b d _ _ _ c.loop-line.invariant.added c.in_ok-add_line.ensures.added (lines_more w w' i ls x (omega arith) (sym c.line-item.is));
      owned = bars ∙ ap (λ xs. xs ++ cut_bars w w' (x ∷ [])) c.loop-line.invariant.owned ∙ append_assoc (line_bars a.lines.items) (cut_bars w w' (take i ls)) (cut_bars w w' (x ∷ []))
          ∙ ap (λ xs. line_bars a.lines.items ++ xs) (bars_more w w' i ls x (omega arith) (sym c.line-item.is));
    }

pub returns-clause-added : goal.returns-clause-added
returns-clause-added c =
    let all = take_all c.loop-line.line-index c.args.lines.now (omega arith) in
    subst (λ ls. HasMore c.args.self.now c.loop-line.self (cut_lines c.args.widths.from c.args.widths.to (texts ls))) all c.loop-line.invariant.added

pub returns-clause-owned : goal.returns-clause-owned
returns-clause-owned c =
    let all = take_all c.loop-line.line-index c.args.lines.now (omega arith) in
    c.loop-line.invariant.owned ∙ ap (λ ls. line_bars c.args.self.now.lines.items ++ cut_bars c.args.widths.from c.args.widths.to ls) all
