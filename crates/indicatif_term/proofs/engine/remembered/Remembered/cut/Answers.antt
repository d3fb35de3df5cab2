use Rattle.std.proofs.Common.{◌≡◌, ◌++◌, arith, ◌<◌, sym, subst}
use Rattle.indicatif_term.specs.Standing.{AreLines, texts}
use Rattle.indicatif_term.specs.Inside.Recutting.{HasMore, cut_lines, cut_bars, line_bars}
use Rattle.indicatif_term.proofs.RememberedLemmas.{lines_right}
use Rattle.indicatif_term.proofs.EngineResizeLemmas.{unknown_cut, known_cut}
use Rattle.indicatif_term.proofs.engine.remembered.Remembered.cut.Goals as goal

pub returns-then-widths-eq0-clause-cut : goal.returns-then-widths-eq0-clause-cut
returns-then-widths-eq0-clause-cut c = unknown_cut c.args.widths.from c.args.widths.to c.args.self.now c.none.result c.none.ensures.heights c.none.ensures.lines

pub add_lines-requires : goal.add_lines-requires
add_lines-requires c =
    let r = c.args.self.now in
    let same = c.if-self-widths.false in
    record { standing = subst (AreLines c.args.widths.from) (sym c.as_slice.ensures) (subst (λ n. AreLines n r.lines) same (lines_right r (subst (λ n. 0 < n) (sym same) (omega arith)))) }

pub returns-clause-cut : goal.returns-clause-cut
returns-clause-cut c =
    let r = c.args.self.now in
    known_cut c.args.widths.from c.args.widths.to r c.none-cut.result c.add_lines.new.self c.if-self-widths.false (omega arith) c.none-cut.ensures.lines c.none-cut.ensures.heights
    (subst (λ ls. HasMore c.none-cut.result c.add_lines.new.self (cut_lines c.args.widths.from c.args.widths.to (texts ls))) c.as_slice.ensures c.in_ok-add_lines.ensures.added)
    (subst (λ ls. line_bars c.add_lines.new.self.lines.items ≡ line_bars c.none-cut.result.lines.items ++ cut_bars c.args.widths.from c.args.widths.to ls) c.as_slice.ensures
    c.in_ok-add_lines.ensures.owned)
